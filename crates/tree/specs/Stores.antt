-- Stores, in lists, and what a cut can leave of them.
-- Assumes nothing.
use Rattle.std.specs.Prelude.{ℕ, zero, suc, ◌+◌, List, [], ◌∷◌}
use Rattle.tree.specs.Tree.{upd}
use Rattle.tree.specs.Shape.{Mem}

pub record Store : Type 0 where
  pub word : ℕ
  pub value : ℕ

-- the memory after all of them, in their order
unfoldable pub run : List Store → Mem → Mem
run [] m = m
run (s ∷ σ) m = run σ (upd m s.word s.value)

-- consecutive words from a on
unfoldable pub block : ℕ → List ℕ → List Store
block a [] = []
block a (v ∷ vs) = record { word = a; value = v } ∷ block (a + 1) vs

-- f 0 to f (n - 1)
unfoldable pub tab : ℕ → (ℕ → ℕ) → List ℕ
tab zero f = []
tab (suc n) f = f 0 ∷ tab n (λ i. f (suc i))

-- any of the stores, in their order (a prefix among them)
pub data Part : List Store → List Store → Type 0 where
  done : Part [] []
  made : {s : Store} {σ τ : List Store} → Part σ τ → Part (s ∷ σ) (s ∷ τ)
  lost : {s : Store} {σ τ : List Store} → Part σ τ → Part (s ∷ σ) τ
