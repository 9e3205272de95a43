-- Stores touch their words and no others; a block leaves its values; the parts that a cut leaves. Rests on updates. Assumes nothing.
use mathlib.Core.Path.{◌≡◌, refl, ap, ◌∙◌}
use mathlib.Core.Logic.{◌≢◌, ◌⊎◌, inl, inr}
use Prim.Native.Nat.{ℕ, zero, suc, ◌+◌, ◌≤◌, ◌<◌}
use mathlib.Core.List.{List, [], ◌∷◌, ◌++◌}
use native.Mathlib.Omega.{arith}
use native.Mathlib.Nat.{add-zero}
use lib.ListN.{length, get_or, take}
use Rattle.tree.specs.Tree.{upd}
use Rattle.tree.specs.Shape.{Mem}
use Rattle.tree.specs.Stores.{Store, run, block, tab, Part, done, made, lost}
use Rattle.tree.proofs.Basics.{upd_at, upd_off}

-- every store's word has P
unfoldable pub Words : (ℕ → Type 0) → List Store → Type 0
Words P [] = Unit {0}
Words P (s ∷ σ) = P s.word × Words P σ

pub words_part : (P : ℕ → Type 0) (σ τ : List Store) → Part σ τ → Words P σ → Words P τ
unfolding Words
words_part P σ τ done w = tt
words_part P σ τ (made {σ = σ'} {τ = τ'} p) w = (w.0, words_part P σ' τ' p w.1)
words_part P σ τ (lost {σ = σ'} {τ = τ'} p) w = words_part P σ' τ' p w.1

pub words_more : (P Q : ℕ → Type 0) (σ : List Store) → ((i : ℕ) → P i → Q i) → Words P σ → Words Q σ
unfolding Words
words_more P Q [] f w = tt
words_more P Q (s ∷ σ) f w = (f s.word w.0, words_more P Q σ f w.1)

pub words_append : (P : ℕ → Type 0) (σ τ : List Store) → Words P σ → Words P τ → Words P (σ ++ τ)
unfolding Words
words_append P [] τ a b = b
words_append P (s ∷ σ) τ a b = (a.0, words_append P σ τ a.1 b)

pub words_block : (P : ℕ → Type 0) (a : ℕ) (vs : List ℕ) → ((i : ℕ) → a ≤ i → i < a + length vs → P i) → Words P (block a vs)
unfolding Words block
words_block P a [] f = tt
words_block P a (v ∷ vs) f = (f a (omega arith) (omega arith), words_block P (a + 1) vs (λ i h l. f i (omega arith) (omega arith)))

pub run_off : (σ : List Store) (m : Mem) (j : ℕ) → Words (λ i. j ≢ i) σ → run σ m j ≡ m j
unfolding Words run
run_off [] m j w = refl
run_off (s ∷ σ) m j w = run_off σ (upd m s.word s.value) j w.1 ∙ upd_off m s.word s.value j w.0

pub run_append : (σ τ : List Store) (m : Mem) → run (σ ++ τ) m ≡ run τ (run σ m)
unfolding run
run_append [] τ m = refl
run_append (s ∷ σ) τ m = run_append σ τ (upd m s.word s.value)

pub block_off : (a : ℕ) (vs : List ℕ) (m : Mem) (j : ℕ) → ((i : ℕ) → a ≤ i → i < a + length vs → j ≢ i) → run (block a vs) m j ≡ m j
block_off a vs m j h = run_off (block a vs) m j (words_block (λ i. j ≢ i) a vs h)

pub block_first : (a v : ℕ) (vs : List ℕ) (m : Mem) → run (block a (v ∷ vs)) m a ≡ v
unfolding run block
block_first a v vs m = block_off (a + 1) vs (upd m a v) a (λ i p q z. omega arith) ∙ upd_at m a v

pub block_at : (a : ℕ) (vs : List ℕ) (m : Mem) (i : ℕ) → i < length vs → run (block a vs) m (a + i) ≡ get_or vs i 0
unfolding run block
block_at a [] m i h = absurd (omega arith)
block_at a (v ∷ vs) m zero h = rw (add-zero a) (block_first a v vs m)
block_at a (v ∷ vs) m (suc i) h =
    let e : a + suc i ≡ a + 1 + i = omega arith in
    rw e (block_at (a + 1) vs (upd m a v) i (omega arith))

-- f 0 to f (n - 1), by place
pub length_tab : (n : ℕ) (f : ℕ → ℕ) → length (tab n f) ≡ n
unfolding tab
length_tab zero f = refl
length_tab (suc n) f = ap suc (length_tab n (λ i. f (suc i)))

pub tab_at : (n : ℕ) (f : ℕ → ℕ) (i : ℕ) → i < n → get_or (tab n f) i 0 ≡ f i
unfolding tab
tab_at zero f i h = absurd (omega arith)
tab_at (suc n) f zero h = refl
tab_at (suc n) f (suc i) h = tab_at n (λ i. f (suc i)) i (omega arith)

-- ---- parts
pub part_all : (σ : List Store) → Part σ σ
part_all [] = done
part_all (s ∷ σ) = made (part_all σ)

pub part_none : (σ : List Store) → Part σ []
part_none [] = done
part_none (s ∷ σ) = lost (part_none σ)

pub part_nil : (τ : List Store) → Part [] τ → τ ≡ []
part_nil τ done = refl

pub part_one : (s : Store) (τ : List Store) → Part (s ∷ []) τ → (τ ≡ []) ⊎ (τ ≡ s ∷ [])
part_one s τ (made {τ = τ'} p) = inr (ap (s ∷◌) (part_nil τ' p))
part_one s τ (lost p) = inl (part_nil τ p)

-- a prefix is a part
pub part_take : (n : ℕ) (σ : List Store) → Part σ (take n σ)
part_take zero σ = part_none σ
part_take (suc n) [] = done
part_take (suc n) (s ∷ σ) = made (part_take n σ)

-- a part of two lists is a part of each
pub part_append : (σ ρ τ : List Store) → Part (σ ++ ρ) τ → (τ₁ : List Store) × (τ₂ : List Store) × Part σ τ₁ × Part ρ τ₂ × (τ ≡ τ₁ ++ τ₂)
part_append [] ρ τ p = ([], τ, done, p, refl)
part_append (s ∷ σ) ρ τ (made {τ = τ'} p) = let (a, b, x, y, e) = part_append σ ρ τ' p in (s ∷ a, b, made x, y, ap (s ∷◌) e)
part_append (s ∷ σ) ρ τ (lost p) = let (a, b, x, y, e) = part_append σ ρ τ p in (a, b, lost x, y, e)
