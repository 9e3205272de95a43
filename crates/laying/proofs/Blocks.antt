-- Consecutive words, one more at a time.
-- Assumes nothing.
use mathlib.Core.Path.{◌≡◌, refl, ap, ◌∙◌}
use mathlib.Core.List.{List, [], ◌∷◌, ◌++◌}
use Prim.Native.Nat.{ℕ, zero, suc, ◌+◌}
use lib.ListN.{length}
use native.Mathlib.Nat.{add-zero, zero-add, suc_inj}
use native.Mathlib.Numerals.{add-one}
use native.Mathlib.Omega.{arith}
use borrow.Author.Tests.{eq-eqb, ne_eqb}
use Rattle.tree.specs.Tree.{upd}
use Rattle.tree.specs.Stores.{Store, block, tab}
use Rattle.tree.proofs.Basics.{Same?, same, other, same?}
use Rattle.plan.specs.Laid.{valued}
use Rattle.layout.specs.Operations.{store, leaf_stores}
use Rattle.rules.specs.declared.Cleft.{Cleft}
use Rattle.laying.specs.Nodes.{node_values}

-- one word more, behind those that are there
pub block_more : (a n : ℕ) (f : ℕ → ℕ) → block a (tab (n + 1) f) ≡ block a (tab n f) ++ store (a + n) (f n) ∷ []
unfolding block tab
block_more a zero f = rw (add-zero a)
block_more a (suc n) f =
    let e : a + suc n ≡ a + 1 + n = omega arith in
    let t = rw (add-one n) at (block_more (a + 1) n (λ i. f (suc i))) in
    rw (add-one (suc n), e) (ap (λ (l : List Store). store a (f 0) ∷ l) t)

-- ---- values by their places
tab_same : (n : ℕ) (f g : ℕ → ℕ) → ((i : ℕ) → f i ≡ g i) → tab n f ≡ tab n g
unfolding tab
tab_same zero f g h = refl
tab_same (suc n) f g h =
    ap (λ (x : ℕ). x ∷ tab n (λ i. f (suc i))) (h 0) ∙ ap (λ (l : List ℕ). g 0 ∷ l) (tab_same n (λ i. f (suc i)) (λ i. g (suc i)) (λ i. h (suc i)))

upd_suc : (f : ℕ → ℕ) (d v i : ℕ) → upd (λ j. f (suc j)) d v i ≡ upd f (suc d) v (suc i)
upd_suc f d v i = go (same? i d)
  where
    go : Same? i d → upd (λ j. f (suc j)) d v i ≡ upd f (suc d) v (suc i)
    go (same e q) = rw (q, eq-eqb (suc i) (suc d) (ap suc e))
    go (other n q) = rw (q, ne_eqb (suc i) (suc d) (λ e. n (suc_inj e)))

-- another value in one of their places
block_valued : (a n : ℕ) (f : ℕ → ℕ) (d v : ℕ) → valued (block a (tab n f)) d v ≡ block a (tab n (upd f d v))
unfolding block tab
block_valued a zero f d v = refl
block_valued a (suc n) f zero v =
    ap (λ (l : List ℕ). store a v ∷ block (a + 1) l) (tab_same n (λ i. f (suc i)) (λ i. upd f 0 v (suc i)) (λ i. rw (ne_eqb (suc i) 0 (λ e. omega arith))))
block_valued a (suc n) f (suc d) v =
    rw (ne_eqb 0 (suc d) (λ e. omega arith))
    (ap (λ (l : List Store). store a (f 0) ∷ l)
    (block_valued (a + 1) n (λ i. f (suc i)) d v
    ∙ ap (block (a + 1)) (tab_same n (upd (λ i. f (suc i)) d v) (λ i. upd f (suc d) v (suc i)) (upd_suc f d v))))

valued_behind : (σ τ : List Store) (i v : ℕ) → valued (σ ++ τ) (length σ + i) v ≡ σ ++ valued τ i v
valued_behind [] τ i v = rw (zero-add i)
valued_behind (s ∷ σ) τ i v =
    let e : suc (length σ) + i ≡ suc (length σ + i) = omega arith in
    rw e (ap (λ (l : List Store). s ∷ l) (valued_behind σ τ i v))

-- one of sixteen children is given, behind what is there
pub child_given : (σ : List Store) (a : ℕ) (f : ℕ → ℕ) (d v : ℕ) {ρ : List Store} → ρ ≡ σ ++ block a (tab 16 f)
    → valued ρ (length σ + d) v ≡ σ ++ block a (tab 16 (upd f d v))
child_given σ a f d v e = rw e (valued_behind σ (block a (tab 16 f)) d v ∙ ap (λ (τ : List Store). σ ++ τ) (block_valued a 16 f d v))

-- ---- how many they are
pub leaf_long : (z k v : ℕ) → length (leaf_stores z k v) ≡ 2
unfolding block
leaf_long z k v = refl

pub node_long : (w : ℕ) (s : Cleft) (leaf k : ℕ) → length (block w (node_values s leaf k)) ≡ 17
unfolding block tab
node_long w s leaf k = refl
