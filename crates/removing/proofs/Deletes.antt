-- Which plan a delete comes to: by where the walk ends.
-- Assumes nothing.
use Rattle.std.specs.Prelude.{Some}
use mathlib.Core.Path.{◌≡◌, refl, ◌∙◌}
use mathlib.Core.List.{List}
use Prim.Native.Nat.{ℕ}
use borrow.Author.Tests.{eq-eqb, ne_eqb}
use Rattle.pool.specs.Sizes.{capacity_of}
use Rattle.pool.specs.Places.{key_at}
use Rattle.walk.specs.Walks.{walk_of}
use Rattle.walk.specs.declared.Spot.{Spot}
use Rattle.walk.specs.declared.End.{End}
use Rattle.walk.specs.declared.End.TheVariants.{AtLeaf, AtEmpty, Stopped, Damaged}
use Rattle.plan.specs.Plans.{refused}
use Rattle.plan.specs.declared.Effect.TheVariants.{FreesLeaf}
use Rattle.rules.specs.Deletes.{emptied, unlink_of, miss_of, delete_at, delete_plan}

-- what is known once the walk has ended
pub record Walked (pool : List ℕ) (n k : ℕ) (e : End) : Type 0 where
  pub size : Some n ≡ capacity_of pool
  pub walks : e ≡ walk_of pool n k

module _ {pool : List ℕ} {n k : ℕ} {e : End} (w : Walked pool n k e) where
  delete_at_lem : {x : End} → e ≡ x → delete_at pool n k x ≡ delete_plan pool k
  unfolding delete_plan
  delete_at_lem q = rw (← w.size, ← w.walks, q)

  -- what a match leaves
  pub delete_missed : ((s : Spot) (i : ℕ) → e ≡ AtLeaf s i → ⊥) → {m : ℕ} → m ≡ miss_of e → refused m ≡ delete_plan pool k
  delete_missed p q = rw q (go e p ∙ delete_at_lem refl)
    where
      go : (e : End) → ((s : Spot) (i : ℕ) → e ≡ AtLeaf s i → ⊥) → refused (miss_of e) ≡ delete_at pool n k e
      go (AtLeaf s i) p = absurd (p s i refl)
      go (AtEmpty s) p = refl
      go (Stopped s j b) p = refl
      go (Damaged m f) p = refl

  module _ {s : Spot} {i x : ℕ} (leaf : e ≡ AtLeaf s i) (key : x ≡ key_at pool i) where
    pub delete_absent : (x ≡ k → ⊥) → refused 3 ≡ delete_plan pool k
    delete_absent h = rw (← delete_at_lem leaf, ← key, ne_eqb x k h)

    pub delete_root : x ≡ k → s.nodes ≡ 0 → emptied s.at (FreesLeaf i) ≡ delete_plan pool k
    delete_root h r = rw (← delete_at_lem leaf, ← key, eq-eqb x k h, eq-eqb s.nodes 0 r)

    pub delete_below : x ≡ k → (s.nodes ≡ 0 → ⊥) → unlink_of pool n s (FreesLeaf i) ≡ delete_plan pool k
    delete_below h r = rw (← delete_at_lem leaf, ← key, eq-eqb x k h, ne_eqb s.nodes 0 r)
