-- What a lookup and a quick lookup answer for every run of words there is, and that the numbers of an answer tell its case.
-- Assumes nothing.
use Rattle.std.specs.Prelude.{None, Option, Some, Result}
use mathlib.Core.Path.{◌≡◌, refl, sym, ap, ◌∙◌}
use mathlib.Core.List.{List}
use Prim.Native.Nat.{ℕ, ◌≤◌}
use native.Mathlib.Omega.{arith}
use lib.Dec.{eqb}
use Rattle.pool.specs.Sizes.{capacity_of}
use Rattle.pool.specs.Places.{key_at}
use Rattle.pool.specs.declared.Ref.TheVariants.{Leaf}
use Rattle.walk.specs.Walks.{root, never, unlike, walk_of, quick_walk}
use Rattle.walk.specs.Ends.{met_of}
use Rattle.walk.specs.declared.End.{End}
use Rattle.walk.specs.declared.End.TheVariants.{AtLeaf, AtEmpty, Stopped, Damaged}
use Rattle.walk.proofs.Counts.{walk_few, stopped_fewer}
use Rattle.walk.proofs.Ends.{Unstopped, walk_unstopped}
use Rattle.refusals.specs.declared.Refusal.{Refusal}
use Rattle.refusals.specs.Refusals.{answer_at}
use Rattle.refusals.proofs.Numbers.{answer_told}
use Rattle.finding.specs.declared.Found.{Found}
use Rattle.finding.specs.Lookups.{Answer, answer, told, found_end, found_at, found_in, lookup_of, quick_at, quick_in, quick_of}
use Rattle.digits.proofs.Choice.{pick_case}

-- "0 done", "3 key absent", "2 damage met", "1 size"; "Refusals give 0 in every number field but lookup's node count", which is at most 16
pub data Looks : Answer → Type 0 where
  done : {v m : ℕ} → m ≤ 16 → Looks (answer 0 v m)
  absent : {m : ℕ} → m ≤ 16 → Looks (answer 3 0 m)
  damage : {m : ℕ} → m ≤ 16 → Looks (answer 2 0 m)
  size : Looks (answer 1 0 0)

module _ (pool : List ℕ) (key : ℕ) where
  at_end : (e : End) → met_of e ≤ 16 → Looks (found_at pool key e)
  at_end (AtLeaf s i) h = pick_case Looks (eqb (key_at pool i) key) (λ t. done h) (λ t. absent h)
  at_end (AtEmpty s) h = absent h
  at_end (Stopped s j b) h = damage {m = s.nodes} (omega arith)
  at_end (Damaged m f) h = damage h

  at_quick_end : (e : End) → met_of e ≤ 16 → Looks (quick_at pool key e)
  at_quick_end (AtLeaf s i) h = at_end (AtLeaf s i) h
  at_quick_end (AtEmpty s) h = at_end (AtEmpty s) h
  at_quick_end (Stopped s j b) h = absent h
  at_quick_end (Damaged m f) h = at_end (Damaged m f) h

  -- a walk that is not stopped is answered as lookup answers it
  pub quick_unstopped : (e : End) → Unstopped e → quick_at pool key e ≡ found_at pool key e
  quick_unstopped (AtLeaf s i) u = refl
  quick_unstopped (AtEmpty s) u = refl
  quick_unstopped (Stopped s j b) u = absurd u
  quick_unstopped (Damaged m f) u = refl

  pub lookup_answers : Looks (lookup_of pool key)
  unfolding lookup_of
  lookup_answers = go (capacity_of pool)
    where
      go : (r : Option ℕ) → Looks (found_in pool key r)
      go (Some n) = at_end (walk_of pool n key) (walk_few pool n key never)
      go None = size

  pub quick_answers : Looks (quick_of pool key)
  unfolding quick_of
  quick_answers = go (capacity_of pool)
    where
      go : (r : Option ℕ) → Looks (quick_in pool key r)
      go (Some n) = at_quick_end (quick_walk pool n key) (walk_few pool n key unlike)
      go None = size

  -- ---- how many nodes are counted
  counted : (i m : ℕ) → (found_end pool key m (Leaf i)).nodes ≡ m
  counted i m = pick_case (λ (a : Answer). a.nodes ≡ m) (eqb (key_at pool i) key) (λ t. refl) (λ t. refl)

  found_counts : (e : End) → Unstopped e → (found_at pool key e).nodes ≡ met_of e
  found_counts (AtLeaf s i) u = counted i s.nodes
  found_counts (AtEmpty s) u = refl
  found_counts (Stopped s j b) u = absurd u
  found_counts (Damaged m f) u = refl

  quick_counts : (e : End) → (quick_at pool key e).nodes ≡ met_of e
  quick_counts (AtLeaf s i) = counted i s.nodes
  quick_counts (AtEmpty s) = refl
  quick_counts (Stopped s j b) = refl
  quick_counts (Damaged m f) = refl

  -- on every pool there is the quick lookup counts no more nodes than lookup
  pub quick_fewer : (quick_of pool key).nodes ≤ (lookup_of pool key).nodes
  unfolding lookup_of quick_of
  quick_fewer = go (capacity_of pool)
    where
      go : (r : Option ℕ) → (quick_in pool key r).nodes ≤ (found_in pool key r).nodes
      go (Some n) =
          omega (
            arith,
            quick_counts (quick_walk pool n key),
            found_counts (walk_of pool n key) (walk_unstopped pool n key),
            stopped_fewer pool n key unlike 17 root,
          )
      go None = omega arith

few : {a : Answer} → Looks a → a.nodes ≤ 16
few (done h) = h
few (absent h) = h
few (damage h) = h
few size = omega arith

-- "how many nodes had an accepted header on its walk, at most 16"
pub lookup_nodes : (pool : List ℕ) (key : ℕ) → (lookup_of pool key).nodes ≤ 16
lookup_nodes pool key = few (lookup_answers pool key)

-- what an answer's numbers tell
abbrev untold : Answer → Found
untold a = record { value = answer_at a.number a.value; nodes = a.nodes }

untold_told : (f : Found) → untold (told f) ≡ f
untold_told f = ap (λ (r : Result ℕ Refusal). record { value = r; nodes = f.nodes }) (answer_told f.value 0)

pub told_injective : (f g : Found) → told f ≡ told g → f ≡ g
told_injective f g e = sym (untold_told f) ∙ ap untold e ∙ untold_told g
