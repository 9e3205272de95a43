-- Laws of the lowest free byte: it is free, and no byte before it is.
-- Assumes nothing.
use mathlib.Core.Path.{◌≡◌, refl}
use mathlib.Core.Logic.{◌⊎◌, inl, inr}
use mathlib.Core.Bool.{Bool, true, false}
use mathlib.Core.List.{List}
use Prim.Native.Nat.{ℕ, zero, suc, ◌+◌, ◌-◌, ◌≤◌, ◌<◌}
use native.Mathlib.Omega.{arith}
use borrow.Author.Tests.{eqb-true, eqb-false}
use lib.Dec.{eqb}
use lib.ListN.{get_or}
use Rattle.digits.specs.Loops.{scan}
use Rattle.tree.proofs.Basics.{last?}
use Rattle.walk.proofs.Loops.{scan_true}
use Rattle.rules.specs.Puts.{free_from}

-- ---- scans
module _ (test : ℕ → Bool) where
  scan_from : (n i : ℕ) → i ≤ scan n i test
  unfolding scan
  scan_from zero i = omega arith
  scan_from (suc n) i = go (test i) (scan_from n (i + 1))
    where
      go : (t : Bool) → i + 1 ≤ scan n (i + 1) test → i ≤ elim t [ true ↦ i | false ↦ scan n (i + 1) test ]
      go true h = omega arith
      go false h = omega arith

  scan_le : (n i : ℕ) → scan n i test ≤ i + n
  unfolding scan
  scan_le zero i = omega arith
  scan_le (suc n) i = go (test i) (scan_le n (i + 1))
    where
      go : (t : Bool) → scan n (i + 1) test ≤ i + 1 + n → elim t [ true ↦ i | false ↦ scan n (i + 1) test ] ≤ i + suc n
      go true h = omega arith
      go false h = omega arith

  scan_before : (n i j : ℕ) → i ≤ j → j < scan n i test → test j ≡ false
  unfolding scan
  scan_before zero i j l h = absurd (omega arith)
  scan_before (suc n) i j l h = go (scan_before n (i + 1) j) (test i) refl h (last? i j (omega arith))
    where
      go : (i + 1 ≤ j → j < scan n (i + 1) test → test j ≡ false) → (t : Bool) → test i ≡ t → j < elim t [ true ↦ i | false ↦ scan n (i + 1) test ]
          → (i ≡ j) ⊎ (i < j) → test j ≡ false
      go ih true q h s = absurd (omega arith)
      go ih false q h (inl e) = rw (← e) q
      go ih false q h (inr l) = ih (omega arith) h

-- ---- the lowest free byte of a map
module _ (map : List ℕ) (from to : ℕ) where
  free : ℕ → Bool
  free i = eqb (get_or map i 0) 0

  -- "the lowest-numbered free ones": it is free, and lies where it is looked for
  pub free_found : free_from map from to < to → (from ≤ free_from map from to) × (get_or map (free_from map from to) 0 ≡ 0)
  unfolding free
  free_found h =
      let l = scan_from free (to - from) from in
      (l, eqb-true (get_or map (free_from map from to) 0) 0 (scan_true free (to - from) from (omega arith)))

  -- no byte before it is
  pub free_lowest : (i : ℕ) → from ≤ i → i < free_from map from to → get_or map i 0 ≡ 0 → ⊥
  unfolding free
  free_lowest i l h = eqb-false (get_or map i 0) 0 (scan_before free (to - from) from i l h)

  -- where none is found, none is free
  pub free_none : to ≤ free_from map from to → (i : ℕ) → from ≤ i → i < to → get_or map i 0 ≡ 0 → ⊥
  free_none h i l u = free_lowest i l (omega arith)

  pub free_le : from ≤ to → free_from map from to ≤ to
  unfolding free
  free_le h =
      let l = scan_le free (to - from) from in
      omega arith
