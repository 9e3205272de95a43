-- Laws of loops over places: a scan stops at the first place that passes its test, and no more places pass a test than there are.
-- Assumes nothing.
use mathlib.Core.Path.{◌≡◌, refl}
use mathlib.Core.Bool.{Bool, true, false}
use Prim.Native.Nat.{ℕ, zero, suc, ◌+◌, ◌-◌, ◌≤◌, ◌<◌}
use native.Mathlib.Numerals.{add-one}
use native.Mathlib.Omega.{arith}
use Rattle.digits.specs.Choice.{pick}
use Rattle.digits.specs.Loops.{scan, tally}

module _ (test : ℕ → Bool) where
  pub scan_here : (n i : ℕ) → test i ≡ true → i ≡ scan n i test
  unfolding scan
  scan_here zero i e = refl
  scan_here (suc n) i e = rw (e, scan)

  scan_suc : (n i : ℕ) → test i ≡ false → scan (suc n) i test ≡ scan n (i + 1) test
  unfolding scan
  scan_suc n i e = rw (e, scan)

  pub scan_true : (n i : ℕ) → scan n i test < i + n → test (scan n i test) ≡ true
  unfolding scan
  scan_true zero i h = absurd (omega arith)
  scan_true (suc n) i h = go (scan_true n (i + 1)) (test i) refl h
    where
      go : (scan n (i + 1) test < i + 1 + n → test (scan n (i + 1) test) ≡ true) → (t : Bool) → test i ≡ t
          → scan (suc n) i test < i + suc n → test (scan (suc n) i test) ≡ true
      go ih true e h = rw (e, scan) e
      go ih false e h = rw (scan_suc n i e) (ih (omega (arith, scan_suc n i e)))

  pub tally_true : (i : ℕ) → test i ≡ true → tally (i + 1) test ≡ tally i test + 1
  unfolding tally
  tally_true i e = rw (add-one i, tally, e)

  pub tally_false : (i : ℕ) → test i ≡ false → tally (i + 1) test ≡ tally i test
  unfolding tally
  tally_false i e = rw (add-one i, tally, e) (omega arith)

  pub tally_le : (n : ℕ) → tally n test ≤ n
  unfolding tally
  tally_le zero = omega arith
  tally_le (suc n) = go (test n) (tally_le n)
    where
      go : (t : Bool) → tally n test ≤ n → tally n test + pick t 1 0 ≤ suc n
      go true h = omega arith
      go false h = omega arith
