-- Laws of a count over places: it is 0 just where no place passes the test. Assumes nothing.
use mathlib.Core.Path.{◌≡◌, refl}
use mathlib.Core.Bool.{Bool, true, false}
use Prim.Native.Nat.{ℕ, zero, suc, ◌<◌}
use native.Mathlib.Decide.{dec_lt}
use native.Mathlib.Omega.{arith}
use Rattle.digits.specs.Loops.{tally}

module _ (test : ℕ → Bool) where
  pub tally_none : (n : ℕ) → ((k : ℕ) → k < n → test k ≡ false) → tally n test ≡ 0
  unfolding tally
  tally_none zero h = refl
  tally_none (suc n) h = rw (h n (omega arith)) (omega (arith, tally_none n (λ k l. h k (omega arith))))

  pub tally_some : (n k : ℕ) → k < n → test k ≡ true → tally n test ≡ 0 → ⊥
  unfolding tally
  tally_some zero k h e z = omega arith
  tally_some (suc n) k h e z =
      elim (dec_lt k n) [
        | yes l ↦ tally_some n k l e (omega arith)
        | no g ↦ let q : k ≡ n = omega arith in omega (arith, rw (← q, e) at z)
      ]
