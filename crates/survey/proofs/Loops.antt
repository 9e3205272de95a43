-- Laws of loops over places, and of a choice by a test.
-- Assumes nothing.
use mathlib.Core.Path.{◌≡◌, refl, ap, ◌∙◌}
use mathlib.Core.Logic.{◌≢◌}
use mathlib.Core.Bool.{Bool, true, false}
use Prim.Native.Nat.{ℕ, zero, suc, ◌+◌, ◌≤◌, ◌<◌}
use native.Mathlib.Decide.{dec_le, dec_lt}
use native.Mathlib.Numerals.{add-one}
use native.Mathlib.Omega.{arith}
use Rattle.digits.specs.Choice.{pick}
use Rattle.digits.specs.Loops.{upto, tally}

-- what is true of both is true of the one chosen
pub pick_both : {A : Type 0} (P : A → Type 0) (t : Bool) {a b : A} → P a → P b → P (pick t a b)
pick_both P true p q = p
pick_both P false p q = q

module _ {A : Type 0} (f : ℕ → A → A) (a : A) where
  -- one turn more
  pub upto_turn : (i : ℕ) → upto (i + 1) f a ≡ f i (upto i f a)
  unfolding upto
  upto_turn i = rw add-one

  -- what every turn keeps, the turns that are left keep
  pub upto_keeps : (P : A → Type 0) → ((m : ℕ) (x : A) → P x → P (f m x)) → (i k : ℕ) → i ≤ k → P (upto i f a) → P (upto k f a)
  unfolding upto
  upto_keeps P keep i zero h p =
      let e : i ≡ 0 = omega arith in
      rw e at p
  upto_keeps P keep i (suc k) h p =
      elim (dec_le i k) [
        | yes l ↦ keep k (upto k f a) (upto_keeps P keep i k l p)
        | no g ↦ let e : i ≡ suc k = omega arith in rw e at p
      ]

-- loops with equal turns are equal
pub upto_same : {A : Type 0} (f g : ℕ → A → A) (a : A) → ((m : ℕ) (x : A) → f m x ≡ g m x) → (i : ℕ) → upto i f a ≡ upto i g a
unfolding upto
upto_same f g a h zero = refl
upto_same f g a h (suc i) = h i (upto i f a) ∙ ap (g i) (upto_same f g a h i)

-- counts by tests that are equal at each place are equal
pub tally_same : (f g : ℕ → Bool) (n : ℕ) → ((i : ℕ) → i < n → f i ≡ g i) → tally n f ≡ tally n g
unfolding tally
tally_same f g zero h = refl
tally_same f g (suc n) h = rw (tally_same f g n (λ i l. h i (omega arith)), h n (omega arith))

-- a test that passes at one place more counts one more
pub tally_flip : (f g : ℕ → Bool) (n x : ℕ) → x < n → f x ≡ false → g x ≡ true → ((i : ℕ) → i < n → i ≢ x → f i ≡ g i) → tally n g ≡ tally n f + 1
unfolding tally
tally_flip f g zero x l a b h = absurd (omega arith)
tally_flip f g (suc n) x l a b h =
    elim (dec_lt x n) [
      | yes k ↦ rw (← h n (omega arith) (λ e. omega arith)) (omega (arith, tally_flip f g n x k a b (λ i q. h i (omega arith))))
      | no k ↦
          let e : x ≡ n = omega arith in
          let s : tally x f ≡ tally x g = tally_same f g x (λ i q. h i (omega arith) (λ z. omega arith)) in
          rw (← e, a, b, ← s) (omega arith)
    ]
