-- Laws of loops over places: turns that do nothing may be left out, and a scan passes over just the places that fail its test. Assumes nothing.
use mathlib.Core.Path.{◌≡◌, refl, sym, ap, ◌∙◌}
use mathlib.Core.Bool.{Bool, true, false}
use Prim.Native.Nat.{ℕ, zero, suc, ◌+◌, ◌≤◌, ◌<◌}
use native.Mathlib.Decide.{dec_le, dec_lt}
use native.Mathlib.Numerals.{add-one}
use native.Mathlib.Omega.{arith}
use Rattle.digits.specs.Loops.{upto, scan}
use Rattle.walk.proofs.Loops.{scan_here}

module _ {A : Type 0} (f : ℕ → A → A) (a : A) where
  pub upto_next : (i : ℕ) {x y : A} → x ≡ upto i f a → y ≡ f i x → y ≡ upto (i + 1) f a
  unfolding upto
  upto_next i p q = rw add-one (rw (← p) q)

  -- turns that do nothing may be left out
  pub upto_idle : (i k : ℕ) → i ≤ k → ((m : ℕ) → i ≤ m → m < k → f m (upto i f a) ≡ upto i f a) → upto i f a ≡ upto k f a
  unfolding upto
  upto_idle i zero h idle =
      let e : i ≡ 0 = omega arith in
      ap (λ (m : ℕ). upto m f a) e
  upto_idle i (suc k) h idle =
      elim (dec_le i k) [
        | yes l ↦ sym (idle k l (omega arith)) ∙ ap (f k) (upto_idle i k l (λ m p q. idle m p (omega arith)))
        | no g ↦ let e : i ≡ suc k = omega arith in ap (λ (m : ℕ). upto m f a) e
      ]

-- loops with equal turns are equal
pub upto_same : {A : Type 0} (f g : ℕ → A → A) (a : A) → ((m : ℕ) (x : A) → f m x ≡ g m x) → (i : ℕ) → upto i f a ≡ upto i g a
unfolding upto
upto_same f g a h zero = refl
upto_same f g a h (suc i) = h i (upto i f a) ∙ ap (g i) (upto_same f g a h i)

-- what every turn keeps a loop keeps
pub upto_keeps : {A : Type 0} (P : A → Type 0) (f : ℕ → A → A) → ((m : ℕ) (x : A) → P x → P (f m x)) → (i : ℕ) (a : A) → P a → P (upto i f a)
unfolding upto
upto_keeps P f h zero a p = p
upto_keeps P f h (suc i) a p = h i (upto i f a) (upto_keeps P f h i a p)

module _ (test : ℕ → Bool) where
  -- a place passed over fails the test
  pub scan_passes : (n i k : ℕ) → i ≤ k → k < scan n i test → test k ≡ false
  unfolding scan
  scan_passes zero i k h l = absurd (omega arith)
  scan_passes (suc n) i k h l = go (scan_passes n (i + 1) k) (test i) refl
    where
      go : (i + 1 ≤ k → k < scan n (i + 1) test → test k ≡ false) → (t : Bool) → test i ≡ t → test k ≡ false
      go ih true e = absurd (omega (arith, scan_here test (suc n) i e))
      go ih false e =
          elim (dec_lt i k) [
            | yes g ↦ ih (omega arith) (rw (e, scan) at l)
            | no g ↦ let q : k ≡ i = omega arith in rw q e
          ]
