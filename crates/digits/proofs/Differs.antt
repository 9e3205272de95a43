-- A header's stored digits held against a key's: they differ where some place in use does, and an exclusive or tells it of all places in one go.
-- Assumes nothing.
use mathlib.Core.Path.{◌≡◌, refl, sym, ap, ◌∙◌}
use mathlib.Core.Bool.{Bool, true, false, not}
use Prim.Native.Nat.{ℕ, zero, suc, ◌+◌, ◌-◌, ◌*◌, ◌/◌, ◌%◌, ◌^◌, ◌≤◌, ◌<◌, min}
use native.Mathlib.Decide.{dec_le, dec_lt}
use native.Mathlib.Nat.{mod-lt, div-one, div-eq_of_lt, lt_of_not-le}
use native.Mathlib.Omega.{arith}
use borrow.Author.Tests.{lt-ltb, le-ltb, eq-eqb, eqb-true, eqb-false}
use lib.Dec.{eqb, lit≤}
use lib.Bits.{bit_xor, xor_self, xor_shr, xor_lt}
use lib.Pow.{pow_pos, pow-add, field, mod-mod-pow, shr-shr, shr_lt, shl-shr, shl_exact}
use Rattle.digits.specs.Digits.{digit_in}
use Rattle.digits.specs.Headers.{cell_in, stored_in, depth_of, length_of, stored_at, used_of, prefix_at, differs_in, differs}
use Rattle.digits.specs.Loops.{tally}
use Rattle.digits.proofs.Digits.{top_of_digits}
use Rattle.digits.proofs.FirstDiff.{xor_zero}
use Rattle.digits.proofs.Headers.{cell_lt}
use Rattle.digits.proofs.Loops.{tally_none, tally_some}

-- ---- the definition, place by place
module _ (D word key : ℕ) where
  -- the places in use hold the key's digits
  abbrev pub Alike : Type 0
  Alike = (i : ℕ) → i < used_of word → stored_at word i ≡ prefix_at D word key i

  abbrev same : ℕ → Bool
  same i = eqb (stored_at word i) (prefix_at D word key i)

  -- how many do not
  abbrev apart : ℕ
  apart = tally (used_of word) (λ i. not (same i))

  pub alike_none_differs : Alike → differs_in D word key ≡ false
  unfolding differs_in
  alike_none_differs h = le-ltb 0 apart (omega (arith, tally_none (λ i. not (same i)) (used_of word) (λ i l. ap not (eq-eqb _ _ (h i l)))))

  pub unlike_one_differs : (Alike → ⊥) → differs_in D word key ≡ true
  unfolding differs_in
  unlike_one_differs h = lt-ltb 0 apart (lt_of_not-le (λ (z : apart ≤ 0). h (λ i l. go i l (omega arith) (same i) refl)))
    where
      go : (i : ℕ) → i < used_of word → apart ≡ 0 → (t : Bool) → same i ≡ t → stored_at word i ≡ prefix_at D word key i
      go i l z true e = eqb-true _ _ e
      go i l z false e = absurd (tally_some (λ i. not (same i)) (used_of word) i l (ap not e) z)

-- by computation: the twelfth digit differs, and the thirteenth; one before the header's depth; one in a place that is not in use
differing :
    (differs 0x000d123456789abc 0x123456789ab0d0f0 ≡ true)
    × (differs 0x000d123456789abc 0x123456789abc70f0 ≡ false)
    × (differs 0x040956789abcd000 0x000056789abcd0f0 ≡ false)
    × (differs 0x0d0250ffffffffff 0x5500 ≡ false)
unfolding differs_in tally
differing = (refl, refl, refl, refl)

-- ---- digits of a part of a number
pub digit_low : (D x i : ℕ) → i < D → digit_in D (x % 2 ^ (4 * D)) i ≡ digit_in D x i
digit_low D x i h =
    let m = 4 * (D - suc i) in
    let e : 4 * D ≡ 4 * i + 4 + m = omega arith in
    ap (λ (n : ℕ). x % 2 ^ n / 2 ^ m % 16) e ∙ ap (λ (y : ℕ). y % 16) (field x (4 * i + 4) m) ∙ mod-mod-pow (x / 2 ^ m) (4 * i) 4

pub digit_high : (n r x i : ℕ) → i < n → digit_in n (x / 2 ^ (4 * r)) i ≡ digit_in (n + r) x i
digit_high n r x i h =
    let e : 4 * r + 4 * (n - suc i) ≡ 4 * (n + r - suc i) = omega arith in
    ap (λ (y : ℕ). y % 16) (shr-shr x (4 * r) (4 * (n - suc i)) ∙ ap (λ (m : ℕ). x / 2 ^ m) e)

pub digit_shifted : (D x d i : ℕ) → d + i < D → digit_in D (x * 2 ^ (4 * d)) i ≡ digit_in D x (d + i)
digit_shifted D x d i h =
    let m = 4 * (D - suc (d + i)) in
    let e : 4 * (D - suc i) ≡ 4 * d + m = omega arith in
    ap (λ (n : ℕ). x * 2 ^ (4 * d) / 2 ^ n % 16) e
    ∙ ap (λ (y : ℕ). y % 16) (sym (shr-shr (x * 2 ^ (4 * d)) (4 * d) m) ∙ ap (λ (y : ℕ). y / 2 ^ m) (shl-shr x (4 * d)))

-- place i of the first n that are stored
pub stored_place : (D d l key n i : ℕ) → i < n → digit_in n (stored_in D n d l key) i ≡ cell_in D d l key i
unfolding stored_in
stored_place D d l key zero i h = absurd (omega arith)
stored_place D d l key (suc n) i h =
    let x = stored_in D n d l key in
    let c = cell_in D d l key n in
    let c< : c < 16 = cell_lt D d l key n in
    elim (dec_lt i n) [
      | yes g ↦
          let e : 4 * (suc n - suc i) ≡ 4 + 4 * (n - suc i) = omega arith in
          let t : (x * 16 + c) / 2 ^ 4 ≡ x = omega arith in
          ap (λ (m : ℕ). (x * 16 + c) / 2 ^ m % 16) e
          ∙ ap (λ (y : ℕ). y % 16) (sym (shr-shr (x * 16 + c) 4 (4 * (n - suc i))) ∙ ap (λ (y : ℕ). y / 2 ^ (4 * (n - suc i))) t)
          ∙ stored_place D d l key n i g
      | no g ↦
          let q : n ≡ i = omega arith in
          let e : 4 * (suc n - suc i) ≡ 0 = omega arith in
          let t : (x * 16 + c) / 2 ^ 0 % 16 ≡ c = omega arith in
          ap (λ (m : ℕ). (x * 16 + c) / 2 ^ m % 16) e ∙ t ∙ ap (cell_in D d l key) q
    ]

-- a header that stores the digits of a key k: a key with the same digits in its prefix does not differ
pub header_alike : (D word h l k key : ℕ) → depth_of word ≡ h → length_of word ≡ l → word % 2 ^ 48 ≡ stored_in D 12 h l k
    → ((i : ℕ) → i < l → digit_in D key (h + i) ≡ digit_in D k (h + i)) → differs_in D word key ≡ false
header_alike D word h l k key d e f all =
    alike_none_differs D word key
    (λ i u. sym (digit_low 12 word i (omega arith)) ∙ ap (λ (x : ℕ). digit_in 12 x i) f ∙ stored_place D h l k 12 i (omega arith)
    ∙ rw (lt-ltb i l (omega arith), d) (sym (all i (omega arith))))

-- ---- all places in one go
times_pow_zero : (x k : ℕ) → x * 2 ^ k ≡ 0 → x ≡ 0
times_pow_zero x k e = sym (shl-shr x k) ∙ ap (λ (y : ℕ). y / 2 ^ k) e ∙ div-eq_of_lt (pow_pos k)

-- twelve digits, moved up by four: the first l of sixteen are the first of the twelve, as far as there are so many
cut : (y l : ℕ) → l ≤ 16 → y * 2 ^ 16 / 2 ^ (4 * (16 - l)) ≡ y / 2 ^ (4 * (12 - min l 12)) * 2 ^ (4 * (l - 12))
cut y l h =
    let m = 4 * (12 - min l 12) in
    let k = 4 * (l - 12) in
    elim (dec_le l 12) [
      | yes g ↦
          let e : 4 * (16 - l) ≡ 16 + m = omega arith in
          let z : 0 ≡ k = omega arith in
          let one : y / 2 ^ m ≡ y / 2 ^ m * 2 ^ 0 = omega arith in
          ap (λ (i : ℕ). y * 2 ^ 16 / 2 ^ i) e ∙ sym (shr-shr (y * 2 ^ 16) 16 m) ∙ ap (λ (x : ℕ). x / 2 ^ m) (shl-shr y 16)
          ∙ one ∙ ap (λ (i : ℕ). y / 2 ^ m * 2 ^ i) z
      | no g ↦
          let r = 4 * (16 - l) in
          let e : 16 ≡ k + r = omega arith in
          let z : 0 ≡ m = omega arith in
          let apart : y * 2 ^ (k + r) ≡ y * 2 ^ k * 2 ^ r = ap (λ (x : ℕ). y * x) (pow-add 2 k r) ∙ omega arith in
          ap (λ (i : ℕ). y * 2 ^ i / 2 ^ r) e ∙ ap (λ (x : ℕ). x / 2 ^ r) apart ∙ shl-shr (y * 2 ^ k) r
          ∙ ap (λ (x : ℕ). x * 2 ^ k) (sym (div-one y) ∙ ap (λ (i : ℕ). y / 2 ^ i) z)
    ]

module _ (word key : ℕ) (fits : depth_of word + length_of word < 16) where
  -- the places in use, the digits that the header keeps, and the key's from the depth on
  abbrev used : ℕ
  used = used_of word

  abbrev kept : ℕ
  kept = word % 2 ^ 48

  abbrev shifted : ℕ
  shifted = key * 2 ^ (4 * depth_of word) % 2 ^ 64

  abbrev asked : ℕ
  asked = shifted / 2 ^ 16

  kept< : kept < 2 ^ 48
  kept< = mod-lt word (pow_pos 48)

  asked< : asked < 2 ^ 48
  asked< = shr_lt 48 16 (mod-lt (key * 2 ^ (4 * depth_of word)) (pow_pos 64))

  place : (i : ℕ) → i < used → digit_in 12 kept i ≡ stored_at word i
  place i l = digit_low 12 word i (omega arith)

  key_place : (i : ℕ) → i < used → digit_in 12 asked i ≡ prefix_at 16 word key i
  key_place i l =
      let K = key * 2 ^ (4 * depth_of word) in
      digit_high 12 4 (K % 2 ^ 64) i (omega arith) ∙ digit_low 16 K i (omega arith) ∙ digit_shifted 16 key (depth_of word) i (omega arith)

  alike_cancels : Alike 16 word key → bit_xor asked kept / 2 ^ (4 * (12 - used)) ≡ 0
  alike_cancels h =
      xor_shr asked kept (4 * (12 - used))
      ∙ ap (λ (x : ℕ). bit_xor x (kept / 2 ^ (4 * (12 - used))))
      (top_of_digits 12 asked kept asked< kept< used (omega arith) (λ i l. key_place i l ∙ sym (h i l) ∙ sym (place i l)))
      ∙ xor_self (kept / 2 ^ (4 * (12 - used)))

  cancels_alike : bit_xor asked kept / 2 ^ (4 * (12 - used)) ≡ 0 → Alike 16 word key
  cancels_alike e i l =
      let m = 12 - used in
      let all : used + m ≡ 12 = omega arith in
      let t : asked / 2 ^ (4 * m) ≡ kept / 2 ^ (4 * m) = xor_zero _ _ (sym (xor_shr asked kept (4 * m)) ∙ e) in
      let of : (x : ℕ) → digit_in used (x / 2 ^ (4 * m)) i ≡ digit_in 12 x i = λ x. digit_high used m x i l ∙ ap (λ (n : ℕ). digit_in n x i) all in
      sym (place i l) ∙ sym (of kept) ∙ ap (λ (x : ℕ). digit_in used x i) (sym t) ∙ of asked ∙ key_place i l

  -- what the code computes
  abbrev computed : ℕ
  computed = bit_xor shifted (word * 2 ^ 16 % 2 ^ 64) / 2 ^ 16 * 2 ^ 16 % 2 ^ 64 / 2 ^ (4 * (16 - length_of word))

  computed_is : computed ≡ bit_xor asked kept / 2 ^ (4 * (12 - used)) * 2 ^ (4 * (length_of word - 12))
  computed_is =
      let k : word * 2 ^ 16 % 2 ^ 64 / 2 ^ 16 ≡ kept = field (word * 2 ^ 16) 48 16 ∙ ap (λ (x : ℕ). x % 2 ^ 48) (shl-shr word 16) in
      let y : bit_xor shifted (word * 2 ^ 16 % 2 ^ 64) / 2 ^ 16 ≡ bit_xor asked kept = xor_shr shifted (word * 2 ^ 16 % 2 ^ 64) 16 ∙ ap (bit_xor asked) k in
      let fit : bit_xor asked kept * 2 ^ 16 % 2 ^ 64 ≡ bit_xor asked kept * 2 ^ 16 = shl_exact 48 16 64 (xor_lt 48 asked kept asked< kept<) (lit≤ tt) in
      rw y (ap (λ (x : ℕ). x / 2 ^ (4 * (16 - length_of word))) fit ∙ cut (bit_xor asked kept) (length_of word) (omega arith))

  pub computed_tells : not (eqb computed 0) ≡ differs word key
  computed_tells = go (eqb computed 0) refl
    where
      alike : computed ≡ 0 → Alike 16 word key
      alike e = cancels_alike (times_pow_zero _ _ (sym computed_is ∙ e))

      zero_if : Alike 16 word key → computed ≡ 0
      zero_if h = computed_is ∙ ap (λ (x : ℕ). x * 2 ^ (4 * (length_of word - 12))) (alike_cancels h) ∙ omega arith

      go : (t : Bool) → eqb computed 0 ≡ t → not t ≡ differs word key
      go true e = sym (alike_none_differs 16 word key (alike (eqb-true _ _ e)))
      go false e = sym (unlike_one_differs 16 word key (λ h. eqb-false _ _ e (zero_if h)))
