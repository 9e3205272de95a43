-- The stored digits of a header in one go: the key shifted so that the prefix comes first, and cut after the digits that are stored.
-- Assumes nothing.
use mathlib.Core.Path.{◌≡◌, sym, ap, ◌∙◌}
use Prim.Native.Nat.{ℕ, zero, suc, ◌+◌, ◌-◌, ◌*◌, ◌/◌, ◌%◌, ◌^◌, ◌≤◌, ◌<◌, min}
use native.Mathlib.Decide.{dec_lt}
use native.Mathlib.Nat.{zero-add}
use native.Mathlib.Omega.{arith}
use borrow.Author.Tests.{lt-ltb, le-ltb}
use lib.Bits.{bit_or}
use lib.Pow.{pow-add, mod-pow-add, field, shr-shr, shl-shr, shl_exact}
use Rattle.digits.specs.Headers.{stored_in, header_of}
use Rattle.digits.proofs.Headers.{stored_lt, packed}

module _ (d l key : ℕ) where
  -- the first n digits of the prefix are a field of the key
  stored_field : (n : ℕ) → n ≤ l → d + n ≤ 16 → stored_in 16 n d l key ≡ key / 2 ^ (4 * (16 - (d + n))) % 2 ^ (4 * n)
  unfolding stored_in
  stored_field zero h g = omega arith
  stored_field (suc n) h g =
      let m = 4 * (16 - suc (d + n)) in
      let x = key / 2 ^ m in
      let t : 4 * (16 - (d + suc n)) ≡ m = omega arith in
      let e : 4 * (16 - (d + n)) ≡ m + 4 = omega arith in
      let f : 4 * suc n ≡ 4 * n + 4 = omega arith in
      let i : stored_in 16 n d l key ≡ x / 2 ^ 4 % 2 ^ (4 * n) = rw (shr-shr key m 4, ← e) (stored_field n (omega arith) (omega arith)) in
      rw (t, f, mod-pow-add x (4 * n) 4, lt-ltb n l h, i)

  -- "unused places zero"
  stored_rest : (m : ℕ) → stored_in 16 (m + l) d l key ≡ stored_in 16 l d l key * 2 ^ (4 * m)
  unfolding stored_in
  stored_rest zero = rw zero-add (omega arith)
  stored_rest (suc m) =
      let e : 4 * suc m ≡ 4 * m + 4 = omega arith in
      let s : suc m + l ≡ suc (m + l) = omega arith in
      rw (e, s, pow-add 2 (4 * m) 4, le-ltb (m + l) l (omega arith), stored_rest m) (omega arith)

  -- s of the twelve places are in use
  stored_cut : (s : ℕ) → s ≡ min l 12 → stored_in 16 12 d l key ≡ stored_in 16 s d l key * 2 ^ (4 * (12 - s))
  stored_cut s h =
      elim (dec_lt l 12) [
        | yes g ↦
            let e : s ≡ l = omega arith in
            let f : 12 ≡ 12 - l + l = omega arith in
            rw e (ap (λ (n : ℕ). stored_in 16 n d l key) f ∙ stored_rest (12 - l))
        | no g ↦
            let e : s ≡ 12 = omega arith in
            rw e (omega arith)
      ]

  module _ (s : ℕ) (few : s ≡ min l 12) (fits : d + l < 16) where
    -- the key shifted and cut is the field
    field_cut : key * 2 ^ (4 * d) % 2 ^ 64 / 2 ^ 16 / 2 ^ (4 * (12 - s)) ≡ stored_in 16 s d l key
    field_cut =
        let m = 4 * (16 - (d + s)) in
        let k : 16 + 4 * (12 - s) ≡ 4 * d + m = omega arith in
        let w : 64 ≡ 4 * s + (4 * d + m) = omega arith in
        rw (shr-shr (key * 2 ^ (4 * d) % 2 ^ 64) 16 (4 * (12 - s)), k)
        (ap (λ (n : ℕ). key * 2 ^ (4 * d) % 2 ^ n / 2 ^ (4 * d + m)) w
        ∙ field (key * 2 ^ (4 * d)) (4 * s) (4 * d + m)
        ∙ ap (λ (x : ℕ). x % 2 ^ (4 * s)) (sym (shr-shr (key * 2 ^ (4 * d)) (4 * d) m) ∙ ap (λ (x : ℕ). x / 2 ^ m) (shl-shr key (4 * d)))
        ∙ sym (stored_field s (omega arith) (omega arith)))

    pub shifted : key * 2 ^ (4 * d) % 2 ^ 64 / 2 ^ 16 / 2 ^ (4 * (12 - s)) * 2 ^ (4 * (12 - s)) % 2 ^ 64 ≡ stored_in 16 12 d l key
    shifted =
        rw field_cut
        (shl_exact (4 * s) (4 * (12 - s)) 64 (stored_lt 16 s d l key) (omega arith) ∙ sym (stored_cut s few))

    -- the whole word
    pub packed_at_once : bit_or (bit_or (d * 2 ^ 56 % 2 ^ 64) (l * 2 ^ 48 % 2 ^ 64))
        (key * 2 ^ (4 * d) % 2 ^ 64 / 2 ^ 16 / 2 ^ (4 * (12 - s)) * 2 ^ (4 * (12 - s)) % 2 ^ 64) ≡ header_of d l key
    packed_at_once = packed 16 d l key _ (omega arith) (omega arith) shifted
