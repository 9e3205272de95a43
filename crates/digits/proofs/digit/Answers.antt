-- `digit` is the key's digit: a shift and a mask. Assumes nothing.
use Rattle.std.proofs.Common.{◌≡◌, ℕ, suc, ◌-◌, ◌*◌, ◌/◌, ◌%◌, ◌^◌, ap, sym, ◌∙◌, arith}
use native.Mathlib.Nat.{div-one}
use lib.Bits.{and_mask}
use Rattle.digits.proofs.digit.Goals as goal

pub returns-then-k-ge-LAST : goal.returns-then-k-ge-LAST
returns-then-k-ge-LAST c =
    let a = c.args in
    let e : 4 * (16 - suc a.k) ≡ 0 = omega arith in
    and_mask _ 4 ∙ ap (λ (x : ℕ). x % 16) (sym (div-one a.key) ∙ ap (λ (x : ℕ). a.key / 2 ^ x) (sym e))
