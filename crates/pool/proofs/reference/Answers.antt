-- `reference` is decided by its ranges. Assumes nothing.
use mathlib.Core.Path.{◌≡◌, refl, sym}
use mathlib.Core.Bool.{Bool, true, false}
use Prim.Native.Nat.{◌<◌, ◌≤◌}
use native.Mathlib.Omega.{arith}
use borrow.Author.Tests.{eq-eqb, ne_eqb, le-leb, lt-leb, lt-ltb, le-ltb}
use lib.Dec.{leb}
use Rattle.digits.specs.Choice.{pick}
use Rattle.pool.specs.declared.Ref.TheVariants.{Bad}
use Rattle.pool.specs.Refs.{ref_of}
use Rattle.pool.proofs.reference.Goals as goal

-- damage, whether below 2048 or not
either : (t : Bool) → pick t Bad Bad ≡ Bad
either true = refl
either false = refl

pub returns-in-0 : goal.returns-in-0
unfolding ref_of
returns-in-0 c = (simp (eq-eqb _ _ c.in-0.is), tt)

pub returns-then-i-n : goal.returns-then-i-n
unfolding ref_of
returns-then-i-n c =
    let r = c.args.r in
    let some : r ≡ 0 → ⊥ = λ e. omega (arith, e) in
    let low : r ≤ 1024 = omega arith in
    (simp (ne_eqb r 0 some, le-leb r 1024 low, lt-ltb _ _ c.if-i-n.true), c.if-i-n.true)

pub returns-else-i-n : goal.returns-else-i-n
unfolding ref_of
returns-else-i-n c =
    let r = c.args.r in
    let some : r ≡ 0 → ⊥ = λ e. omega (arith, e) in
    let low : r ≤ 1024 = omega arith in
    (simp (ne_eqb r 0 some, le-leb r 1024 low, le-ltb _ _ c.if-i-n.false), tt)

pub returns-then-j-n : goal.returns-then-j-n
unfolding ref_of
returns-then-j-n c =
    let r = c.args.r in
    let some : r ≡ 0 → ⊥ = λ e. omega (arith, e) in
    let high : 1024 < r = omega arith in
    let low : r ≤ 2047 = omega (arith, c.requires) in
    (simp (ne_eqb r 0 some, lt-leb r 1024 high, le-leb r 2047 low, lt-ltb _ _ c.if-j-n.true), c.if-j-n.true)

pub returns-else-j-n : goal.returns-else-j-n
unfolding ref_of
returns-else-j-n c =
    let r = c.args.r in
    let some : r ≡ 0 → ⊥ = λ e. omega (arith, e) in
    let high : 1024 < r = omega arith in
    (simp (ne_eqb r 0 some, lt-leb r 1024 high, le-ltb _ _ c.if-j-n.false) (sym (either (leb r 2047))), tt)
