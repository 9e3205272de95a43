-- `accept` judges a header word by the walk's three rules, of which two are one test: no length over 15 leaves a b of 15 or less.
-- Assumes nothing.
use mathlib.Core.Path.{sym}
use native.Mathlib.Omega.{arith}
use borrow.Author.Rules.{rules}
use borrow.Author.Tests.{lt-ltb, le-ltb}
use Rattle.walk.specs.Walks.{head_of}
use Rattle.walk.proofs.Heads.{too_deep}
use Rattle.walk.proofs.accept.Goals as goal

pub returns-then-depth-w : goal.returns-then-depth-w
unfolding head_of
returns-then-depth-w c =
    let u = c.unpack-depth.ensures in
    (simp (← u.0, lt-ltb _ _ c.if-depth-w.true), tt)

pub returns-then-b-gt15 : goal.returns-then-b-gt15
returns-then-b-gt15 c =
    let u = c.unpack-depth.ensures in
    (sym (too_deep _ _ (omega (arith, u.0, u.1))), tt)

pub returns : goal.returns
unfolding head_of
returns c =
    let h = c.unpack-depth.result in
    let u = c.unpack-depth.ensures in
    (simp (← u.0, ← u.1, le-ltb _ _ c.if-depth-w.false, le-ltb 15 h.length (omega arith), le-ltb _ _ c.if-b-gt15.false), search rules)
