-- `beside_empty`: the root is empty, or the key goes beside the lowest leaf of the walk's last node. Assumes nothing.
use native.Mathlib.Omega.{arith}
use Rattle.digits.proofs.Digits.{first_diff_le}
use Rattle.std.proofs.lemmas.Result.{err_from_is_err_and}
use Rattle.placing.proofs.Puts.{root_empty, no_key_below, key_below, gap_below}
use Rattle.placing.proofs.beside_empty.Goals as goal

pub returns-then-s-eq0 : goal.returns-then-s-eq0
returns-then-s-eq0 c = root_empty c.args.pool.now.words.now _ _ c.args.s c.if-s-eq0.true

pub returns-in_err-near : goal.returns-in_err-near
returns-in_err-near c =
    let p = err_from_is_err_and c.from_residual.result c.from_residual.ensures.1 in
    rw (p.1, p.2) (no_key_below c.args.pool.now.words.now _ _ c.args.s c.if-s-eq0.false c.lowest_leaf.ensures c.in_err-near.was)

pub overflow_add-first_diff : goal.overflow_add-first_diff
overflow_add-first_diff c =
    omega (arith, c.first_diff.ensures, first_diff_le c.args.key c.in_ok-near.near 16)

pub returns-then-first_diff-s : goal.returns-then-first_diff-s
returns-then-first_diff-s c =
    gap_below c.args.pool.now.words.now _ _ c.args.s c.if-s-eq0.false c.lowest_leaf.ensures c.args.pool.now.sized c.requires.0 c.requires.3
    c.in_ok-near.was c.first_diff.ensures c.if-first_diff-s.true

pub returns : goal.returns
returns c =
    key_below c.args.pool.now.words.now _ _ c.args.s c.if-s-eq0.false c.lowest_leaf.ensures c.in_ok-near.was c.beside.ensures
