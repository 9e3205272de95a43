-- `beside` goes by the first differing digit and by where the walk to it ends. It rests on the laws of puts. Assumes nothing.
use native.Mathlib.Omega.{arith}
use Rattle.placing.proofs.Puts.{beside_same, leaf_at, leaf_apart, node_at, node_apart, few_nodes, gap_there, gap_elsewhere, beside_damaged, Walked}
use Rattle.placing.proofs.beside.Goals as goal
use Rattle.placing.proofs.beside.Goals.{After-walk_to-end}

pub returns-then-f-eq-DIGITS : goal.returns-then-f-eq-DIGITS
returns-then-f-eq-DIGITS c =
    beside_same c.args.pool.now.words.now _ _ _ _ _ c.first_diff-f.ensures c.if-f-eq-DIGITS.true

walked : (c : After-walk_to-end)
    → let a = c.args in
    Walked a.pool.now.words.now a.pool.now.n a.key a.near c.first_diff-f.result c.walk_to-end.result
walked c =
    record { sized = c.args.pool.now.sized; first = c.first_diff-f.ensures; differ = c.if-f-eq-DIGITS.false; walks = c.walk_to-end.ensures }

pub cleft-requires : goal.cleft-requires
cleft-requires c = leaf_at (walked (goal.at.cleft-requires c).After-walk_to-end) c.in-AtLeaf.is

pub returns-in-AtLeaf : goal.returns-in-AtLeaf
returns-in-AtLeaf c = leaf_apart (walked (goal.at.returns-in-AtLeaf c).After-walk_to-end) _ _ c.in-AtLeaf.is c.cleft.ensures

pub returns-in_default-end : goal.returns-in_default-end
returns-in_default-end c = beside_damaged (walked (goal.at.returns-in_default-end c).After-walk_to-end) _ _ c.in_default.not-AtLeaf c.in_default-end.not-Stopped

pub cleft-requires-then-b-f : goal.cleft-requires-then-b-f
cleft-requires-then-b-f c = node_at (walked (goal.at.cleft-requires-then-b-f c).After-walk_to-end) c.in-Stopped.is

pub returns-then-b-f : goal.returns-then-b-f
returns-then-b-f c =
    node_apart (walked (goal.at.returns-then-b-f c).After-walk_to-end) _ _ c.in-Stopped.is c.if-b-f.true
    c.cleft-then-b-f.ensures

pub overflow_add-s : goal.overflow_add-s
overflow_add-s c =
    let h = few_nodes (walked (goal.at.overflow_add-s c).After-walk_to-end) c.in-Stopped.is in
    omega arith

pub returns-then-s-last : goal.returns-then-s-last
returns-then-s-last c =
    gap_elsewhere (walked (goal.at.returns-then-s-last c).After-walk_to-end) _ _ c.in-Stopped.is c.if-b-f.false c.if-s-last.true

pub returns : goal.returns
returns c =
    gap_there (walked (goal.at.returns c).After-walk_to-end) _ _ c.in-Stopped.is c.if-b-f.false c.if-s-last.false
