-- `beside_leaf`: the leaf's key is the put's, or another: then the leaf is split off where it stands, or the second walk finds what is split.
-- Assumes nothing.
use Rattle.placing.proofs.Puts.{beside_same, key_held, key_other, leaf_apart_here}
use Rattle.placing.proofs.beside_leaf.Goals as goal

pub returns-then-near-key : goal.returns-then-near-key
returns-then-near-key c =
    key_held c.args.pool.now.words.now _ c.requires.1 c.leaf_key-near.ensures c.if-near-key.true

pub returns-then-f-eq-DIGITS : goal.returns-then-f-eq-DIGITS
returns-then-f-eq-DIGITS c =
    key_other c.args.pool.now.words.now _ c.requires.1 c.leaf_key-near.ensures c.if-near-key.false
    (beside_same c.args.pool.now.words.now _ _ 0 0 _ c.first_diff-f.ensures c.if-f-eq-DIGITS.true)

pub returns-then-s-f : goal.returns-then-s-f
returns-then-s-f c =
    leaf_apart_here c.args.pool.now.words.now _ c.requires.1 c.leaf_key-near.ensures c.args.pool.now.sized c.if-near-key.false c.requires.0
    c.first_diff-f.ensures
    c.if-f-eq-DIGITS.false c.if-s-f.true c.cleft.ensures

pub returns : goal.returns
returns c =
    key_other c.args.pool.now.words.now _ c.requires.1 c.leaf_key-near.ensures c.if-near-key.false c.beside.ensures
