-- `mend_node` makes the definition's store by the one loop, where the node is stale. It rests on the law that stores inside the pool are made.
-- Assumes nothing.
use Rattle.std.proofs.Common.{refl, ◌∙◌, arith}
use Rattle.plan.specs.Plans.{makes_of}
use Rattle.opening.proofs.Openings.{stale_some, mend_done}
use Rattle.opening.proofs.mending.mend_node.Goals as goal

pub returns-in_default-fresh_header : goal.returns-in_default-fresh_header
unfolding makes_of
returns-in_default-fresh_header c =
    let a = c.args in
    let m = a.map.now in
    let s = stale_some a.pool.now m.n m.bytes.now a.j c.in-Some.ensures in
    let none = rw c.in_default-fresh_header.is at c.fresh_header.ensures in
    mend_done m.n m.bytes.now a.j a.pool.now refl s.0 s.1 (omega (arith, c.requires.0.words, c.requires.1)) none refl

pub returns : goal.returns
returns c =
    let a = c.args in
    let m = a.map.now in
    let s = stale_some a.pool.now m.n m.bytes.now a.j c.in-Some.ensures in
    let one = rw c.in-Some-fresh_header.is at c.fresh_header.ensures in
    let laid = rw (c.new-stores.ensures, c.node_word.ensures) at c.push.ensures in
    mend_done m.n m.bytes.now a.j a.pool.now refl s.0 s.1 (omega (arith, c.requires.0.words, c.requires.1)) (laid ∙ one) c.make.ensures
