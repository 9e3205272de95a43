-- `children` counts as `tally` does: the count is that of the children passed. Assumes nothing.
use Rattle.std.proofs.Common.{◌≡◌, ◌∙◌, refl, ap, sym, length, ◌+◌, arith}
use Rattle.digits.specs.Loops.{tally}
use Rattle.walk.specs.Walks.{is_child}
use Rattle.walk.proofs.Loops.{tally_le}
use Rattle.walk.proofs.Places.{sixteen, counted_on}
use Rattle.walk.proofs.children.Goals as goal

pub loop-r-init : goal.loop-r-init
unfolding tally
loop-r-init c = refl

pub overflow_add-count : goal.overflow_add-count
overflow_add-count c =
    let p = c.args.pool.now in
    let l = rw c.children-r-items.ensures at c.loop-r-test.true in
    let e = rw c.children-r-items.ensures at c.from-count.ensures in
    omega (arith, e, counted_on p.sized c.args.j c.requires c.loop-r.r-index l, tally_le (is_child p.words.now p.n c.args.j) (c.loop-r.r-index + 1), sixteen p.sized c.args.j c.requires)

pub loop-r-preserved : goal.loop-r-preserved
loop-r-preserved c =
    let p = c.args.pool.now in
    let l = rw c.children-r-items.ensures at c.loop-r-test.true in
    let e = rw c.children-r-items.ensures at c.from-count.ensures in
    rw (c.loop-r.invariant, e) (sym (counted_on p.sized c.args.j c.requires c.loop-r.r-index l))

pub returns : goal.returns
returns c =
    let p = c.args.pool.now in
    let all : c.loop-r.r-index ≡ 16 = omega (arith, sixteen p.sized c.args.j c.requires, ap length c.children-r-items.ensures) in
    c.loop-r.invariant ∙ ap (λ i. tally i (is_child p.words.now p.n c.args.j)) all
