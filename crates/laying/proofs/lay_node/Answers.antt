-- `lay_node` lays out the header, at each turn one empty child more, and gives two of them. Assumes nothing.
use Rattle.std.proofs.Common.{◌≡◌, ◌+◌, length, length-append, rules, arith, append_assoc, ap, ◌∙◌}
use Rattle.tree.specs.Stores.{block, tab}
use Rattle.plan.proofs.LaidOut.{length_valued}
use Rattle.laying.proofs.Blocks.{block_more, child_given}
use Rattle.laying.proofs.lay_node.Goals as goal

pub loop-c-init : goal.loop-c-init
unfolding block tab
loop-c-init g c = search rules

pub loop-c-preserved : goal.loop-c-preserved
loop-c-preserved g c =
    let more = block_more (c.args.word + 1) c.loop-c.c (λ i. 0) in
    record {
      stores = rw (c.push-in-loop-c.ensures, c.loop-c.invariant.stores, append_assoc, more);
      count = omega (arith, rw length-append at (ap length c.push-in-loop-c.ensures));
    }

pub set_value-requires-2 : goal.set_value-requires-2
set_value-requires-2 g c =
    let a = rw length_valued at (ap length c.set_value.ensures) in
    search rules

pub returns : goal.returns
unfolding block
returns g c =
    let a = c.args in
    let n : c.loop-c.c ≡ 16 = omega arith in
    let first = rw c.len-first.ensures at c.set_value.ensures in
    let then = rw c.len-first.ensures at c.set_value-2.ensures in
    let one = child_given c.push.new.self (a.word + 1) (λ i. 0) _ _ (rw n at c.loop-c.invariant.stores) in
    let both = child_given c.push.new.self (a.word + 1) _ _ _ (first ∙ one) in
    rw (c.digit.ensures, c.digit-2.ensures, c.leaf_ref.ensures, c.push.ensures, c.pack.ensures, append_assoc) at (then ∙ both)
