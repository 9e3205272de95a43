-- `push_fields` puts fields after what is there. The loop's invariant: what is there, before the fields still to come, is the whole text (`Texts`' `field_more`, `field_done`). Assumes nothing.
use Rattle.std.proofs.Common.{ap, length, length-append, ◌∙◌, arith}
use Rattle.answers.proofs.Texts.{field_more, field_done}
use Rattle.answers.proofs.push_fields.Goals as goal

pub loop-number-preserved : goal.loop-number-preserved
loop-number-preserved c =
    let numbers = c.args.numbers.now in
    let l = c.loop-number in
    let p = c.push.ensures.ascii (omega arith) in
    let f = c.type_inv.numbers l.number-index in
    record {
      short = omega (arith, simp length-append at (ap length p));
      whole = field_more numbers _ l.text.bytes _ _ _ _ l.number-index c.loop-number-test.true (omega (arith, f)) p c.format.ensures.text
          c.push_str.ensures.bytes l.invariant.whole;
    }

pub returns : goal.returns
returns c = let l = c.loop-number in
    c.push-2.ensures.ascii (omega arith) ∙ field_done c.args.numbers.now _ l.text.bytes _ l.number-index c.loop-number-test.false l.invariant.whole
