-- `push_key` puts digits after what is there, the highest first. The loop's invariant: so many of them stand there (`Texts`' `digit_more`). Assumes nothing.
use Rattle.std.proofs.Common.{refl, ap, sym, append-nil, append_assoc, length, length-append, arith}
use Rattle.answers.specs.Numbers.{last_digits}
use Rattle.answers.proofs.Texts.{digit_more}
use Rattle.answers.proofs.push_key.Goals as goal

pub loop-place-init : goal.loop-place-init
unfolding last_digits
loop-place-init c = record { short = omega arith; digits = sym (append-nil c.args.text.now.bytes) }

pub loop-place-preserved : goal.loop-place-preserved
loop-place-preserved c =
    let l = c.loop-place in
    let i = l.invariant in
    let p = c.push.ensures.ascii c.glyph.ensures.ascii in
    record {
      short = omega (arith, simp length-append at (ap length p));
      digits = rw (p, i.digits, append_assoc, c.glyph.ensures.value, digit_more c.args.key l.place _ c.loop-place-test.true refl);
    }
