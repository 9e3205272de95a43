-- `flatten` changes the bytes one by one: those before the mark are flat, the others as they were. Assumes nothing.
use Rattle.std.proofs.Common.{◌≡◌, get_or, arith}
use Rattle.opening.specs.Openings.{reached}
use Rattle.opening.proofs.Openings.{changed_next}
use Rattle.opening.proofs.mending.flatten.Goals as goal

pub loop-mark-preserved : goal.loop-mark-preserved
loop-mark-preserved c =
    let l = c.loop-mark in
    let flat : c.from.result ≡ reached (get_or l.map l.mark-index 0) = grind arith in
    changed_next reached c.args.map.now l.mark-index l.invariant (omega arith) flat
