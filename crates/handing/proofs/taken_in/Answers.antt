-- `taken_in` reads a word number and a value each turn. The invariant: so many of both are read. Assumes nothing.
use Rattle.std.proofs.Common.{ℕ, List, replicate, arith}
use Rattle.handing.proofs.Laws.{taken_next}
use Rattle.handing.proofs.taken_in.Goals as goal

pub loop-i-preserved : goal.loop-i-preserved
loop-i-preserved c =
    let p : List ℕ = c.args.plan.now in (
      rw c.loop-i.invariant.0 (taken_next 7 c.loop-i.i p (replicate 21 0) (omega arith) (omega arith)),
      rw c.loop-i.invariant.1 (taken_next 30 c.loop-i.i p (replicate 21 0) (omega arith) (omega arith)),
    )
