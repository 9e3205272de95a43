-- `read_full` reads into what is still free of its buffer. Assumes nothing.
use Rattle.std.proofs.Common.{◌≤◌, length}
use Rattle.scripts.proofs.read_full.Given as goal

abbrev pub invariant-loop-source : goal.invariant-loop-source
invariant-loop-source g l = length l.free ≤ l.len

abbrev pub decreases-loop-source : goal.decreases-loop-source
decreases-loop-source g l = length l.free
