use Rattle.std.proofs.Common.{◌≡◌}
use Rattle.opening.specs.Openings.{keys_of}
use Rattle.opening.proofs.mending.keys.Given as goal

abbrev pub invariant-loop-mark : goal.invariant-loop-mark
invariant-loop-mark l = l.count ≡ keys_of l.mark-index l.map.bytes.now
