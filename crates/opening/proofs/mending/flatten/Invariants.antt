use mathlib.Core.Path.{◌≡◌}
use Rattle.opening.specs.Openings.{reached}
use Rattle.opening.proofs.Openings.{changed}
use Rattle.opening.proofs.mending.flatten.Given as goal

abbrev pub invariant-loop-mark : goal.invariant-loop-mark
invariant-loop-mark l = l.map ≡ changed reached l.mark-index l.initial.map
