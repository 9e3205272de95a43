-- `make` makes the stores that are laid out by the one loop. Assumes nothing.
use mathlib.Core.Path.{◌∙◌}
use Rattle.plan.proofs.LaidOut.{makes_laid}
use Rattle.plan.proofs.laid.Stores.make.Goals as goal

pub returns : goal.returns
returns g c = c.make.ensures ∙ rw (← c.self.view_is) (makes_laid c.self.invariant _)
