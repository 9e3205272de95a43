-- `plan` hands on the two lists as they are. Assumes nothing.
use Rattle.plan.proofs.LaidOut.{plan_laid}
use Rattle.plan.proofs.laid.Stores+value.plan.Goals as goal

pub returns : goal.returns
returns c = rw (← c.self.view_is) (plan_laid c.self.invariant _ _)
