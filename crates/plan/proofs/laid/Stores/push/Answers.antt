-- `push` lays out one store more. Assumes nothing.
use borrow.Author.Rules.{rules}
use Rattle.plan.proofs.LaidOut.{laid_more, is_laid_more}
use Rattle.plan.proofs.laid.Stores.push.Goals as goal

pub invariant_of-self : goal.invariant_of-self
invariant_of-self g c = is_laid_more c.self.invariant (search rules) _ _

pub returns : goal.returns
returns g c = rw (← c.self.view_is) (laid_more c.self.invariant (search rules) _ _)
