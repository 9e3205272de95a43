-- `set_value` stores the value in its place. Assumes nothing.
use borrow.Author.Rules.{rules}
use Rattle.plan.proofs.LaidOut.{laid_valued, is_laid_valued}
use Rattle.plan.proofs.laid.Stores.set_value.Goals as goal

pub invariant_of-self : goal.invariant_of-self
invariant_of-self g c = is_laid_valued c.self.invariant _ _ (search rules)

pub returns : goal.returns
returns g c = rw (← c.self.view_is) (laid_valued c.self.invariant _ _)
