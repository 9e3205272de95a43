-- `plan_delete` is the plan of what `lay_delete` lays out. Assumes nothing.
use Rattle.std.proofs.Common.{refl, rules}
use Rattle.plan.specs.Plans.{the_switch}
use Rattle.rules.specs.Deletes.{delete_plan}
use Rattle.planning.proofs.plan_delete.Goals as goal

pub returns : goal.returns
returns c =
    let a = c.args in
    c.plan_for.ensures (delete_plan a.pool.now a.key) the_switch refl (λ n k h. search rules) (λ r σ h. search rules)
