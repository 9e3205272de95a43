-- `plan_put` is the plan of what `lay_put` lays out. Assumes nothing.
use Rattle.std.proofs.Common.{refl, rules}
use Rattle.plan.specs.Plans.{all_but_last}
use Rattle.rules.specs.Puts.{put_plan}
use Rattle.planning.proofs.plan_put.Goals as goal

pub returns : goal.returns
returns c =
    let a = c.args in
    c.plan_for.ensures (put_plan a.pool.now a.map.now a.key a.value) all_but_last refl (λ n k h. search rules) (λ r σ h. search rules)
