-- `put` makes stores that lie inside the pool. Assumes nothing.
use Rattle.std.proofs.Common.{◌≡◌, rules}
use Rattle.placing.specs.Leads.{plan_at}
use Rattle.rules.specs.Puts.{put_plan}
use Rattle.writing.proofs.Makings.{put_fitting}
use Rattle.writing.proofs.calls.put.Goals as goal

pub put_at-requires : goal.put_at-requires
unfolding put_plan
put_at-requires c =
    let a = c.args in
    let e : plan_at a.map.now c.in_ok-read.read.n a.key a.value c.in_ok-place.place ≡ put_plan a.pool.now a.map.now a.key a.value = search rules in
    (search rules, search rules, put_fitting a.pool.now a.map.now a.key a.value e)
