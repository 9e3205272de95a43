-- `delete` makes stores that lie inside the pool. Assumes nothing.
use Rattle.std.proofs.Common.{◌≡◌, rules}
use Rattle.removing.specs.Removals.{removed_by}
use Rattle.rules.specs.Deletes.{delete_plan}
use Rattle.writing.proofs.Makings.{delete_fitting}
use Rattle.writing.proofs.calls.delete.Goals as goal

pub remove-requires : goal.remove-requires
unfolding delete_plan
remove-requires c =
    let e : removed_by c.in_ok-removal.removal ≡ delete_plan c.args.pool.now c.args.key = search rules in
    delete_fitting c.args.pool.now c.args.key e
