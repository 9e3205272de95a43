-- `plan_any` lends the first bytes of its working memory, which are all 0. Assumes nothing.
use Rattle.std.proofs.Common.{◌-◌, ◌*◌, arith}
use Rattle.std.proofs.lemmas.List.{take-replicate}
use Rattle.opening.proofs.mending.plan_any.Goals as goal

pub plan_with-requires : goal.plan_with-requires
plan_with-requires c = take-replicate (2 * c.in_ok-pool.pool.n - 1) 2047 0 (omega (arith, c.in_ok-pool.pool.sized.some, c.in_ok-pool.pool.sized.most))
