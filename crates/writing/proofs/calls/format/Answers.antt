-- `format` judges sizes, then stores word 1, word 0 and the map. Assumes nothing.
use Rattle.std.proofs.Common.{rules}
use Rattle.std.proofs.lemmas.List.{length-set}
use Rattle.pool.proofs.Sizes.{size_fits}
use Rattle.writing.proofs.calls.format.Goals as goal

pub bounds-pool-0 : goal.bounds-pool-0
bounds-pool-0 c = simp length-set (search (rules, size_fits))
