use Rattle.std.proofs.Common.{◌≡◌}
use Rattle.digits.specs.Loops.{tally}
use Rattle.walk.specs.Walks.{is_child}
use Rattle.walk.proofs.children.Given as goal

abbrev pub invariant-loop-r : goal.invariant-loop-r
invariant-loop-r l = l.count ≡ tally l.r-index (is_child l.pool.words.now l.pool.n l.j)
