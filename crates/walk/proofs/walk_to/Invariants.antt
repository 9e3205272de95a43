use mathlib.Core.Path.{◌≡◌}
use Prim.Native.Nat.{◌-◌}
use Rattle.walk.specs.Walks.{past, walk_from, walk_to}
use Rattle.walk.specs.Ends.{Inside}
use Rattle.walk.proofs.walk_to.Given as goal

abbrev pub invariant-loop-j : goal.invariant-loop-j
invariant-loop-j l = Inside l.pool.words.now l.pool.n l.stop l.s × (walk_from 17 l.pool.words.now l.pool.n l.key (past l.stop) l.s ≡ walk_to l.pool.words.now l.pool.n l.key l.stop)

abbrev pub decreases-loop-j : goal.decreases-loop-j
decreases-loop-j l = 16 - l.s.depth
