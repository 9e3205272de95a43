use mathlib.Core.Path.{◌≡◌}
use Prim.Native.Nat.{◌-◌, ◌≤◌}
use Rattle.walk.specs.Walks.{lowest_from, lowest_of}
use Rattle.walk.proofs.lowest_leaf.Given as goal

abbrev pub invariant-loop-j : goal.invariant-loop-j
invariant-loop-j l = (l.depth ≤ 16) × (lowest_from 17 l.pool.words.now l.pool.n l.depth l.at l.x ≡ lowest_of l.pool.words.now l.pool.n l.w l.word l.r)

abbrev pub decreases-loop-j : goal.decreases-loop-j
decreases-loop-j l = 16 - l.depth
