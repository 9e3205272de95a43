use mathlib.Core.Path.{◌≡◌}
use mathlib.Core.Bool.{Bool, not}
use Prim.Native.Nat.{◌-◌}
use lib.Dec.{eqb}
use Rattle.finding.proofs.Lookups.{answer_of, walked, Comes}
use Rattle.finding.proofs.find.Given as goal

abbrev pub invariant-loop-x : goal.invariant-loop-x
invariant-loop-x g l =
    let quick : Bool = not (eqb g.row.QUICK 0) in
    Comes l.pool.words.now l.pool.n l.key quick l.x l.w l.nodes
    × (walked quick l.pool.words.now l.pool.n l.key ≡ answer_of quick l.words l.key)

abbrev pub decreases-loop-x : goal.decreases-loop-x
decreases-loop-x g l = 16 - l.w
