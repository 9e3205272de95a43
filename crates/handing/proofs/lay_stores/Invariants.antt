use mathlib.Core.Path.{◌≡◌}
use Rattle.handing.specs.Plans.{spared}
use Rattle.handing.proofs.Laws.{written}
use Rattle.handing.proofs.lay_stores.Given as goal

abbrev pub invariant-loop-i : goal.invariant-loop-i
invariant-loop-i l = (l.plan ≡ written 7 23 l.i l.initial.plan (spared l.words) (spared l.values))
