use mathlib.Core.Path.{◌≡◌}
use lib.ListN.{drop}
use Rattle.handing.proofs.Laws.{copied}
use Rattle.handing.proofs.taken_in.Given as goal

abbrev pub invariant-loop-i : goal.invariant-loop-i
invariant-loop-i l = (l.words ≡ copied l.i (drop 7 l.plan) l.initial.words) × (l.values ≡ copied l.i (drop 30 l.plan) l.initial.values)
