use Rattle.std.proofs.Common.{◌≡◌, ◌≤◌}
use Rattle.opening.specs.Openings.{mends, mended}
use Rattle.opening.proofs.mending.mend.Given as goal

abbrev pub invariant-loop-j : goal.invariant-loop-j
invariant-loop-j l = (l.headers ≤ l.j) × (mends l.pool l.headers ≡ mended l.map.n l.map.bytes.now l.j l.initial.pool)
