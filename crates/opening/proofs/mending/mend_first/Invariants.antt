use Rattle.std.proofs.Common.{◌≡◌, ℕ, ◌<◌, false}
use Rattle.opening.specs.Openings.{stale}
use Rattle.opening.proofs.mending.mend_first.Given as goal

abbrev pub invariant-loop-j : goal.invariant-loop-j
invariant-loop-j l = (k : ℕ) → k < l.j → stale l.pool.words.now l.pool.n l.map.bytes.now k ≡ false
