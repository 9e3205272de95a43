-- Document 02, (i), of the quick lookup: "On every sound pool, stale nodes included, it gives the same code and value as the plain one; its node count, and
-- its answer on unsound pools, follow its own walk." The second half is its promise, for every pool.
-- Assumes nothing.
use Rattle.std.specs.Prelude.{◌≡◌, List, ℕ, ◌≤◌}
use Rattle.finding.specs.Lookups.{lookup_of, quick_of}
use Rattle.survey.specs.Soundness.{Sound}

pub record AsLookup : Type 0 where
  pub same : (pool : List ℕ) → Sound pool → (k : ℕ) → ((quick_of pool k).number ≡ (lookup_of pool k).number) × ((quick_of pool k).value ≡ (lookup_of pool k).value)
  -- and on every pool it counts no more nodes
  pub fewer : (pool : List ℕ) (k : ℕ) → (quick_of pool k).nodes ≤ (lookup_of pool k).nodes
