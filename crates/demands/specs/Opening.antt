-- What an opening that answers 0 leaves, whatever the pool was: "Open checks soundness of the whole pool first .. then rewrites each stale header .. A map
-- byte is then 1 exactly if its slot is reached. It answers the number of keys and of headers rewritten."
-- Assumes nothing.
use Rattle.std.specs.Prelude.{◌≡◌, List, [], ℕ, ◌≤◌, ◌<◌, length}
use Rattle.pool.specs.Sizes.{bytes_of}
use Rattle.pool.specs.Places.{word_at}
use Rattle.survey.specs.Soundness.{Sound, Straight}
use Rattle.opening.specs.Openings.{open_plan, open_of, open_steps}
use Rattle.demands.specs.Tables.{Table, Names, Reads, Exact}

pub record Restored (pool bytes : List ℕ) : Type 0 where
  pub before : Sound pool
  -- "A sound pool without stale nodes is straight."
  pub after : Straight (open_of pool bytes).pool
  pub exact : Exact (open_of pool bytes).pool before.n (open_of pool bytes).map
  -- the names and file numbers are those of before
  pub same : (T : Table) → Reads pool T → Reads (open_of pool bytes).pool T
  -- "we write 0 and 1"
  pub bits : (x : ℕ) → word_at (open_of pool bytes).map x ≤ 1
  -- "A planning call answers the first such store as a plan, or a plan of none; open makes just these in turn": as many as headers are rewritten, one each
  pub steps : (open_of pool bytes).pool ≡ open_steps (open_of pool bytes).answer.headers pool
  pub each : (k : ℕ) → k < (open_of pool bytes).answer.headers → length (open_plan (open_steps k pool)).stores ≡ 1
  pub again : (open_plan (open_of pool bytes).pool).stores ≡ []
  -- the keys are the names that are held
  pub keys : (T : Table) → Names T → (r : Reads pool T) → (open_of pool bytes).answer.keys ≡ length r.rows

-- an opening answers 0 on sound pools, and on no others
pub record Opens : Type 0 where
  pub restores : (pool bytes : List ℕ) → (open_of pool bytes).answer.number ≡ 0 → Restored pool bytes
  pub accepts : (pool bytes : List ℕ) (s : Sound pool) → length bytes ≡ bytes_of s.n → (open_of pool bytes).answer.number ≡ 0
