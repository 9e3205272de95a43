-- "2. On a sound pool, with a map that marks just the slots in use, lookup, put, delete and listing answer as a plain table from name number
-- to file number, and each makes exactly the 8-byte stores the rules list, in that order. A new name is refused for room exactly when all N
-- places are held."
-- Assumes nothing.
use Rattle.std.specs.Prelude.{◌≡◌, ◌≢◌, List, ℕ, length, None, Some}
use Rattle.plan.specs.Plans.{made}
use Rattle.rules.specs.Puts.{put_plan}
use Rattle.rules.specs.Deletes.{delete_plan}
use Rattle.writing.specs.Calls.{Left, put_of, delete_of}
use Rattle.survey.specs.Soundness.{Sound}
use Rattle.listing.specs.Rows.{Word, Words}
use Rattle.demands.specs.Tables.{Table, given, without, Names, Reads, Exact}

-- a sound pool with an exact map, and the table of names that it reads as
pub record Reading (pool map : List ℕ) (T : Table) : Type 0 where
  pub sound : Sound pool
  pub names : Names T
  pub exact : Exact pool sound.n map
  pub reads : Reads pool T

-- a call that is done: 0, the stores of its plan in their order, and the pool and map read as the changed table
pub record Done (pool map : List ℕ) (T : Table) (stores : ℕ) (after : List ℕ) (left : Left) : Type 0 where
  pub number : left.done.number ≡ 0
  pub count : left.done.stores ≡ stores
  pub stored : left.pool ≡ after
  pub reading : Reading left.pool left.map T

-- a call that is refused with a number: nothing is changed
pub record Refused (pool map : List ℕ) (number : ℕ) (left : Left) : Type 0 where
  pub same_number : left.done.number ≡ number
  pub none : left.done.stores ≡ 0
  pub same_pool : left.pool ≡ pool
  pub same_map : left.map ≡ map

-- all N places are held and the name is new
abbrev pub Full : (pool map : List ℕ) (T : Table) → Reading pool map T → ℕ → Type 0
Full pool map T r k = (T k ≡ None) × (length r.reads.rows ≡ r.sound.n)

pub record Demand2 (pool map : List ℕ) (T : Table) (r : Reading pool map T) : Type 0 where
  -- put: 02 (x): "Puts of file number 0 are refused, for new and held keys alike."
  pub put_retired : (k : ℕ) → Word k → Refused pool map 7 (put_of pool map k 0)
  -- "Demand 2's room clause and number 4 speak of the other puts": refused with 4 where all N places are held and the name is new, else done
  pub put_full : (k v : ℕ) → Word k → v ≢ 0 → Full pool map T r k → Refused pool map 4 (put_of pool map k v)
  pub put_done : (k v : ℕ) → Word k → v ≢ 0 → (Full pool map T r k → ⊥)
      → Done pool map (given k v T) (length (put_plan pool map k v).stores) (made (put_plan pool map k v).stores pool) (put_of pool map k v)
  -- delete: refused with 3 where the name is not held, else done
  pub delete_absent : (k : ℕ) → Word k → T k ≡ None → Refused pool map 3 (delete_of pool map k)
  pub delete_done : (k v : ℕ) → Word k → T k ≡ Some v
      → Done pool map (without k T) (length (delete_plan pool k).stores) (made (delete_plan pool k).stores pool) (delete_of pool map k)

-- every sound pool with an exact map reads as some table (lookup and listing answer as it), and put and delete answer as it
abbrev pub Demand2Holds : Type 0
Demand2Holds =
    ((pool map : List ℕ) (s : Sound pool) → Words pool → Exact pool s.n map → (T : Table) × Reading pool map T)
    × ((pool map : List ℕ) (T : Table) (r : Reading pool map T) → Demand2 pool map T r)
