-- The plain table from name number to file number, and what it means that a pool reads as one.
-- Assumes nothing.
use Rattle.std.specs.Prelude.{◌≡◌, List, ℕ, ◌<◌, eqb, length, Option, None, Some}
use Rattle.digits.specs.Choice.{pick}
use Rattle.tree.specs.Listing.{Entry, Rising, look}
use Rattle.pool.specs.Sizes.{bytes_of}
use Rattle.pool.specs.Places.{word_at}
use Rattle.finding.specs.Lookups.{lookup_of, quick_of, Finds}
use Rattle.listing.specs.Listings.{list_of}
use Rattle.listing.specs.Rows.{up_from, shown_rows, Word}
use Rattle.survey.specs.Soundness.{InUse}

-- "a plain table from name number to file number": the file number of each name that it holds
abbrev pub Table : Type 0
Table = ℕ → Option ℕ

-- the table that holds nothing, and a table with one name given a file number, or taken out
abbrev pub blank : Table
blank k = None

abbrev pub given : ℕ → ℕ → Table → Table
given k v T k' = pick (eqb k' k) (Some v) (T k')

abbrev pub without : ℕ → Table → Table
without k T k' = pick (eqb k' k) None (T k')

-- the table written as a list: its names rising, each with its file number
pub record Rows (T : Table) (rows : List (Entry ℕ)) : Type 0 where
  pub rising : Rising rows
  pub same : (k : ℕ) → look k rows ≡ T k

-- the names of a table are 64-bit numbers
abbrev pub Names : Table → Type 0
Names T = (k v : ℕ) → T k ≡ Some v → Word k

-- lookup, by the plain way and by the quick one, and listing answer as the table, for every name, every start and every two buffers of one length that is not 0
pub record Reads (pool : List ℕ) (T : Table) : Type 0 where
  pub lookup : (k : ℕ) → Finds (T k) (lookup_of pool k)
  pub quick : (k : ℕ) → Finds (T k) (quick_of pool k)
  pub rows : List (Entry ℕ)
  pub written : Rows T rows
  pub listing : (from : ℕ) (ks vs : List ℕ) → (length ks ≡ 0 → ⊥) → length ks ≡ length vs
      → list_of pool from ks vs ≡ shown_rows (up_from from rows) ks vs

-- "a map that marks just the slots in use": a byte is not 0 exactly if its slot is reached
pub record Exact (pool : List ℕ) (n : ℕ) (bytes : List ℕ) : Type 0 where
  pub size : length bytes ≡ bytes_of n
  pub taken : (x : ℕ) → x < bytes_of n → (word_at bytes x ≡ 0 → ⊥) → InUse pool n x
  pub kept : (x : ℕ) → x < bytes_of n → InUse pool n x → word_at bytes x ≡ 0 → ⊥
