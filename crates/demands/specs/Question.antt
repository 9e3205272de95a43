-- The auditor's question: "Is every name in the listing still openable, and is every openable name in the listing?"
-- Assumes nothing.
use Rattle.std.specs.Prelude.{◌≡◌, ◌↔◌, ◌⊎◌, List, ℕ, ◌≤◌, ◌<◌, length, Option}
use Rattle.pool.specs.Places.{word_at}
use Rattle.finding.specs.Lookups.{Answer, LookupGives, QuickGives}
use Rattle.listing.specs.Listings.{Shown, ListGives}
use Rattle.demands.specs.Tables.{Table}
use Rattle.demands.specs.Demand3.{Generation, Any, Reach}

-- name k is listed, with file number v; name k opens file number v
abbrev pub InListing : Shown → ℕ → ℕ → Type 0
InListing s k v = (i : ℕ) × (i < s.answer.count) × (word_at s.keys i ≡ k) × (word_at s.values i ≡ v)

abbrev pub Openable : Answer → ℕ → Type 0
Openable a v = (a.number ≡ 0) × (a.value ≡ v)

-- in every state that is reached, with buffers that hold the whole pool: a name is listed if and only if lookup, plain or quick, opens it, with the
-- same file number
abbrev pub ListedIffOpenable : Generation → Type 0
ListedIffOpenable g =
    (n : ℕ) (pool : List ℕ) (map : Option (List ℕ)) (T : Table) → Reach Any g n pool map T → (ks vs : List ℕ) → n ≤ length ks → length ks ≡ length vs
    → (s : Shown) → ListGives pool 0 ks vs s → (k v : ℕ) (a : Answer) → LookupGives pool k a ⊎ QuickGives pool k a → InListing s k v ↔ Openable a v
