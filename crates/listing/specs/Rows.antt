-- What a listing says of a table that is written as a list of rows.
-- Assumes nothing.
use Rattle.std.specs.Prelude.{List, [], ◌∷◌, ◌++◌, map, ℕ, ◌^◌, ◌<◌, ltb, length, take, drop}
use Rattle.digits.specs.Choice.{pick}
use Rattle.tree.specs.Listing.{Entry}
use Rattle.pool.specs.Places.{word_at}
use Rattle.listing.specs.Listings.{Shown, shown, listed}

-- the rows with a name at or above a given one
unfoldable pub up_from : ℕ → List (Entry ℕ) → List (Entry ℕ)
up_from from [] = []
up_from from (e ∷ rows) = pick (ltb e.key from) (up_from from rows) (e ∷ up_from from rows)

-- a buffer with entries at its front, the others as they were
abbrev pub front : List ℕ → List ℕ → List ℕ
front new old = new ++ drop (length new) old

-- as many rows as the buffers hold, and whether there is a further one
unfoldable pub shown_rows : List (Entry ℕ) → List ℕ → List ℕ → Shown
shown_rows rows ks vs =
    shown (front (map (λ (e : Entry ℕ). e.key) (take (length ks) rows)) ks)
    (front (map (λ (e : Entry ℕ). e.value) (take (length ks) rows)) vs)
    (listed 0 (length (take (length ks) rows)) (ltb (length ks) (length rows)))

-- a name number is a 64-bit number, and so is every word of a pool
abbrev pub Word : ℕ → Type 0
Word x = x < 2 ^ 64

abbrev pub Words : List ℕ → Type 0
Words pool = (i : ℕ) → Word (word_at pool i)
