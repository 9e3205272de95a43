-- 02 (x), by computation: "Puts of file number 0 are refused, for new and held keys alike. Such entries in existing pools are still found, listed, replaced,
-- deleted and opened. .. Refusals: 7, after 1 and before 2."
-- Assumes nothing.
use Rattle.std.specs.Prelude.{Bool, List, [], ◌∷◌, ℕ, eqb, replicate}
use Rattle.finding.specs.Lookups.{lookup_of}
use Rattle.listing.specs.Listings.{Shown, list_of}
use Rattle.rules.specs.Puts.{put_plan}
use Rattle.writing.specs.Calls.{Left, put_of, delete_of}
use Rattle.opening.specs.Openings.{Left as Opening, open_of}
use Rattle.demands.specs.Cases.{both, fresh, putting}
use Rattle.demands.specs.StoreLists.{same_list}

-- the numbers of put and of plan_put for key 7 and file number 0
abbrev pub retires : List ℕ → List ℕ → ℕ → Bool
retires pool map number = both (eqb (put_of pool map 7 0).done.number number) (eqb (put_plan pool map 7 0).number number)

-- two leaves, of which leaf 0 holds key 7 with file number 0, as puts left it before
abbrev existing : List ℕ
existing = 2 ∷ 1 ∷ 7 ∷ 0 ∷ replicate 19 0

abbrev marked : List ℕ
marked = 1 ∷ 0 ∷ 0 ∷ []

-- what is listed there, in buffers of two; what an opening leaves
abbrev listing : Shown
listing = list_of existing 0 (9 ∷ 9 ∷ []) (9 ∷ 9 ∷ [])

abbrev opening : Opening
opening = open_of existing (9 ∷ 9 ∷ 9 ∷ [])

-- what replacing the file number by 5 leaves, and a delete
abbrev replacing : Left
replacing = put_of existing marked 7 5

abbrev deleting : Left
deleting = delete_of existing marked 7

unfoldable pub retired : List Bool
retired =
    -- a new key; a held key; a held key that has 0 already
    retires (fresh 2 23 3).pool (fresh 2 23 3).map 7
    ∷ retires (putting 7 1 (fresh 2 23 3)).pool (putting 7 1 (fresh 2 23 3)).map 7
    ∷ retires existing marked 7
    -- a full pool; a root out of range; a node without children
    ∷ retires (putting 8 1 (fresh 1 4 1)).pool (putting 8 1 (fresh 1 4 1)).map 7
    ∷ retires (2 ∷ 3 ∷ replicate 21 0) (replicate 3 0) 7
    ∷ retires (2 ∷ 1025 ∷ replicate 21 0) (replicate 3 0) 7
    -- a pool and a map of the wrong length
    ∷ retires (1 ∷ 0 ∷ 0 ∷ 0 ∷ 0 ∷ []) (0 ∷ []) 1
    ∷ retires (1 ∷ 0 ∷ 0 ∷ 0 ∷ []) (0 ∷ 0 ∷ []) 1
    -- found
    ∷ both (eqb (lookup_of existing 7).number 0) (eqb (lookup_of existing 7).value 0)
    -- listed
    ∷ both (eqb listing.answer.number 0) (eqb listing.answer.count 1)
    ∷ both (same_list listing.keys (7 ∷ 9 ∷ [])) (same_list listing.values (0 ∷ 9 ∷ []))
    -- replaced
    ∷ both (eqb replacing.done.number 0) (eqb replacing.done.stores 1)
    ∷ both (eqb (lookup_of replacing.pool 7).value 5) (same_list replacing.map marked)
    -- deleted
    ∷ both (eqb deleting.done.number 0) (eqb deleting.done.stores 1)
    ∷ both (eqb (lookup_of deleting.pool 7).number 3) (same_list deleting.map (replicate 3 0))
    -- opened
    ∷ both (eqb opening.answer.number 0) (eqb opening.answer.keys 1)
    ∷ both (same_list opening.pool existing) (same_list opening.map marked)
    ∷ []
