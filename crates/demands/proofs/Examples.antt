-- Lookups and listings on small pools, by computation of their definitions alone.
-- Assumes nothing.
use mathlib.Core.Path.{◌≡◌, refl}
use mathlib.Core.Bool.{true, false}
use mathlib.Core.List.{List, [], ◌∷◌}
use Prim.Native.Nat.{ℕ}
use Rattle.digits.specs.Loops.{upto, tally}
use Rattle.pool.specs.Sizes.{size_of, capacity_of}
use Rattle.pool.specs.Refs.{ref_of}
use Rattle.walk.specs.Walks.{head_of, walk_from}
use Rattle.finding.specs.Lookups.{answer, lookup_of}
use Rattle.listing.specs.Listings.{leaf_of, visit_from, shown, listed, judged, list_of}

-- N = 3, with leaves for the keys 0x200, 0x20f and 0x222. Node 0 branches at digit 14, to node 1 and to the reference c; node 1 branches at digit 15, to the
-- first two leaves. The root is r.
abbrev pool_with : ℕ → ℕ → List ℕ
pool_with r c =
    3 ∷ r ∷ 0x200 ∷ 11 ∷ 0x20f ∷ 12 ∷ 0x222 ∷ 13
    ∷ 0x000e000000000000 ∷ 1026 ∷ 0 ∷ c ∷ 0 ∷ 0 ∷ 0 ∷ 0 ∷ 0 ∷ 0 ∷ 0 ∷ 0 ∷ 0 ∷ 0 ∷ 0 ∷ 0 ∷ 0
    ∷ 0x0f00000000000000 ∷ 1 ∷ 0 ∷ 0 ∷ 0 ∷ 0 ∷ 0 ∷ 0 ∷ 0 ∷ 0 ∷ 0 ∷ 0 ∷ 0 ∷ 0 ∷ 0 ∷ 0 ∷ 2 ∷ []

abbrev straight : List ℕ
straight = pool_with 1025 3

-- node 1 reached at the root, as a cut in the split for 0x222 leaves it
abbrev stale : List ℕ
stale = pool_with 1026 3

-- a reference to a fourth leaf, and a second reference to node 1
abbrev torn : List ℕ
torn = pool_with 1025 4

abbrev shared : List ℕ
shared = pool_with 1025 1026

-- N = 2, and a node without children
abbrev childless : List ℕ
childless = 2 ∷ 1025 ∷ 0 ∷ 0 ∷ 0 ∷ 0 ∷ 0 ∷ 0 ∷ 0 ∷ 0 ∷ 0 ∷ 0 ∷ 0 ∷ 0 ∷ 0 ∷ 0 ∷ 0 ∷ 0 ∷ 0 ∷ 0 ∷ 0 ∷ 0 ∷ 0 ∷ []

-- past two nodes, past one; "the leaf's key decides"; at an empty reference; in a stale pool; damage on the walk, and off it; no words at all
pub lookups :
    (lookup_of straight 0x20f ≡ answer 0 12 2)
    × (lookup_of straight 0x222 ≡ answer 0 13 1)
    × (lookup_of straight 0x221 ≡ answer 3 0 1)
    × (lookup_of straight 0x210 ≡ answer 3 0 1)
    × (lookup_of stale 0x20f ≡ answer 0 12 1)
    × (lookup_of stale 0x222 ≡ answer 3 0 1)
    × (lookup_of torn 0x222 ≡ answer 2 0 1)
    × (lookup_of torn 0x20f ≡ answer 0 12 2)
    × (lookup_of [] 0 ≡ answer 1 0 0)
unfolding lookup_of capacity_of size_of walk_from ref_of head_of
lookups = (refl, refl, refl, refl, refl, refl, refl, refl, refl)

-- buffers that are just full; a further one; from a key; a stale pool
pub listings :
    (list_of straight 0 (9 ∷ 9 ∷ 9 ∷ []) (8 ∷ 8 ∷ 8 ∷ []) ≡ shown (0x200 ∷ 0x20f ∷ 0x222 ∷ []) (11 ∷ 12 ∷ 13 ∷ []) (listed 0 3 false))
    × (list_of straight 0 (9 ∷ 9 ∷ []) (8 ∷ 8 ∷ []) ≡ shown (0x200 ∷ 0x20f ∷ []) (11 ∷ 12 ∷ []) (listed 0 2 true))
    × (list_of straight 0x201 (9 ∷ 9 ∷ 9 ∷ []) (8 ∷ 8 ∷ 8 ∷ []) ≡ shown (0x20f ∷ 0x222 ∷ 9 ∷ []) (12 ∷ 13 ∷ 8 ∷ []) (listed 0 2 false))
    × (list_of stale 0 (9 ∷ 9 ∷ 9 ∷ []) (8 ∷ 8 ∷ 8 ∷ []) ≡ shown (0x200 ∷ 0x20f ∷ 9 ∷ []) (11 ∷ 12 ∷ 8 ∷ []) (listed 0 2 false))
unfolding list_of judged visit_from upto leaf_of tally capacity_of size_of ref_of head_of
listings = (refl, refl, refl, refl)

-- damage, which clears what was handed out before it; damage past the stop, which is not met; a fourth leaf in a pool of three, also below the given key; a
-- childless node; "Order: 1, 6, 2"
pub refusals :
    (list_of torn 0 (9 ∷ 9 ∷ 9 ∷ []) (8 ∷ 8 ∷ 8 ∷ []) ≡ shown (0 ∷ 0 ∷ 0 ∷ []) (0 ∷ 0 ∷ 0 ∷ []) (listed 2 0 false))
    × (list_of torn 0 (9 ∷ []) (8 ∷ []) ≡ shown (0x200 ∷ []) (11 ∷ []) (listed 0 1 true))
    × (list_of shared 0 (9 ∷ 9 ∷ 9 ∷ []) (8 ∷ 8 ∷ 8 ∷ []) ≡ shown (0 ∷ 0 ∷ 0 ∷ []) (0 ∷ 0 ∷ 0 ∷ []) (listed 2 0 false))
    × (list_of shared 0x300 (9 ∷ []) (8 ∷ []) ≡ shown (0 ∷ []) (0 ∷ []) (listed 2 0 false))
    × (list_of childless 0 (9 ∷ []) (8 ∷ []) ≡ shown (0 ∷ []) (0 ∷ []) (listed 2 0 false))
    × (list_of [] 0 [] (8 ∷ []) ≡ shown [] (8 ∷ []) (listed 1 0 false))
    × (list_of torn 0 (9 ∷ []) (8 ∷ 8 ∷ []) ≡ shown (9 ∷ []) (8 ∷ 8 ∷ []) (listed 6 0 false))
unfolding list_of judged visit_from upto leaf_of tally capacity_of size_of ref_of head_of
refusals = (refl, refl, refl, refl, refl, refl, refl)
