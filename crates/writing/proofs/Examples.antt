-- Format, puts and deletes by computation: the document's first lines on a pool of four leaves, every kind of store list, and refusals.
-- Assumes nothing.
use mathlib.Core.Path.{◌≡◌, refl}
use mathlib.Core.List.{List, [], ◌∷◌, ◌++◌}
use Prim.Native.Nat.{ℕ}
use lib.ListN.{set, replicate}
use Rattle.digits.specs.Digits.{first_diff_in}
use Rattle.digits.specs.Headers.{stored_in, header_in}
use Rattle.digits.specs.Loops.{scan, tally}
use Rattle.tree.specs.Stores.{block, tab}
use Rattle.pool.specs.Sizes.{size_of, capacity_of}
use Rattle.pool.specs.Refs.{ref_of}
use Rattle.walk.specs.Walks.{head_of, walk_from, lowest_from}
use Rattle.plan.specs.Plans.{made, decided, refused}
use Rattle.plan.specs.declared.Effect.TheVariants.{TakesBoth, FreesLeaf}
use Rattle.layout.specs.Operations.{store}
use Rattle.rules.specs.Puts.{put_plan}
use Rattle.rules.specs.Deletes.{delete_plan}
use Rattle.writing.specs.Calls.{done, left, put_of, delete_of, formatted, format_of}

-- ---- sizes
-- "N = 1: 4 words accepted, 5 refused with 1. N = 0 and 1025: 1." A map of another length too.
sizes :
    (format_of (9 ∷ 9 ∷ 9 ∷ 9 ∷ []) (7 ∷ []) 1 ≡ formatted 0 (1 ∷ 0 ∷ 9 ∷ 9 ∷ []) (0 ∷ []))
    × (format_of (9 ∷ 9 ∷ 9 ∷ 9 ∷ 9 ∷ []) (7 ∷ []) 1 ≡ formatted 1 (9 ∷ 9 ∷ 9 ∷ 9 ∷ 9 ∷ []) (7 ∷ []))
    × (format_of (9 ∷ 9 ∷ 9 ∷ 9 ∷ []) (7 ∷ 7 ∷ []) 1 ≡ formatted 1 (9 ∷ 9 ∷ 9 ∷ 9 ∷ []) (7 ∷ 7 ∷ []))
    × (format_of [] [] 0 ≡ formatted 1 [] [])
    × (format_of (9 ∷ 9 ∷ 9 ∷ 9 ∷ []) (7 ∷ []) 1025 ≡ formatted 1 (9 ∷ 9 ∷ 9 ∷ 9 ∷ []) (7 ∷ []))
unfolding format_of size_of
sizes = (refl, refl, refl, refl, refl)

-- ---- four leaves: 61 words, and a map of 7 bytes
-- keys and values of four leaves
abbrev first : List ℕ
first = 0x200 ∷ 1 ∷ 0 ∷ 0 ∷ 0 ∷ 0 ∷ 0 ∷ 0 ∷ []

abbrev second : List ℕ
second = 0x200 ∷ 1 ∷ 0x202 ∷ 2 ∷ 0 ∷ 0 ∷ 0 ∷ 0 ∷ []

abbrev third : List ℕ
third = 0x200 ∷ 1 ∷ 0x202 ∷ 2 ∷ 0x20f ∷ 3 ∷ 0 ∷ 0 ∷ []

abbrev fourth : List ℕ
fourth = 0x200 ∷ 1 ∷ 0x202 ∷ 2 ∷ 0x20f ∷ 3 ∷ 0x222 ∷ 4 ∷ []

-- a node: its header and its children 0, 2 and 15
abbrev node : ℕ → ℕ → ℕ → ℕ → List ℕ
node header a b c = header ∷ a ∷ 0 ∷ b ∷ (replicate 12 0 ++ c ∷ [])

abbrev unfilled : List ℕ
unfilled = replicate 17 0

-- a pool: its root reference, its leaves and its first two nodes
abbrev pool : ℕ → List ℕ → List ℕ → List ℕ → List ℕ
pool r l a b = 4 ∷ r ∷ (l ++ a ++ b ++ unfilled)

abbrev none : List ℕ
none = pool 0 (replicate 8 0) unfilled unfilled

-- after "P 0000000000000200 1", "P 0000000000000202 2", "P 000000000000020f 3" and "P 0000000000000222 4"
abbrev one : List ℕ
one = pool 1 first unfilled unfilled

abbrev two : List ℕ
two = pool 1025 second (node 0x000f000000000000 1 2 0) unfilled

abbrev three : List ℕ
three = pool 1025 third (node 0x000f000000000000 1 2 3) unfilled

abbrev four : List ℕ
four = pool 1026 fourth (node 0x0f00000000000000 1 2 3) (node 0x000e000000000000 1025 4 0)

abbrev bytes : ℕ → ℕ → ℕ → ℕ → ℕ → ℕ → List ℕ
bytes a b c d e f = a ∷ b ∷ c ∷ d ∷ e ∷ f ∷ 0 ∷ []

-- "P 0 3", "P 0 20", "P 0 3", "P 0 21"
puts :
    (put_of none (bytes 0 0 0 0 0 0) 0x200 1 ≡ left (done 0 3) one (bytes 1 0 0 0 0 0))
    × (put_of one (bytes 1 0 0 0 0 0) 0x202 2 ≡ left (done 0 20) two (bytes 1 1 0 0 1 0))
    × (put_of two (bytes 1 1 0 0 1 0) 0x20f 3 ≡ left (done 0 3) three (bytes 1 1 1 0 1 0))
    × (put_of three (bytes 1 1 1 0 1 0) 0x222 4 ≡ left (done 0 21) four (bytes 1 1 1 1 1 1))
unfolding size_of capacity_of ref_of head_of walk_from lowest_from scan block tab made first_diff_in stored_in header_in put_plan put_of
puts = (refl, refl, refl, refl)

-- ---- deletes
-- two stores: the root takes the other child, a node, whose header follows; its leaf and its node are free
merged : List ℕ
merged = pool 1025 fourth (node 0x000f000000000000 1 2 3) (node 0x000e000000000000 1025 4 0)

-- one store each: a child of three, the other child a leaf, and the root itself
deletes :
    (delete_of four (bytes 1 1 1 1 1 1) 0x222 ≡ left (done 0 2) merged (bytes 1 1 1 0 1 0))
    × (delete_of three (bytes 1 1 1 0 1 0) 0x202 ≡ left (done 0 1) (pool 1025 third (node 0x000f000000000000 1 0 3) unfilled) (bytes 1 0 1 0 1 0))
    × (delete_of two (bytes 1 1 0 0 1 0) 0x200 ≡ left (done 0 1) (pool 2 second (node 0x000f000000000000 1 2 0) unfilled) (bytes 0 1 0 0 0 0))
    × (delete_of one (bytes 1 0 0 0 0 0) 0x200 ≡ left (done 0 1) (pool 0 first unfilled unfilled) (bytes 0 0 0 0 0 0))
unfolding merged size_of capacity_of ref_of head_of walk_from lowest_from scan tally made stored_in header_in delete_plan delete_of
deletes = (refl, refl, refl, refl)

-- "Never using freed slots again": the lowest-numbered free ones are taken
freed_again :
    ((put_plan (pool 2 second (node 0x000f000000000000 1 2 0) unfilled) (bytes 0 1 0 0 0 0) 0x300 5).effect ≡ TakesBoth 0 4)
    × ((put_plan merged (bytes 1 1 1 0 1 0) 0x222 4).effect ≡ TakesBoth 3 5)
unfolding merged size_of capacity_of ref_of head_of walk_from lowest_from scan block tab first_diff_in stored_in header_in put_plan
freed_again = (refl, refl)

-- ---- refusals
full : List ℕ
full = replicate 7 1

-- a full map: a found key is put with one store, damage on the way is met first, and else there is no room
full_map :
    (put_of four full 0x222 9 ≡ left (done 0 1) (set four 9 9) full)
    × (put_plan four full 0x223 9 ≡ refused 4)
    × (put_plan (set four 10 0x0fff000000000000) full 0x202 9 ≡ refused 2)
    × (put_plan (set four 1 2048) full 0x222 9 ≡ refused 2)
unfolding full size_of capacity_of ref_of head_of walk_from lowest_from scan block tab made first_diff_in stored_in header_in put_plan put_of
full_map = (refl, refl, refl, refl)

-- "N = 1, one key held: put of that key 0, of another 4", also where a byte is free: there is no node
one_leaf :
    (put_of (1 ∷ 1 ∷ 5 ∷ 7 ∷ []) (1 ∷ []) 5 8 ≡ left (done 0 1) (1 ∷ 1 ∷ 5 ∷ 8 ∷ []) (1 ∷ []))
    × (put_of (1 ∷ 1 ∷ 5 ∷ 7 ∷ []) (1 ∷ []) 6 8 ≡ left (done 4 0) (1 ∷ 1 ∷ 5 ∷ 7 ∷ []) (1 ∷ []))
    × (put_of (1 ∷ 1 ∷ 5 ∷ 7 ∷ []) (0 ∷ []) 6 8 ≡ left (done 4 0) (1 ∷ 1 ∷ 5 ∷ 7 ∷ []) (0 ∷ []))
unfolding size_of capacity_of ref_of walk_from scan block tab made first_diff_in stored_in header_in put_plan put_of
one_leaf = (refl, refl, refl)

-- a map of the wrong length: a put and a delete refuse, and the plan of a delete, which is lent no map, is made
wrong_map :
    (put_plan (1 ∷ 1 ∷ 5 ∷ 7 ∷ []) [] 5 8 ≡ refused 1)
    × (delete_of (1 ∷ 1 ∷ 5 ∷ 7 ∷ []) [] 5 ≡ left (done 1 0) (1 ∷ 1 ∷ 5 ∷ 7 ∷ []) [])
    × (delete_plan (1 ∷ 1 ∷ 5 ∷ 7 ∷ []) 5 ≡ decided (store 1 0 ∷ []) (FreesLeaf 0))
unfolding size_of capacity_of ref_of walk_from scan made put_plan delete_plan delete_of
wrong_map = (refl, refl, refl)

-- a delete: the key is absent at a leaf and at an empty child; its node has one child; the other child is no reference
not_deleted :
    (delete_plan one 0x201 ≡ refused 3) × (delete_plan two 0x201 ≡ refused 3) × (delete_plan (set two 13 0) 0x200 ≡ refused 2) ×
    (delete_plan (set two 13 2048) 0x200 ≡ refused 2)
unfolding size_of capacity_of ref_of head_of walk_from lowest_from scan tally delete_plan
not_deleted = (refl, refl, refl, refl)

-- ---- a stale node
-- met at depth 0, with depth 3 and branch place 5; a key that differs at digit 1 splits the reference to it, and its depth falls to 2
stale : List ℕ
stale = pool 1025 (0x1112110000000000 ∷ 1 ∷ 0x1112120000000000 ∷ 2 ∷ replicate 4 0) (0x0302210000000000 ∷ 0 ∷ 1 ∷ 2 ∷ replicate 13 0) unfilled

stale_split :
    put_of stale (bytes 1 1 0 0 1 0) 0x1212110000000000 3 ≡
    left (done 0 21)
    (pool 1026 (0x1112110000000000 ∷ 1 ∷ 0x1112120000000000 ∷ 2 ∷ 0x1212110000000000 ∷ 3 ∷ 0 ∷ 0 ∷ []) (0x0203121000000000 ∷ 0 ∷ 1 ∷ 2 ∷ replicate 13 0)
    (0x0001100000000000 ∷ 0 ∷ 1025 ∷ 3 ∷ replicate 13 0))
    (bytes 1 1 1 0 1 1)
unfolding stale size_of capacity_of ref_of head_of walk_from lowest_from scan block tab made first_diff_in stored_in header_in put_plan put_of
stale_split = refl
