-- Headers, walks, lowest leaves and children by computation.
-- Assumes nothing.
use Rattle.std.specs.Prelude.{Err, None, Ok, Some}
use mathlib.Core.Path.{◌≡◌, refl}
use mathlib.Core.List.{List, ◌∷◌, ◌++◌}
use Prim.Native.Nat.{ℕ, ◌≤◌}
use borrow.Author.Tests.{le-ltb}
use lib.ListN.{replicate}
use Rattle.digits.specs.Loops.{scan, tally}
use Rattle.pool.specs.Refs.{ref_of}
use Rattle.walk.specs.declared.End.TheVariants.{AtLeaf, AtEmpty, Stopped, Damaged}
use Rattle.walk.specs.declared.Reason.TheVariants.{Depth}
use Rattle.walk.specs.Faults.{fault}
use Rattle.walk.specs.Walks.{head_of, walk_from, walk_to, walk_of, children_of, lowest_child, other_child, lowest_from, lowest_of}

-- "Header with depth 8, length 8 (b = 16): damage; depth 8, length 7 is accepted at w <= 8."
past_the_key : head_of 0 0x0808000000000000 ≡ None
unfolding head_of
past_the_key = refl

last_digit : (w : ℕ) → w ≤ 8 → head_of w 0x0807000000000000 ≡ Some 15
unfolding head_of
last_digit w h = rw (le-ltb 8 w h)

too_deep : head_of 9 0x0807000000000000 ≡ None
unfolding head_of
too_deep = refl

-- added in 8 bits 250 + 10 would be 4
added_wide : head_of 0 0xfa0a000000000000 ≡ None
unfolding head_of
added_wide = refl

-- N = 3, keys 0x200, 0x202 and 0x222: node 0 has the first two, and node 1 has node 0 and the third
abbrev node : ℕ → ℕ → ℕ → List ℕ
node header child-0 child-2 = header ∷ child-0 ∷ 0 ∷ child-2 ∷ replicate 13 0

-- with a root reference and node 0's header
abbrev pool : ℕ → ℕ → List ℕ
pool r h = 3 ∷ r ∷ 0x200 ∷ 7 ∷ 0x202 ∷ 8 ∷ 0x222 ∷ 9 ∷ (node h 1 2 ++ node 0x000e000000000000 1025 3)

abbrev straight : List ℕ
straight = pool 1026 0x0f00000000000000

-- the third key is deleted, cut before node 0's header: depth 15, met at depth 0
abbrev stale : List ℕ
stale = pool 1025 0x0f00000000000000

-- node 0's depth is 8, met at depth 15: its header, word 8, has too small a depth
abbrev damaged : List ℕ
damaged = pool 1026 0x0807000000000000

walk_to_leaf : walk_of straight 3 0x202 ≡ AtLeaf (record { at = 11; depth = 16; nodes = 2; node = 0; over = 26; above = 15 }) 1
unfolding walk_from ref_of head_of
walk_to_leaf = refl

walk_to_empty : walk_of straight 3 0x232 ≡ AtEmpty (record { at = 29; depth = 15; nodes = 1; node = 1; over = 1; above = 0 })
unfolding walk_from ref_of head_of
walk_to_empty = refl

walk_stopped : walk_to straight 3 0x202 15 ≡ Stopped (record { at = 26; depth = 15; nodes = 1; node = 1; over = 1; above = 0 }) 0 15
unfolding walk_from ref_of head_of
walk_stopped = refl

walk_past_stale : walk_of stale 3 0x202 ≡ AtLeaf (record { at = 11; depth = 16; nodes = 1; node = 0; over = 1; above = 0 }) 1
unfolding walk_from ref_of head_of
walk_past_stale = refl

walk_damaged : walk_of damaged 3 0x202 ≡ Damaged 1 (fault 8 Depth)
unfolding walk_from ref_of head_of
walk_damaged = refl

lowest_below_root : lowest_of straight 3 0 1 1026 ≡ Ok 0x200
unfolding lowest_from ref_of head_of scan
lowest_below_root = refl

lowest_below_stale : lowest_of stale 3 0 1 1025 ≡ Ok 0x200
unfolding lowest_from ref_of head_of scan
lowest_below_stale = refl

lowest_damaged : lowest_of damaged 3 0 1 1026 ≡ Err (fault 8 Depth)
unfolding lowest_from ref_of head_of scan
lowest_damaged = refl

-- node 1's children: 0 at word 26, and 2
two_children : children_of straight 3 1 ≡ 2
unfolding tally
two_children = refl

lowest_is_first : lowest_child straight 3 1 ≡ 0
unfolding scan
lowest_is_first = refl

other_is_second : other_child straight 3 1 26 ≡ 2
unfolding scan
other_is_second = refl
