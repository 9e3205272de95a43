-- The walk along a key, the lowest leaf below a reference, and a node's children, in a pool of n leaves.
-- Assumes nothing.
use Rattle.std.specs.Prelude.{Bool, true, false, not, List, ℕ, zero, suc, ◌+◌, ◌≤◌, ◌<◌, eqb, leb, ltb, Err, None, Ok, Option, Result, Some}
use Rattle.digits.specs.Choice.{pick}
use Rattle.digits.specs.Loops.{scan, tally}
use Rattle.digits.specs.Digits.{digit_of}
use Rattle.digits.specs.Headers.{depth_of, length_of, differs}
use Rattle.pool.specs.Places.{word_at, key_at, header_at, child_at, node_word, child_word}
use Rattle.pool.specs.Refs.{ref_of}
use Rattle.pool.specs.declared.Ref.{Ref}
use Rattle.pool.specs.declared.Ref.TheVariants.{Empty, Leaf, Node, Bad}
use Rattle.walk.specs.declared.Fault.{Fault}
use Rattle.walk.specs.declared.Spot.{Spot}
use Rattle.walk.specs.declared.End.{End}
use Rattle.walk.specs.declared.End.TheVariants.{AtLeaf, AtEmpty, Stopped, Damaged}
use Rattle.walk.specs.Faults.{out_of_range, bad_header, bad_form}

-- "At a node with depth h it is damage if h < w, length > 15 or b > 15." "The branch place b is depth + length"
unfoldable pub head_of : ℕ → ℕ → Option ℕ
head_of w word =
    pick (ltb (depth_of word) w) None
    (pick (ltb 15 (length_of word)) None
    (pick (ltb 15 (depth_of word + length_of word)) None
    (Some (depth_of word + length_of word))))

-- an accepted branch place lies between the walk depth and 15
abbrev pub Between : ℕ → Option ℕ → Type 0
Between w (Some b) = (w ≤ b) × (b < 16)
Between w None = Unit {0}

-- "It begins at the root reference with walk depth w = 0."
abbrev pub root : Spot
root = record { at = 1; depth = 0; nodes = 0; node = 0; over = 0; above = 0 }

-- "Otherwise the walk goes to the child chosen by digit b, with w = b+1": past node j, to its child c
abbrev pub below : ℕ → ℕ → ℕ → ℕ → Spot → Spot
below n j b c s = record { at = child_word n j c; depth = b + 1; nodes = s.nodes + 1; node = j; over = s.at; above = s.depth }

-- "So the walk ends at a leaf, at an empty reference or at damage." The end of a walk that has come to no node.
abbrev pub end_of : Spot → Ref → End
end_of s Empty = AtEmpty s
end_of s (Leaf i) = AtLeaf s i
end_of s (Node j) = Damaged s.nodes (out_of_range s.at)
end_of s Bad = Damaged s.nodes (out_of_range s.at)

-- What stops a walk at a node whose header is accepted: a test of the key, the header word and the branch place.
abbrev pub Test : Type 0
Test = ℕ → ℕ → ℕ → Bool

-- the node branches at or past `stop`
abbrev pub past : ℕ → Test
past stop key word b = leb stop b

-- never: no header that is accepted branches at 16
abbrev pub never : Test
never = past 16

-- a stored digit differs from the key's
abbrev pub unlike : Test
unlike key word b = differs word key

-- It ends before the first node at which the test stops it. At most so many nodes are met as the first number says.
unfoldable pub walk_from : ℕ → List ℕ → ℕ → ℕ → Test → Spot → End
walk_from zero pool n key test s = Damaged s.nodes (bad_form s.at)
walk_from (suc more) pool n key test s =
    elim (ref_of n (word_at pool s.at)) [
      | Empty ↦ end_of s Empty
      | Leaf i ↦ end_of s (Leaf i)
      | Node j ↦
          elim (head_of s.depth (header_at pool n j)) [
            | Some b ↦
                elim (test key (header_at pool n j) b) [
                  | true ↦ Stopped s j b
                  | false ↦ walk_from more pool n key test (below n j b (digit_of key b) s)
                ]
            | None ↦ Damaged s.nodes (bad_header n j s.depth (header_at pool n j))
          ]
      | Bad ↦ end_of s Bad
    ]

-- the walk that stops before the first node with b >= stop
abbrev pub walk_to : List ℕ → ℕ → ℕ → ℕ → End
walk_to pool n key stop = walk_from 17 pool n key (past stop) root

-- the walk
abbrev pub walk_of : List ℕ → ℕ → ℕ → End
walk_of pool n key = walk_from 17 pool n key never root

-- Document 02: the walk that "compares stored digits on the way and stops at the first that differs"
abbrev pub quick_walk : List ℕ → ℕ → ℕ → End
quick_walk pool n key = walk_from 17 pool n key unlike root

-- "A child is any of the sixteen words that is not 0."
abbrev pub is_child : List ℕ → ℕ → ℕ → ℕ → Bool
is_child pool n j c = not (eqb (child_at pool n j c) 0)

abbrev pub children_of : List ℕ → ℕ → ℕ → ℕ
children_of pool n j = tally 16 (is_child pool n j)

-- a child's place of the code's: none for 16
abbrev pub place_of : ℕ → Option ℕ
place_of c = pick (ltb c 16) (Some c) None

-- the lowest child of node j, 16 for none
abbrev pub lowest_child : List ℕ → ℕ → ℕ → ℕ
lowest_child pool n j = scan 16 0 (is_child pool n j)

-- the lowest child of node j but the one at the word `at`, 16 for none
abbrev pub other_child : List ℕ → ℕ → ℕ → ℕ → ℕ
other_child pool n j at = scan 16 0 (λ c. pick (eqb (child_word n j c) at) false (is_child pool n j c))

-- the key of a way down that has come, by the reference in the word `at`, to no node
abbrev pub lowest_end : List ℕ → ℕ → Ref → Result ℕ Fault
lowest_end pool at Empty = Err (out_of_range at)
lowest_end pool at (Leaf i) = Ok (key_at pool i)
lowest_end pool at (Node j) = Err (out_of_range at)
lowest_end pool at Bad = Err (out_of_range at)

-- "'Lowest leaf' below a reference means following the lowest non-empty child each time, under the walk's damage rules; a childless node is
-- damage." The reference r, in the word `at`, is met at walk depth w.
unfoldable pub lowest_from : ℕ → List ℕ → ℕ → ℕ → ℕ → ℕ → Result ℕ Fault
lowest_from zero pool n w at r = Err (bad_form at)
lowest_from (suc more) pool n w at r =
    elim (ref_of n r) [
      | Empty ↦ lowest_end pool at Empty
      | Leaf i ↦ lowest_end pool at (Leaf i)
      | Node j ↦
          elim (head_of w (header_at pool n j)) [
            | Some b ↦
                elim (ltb (lowest_child pool n j) 16) [
                  | true ↦ lowest_from more pool n (b + 1) (child_word n j (lowest_child pool n j)) (child_at pool n j (lowest_child pool n j))
                  | false ↦ Err (bad_form (node_word n j))
                ]
            | None ↦ Err (bad_header n j w (header_at pool n j))
          ]
      | Bad ↦ lowest_end pool at Bad
    ]

abbrev pub lowest_of : List ℕ → ℕ → ℕ → ℕ → ℕ → Result ℕ Fault
lowest_of pool n w at r = lowest_from 17 pool n w at r
