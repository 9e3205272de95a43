-- Each rule of put and delete on one small pool, with the full list of its stores, worked out from document 01 by hand: word, value, word, value, and so on.
-- They are computed against the definitions of the plans. What is not reached in a pool is 9.
-- Assumes nothing.
use Rattle.std.specs.Prelude.{Bool, true, false, List, [], ◌∷◌, ◌++◌, ℕ, eqb, replicate}
use Rattle.tree.specs.Stores.{Store}
use Rattle.plan.specs.Plans.{Decided}
use Rattle.rules.specs.Puts.{put_plan}
use Rattle.rules.specs.Deletes.{delete_plan}
use Rattle.demands.specs.Cases.{both}

-- ---- a plan that is not refused has just these stores, in this order
abbrev pub as_numbers : List Store → List ℕ
as_numbers [] = []
as_numbers (s ∷ σ) = s.word ∷ s.value ∷ as_numbers σ

abbrev pub same_list : List ℕ → List ℕ → Bool
same_list [] [] = true
same_list [] (y ∷ l) = false
same_list (x ∷ k) [] = false
same_list (x ∷ k) (y ∷ l) = both (eqb x y) (same_list k l)

abbrev pub stores_are : Decided → List ℕ → Bool
stores_are d l = both (eqb d.number 0) (same_list (as_numbers d.stores) l)

-- ---- pools of two leaves: leaves at words 2 and 4, node 0 at word 6
-- nothing; leaf 0; leaf 1
abbrev nothing : List ℕ
nothing = 2 ∷ 0 ∷ replicate 21 9

abbrev leaf_zero : List ℕ
leaf_zero = 2 ∷ 1 ∷ 0x200 ∷ 1 ∷ replicate 19 9

abbrev leaf_one : List ℕ
leaf_one = 2 ∷ 2 ∷ 9 ∷ 9 ∷ 0x1234567800000000 ∷ 1 ∷ replicate 17 9

-- ---- pools of three leaves: leaves at words 2, 4 and 6, node 0 at word 8, node 1 at word 25; two leaves below node 0, the third is free
abbrev two_below : ℕ → ℕ → List ℕ → List ℕ
two_below a b node = (3 ∷ 1025 ∷ a ∷ 1 ∷ b ∷ 2 ∷ 9 ∷ 9 ∷ []) ++ node ++ replicate 17 9

-- it branches at digit 15; at digit 14; at 10, stale: its depth is 3; at 15, over three more digits than a header stores
abbrev at_fifteen : List ℕ
at_fifteen = two_below 0x200 0x20f (0x000f000000000000 ∷ 1 ∷ 0 ∷ 0 ∷ 0 ∷ 0 ∷ 0 ∷ 0 ∷ 0 ∷ 0 ∷ 0 ∷ 0 ∷ 0 ∷ 0 ∷ 0 ∷ 0 ∷ 2 ∷ [])

abbrev at_fourteen : List ℕ
at_fourteen = two_below 0x200 0x222 (0x000e000000000000 ∷ 1 ∷ 0 ∷ 2 ∷ 0 ∷ 0 ∷ 0 ∷ 0 ∷ 0 ∷ 0 ∷ 0 ∷ 0 ∷ 0 ∷ 0 ∷ 0 ∷ 0 ∷ 0 ∷ [])

abbrev stale_ten : List ℕ
stale_ten =
    two_below 0x123456789ab00000 0x123456789ac00000
    (0x0307456789a00000 ∷ 0 ∷ 0 ∷ 0 ∷ 0 ∷ 0 ∷ 0 ∷ 0 ∷ 0 ∷ 0 ∷ 0 ∷ 0 ∷ 1 ∷ 2 ∷ 0 ∷ 0 ∷ 0 ∷ [])

abbrev long_prefix : List ℕ
long_prefix =
    two_below 0x123456789abcdef0 0x123456789abcdef1
    (0x000f123456789abc ∷ 1 ∷ 2 ∷ 0 ∷ 0 ∷ 0 ∷ 0 ∷ 0 ∷ 0 ∷ 0 ∷ 0 ∷ 0 ∷ 0 ∷ 0 ∷ 0 ∷ 0 ∷ 0 ∷ [])

-- leaves 0 and 1 and node 0 are taken
abbrev two_taken : List ℕ
two_taken = 1 ∷ 1 ∷ 0 ∷ 1 ∷ 0 ∷ []

-- three leaves below node 0; and two below node 1, which node 0 has for child 5 beside leaf 2, with such a header
abbrev three_below : List ℕ
three_below =
    (3 ∷ 1025 ∷ 0x200 ∷ 1 ∷ 0x202 ∷ 2 ∷ 0x20f ∷ 3 ∷ [])
    ++ (0x000f000000000000 ∷ 1 ∷ 0 ∷ 2 ∷ 0 ∷ 0 ∷ 0 ∷ 0 ∷ 0 ∷ 0 ∷ 0 ∷ 0 ∷ 0 ∷ 0 ∷ 0 ∷ 0 ∷ 3 ∷ []) ++ replicate 17 9

abbrev two_nodes : ℕ → List ℕ
two_nodes header =
    (3 ∷ 1025 ∷ 0x123456789a000000 ∷ 1 ∷ 0x123456789b000000 ∷ 2 ∷ 0x1234600000000000 ∷ 3 ∷ [])
    ++ (0x0004123400000000 ∷ 0 ∷ 0 ∷ 0 ∷ 0 ∷ 0 ∷ 1026 ∷ 3 ∷ 0 ∷ 0 ∷ 0 ∷ 0 ∷ 0 ∷ 0 ∷ 0 ∷ 0 ∷ 0 ∷ [])
    ++ (header ∷ 0 ∷ 0 ∷ 0 ∷ 0 ∷ 0 ∷ 0 ∷ 0 ∷ 0 ∷ 0 ∷ 0 ∷ 1 ∷ 2 ∷ 0 ∷ 0 ∷ 0 ∷ 0 ∷ [])

unfoldable pub store_lists : List Bool
store_lists =
    -- "1. k is found: one store, the leaf's value."
    stores_are (put_plan leaf_zero (1 ∷ 0 ∷ 0 ∷ []) 0x200 7) (3 ∷ 7 ∷ [])
    -- "2. Root empty: leaf key, leaf value, root. 3 stores."
    ∷ stores_are (put_plan nothing (0 ∷ 0 ∷ 0 ∷ []) 0x200 7) (2 ∷ 0x200 ∷ 3 ∷ 7 ∷ 1 ∷ 1 ∷ [])
    -- "b = f, and it is the last node and the child empty: leaf key, leaf value, that child. 3 stores."
    ∷ stores_are (put_plan at_fifteen two_taken 0x202 7) (6 ∷ 0x202 ∷ 7 ∷ 7 ∷ 11 ∷ 3 ∷ [])
    -- "No such node and the walk ended at a leaf: split the reference to the leaf." f = 7, w = 0; leaf 0 is free
    ∷ stores_are (put_plan leaf_one (0 ∷ 1 ∷ 0 ∷ []) 0x1234567900000000 7)
    (2 ∷ 0x1234567900000000 ∷ 3 ∷ 7 ∷ 6 ∷ 0x0007123456700000
    ∷ 7 ∷ 0 ∷ 8 ∷ 0 ∷ 9 ∷ 0 ∷ 10 ∷ 0 ∷ 11 ∷ 0 ∷ 12 ∷ 0 ∷ 13 ∷ 0 ∷ 14 ∷ 0 ∷ 15 ∷ 2 ∷ 16 ∷ 1 ∷ 17 ∷ 0 ∷ 18 ∷ 0 ∷ 19 ∷ 0 ∷ 20 ∷ 0 ∷ 21 ∷ 0 ∷ 22 ∷ 0
    ∷ 1 ∷ 1025 ∷ [])
    -- the same below a node: f = 15, w = 15
    ∷ stores_are (put_plan at_fourteen two_taken 0x20f 7)
    (6 ∷ 0x20f ∷ 7 ∷ 7 ∷ 25 ∷ 0x0f00000000000000
    ∷ 26 ∷ 1 ∷ 27 ∷ 0 ∷ 28 ∷ 0 ∷ 29 ∷ 0 ∷ 30 ∷ 0 ∷ 31 ∷ 0 ∷ 32 ∷ 0 ∷ 33 ∷ 0 ∷ 34 ∷ 0 ∷ 35 ∷ 0 ∷ 36 ∷ 0 ∷ 37 ∷ 0 ∷ 38 ∷ 0 ∷ 39 ∷ 0 ∷ 40 ∷ 0 ∷ 41 ∷ 3
    ∷ 9 ∷ 1026 ∷ [])
    -- "b > f: split the reference to that node." f = 14, w = 0
    ∷ stores_are (put_plan at_fifteen two_taken 0x222 7)
    (6 ∷ 0x222 ∷ 7 ∷ 7 ∷ 25 ∷ 0x000e000000000000
    ∷ 26 ∷ 1025 ∷ 27 ∷ 0 ∷ 28 ∷ 3 ∷ 29 ∷ 0 ∷ 30 ∷ 0 ∷ 31 ∷ 0 ∷ 32 ∷ 0 ∷ 33 ∷ 0 ∷ 34 ∷ 0 ∷ 35 ∷ 0 ∷ 36 ∷ 0 ∷ 37 ∷ 0 ∷ 38 ∷ 0 ∷ 39 ∷ 0 ∷ 40 ∷ 0 ∷ 41 ∷ 0
    ∷ 8 ∷ 0x0f00000000000000 ∷ 1 ∷ 1026 ∷ [])
    -- a stale target: f = 6, past the target's depth; w = 0 all the same
    ∷ stores_are (put_plan stale_ten two_taken 0x123456f000000000 7)
    (6 ∷ 0x123456f000000000 ∷ 7 ∷ 7 ∷ 25 ∷ 0x0006123456000000
    ∷ 26 ∷ 0 ∷ 27 ∷ 0 ∷ 28 ∷ 0 ∷ 29 ∷ 0 ∷ 30 ∷ 0 ∷ 31 ∷ 0 ∷ 32 ∷ 0 ∷ 33 ∷ 1025 ∷ 34 ∷ 0 ∷ 35 ∷ 0 ∷ 36 ∷ 0 ∷ 37 ∷ 0 ∷ 38 ∷ 0 ∷ 39 ∷ 0 ∷ 40 ∷ 0 ∷ 41 ∷ 3
    ∷ 8 ∷ 0x070389a000000000 ∷ 1 ∷ 1026 ∷ [])
    -- a key that differs in the gap of a stale node: f = 1, so that the target's depth falls
    ∷ stores_are (put_plan stale_ten two_taken 0x1f00000000000000 7)
    (6 ∷ 0x1f00000000000000 ∷ 7 ∷ 7 ∷ 25 ∷ 0x0001100000000000
    ∷ 26 ∷ 0 ∷ 27 ∷ 0 ∷ 28 ∷ 1025 ∷ 29 ∷ 0 ∷ 30 ∷ 0 ∷ 31 ∷ 0 ∷ 32 ∷ 0 ∷ 33 ∷ 0 ∷ 34 ∷ 0 ∷ 35 ∷ 0 ∷ 36 ∷ 0 ∷ 37 ∷ 0 ∷ 38 ∷ 0 ∷ 39 ∷ 0 ∷ 40 ∷ 0 ∷ 41 ∷ 3
    ∷ 8 ∷ 0x02083456789a0000 ∷ 1 ∷ 1026 ∷ [])
    -- more than twelve prefix digits, before the split and after it: f = 13, and the walk ended at a leaf
    ∷ stores_are (put_plan long_prefix two_taken 0x123456789abcd000 7)
    (6 ∷ 0x123456789abcd000 ∷ 7 ∷ 7 ∷ 25 ∷ 0x000d123456789abc
    ∷ 26 ∷ 3 ∷ 27 ∷ 0 ∷ 28 ∷ 0 ∷ 29 ∷ 0 ∷ 30 ∷ 0 ∷ 31 ∷ 0 ∷ 32 ∷ 0 ∷ 33 ∷ 0 ∷ 34 ∷ 0 ∷ 35 ∷ 0 ∷ 36 ∷ 0 ∷ 37 ∷ 0 ∷ 38 ∷ 0 ∷ 39 ∷ 0 ∷ 40 ∷ 1025 ∷ 41 ∷ 0
    ∷ 8 ∷ 0x0e01f00000000000 ∷ 1 ∷ 1026 ∷ [])
    -- "1. The leaf is the root: root becomes 0. 1 store."
    ∷ stores_are (delete_plan leaf_zero 0x200) (1 ∷ 0 ∷ [])
    -- "2. Its node P has three or more children: that child becomes 0. 1 store."
    ∷ stores_are (delete_plan three_below 0x202) (11 ∷ 0 ∷ [])
    -- "3. P has two: the reference to P takes the other child.": a leaf; the reference is node 0's child 5
    ∷ stores_are (delete_plan (two_nodes 0x0504678900000000) 0x123456789a000000) (14 ∷ 2 ∷ [])
    -- "If that child is a node, its header follows (depth: walk depth of P; same branch place; digits from its lowest leaf)."
    ∷ stores_are (delete_plan (two_nodes 0x0504678900000000) 0x1234600000000000) (1 ∷ 1026 ∷ 25 ∷ 0x0009123456789000 ∷ [])
    -- the same where that node is stale: its depth is 7
    ∷ stores_are (delete_plan (two_nodes 0x0702890000000000) 0x1234600000000000) (1 ∷ 1026 ∷ 25 ∷ 0x0009123456789000 ∷ [])
    ∷ []
