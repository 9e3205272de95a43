-- What a delete stores, in order, in any pool.
-- Assumes nothing.
use Rattle.std.specs.Prelude.{◌≡◌, List, ℕ, ◌+◌, eqb, ltb, Err, None, Ok, Option, Result, Some}
use Rattle.digits.specs.Choice.{pick}
use Rattle.pool.specs.Sizes.{capacity_of}
use Rattle.pool.specs.Places.{key_at, header_at, child_at, child_word}
use Rattle.pool.specs.Refs.{ref_of}
use Rattle.pool.specs.declared.Ref.{Ref}
use Rattle.pool.specs.declared.Ref.TheVariants.{Empty, Leaf, Node, Bad}
use Rattle.layout.specs.Operations.{delete_stores, emptying, bypassing, lifting}
use Rattle.walk.specs.declared.Fault.{Fault}
use Rattle.walk.specs.Walks.{head_of, walk_of, lowest_of, children_of, other_child}
use Rattle.walk.specs.declared.Spot.{Spot}
use Rattle.walk.specs.declared.End.{End}
use Rattle.walk.specs.declared.End.TheVariants.{AtLeaf, AtEmpty, Stopped, Damaged}
use Rattle.plan.specs.Plans.{the_switch, Decided, decided, refused, planned_for, Planned}
use Rattle.plan.specs.declared.Effect.{Effect}
use Rattle.plan.specs.declared.Effect.TheVariants.{Nothing, TakesLeaf, TakesBoth, FreesLeaf, FreesBoth}

-- "The freed node's byte too": what an effect frees, and the node whose byte in the map is y
abbrev pub with_node : Effect → ℕ → Effect
with_node Nothing y = Nothing
with_node (TakesLeaf i) y = TakesLeaf i
with_node (TakesBoth i j) y = TakesBoth i j
with_node (FreesLeaf i) y = FreesBoth i y
with_node (FreesBoth i j) y = FreesBoth i j

-- one store: the reference in the word `at` becomes 0
abbrev pub emptied : ℕ → Effect → Decided
emptied at o = decided (delete_stores (emptying at)) o

-- one store: "the reference to P takes the other child", r
abbrev pub bypassed : ℕ → Spot → Effect → ℕ → Decided
bypassed n s o r = decided (delete_stores (bypassing s.over r)) (with_node o (n + s.node))

-- "If that child is a node, its header follows (depth: walk depth of P; same branch place; digits from its lowest leaf)." The other child r is
-- node j, which branches at b.
abbrev pub lift_of : ℕ → Spot → Effect → ℕ → ℕ → ℕ → Result ℕ Fault → Decided
lift_of n s o r j b (Ok k2) = decided (delete_stores (lifting 16 n s.over r j s.above b k2)) (with_node o (n + s.node))
lift_of n s o r j b (Err f) = refused 2

abbrev pub lift_at : List ℕ → ℕ → Spot → Effect → ℕ → ℕ → ℕ → Option ℕ → Decided
lift_at pool n s o at r j (Some b) = lift_of n s o r j b (lowest_of pool n s.depth at r)
lift_at pool n s o at r j None = refused 2

abbrev pub lift_in : List ℕ → ℕ → Spot → Effect → ℕ → ℕ → ℕ → Decided
lift_in pool n s o at r j = lift_at pool n s o at r j (head_of s.depth (header_at pool n j))

-- "In 3 the other child is read under the walk's rules, at depth b+1 of P." It is r, in the word `at`.
abbrev pub merge_of : List ℕ → ℕ → Spot → Effect → ℕ → ℕ → Ref → Decided
merge_of pool n s o at r (Leaf i) = bypassed n s o r
merge_of pool n s o at r (Node j) = lift_in pool n s o at r j
merge_of pool n s o at r Empty = refused 2
merge_of pool n s o at r Bad = refused 2

abbrev pub merge_with : List ℕ → ℕ → Spot → Effect → ℕ → ℕ → Decided
merge_with pool n s o at r = merge_of pool n s o at r (ref_of n r)

-- "2. Its node P has three or more children: that child becomes 0. 3. P has two: .. 4. P has one: damage."
abbrev pub unlink_of : List ℕ → ℕ → Spot → Effect → Decided
unlink_of pool n s o =
    pick (ltb (children_of pool n s.node) 2) (refused 2)
    (pick (ltb 2 (children_of pool n s.node)) (emptied s.at o)
    (pick (ltb (other_child pool n s.node s.at) 16)
    (merge_with pool n s o (child_word n s.node (other_child pool n s.node s.at)) (child_at pool n s.node (other_child pool n s.node s.at)))
    (refused 2)))

-- the number of a walk that ended at no leaf: 3 key absent, 2 damage met
abbrev pub miss_of : End → ℕ
miss_of (AtLeaf s i) = 2
miss_of (AtEmpty s) = 3
miss_of (Stopped s j b) = 2
miss_of (Damaged m f) = 2

-- "Delete of a found key: 1. The leaf is the root: root becomes 0."
abbrev pub delete_at : List ℕ → ℕ → ℕ → End → Decided
delete_at pool n k (AtLeaf s i) =
    pick (eqb (key_at pool i) k)
    (pick (eqb s.nodes 0) (emptied s.at (FreesLeaf i)) (unlink_of pool n s (FreesLeaf i)))
    (refused 3)
delete_at pool n k (AtEmpty s) = refused (miss_of (AtEmpty s))
delete_at pool n k (Stopped s j b) = refused (miss_of (Stopped s j b))
delete_at pool n k (Damaged m f) = refused (miss_of (Damaged m f))

abbrev pub delete_in : List ℕ → ℕ → Option ℕ → Decided
delete_in pool k (Some n) = delete_at pool n k (walk_of pool n k)
delete_in pool k None = refused 1

unfoldable pub delete_plan : List ℕ → ℕ → Decided
delete_plan pool k = delete_in pool k (capacity_of pool)

-- what plan_delete promises for a generation
abbrev pub PlanDeleteGives : List ℕ → ℕ → ℕ → Planned → Type 0
PlanDeleteGives pool k g p = p ≡ planned_for g the_switch (delete_plan pool k)
