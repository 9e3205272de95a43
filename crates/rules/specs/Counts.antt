-- How many stores a put and a delete make, by what they do to the map.
-- Assumes nothing.
use Rattle.std.specs.Prelude.{ℕ, ◌+◌}
use Rattle.pool.specs.declared.Ref.{Ref}
use Rattle.pool.specs.declared.Ref.TheVariants.{Empty, Leaf, Node, Bad}
use Rattle.plan.specs.declared.Effect.{Effect}
use Rattle.plan.specs.declared.Effect.TheVariants.{Nothing, TakesLeaf, TakesBoth, FreesLeaf, FreesBoth}

-- one store more for a node
abbrev pub for_node : Ref → ℕ
for_node Empty = 0
for_node (Leaf i) = 0
for_node (Node j) = 1
for_node Bad = 0

-- "k is found: one store"; "3 stores"; "20 stores for a leaf target, 21 for a node"
abbrev pub put_count : Effect → Ref → ℕ
put_count Nothing target = 1
put_count (TakesLeaf a) target = 3
put_count (TakesBoth a b) target = 20 + for_node target
put_count (FreesLeaf a) target = 0
put_count (FreesBoth a b) target = 0

-- "1 store"; "the reference to P takes the other child. If that child is a node, its header follows .. 1 or 2 stores"
abbrev pub delete_count : Effect → Ref → ℕ
delete_count Nothing other = 0
delete_count (TakesLeaf a) other = 0
delete_count (TakesBoth a b) other = 0
delete_count (FreesLeaf a) other = 1
delete_count (FreesBoth a b) other = 1 + for_node other
