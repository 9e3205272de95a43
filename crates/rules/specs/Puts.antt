-- What a put stores, in order, in any pool and map.
-- Assumes nothing.
use Rattle.std.specs.Prelude.{◌≡◌, List, [], ◌∷◌, ℕ, ◌+◌, ◌-◌, ◌<◌, eqb, ltb, length, get_or, Err, None, Ok, Option, Result, Some}
use Rattle.digits.specs.Choice.{pick}
use Rattle.digits.specs.Loops.{scan}
use Rattle.digits.specs.Digits.{first_diff}
use Rattle.tree.specs.Stores.{Store}
use Rattle.pool.specs.Sizes.{capacity_of, bytes_of}
use Rattle.pool.specs.Places.{word_at, key_at}
use Rattle.layout.specs.Operations.{Putting, put_stores, replacing, growing, split_children, target_store, splitting_leaf, splitting_node}
use Rattle.walk.specs.declared.Fault.{Fault}
use Rattle.walk.specs.Walks.{walk_of, walk_to, lowest_of}
use Rattle.walk.specs.declared.Spot.{Spot}
use Rattle.walk.specs.declared.End.{End}
use Rattle.walk.specs.declared.End.TheVariants.{AtLeaf, AtEmpty, Stopped, Damaged}
use Rattle.plan.specs.Plans.{all_but_last, Decided, decided, refused, planned_for, Planned}
use Rattle.plan.specs.declared.Effect.TheVariants.{Nothing, TakesLeaf, TakesBoth}
use Rattle.rules.specs.declared.Cleft.{Cleft}
use Rattle.rules.specs.declared.Target.{Target}
use Rattle.rules.specs.declared.Target.TheVariants.{ALeaf, ANode}
use Rattle.rules.specs.declared.Slots.{Slots}

-- "New leaves and nodes are the lowest-numbered free ones." The lowest free byte of a map from one byte to another, or the other.
abbrev pub free_from : List ℕ → ℕ → ℕ → ℕ
free_from map from to = scan (to - from) from (λ i. eqb (get_or map i 0) 0)

-- the same as the code says it: none where there is no such byte
abbrev pub free_of : List ℕ → ℕ → ℕ → Option ℕ
free_of map from to = pick (ltb (free_from map from to) to) (Some (free_from map from to)) None

abbrev pub free_leaf : List ℕ → ℕ → ℕ
free_leaf map n = free_from map 0 n

abbrev pub free_node : List ℕ → ℕ → ℕ
free_node map n = free_from map n (bytes_of n)

abbrev pub leaf_of : List ℕ → ℕ → Option ℕ
leaf_of map n = free_of map 0 n

-- "leaf key, leaf value, that child. 3 stores." The reference is the word `at`.
abbrev pub grow_of : List ℕ → ℕ → ℕ → ℕ → ℕ → Decided
grow_of map n k v at =
    pick (ltb (free_leaf map n) n) (decided (put_stores (growing (free_leaf map n) k v at)) (TakesLeaf (free_leaf map n))) (refused 4)

-- "its children 0 to 15 in order, the new leaf at digit f of k, the old target at digit f of k2, the rest 0"
abbrev pub split_child : Cleft → ℕ → ℕ → ℕ → ℕ
split_child s leaf k c = split_children 16 s.diff k s.near leaf s.old c

-- "if the target is a node, its header (depth f+1, length b-f-1, digits of k2 from f+1)": node j, which branches at b
abbrev pub target_header : ℕ → Cleft → Target → List Store
target_header n s ALeaf = []
target_header n s (ANode j b) = target_store 16 n s.diff s.near j b ∷ []

-- a node that is split off branches past f
abbrev pub Splits : ℕ → Cleft → Target → Type 0
Splits n s ALeaf = Unit {0}
Splits n s (ANode j b) = (j + 1 < n) × (s.diff < b) × (b < 16)

-- "Split of a reference met at walk depth w: ..": by what is split off
abbrev pub cleaving : ℕ → Cleft → ℕ → ℕ → ℕ → ℕ → Target → Putting
cleaving n s leaf node k v ALeaf = splitting_leaf 16 n s.depth s.diff k v s.near leaf node s.at s.old
cleaving n s leaf node k v (ANode j b) = splitting_node 16 n s.depth s.diff k v s.near leaf node s.at s.old j b

-- a split takes a leaf and a node, each by its byte in the map
abbrev pub slots : ℕ → ℕ → Slots
slots leaf node = record { leaf = leaf; node = node }

abbrev pub room_of : List ℕ → ℕ → Option Slots
room_of map n =
    pick (ltb (free_leaf map n) n) (pick (ltb (free_node map n) (bytes_of n)) (Some (slots (free_leaf map n) (free_node map n))) None) None

abbrev pub split_in : ℕ → Cleft → ℕ → ℕ → Target → Option Slots → Decided
split_in n s k v target (Some r) = decided (put_stores (cleaving n s r.leaf (r.node - n) k v target)) (TakesBoth r.leaf r.node)
split_in n s k v target None = refused 4

abbrev pub split_of : List ℕ → ℕ → Cleft → ℕ → ℕ → Target → Decided
split_of map n s k v target = split_in n s k v target (room_of map n)

abbrev pub cleft_at : List ℕ → ℕ → ℕ → Spot → Cleft
cleft_at pool k2 f s = record { at = s.at; depth = s.depth; old = word_at pool s.at; near = k2; diff = f }

-- "Take the first node of the walk with b >= f." The walk that stops there; where the walk ended at an empty child, `last` is the number of
-- nodes that it passed and `gap` the word of that child, else last is 0.
-- "- b = f, and it is the last node and the child empty: leaf key, leaf value, that child.
--  - b > f: split the reference to that node. No such node and the walk ended at a leaf: split the reference to the leaf.
--  - In all other cases ..: damage."
abbrev pub placed_at : List ℕ → List ℕ → ℕ → ℕ → ℕ → ℕ → ℕ → ℕ → ℕ → End → Decided
placed_at pool map n k v k2 f last gap (Stopped s j b) =
    pick (eqb b f)
    (pick (eqb (s.nodes + 1) last) (grow_of map n k v gap) (refused 2))
    (split_of map n (cleft_at pool k2 f s) k v (ANode j b))
placed_at pool map n k v k2 f last gap (AtLeaf s i) = split_of map n (cleft_at pool k2 f s) k v ALeaf
placed_at pool map n k v k2 f last gap (AtEmpty s) = refused 2
placed_at pool map n k v k2 f last gap (Damaged m x) = refused 2

-- "Otherwise let k2 be the key of the leaf reached, or of the lowest leaf below the last node of the walk, and f the first differing digit of
-- k and k2." "f = 16 among them: damage"
abbrev pub beside_of : List ℕ → List ℕ → ℕ → ℕ → ℕ → ℕ → ℕ → ℕ → Decided
beside_of pool map n k v last gap k2 =
    pick (eqb (first_diff k k2) 16) (refused 2)
    (placed_at pool map n k v k2 (first_diff k k2) last gap (walk_to pool n k (first_diff k k2)))

abbrev pub below_last : List ℕ → List ℕ → ℕ → ℕ → ℕ → Spot → Result ℕ Fault → Decided
below_last pool map n k v s (Ok k2) = beside_of pool map n k v s.nodes s.at k2
below_last pool map n k v s (Err f) = refused 2

-- "1. k is found: one store, the leaf's value."
abbrev pub replaced : ℕ → ℕ → Decided
replaced i v = decided (put_stores (replacing i v)) Nothing

abbrev pub leaf_put : List ℕ → List ℕ → ℕ → ℕ → ℕ → ℕ → Decided
leaf_put pool map n k v i = pick (eqb (key_at pool i) k) (replaced i v) (beside_of pool map n k v 0 0 (key_at pool i))

-- "2. Root empty: leaf key, leaf value, root. 3 stores."
abbrev pub empty_put : List ℕ → List ℕ → ℕ → ℕ → ℕ → Spot → Decided
empty_put pool map n k v s =
    pick (eqb s.nodes 0) (grow_of map n k v s.at)
    (below_last pool map n k v s (lowest_of pool n s.above s.over (word_at pool s.over)))

-- "Put, key k, value v", by where the walk ends
abbrev pub put_at : List ℕ → List ℕ → ℕ → ℕ → ℕ → End → Decided
put_at pool map n k v (AtLeaf s i) = leaf_put pool map n k v i
put_at pool map n k v (AtEmpty s) = empty_put pool map n k v s
put_at pool map n k v (Stopped s j b) = refused 2
put_at pool map n k v (Damaged m f) = refused 2

-- 02 (x): "Puts of file number 0 are refused, for new and held keys alike." "7, after 1 and before 2"
abbrev pub put_file : List ℕ → List ℕ → ℕ → ℕ → ℕ → Decided
put_file pool map n k v = pick (eqb v 0) (refused 7) (put_at pool map n k v (walk_of pool n k))

abbrev pub put_in : List ℕ → List ℕ → ℕ → ℕ → Option ℕ → Decided
put_in pool map k v (Some n) = pick (eqb (length map) (bytes_of n)) (put_file pool map n k v) (refused 1)
put_in pool map k v None = refused 1

unfoldable pub put_plan : List ℕ → List ℕ → ℕ → ℕ → Decided
put_plan pool map k v = put_in pool map k v (capacity_of pool)

-- what plan_put promises for a generation
abbrev pub PlanPutGives : List ℕ → List ℕ → ℕ → ℕ → ℕ → Planned → Type 0
PlanPutGives pool map k v g p = p ≡ planned_for g all_but_last (put_plan pool map k v)
