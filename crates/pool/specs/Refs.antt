-- What a reference means in a pool of n leaves.
-- Assumes nothing.
use Rattle.std.specs.Prelude.{ℕ, ◌+◌, ◌-◌, ◌<◌, eqb, leb, ltb}
use Rattle.digits.specs.Choice.{pick}
use Rattle.pool.specs.declared.Ref.{Ref}
use Rattle.pool.specs.declared.Ref.TheVariants.{Empty, Leaf, Node, Bad}

-- "A reference r: 0 is empty, 1 to 1024 is leaf number r - 1, 1025 to 2047 is node number r - 1025. Anything else, or a number outside
-- this pool's N leaves or N-1 nodes, is damage."
unfoldable pub ref_of : ℕ → ℕ → Ref
ref_of n r =
    pick (eqb r 0) Empty
    (pick (leb r 1024) (pick (ltb (r - 1) n) (Leaf (r - 1)) Bad)
    (pick (leb r 2047) (pick (ltb (r - 1025 + 1) n) (Node (r - 1025)) Bad) Bad))

-- the number in a good reference is one of the pool's
abbrev pub Within : ℕ → Ref → Type 0
Within n Empty = Unit {0}
Within n (Leaf i) = i < n
Within n (Node j) = j + 1 < n
Within n Bad = Unit {0}
