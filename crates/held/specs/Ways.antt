-- Where a walk stands and ends, told by the tree that the pool holds.
-- Assumes nothing.
use Rattle.std.specs.Prelude.{List, [], ◌∷◌, ℕ, ◌-◌}
use Rattle.digits.specs.Digits.{digit_in}
use Rattle.pool.specs.Places.{word_at}
use Rattle.tree.specs.Tree.{Tree, empty, leaf, node}
use Rattle.tree.specs.Shape.{Mem}
use Rattle.walk.specs.Walks.{below}
use Rattle.walk.specs.declared.Spot.{Spot}
use Rattle.walk.specs.declared.End.{End}
use Rattle.walk.specs.declared.End.TheVariants.{AtLeaf, AtEmpty, Stopped}

-- how the digits of a name number are read
abbrev pub dig : ℕ → ℕ → ℕ
dig = digit_in 16

-- a pool's words as a memory
abbrev pub mem : List ℕ → Mem
mem pool i = word_at pool i

module _ {A : Type 0} (n : ℕ) where
  -- the spot at a place of the tree that the spot s refers to
  unfoldable pub spot_at : Spot → List ℕ → Tree A → Spot
  spot_at s [] t = s
  spot_at s (c ∷ π) empty = s
  spot_at s (c ∷ π) (leaf x k v) = s
  spot_at s (c ∷ π) (node x b k kids) = spot_at (below n (x - n) b c s) π (kids c)

  -- how a walk ends that stands at s before the tree t and goes no further
  abbrev pub end_at : Spot → Tree A → End
  end_at s empty = AtEmpty s
  end_at s (leaf x k v) = AtLeaf s x
  end_at s (node x b k kids) = Stopped s (x - n) b
