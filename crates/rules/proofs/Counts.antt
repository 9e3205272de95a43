-- How many stores a split makes.
-- Assumes nothing.
use mathlib.Core.Path.{◌≡◌, refl}
use Prim.Native.Nat.{ℕ, ◌≤◌}
use native.Mathlib.Omega.{arith}
use lib.ListN.{length}
use Rattle.tree.specs.Stores.{block, tab}
use Rattle.layout.specs.Operations.{put_stores}
use Rattle.rules.specs.declared.Cleft.{Cleft}
use Rattle.rules.specs.declared.Target.{Target}
use Rattle.rules.specs.declared.Target.TheVariants.{ALeaf, ANode}
use Rattle.rules.specs.Puts.{cleaving}

-- "20 stores for a leaf target, 21 for a node"
module _ (n : ℕ) (s : Cleft) (leaf node k v : ℕ) where
  pub leaf_split_count : length (put_stores (cleaving n s leaf node k v ALeaf)) ≡ 20
  unfolding block tab
  leaf_split_count = refl

  pub node_split_count : (j b : ℕ) → length (put_stores (cleaving n s leaf node k v (ANode j b))) ≡ 21
  unfolding block tab
  node_split_count j b = refl

  pub split_few : (target : Target) → length (put_stores (cleaving n s leaf node k v target)) ≤ 21
  split_few ALeaf = rw leaf_split_count (omega arith)
  split_few (ANode j b) = rw (node_split_count j b) (omega arith)
