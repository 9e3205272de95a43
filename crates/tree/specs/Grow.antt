-- The tree that a pool is read as, at most n nodes deep. What is damaged is read as nothing.
-- Assumes nothing.
use Rattle.std.specs.Prelude.{ℕ, zero, suc}
use Rattle.tree.specs.Tree.{Tree, empty, leaf, node}
use Rattle.tree.specs.Shape.{none_there, leaf_there, node_there, bad, Mem, Shape}
use Rattle.tree.specs.Near.{low}

module _ {A : Type 0} where
  -- a node whose sample key is its lowest
  abbrev pub low_node : ℕ → ℕ → (ℕ → Tree A) → Tree A
  low_node x b kids = node x b (low (node x b 0 kids)) kids

module _ {A : Type 0} (S : Shape A) where
  unfoldable pub grow : ℕ → Mem → ℕ → Tree A
  grow zero m r = empty
  grow (suc n) m r =
      elim (S.view m r) [
        | none_there ↦ empty
        | leaf_there x k v ↦ leaf x k v
        | node_there x h b g ↦ low_node x b (λ c. grow n m (S.kid m x c))
        | bad ↦ empty
      ]
