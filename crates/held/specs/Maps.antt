-- "A map that marks just the slots in use", told by the tree that the pool holds.
-- Assumes nothing.
use Rattle.std.specs.Prelude.{◌≡◌, List, ℕ, ◌<◌, length}
use Rattle.pool.specs.Sizes.{bytes_of}
use Rattle.pool.specs.Places.{word_at}
use Rattle.tree.specs.Tree.{Tree, mult}

-- a byte is 0 exactly if the tree does not reach its slot
pub record Marked (n : ℕ) (bytes : List ℕ) (t : Tree ℕ) : Type 0 where
  pub size : length bytes ≡ bytes_of n
  pub free : (x : ℕ) → x < bytes_of n → word_at bytes x ≡ 0 → mult x t ≡ 0
  pub taken : (x : ℕ) → x < bytes_of n → mult x t ≡ 0 → word_at bytes x ≡ 0
