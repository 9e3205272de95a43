-- Where a put goes, on trees: the key to compare with, and the way to the first node that branches at or past f.
-- Assumes nothing.
use Rattle.std.specs.Prelude.{ℕ, Bool, true, false, List, [], ◌∷◌, ltb}
use Rattle.digits.specs.Loops.{scan, tally}
use Rattle.digits.specs.Choice.{pick}
use Rattle.tree.specs.Tree.{Tree, empty, leaf, node}

module _ {A : Type 0} where
  abbrev pub filled : Tree A → Bool
  filled empty = false
  filled (leaf x k v) = true
  filled (node x b s kids) = true

  -- how many children a node has
  abbrev pub children : (ℕ → Tree A) → ℕ
  children kids = tally 16 (λ c. filled (kids c))

  -- the key of the lowest leaf
  unfoldable pub low : Tree A → ℕ
  low empty = 0
  low (leaf x k v) = k
  low (node x b s kids) = low (kids (scan 16 0 (λ c. filled (kids c))))

module _ (dig : ℕ → ℕ → ℕ) {A : Type 0} where
  -- the key of the leaf that k's walk reaches, or of the lowest leaf below its last node
  unfoldable pub near : ℕ → Tree A → ℕ
  near k empty = 0
  near k (leaf x k' v) = k'
  near k (node x b s kids) = pick (filled (kids (dig k b))) (near k (kids (dig k b))) (low (node x b s kids))

  -- k's walk to the first node that branches at or past f, or to its end
  unfoldable pub way : ℕ → ℕ → Tree A → List ℕ
  way f k empty = []
  way f k (leaf x k' v) = []
  way f k (node x b s kids) = pick (ltb b f) (dig k b ∷ way f k (kids (dig k b))) []
