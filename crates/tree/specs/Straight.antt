-- Stale nodes, told by a tree: "A node with h > w is stale".
-- Assumes nothing.
use Rattle.std.specs.Prelude.{◌≡◌, ℕ, ◌+◌, ◌<◌}
use Rattle.tree.specs.Tree.{Tree, empty, leaf, node}

-- The header of the node in slot x says depth h x. Each node but those in the slots `but` is met at that depth, the tree being met at w.
unfoldable pub StraightBut : {A : Type 0} → (ℕ → ℕ) → (ℕ → Type 0) → ℕ → Tree A → Type 0
StraightBut h but w empty = Unit {0}
StraightBut h but w (leaf x k v) = Unit {0}
StraightBut h but w (node x b s kids) = ((but x → ⊥) → h x ≡ w) × ((c : ℕ) → c < 16 → StraightBut h but (b + 1) (kids c))
