-- The new node of a split.
-- Assumes nothing.
use Rattle.std.specs.Prelude.{List, ◌∷◌, ℕ, ◌-◌, ◌≤◌, ◌<◌}
use Rattle.digits.specs.Headers.{header_of}
use Rattle.tree.specs.Stores.{tab}
use Rattle.rules.specs.Puts.{split_child}
use Rattle.rules.specs.declared.Cleft.{Cleft}

-- the numbers of a cleft are such as a header takes
abbrev pub Cloven : Cleft → Type 0
Cloven s = (s.depth ≤ s.diff) × (s.diff < 16)

-- the words of a split's new node: its header and its children
abbrev pub node_values : Cleft → ℕ → ℕ → List ℕ
node_values s leaf k = header_of s.depth (s.diff - s.depth) k ∷ tab 16 (split_child s leaf k)
