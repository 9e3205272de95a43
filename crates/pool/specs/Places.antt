-- Where leaves and nodes stand in a pool of n leaves, and what a reference to them is.
-- Assumes nothing.
use Rattle.std.specs.Prelude.{List, ℕ, ◌+◌, ◌*◌, get_or, take, drop}

abbrev pub word_at : List ℕ → ℕ → ℕ
word_at pool i = get_or pool i 0

-- "Leaf i (0 to N-1) is words 2+2i (key) and 3+2i (value)."
abbrev pub leaf_word : ℕ → ℕ
leaf_word i = 2 + 2 * i

-- "Node j (0 to N-2) begins at word 2+2N+17j: its header, then children 0 to 15."
abbrev pub node_word : ℕ → ℕ → ℕ
node_word n j = 2 + 2 * n + 17 * j

abbrev pub child_word : ℕ → ℕ → ℕ → ℕ
child_word n j c = node_word n j + 1 + c

-- what stands there
abbrev pub key_at : List ℕ → ℕ → ℕ
key_at pool i = word_at pool (leaf_word i)

abbrev pub value_at : List ℕ → ℕ → ℕ
value_at pool i = word_at pool (leaf_word i + 1)

abbrev pub header_at : List ℕ → ℕ → ℕ → ℕ
header_at pool n j = word_at pool (node_word n j)

abbrev pub child_at : List ℕ → ℕ → ℕ → ℕ → ℕ
child_at pool n j c = word_at pool (child_word n j c)

-- the sixteen of them
abbrev pub children_at : List ℕ → ℕ → ℕ → List ℕ
children_at pool n j = take 16 (drop (node_word n j + 1) pool)

-- "1 to 1024 is leaf number r - 1, 1025 to 2047 is node number r - 1025"
abbrev pub leaf_ref : ℕ → ℕ
leaf_ref i = i + 1

abbrev pub node_ref : ℕ → ℕ
node_ref j = j + 1025
