-- What each operation stores, in order.
-- Assumes nothing.
use Rattle.std.specs.Prelude.{List, [], ◌∷◌, ◌++◌, ℕ, ◌+◌, ◌-◌}
use Rattle.digits.specs.Digits.{digit_in}
use Rattle.digits.specs.Headers.{header_in}
use Rattle.pool.specs.Places.{leaf_word, node_word, leaf_ref, node_ref}
use Rattle.tree.specs.Tree.{upd}
use Rattle.tree.specs.Stores.{Store, block, tab}

-- ---- stores
abbrev pub store : ℕ → ℕ → Store
store i a = record { word = i; value = a }

-- "leaf key, leaf value"
abbrev pub leaf_stores : ℕ → ℕ → ℕ → List Store
leaf_stores z k v = block (leaf_word z) (k ∷ v ∷ [])

-- the header of node j, of depth h and branch place b, over keys that begin as k
abbrev pub header_store : ℕ → ℕ → ℕ → ℕ → ℕ → ℕ → Store
header_store D N j h b k = store (node_word N j) (header_in D h (b - h) k)

-- "the new leaf at digit f of k, the old target at digit f of k2, the rest 0": z is the new leaf, r the reference to the target
abbrev pub split_children : ℕ → ℕ → ℕ → ℕ → ℕ → ℕ → ℕ → ℕ
split_children D f k k₂ z r = upd (upd (λ c. 0) (digit_in D k₂ f) r) (digit_in D k f) (leaf_ref z)

-- "new node header (depth w, length f-w, digits of k from w); its children 0 to 15 in order": the new node is j
abbrev pub node_stores : ℕ → ℕ → ℕ → ℕ → ℕ → ℕ → ℕ → ℕ → ℕ → List Store
node_stores D N w f k k₂ z j r = block (node_word N j) (header_in D w (f - w) k ∷ tab 16 (split_children D f k k₂ z r))

-- "if the target is a node, its header (depth f+1, length b-f-1, digits of k2 from f+1)": the target is node i, of branch place b
abbrev pub target_store : ℕ → ℕ → ℕ → ℕ → ℕ → ℕ → Store
target_store D N f k₂ i b = store (node_word N i) (header_in D (f + 1) (b - f - 1) k₂)

-- ---- operations
-- the stores of a put: all but the last, and the last, from which it counts
pub record Putting : Type 0 where
  pub first : List Store
  pub last : Store

abbrev pub put_stores : Putting → List Store
put_stores o = o.first ++ o.last ∷ []

-- the stores of a delete: the first, from which it counts, and the others
pub record Deleting : Type 0 where
  pub first : Store
  pub rest : List Store

abbrev pub delete_stores : Deleting → List Store
delete_stores o = o.first ∷ o.rest

-- "k is found: one store, the leaf's value."
abbrev pub replacing : ℕ → ℕ → Putting
replacing z v = record { first = []; last = store (leaf_word z + 1) v }

-- "leaf key, leaf value, root. 3 stores." "leaf key, leaf value, that child. 3 stores." The reference is the word `at`.
abbrev pub growing : ℕ → ℕ → ℕ → ℕ → Putting
growing z k v at = record { first = leaf_stores z k v; last = store at (leaf_ref z) }

-- "Split of a reference met at walk depth w: leaf key, leaf value; new node header ..; its children ..; if the target is a node, its header ..; last,
-- the reference." The reference is the word `at`, where r stands; the new leaf is z, the new node j; `target` is the target's header, or nothing.
abbrev pub splitting : ℕ → ℕ → ℕ → ℕ → ℕ → ℕ → ℕ → ℕ → ℕ → ℕ → ℕ → List Store → Putting
splitting D N w f k v k₂ z j at r target = record { first = leaf_stores z k v ++ node_stores D N w f k k₂ z j r ++ target; last = store at (node_ref j) }

-- "20 stores for a leaf target, 21 for a node."
abbrev pub splitting_leaf : ℕ → ℕ → ℕ → ℕ → ℕ → ℕ → ℕ → ℕ → ℕ → ℕ → ℕ → Putting
splitting_leaf D N w f k v k₂ z j at r = splitting D N w f k v k₂ z j at r []

abbrev pub splitting_node : ℕ → ℕ → ℕ → ℕ → ℕ → ℕ → ℕ → ℕ → ℕ → ℕ → ℕ → ℕ → ℕ → Putting
splitting_node D N w f k v k₂ z j at r i b = splitting D N w f k v k₂ z j at r (target_store D N f k₂ i b ∷ [])

-- "root becomes 0. 1 store." "that child becomes 0. 1 store." The reference is the word `at`.
abbrev pub emptying : ℕ → Deleting
emptying at = record { first = store at 0; rest = [] }

-- "the reference to P takes the other child": that reference is the word `over`, the other child r
abbrev pub bypassing : ℕ → ℕ → Deleting
bypassing over r = record { first = store over r; rest = [] }

-- "If that child is a node, its header follows (depth: walk depth of P; same branch place; digits from its lowest leaf)." It is node j, of branch
-- place b; h is the walk depth of P, k the key of the lowest leaf.
abbrev pub lifting : ℕ → ℕ → ℕ → ℕ → ℕ → ℕ → ℕ → ℕ → Deleting
lifting D N over r j h b k = record { first = store over r; rest = header_store D N j h b k ∷ [] }
