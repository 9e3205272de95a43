-- The layout of document 01 as a shape that trees are held in: N leaves of two words, N - 1 nodes of seventeen, keys of D digits. A slot is named by
-- its byte in the map: leaf i is slot i, node j is slot N + j.
-- Assumes nothing.
use Rattle.std.specs.Prelude.{List, [], ◌∷◌, ℕ, ◌+◌, ◌-◌, ◌*◌, ◌/◌, ◌%◌, ◌^◌, ◌≤◌, ltb}
use Rattle.digits.specs.Choice.{pick}
use Rattle.digits.specs.Digits.{digit_in}
use Rattle.digits.specs.Headers.{stored_in, depth_of, length_of}
use Rattle.pool.specs.Places.{leaf_word, node_word, child_word}
use Rattle.pool.specs.Refs.{ref_of}
use Rattle.pool.specs.declared.Ref.{Ref}
use Rattle.pool.specs.declared.Ref.TheVariants.{Empty, Leaf, Node, Bad}
use Rattle.tree.specs.Tree.{Tree, empty, leaf, node, mult, Good}
use Rattle.tree.specs.Shape.{View, none_there, leaf_there, node_there, bad, Mem, Shape, Holds}

-- "Leaf i (0 to N-1) is words 2+2i (key) and 3+2i (value). Node j (0 to N-2) begins at word 2+2N+17j: its header, then children 0 to 15."
-- The slot that a word belongs to; words 0 and 1 belong to none, and 2 * N stands for that.
unfoldable pub own : ℕ → ℕ → ℕ
own N i = pick (ltb i 2) (2 * N) (pick (ltb i (2 + 2 * N)) ((i - 2) / 2) (N + (i - (2 + 2 * N)) / 17))

-- "At a node .. it is damage if .. length > 15 or b > 15": what a header shows of the node in slot x
unfoldable pub head_view : ℕ → ℕ → ℕ → View ℕ
head_view D x word =
    pick (ltb (length_of word) D)
    (pick (ltb (depth_of word + length_of word) D) (node_there x (depth_of word) (depth_of word + length_of word) (word % 2 ^ 48)) bad)
    bad

-- what stands behind a reference
unfoldable pub ref_view : ℕ → ℕ → Mem → Ref → View ℕ
ref_view D N m Empty = none_there
ref_view D N m (Leaf i) = leaf_there i (m (leaf_word i)) (m (leaf_word i + 1))
ref_view D N m (Node j) = head_view D (N + j) (m (node_word N j))
ref_view D N m Bad = bad

-- the layout; "stored digits are the keys' digits from h on, for the smaller of length and twelve, the rest zero"
unfoldable pub base : ℕ → ℕ → Shape ℕ
base D N = record {
  own = own N;
  view = λ m r. ref_view D N m (ref_of N r);
  kid = λ m x c. m (child_word N (x - N) c);
  stored = λ h b s. stored_in D 12 h (b - h) s;
}

-- "A pool is sound if .. for everything reached from the root:" the memory holds a tree.
pub record Held (D N : ℕ) (m : Mem) (t : Tree ℕ) : Type 0 where
  -- "references are good; a node reached at depth w has w <= h <= b <= 15; .. stored digits are the keys' digits from h on"
  pub holds : Holds (base D N) m 0 (m 1) t
  -- "it has at least two children; every key below it agrees in digits 0 to b-1 with every other; a key below child c has c as digit b"
  pub good : Good (digit_in D) D 0 (λ i. 0) t
  -- "no slot is reached twice"
  pub once : (x : ℕ) → mult x t ≤ 1

-- the word of the reference to a place, the tree's own being in word i: the root's in word 1
unfoldable pub ref_at : {A : Type 0} → ℕ → ℕ → List ℕ → Tree A → ℕ
ref_at N i [] t = i
ref_at N i (c ∷ π) empty = i
ref_at N i (c ∷ π) (leaf x k v) = i
ref_at N i (c ∷ π) (node x b s kids) = ref_at N (child_word N (x - N) c) π (kids c)
