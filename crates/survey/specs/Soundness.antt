-- "Sound and straight", clause by clause, in the document's order.
-- Assumes nothing.
use Rattle.std.specs.Prelude.{◌≡◌, List, ℕ, ◌+◌, ◌%◌, ◌^◌, ◌≤◌, ◌<◌, Some, Option, None}
use Rattle.digits.specs.Digits.{digit_of}
use Rattle.digits.specs.Headers.{depth_of, length_of, stored_in}
use Rattle.pool.specs.Sizes.{capacity_of}
use Rattle.pool.specs.Places.{word_at, key_at, header_at, child_word}
use Rattle.pool.specs.Refs.{ref_of}
use Rattle.pool.specs.declared.Ref.{Ref}
use Rattle.pool.specs.declared.Ref.TheVariants.{Empty, Leaf, Node, Bad}
use Rattle.walk.specs.Walks.{children_of}

-- "Slots are named by their byte number in the map."
abbrev pub slot_of : ℕ → Ref → Option ℕ
slot_of n Empty = None
slot_of n (Leaf i) = Some i
slot_of n (Node j) = Some (n + j)
slot_of n Bad = None

module _ (pool : List ℕ) (n : ℕ) where
  -- what the reference at word i means
  abbrev pub at : ℕ → Ref
  at i = ref_of n (word_at pool i)

  -- "The branch place b is depth + length"
  abbrev pub depth : ℕ → ℕ
  depth j = depth_of (header_at pool n j)

  abbrev pub branch : ℕ → ℕ
  branch j = depth_of (header_at pool n j) + length_of (header_at pool n j)

  -- everything reached from the root: the reference at a word, met at a walk depth. "the root has w = 0, a node's children w = b+1"
  pub data Reached : ℕ → ℕ → Type 0 where
    root : Reached 1 0
    child : {i w : ℕ} (j c : ℕ) → Reached i w → at i ≡ Node j → c < 16 → Reached (child_word n j c) (branch j + 1)

  -- the keys below the reference at a word
  pub data Below : ℕ → ℕ → Type 0 where
    here : {i : ℕ} (l : ℕ) → at i ≡ Leaf l → Below i (key_at pool l)
    under : {i k : ℕ} (j c : ℕ) → at i ≡ Node j → c < 16 → Below (child_word n j c) k → Below i k

  -- node j, reached by the reference at word i at walk depth w
  pub record SoundNode (i w j : ℕ) : Type 0 where
    -- "a node reached at depth w has w <= h <= b <= 15"
    pub deep : w ≤ depth j
    pub high : branch j ≤ 15
    -- "it has at least two children"
    pub two : 2 ≤ children_of pool n j
    -- "every key below it agrees in digits 0 to b-1 with every other"
    pub agree : (k k' d : ℕ) → Below i k → Below i k' → d < branch j → digit_of k d ≡ digit_of k' d
    -- "a key below child c has c as digit b"
    pub turn : (c k : ℕ) → c < 16 → Below (child_word n j c) k → digit_of k (branch j) ≡ c
    -- "stored digits are the keys' digits from h on, for the smaller of length and twelve, the rest zero"
    pub stored : (k : ℕ) → Below i k → header_at pool n j % 2 ^ 48 ≡ stored_in 16 12 (depth j) (length_of (header_at pool n j)) k

-- "A pool is sound if its length and word 0 agree and, for everything reached from the root: .."
pub record Sound (pool : List ℕ) : Type 0 where
  pub n : ℕ
  pub size : capacity_of pool ≡ Some n
  -- "references are good"
  pub good : (i w : ℕ) → Reached pool n i w → at pool n i ≡ Bad → ⊥
  pub nodes : (i w j : ℕ) → Reached pool n i w → at pool n i ≡ Node j → SoundNode pool n i w j
  -- "no slot is reached twice"
  pub once : (i i' w w' x : ℕ) → Reached pool n i w → Reached pool n i' w' → slot_of n (at pool n i) ≡ Some x → slot_of n (at pool n i') ≡ Some x → i ≡ i'

-- "A node with h > w is stale": node j
pub record Stale (pool : List ℕ) (n j : ℕ) : Type 0 where
  pub i : ℕ
  pub w : ℕ
  pub reached : Reached pool n i w
  pub node : at pool n i ≡ Node j
  pub above : w < depth pool n j

-- "A sound pool without stale nodes is straight."
pub record Straight (pool : List ℕ) : Type 0 where
  pub sound : Sound pool
  pub none_stale : (j : ℕ) → Stale pool sound.n j → ⊥

-- a slot is reached
pub record InUse (pool : List ℕ) (n x : ℕ) : Type 0 where
  pub i : ℕ
  pub w : ℕ
  pub reached : Reached pool n i w
  pub slot : slot_of n (at pool n i) ≡ Some x
