-- The ways that the rules give through the words of any pool, sound or not, as relations: the walk, the lowest leaf, a listing's visit; and, call by
-- call, which number each way's end has. They are read apart from the definitions that compute the same.
-- Assumes nothing.
use Rattle.std.specs.Prelude.{◌≡◌, Bool, true, false, ◌≢◌, ◌⊎◌, List, [], ◌∷◌, ◌++◌, map, ℕ, zero, suc, ◌+◌, ◌≤◌, ◌<◌, leb, length, Option, None, Some}
use Rattle.digits.specs.Choice.{pick}
use Rattle.digits.specs.Digits.{digit_in, digit_of, first_diff}
use Rattle.digits.specs.Headers.{length_of}
use Rattle.pool.specs.Sizes.{bytes_of}
use Rattle.pool.specs.Places.{word_at, key_at, value_at, header_at, child_at, child_word}
use Rattle.pool.specs.declared.Ref.TheVariants.{Empty, Leaf, Node, Bad}
use Rattle.walk.specs.Walks.{children_of}
use Rattle.finding.specs.Lookups.{Answer, answer}
use Rattle.listing.specs.Listings.{Told, listed}
use Rattle.survey.specs.Soundness.{at, depth, branch}

-- f 0 to f (c - 1), one after the other
unfoldable pub in_turn : ℕ → (ℕ → List (Option ℕ)) → List (Option ℕ)
in_turn zero f = []
in_turn (suc c) f = in_turn c f ++ f c

-- how many of these leaves have a "key at or above a given key"
unfoldable pub fitting : List ℕ → ℕ → List ℕ → ℕ
fitting pool from [] = 0
fitting pool from (l ∷ ls) = pick (leb from (key_at pool l)) 1 0 + fitting pool from ls

-- i is a word's number, w a walk depth, m how many nodes are passed, j a node's number, l a leaf's, c and d places of children
module _ (pool : List ℕ) (n : ℕ) where
  -- ---- ways
  -- The reference at word i, met at walk depth w, is damage. "Anything else, or a number outside this pool's N leaves or N-1 nodes, is damage."
  -- "At a node with depth h it is damage if h < w, length > 15 or b > 15."
  pub data Broken (i w : ℕ) : Type 0 where
    bad : at pool n i ≡ Bad → Broken i w
    low : {j : ℕ} → at pool n i ≡ Node j → depth pool n j < w → Broken i w
    long : {j : ℕ} → at pool n i ≡ Node j → 15 < length_of (header_at pool n j) → Broken i w
    far : {j : ℕ} → at pool n i ≡ Node j → 15 < branch pool n j → Broken i w

  -- "Otherwise": it is to node j, whose header is accepted
  pub record Accepted (i w j : ℕ) : Type 0 where
    pub node : at pool n i ≡ Node j
    pub deep : w ≤ depth pool n j
    pub high : branch pool n j ≤ 15

  -- "the child chosen by digit b"
  abbrev pub chosen : ℕ → ℕ → ℕ
  chosen key j = child_word n j (digit_of key (branch pool n j))

  -- The walk along a key comes past m nodes to the reference at word i, at walk depth w. "It begins at the root reference with walk depth
  -- w = 0. .. Otherwise the walk goes to the child chosen by digit b, with w = b+1."
  pub data Way (key : ℕ) : ℕ → ℕ → ℕ → Type 0 where
    root : Way key 1 0 0
    past : {i w m j : ℕ} → Way key i w m → Accepted i w j → Way key (chosen key j) (branch pool n j + 1) (m + 1)

  -- "the lowest non-empty child" of node j is c
  pub record LowestChild (j c : ℕ) : Type 0 where
    pub place : c < 16
    pub child : child_at pool n j c ≢ 0
    pub before : (d : ℕ) → d < c → child_at pool n j d ≡ 0

  -- The key of the lowest leaf below the reference at word i, met at walk depth w; none where damage is met. "'Lowest leaf' below a reference
  -- means following the lowest non-empty child each time, under the walk's damage rules; a childless node is damage."
  pub data Lowest : ℕ → ℕ → Option ℕ → Type 0 where
    leaf : {i w l : ℕ} → at pool n i ≡ Leaf l → Lowest i w (Some (key_at pool l))
    broken : {i w : ℕ} → Broken i w → Lowest i w None
    childless : {i w j : ℕ} → Accepted i w j → children_of pool n j ≡ 0 → Lowest i w None
    under : {i w j c : ℕ} {r : Option ℕ} → Accepted i w j → LowestChild j c → Lowest (child_word n j c) (branch pool n j + 1) r → Lowest i w r

  -- All that a visit of the reference at word i, met at walk depth w, would meet if it did not stop, in order: leaves, and none for damage.
  -- "Listing visits a reference; a node's visit visits its sixteen references, lowest first, no subtree skipped. The walk's damage rules hold
  -- at each visit: the root has w = 0, a node's children w = b+1." "a childless node .. refuses"
  pub data Meets : ℕ → ℕ → List (Option ℕ) → Type 0 where
    empty : {i w : ℕ} → at pool n i ≡ Empty → Meets i w []
    leaf : {i w l : ℕ} → at pool n i ≡ Leaf l → Meets i w (Some l ∷ [])
    broken : {i w : ℕ} → Broken i w → Meets i w (None ∷ [])
    childless : {i w j : ℕ} → Accepted i w j → children_of pool n j ≡ 0 → Meets i w (None ∷ [])
    node : {i w j : ℕ} (items : ℕ → List (Option ℕ)) → Accepted i w j → children_of pool n j ≢ 0
        → ((c : ℕ) → c < 16 → Meets (child_word n j c) (branch pool n j + 1) (items c)) → Meets i w (in_turn 16 items)

  -- ---- lookup
  -- "the walk ends at a leaf, at an empty reference or at damage"; "the leaf's key decides. Lookup also reports how many nodes had an accepted
  -- header on its walk". "Refusals give 0 in every number field but lookup's node count"
  pub data Lookup (key : ℕ) : Answer → Type 0 where
    damage : {i w m : ℕ} → Way key i w m → Broken i w → Lookup key (answer 2 0 m)
    empty : {i w m : ℕ} → Way key i w m → at pool n i ≡ Empty → Lookup key (answer 3 0 m)
    other : {i w m l : ℕ} → Way key i w m → at pool n i ≡ Leaf l → key_at pool l ≢ key → Lookup key (answer 3 0 m)
    found : {i w m l : ℕ} → Way key i w m → at pool n i ≡ Leaf l → key_at pool l ≡ key → Lookup key (answer 0 (value_at pool l) m)

  -- ---- the quick lookup
  -- Place c of node j's header is in use, and holds another digit than the key has at the header's depth + c. "47..0 the first twelve digits of
  -- the prefix, first digit highest"
  pub record Unlike (key j c : ℕ) : Type 0 where
    pub stored : c < 12
    pub used : c < length_of (header_at pool n j)
    pub digit : digit_in 12 (header_at pool n j) c ≢ digit_of key (depth pool n j + c)

  -- such a place has the node to which the walk along the key comes past m others
  pub data Differing (key : ℕ) : ℕ → Type 0 where
    differing : {i w m j c : ℕ} → Way key i w m → Accepted i w j → Unlike key j c → Differing key m

  -- Document 02: "compares stored digits on the way and stops at the first that differs"; the node counts. Where none differs it is lookup.
  pub data Quick (key : ℕ) : Answer → Type 0 where
    stopped : {m : ℕ} → Differing key m → ((x : ℕ) → x < m → Differing key x → ⊥) → Quick key (answer 3 0 (m + 1))
    passed : {a : Answer} → ((x : ℕ) → Differing key x → ⊥) → Lookup key a → Quick key a

  -- ---- delete
  -- "Its node P" of a found key is node j
  pub data Parent (key : ℕ) : ℕ → Type 0 where
    parent : {i w m j l : ℕ} → Way key i w m → Accepted i w j → at pool n (chosen key j) ≡ Leaf l → key_at pool l ≡ key → Parent key j

  -- "the other child" of node j is c. "A child is any of the sixteen words that is not 0."
  pub record Other (key j c : ℕ) : Type 0 where
    pub place : c < 16
    pub child : child_at pool n j c ≢ 0
    pub off : c ≢ digit_of key (branch pool n j)

  pub data Delete (key : ℕ) : ℕ → Type 0 where
    -- as lookup: "2 | damage met", "3 | key absent (lookup, delete)"
    missed : {x m : ℕ} → Lookup key (answer x 0 m) → x ≢ 0 → Delete key x
    -- "1. The leaf is the root"
    root : {l : ℕ} → at pool n 1 ≡ Leaf l → key_at pool l ≡ key → Delete key 0
    -- "2. Its node P has three or more children"
    three : {j : ℕ} → Parent key j → 3 ≤ children_of pool n j → Delete key 0
    -- "3. P has two .. the other child is read under the walk's rules, at depth b+1 of P. Damage anywhere on these ways refuses"
    two : {j c k2 : ℕ} → Parent key j → children_of pool n j ≡ 2 → Other key j c → Lowest (child_word n j c) (branch pool n j + 1) (Some k2) → Delete key 0
    damaged : {j c : ℕ} → Parent key j → children_of pool n j ≡ 2 → Other key j c → Lowest (child_word n j c) (branch pool n j + 1) None → Delete key 2
    -- "4. P has one: damage."
    one : {j : ℕ} → Parent key j → children_of pool n j ≡ 1 → Delete key 2

  -- ---- put
  -- "let k2 be the key of the leaf reached, or of the lowest leaf below the last node of the walk, and f the first differing digit of k and k2"
  pub data Differs (key : ℕ) : ℕ → Type 0 where
    leaf : {i w m l : ℕ} → Way key i w m → at pool n i ≡ Leaf l → key_at pool l ≢ key → Differs key (first_diff key (key_at pool l))
    last : {i w m j k2 : ℕ} → Way key i w m → Accepted i w j → at pool n (chosen key j) ≡ Empty → Lowest i w (Some k2) → Differs key (first_diff key k2)

  -- Where a new key goes, and whether a node is needed. "Take the first node of the walk with b >= f": the one with w <= f <= b, since every
  -- node before it branches below w.
  pub data Place (key : ℕ) : Bool → Type 0 where
    -- "2. Root empty"
    root : at pool n 1 ≡ Empty → Place key false
    -- "b = f, and it is the last node and the child empty"
    child : {f i w m j : ℕ} → Differs key f → Way key i w m → Accepted i w j → branch pool n j ≡ f → at pool n (chosen key j) ≡ Empty → Place key false
    -- "b > f: split the reference to that node."
    node : {f i w m j : ℕ} → Differs key f → Way key i w m → Accepted i w j → w ≤ f → f < branch pool n j → Place key true
    -- "No such node and the walk ended at a leaf: split the reference to the leaf."
    leaf : {f i w m l : ℕ} → Differs key f → Way key i w m → at pool n i ≡ Leaf l → w ≤ f → f < 16 → Place key true

  module _ (bytes : List ℕ) where
    -- "Byte 0 means free": the bytes of the map from one to another are taken
    abbrev pub Taken : ℕ → ℕ → Type 0
    Taken from to = (x : ℕ) → from ≤ x → x < to → word_at bytes x ≢ 0

    -- "4 | no free leaf, or a node needed and none free"
    abbrev pub NoRoom : Bool → Type 0
    NoRoom needed = Taken 0 n ⊎ ((needed ≡ true) × Taken n (bytes_of n))

    pub data Put (key : ℕ) : ℕ → Type 0 where
      -- "2 | damage met", on the walk or on the lowest way
      walk : {m : ℕ} → Lookup key (answer 2 0 m) → Put key 2
      lowest : {i w m j : ℕ} → Way key i w m → Accepted i w j → at pool n (chosen key j) ≡ Empty → Lowest i w None → Put key 2
      -- "In all other cases, f = 16 among them: damage."
      no_place : {f : ℕ} → Differs key f → ((needed : Bool) → Place key needed → ⊥) → Put key 2
      -- "Order: .. 2, then 3 or 4"
      full : {needed : Bool} → Place key needed → NoRoom needed → Put key 4
      placed : {needed : Bool} → Place key needed → (NoRoom needed → ⊥) → Put key 0
      -- "1. k is found: one store, the leaf's value."
      held : {v m : ℕ} → Lookup key (answer 0 v m) → Put key 0

  -- ---- listing
  module _ (from room : ℕ) where
    -- The leaves ls are met and the visit goes on: they are no more than N, and those to be handed out fit the room in the buffers.
    pub record GoesOn (ls : List ℕ) : Type 0 where
      pub few : length ls ≤ n
      pub fit : fitting pool from ls ≤ room

    pub data Visited : Told → Type 0 where
      -- "It hands out leaves with key at or above a given key"
      all : (ls : List ℕ) → Meets 1 0 (map Some ls) → GoesOn ls → Visited (listed 0 (fitting pool from ls) false)
      -- "until the two lent buffers are full, and says whether a further one was found; there it stops"
      further : (ls : List ℕ) (l : ℕ) (rest : List (Option ℕ)) → Meets 1 0 (map Some ls ++ Some l ∷ rest) → GoesOn ls → length ls < n
          → fitting pool from ls ≡ room → from ≤ key_at pool l → Visited (listed 0 room true)
      -- "Damage met before that, a childless node, or more than N leaves met, judged before that stop, refuses."
      damage : (ls : List ℕ) (rest : List (Option ℕ)) → Meets 1 0 (map Some ls ++ None ∷ rest) → GoesOn ls → Visited (listed 2 0 false)
      more : (ls : List ℕ) (l : ℕ) (rest : List (Option ℕ)) → Meets 1 0 (map Some ls ++ Some l ∷ rest) → GoesOn ls → length ls ≡ n
          → Visited (listed 2 0 false)

  -- "6 | listing buffers of length 0 or of unequal length". "Order: 1, 6, 2"
  pub data Listing (from keys values : ℕ) : Told → Type 0 where
    buffers : (keys ≡ 0) ⊎ (keys ≢ values) → Listing from keys values (listed 6 0 false)
    visited : {a : Told} → keys ≢ 0 → keys ≡ values → Visited from keys a → Listing from keys values a
