-- What a pool layout has to offer, and what it means that a reference holds a tree. One definition for all node kinds, leaf sizes and key widths.
-- Assumes nothing.
use Rattle.std.specs.Prelude.{◌≡◌, ℕ, zero, suc, ◌+◌, ◌≤◌, ◌<◌, true, false, ltb, eqb, Option, None, Some}
use Rattle.digits.specs.Choice.{pick}
use Rattle.tree.specs.Tree.{Tree, empty, leaf, node}

-- What stands behind a reference: nothing, a leaf (slot, key, value), a node whose header is accepted (slot, depth, branch place, stored digits).
pub data View (A : Type 0) : Type 0 where
  none_there : View A
  leaf_there : ℕ → ℕ → A → View A
  node_there : ℕ → ℕ → ℕ → ℕ → View A
  bad : View A

abbrev pub Mem : Type 0
Mem = ℕ → ℕ

-- m' has m's words in the slot x
abbrev pub SameIn : (ℕ → ℕ) → Mem → Mem → ℕ → Type 0
SameIn own m m' x = (i : ℕ) → own i ≡ x → m' i ≡ m i

pub record Shape (A : Type 0) : Type 0 where
  -- the slot that a word belongs to
  pub own : ℕ → ℕ
  -- what stands behind a reference
  pub view : Mem → ℕ → View A
  -- the reference to the child of a node's slot at a digit
  pub kid : Mem → ℕ → ℕ → ℕ
  -- the stored digits of a node of depth h and branch place b below which keys begin as s
  pub stored : ℕ → ℕ → ℕ → ℕ

module _ {A : Type 0} (S : Shape A) where
  -- a header accepted at walk depth w: depth at least w, stored digits right
  pub record Head (m : Mem) (w r x b s : ℕ) : Type 0 where
    pub h : ℕ
    pub low : w ≤ h
    pub high : h ≤ b
    pub there : S.view m r ≡ node_there x h b (S.stored h b s)

  -- the reference r, met at walk depth w, holds the tree
  unfoldable pub Holds : Mem → ℕ → ℕ → Tree A → Type 0
  Holds m w r empty = S.view m r ≡ none_there
  Holds m w r (leaf x k v) = S.view m r ≡ leaf_there x k v
  Holds m w r (node x b s kids) = Head m w r x b s × ((c : ℕ) → c < 16 → Holds m (b + 1) (S.kid m x c) (kids c))

-- How a walk ends: nothing there, a leaf (slot, key, value), damage.
pub data End (A : Type 0) : Type 0 where
  at_none : End A
  at_leaf : ℕ → ℕ → A → End A
  damage : End A

module _ {A : Type 0} (S : Shape A) (dig : ℕ → ℕ → ℕ) where
  -- k's walk from the reference r met at walk depth w, at most n nodes long
  unfoldable pub walk : ℕ → Mem → ℕ → ℕ → ℕ → End A
  walk zero m w r k = damage
  walk (suc n) m w r k =
      elim (S.view m r) [
        | none_there ↦ at_none
        | leaf_there x k' v ↦ at_leaf x k' v
        | node_there x h b g ↦ elim (ltb h w) [ true ↦ damage | false ↦ walk n m (b + 1) (S.kid m x (dig k b)) k ]
        | bad ↦ damage
      ]

-- the same walk on a tree, and what it says of the key
module _ (dig : ℕ → ℕ → ℕ) where
  unfoldable pub end_of : {A : Type 0} → ℕ → Tree A → End A
  end_of k empty = at_none
  end_of k (leaf x k' v) = at_leaf x k' v
  end_of k (node x b s kids) = end_of k (kids (dig k b))

unfoldable pub answer : {A : Type 0} → ℕ → End A → Option A
answer k at_none = None
answer k (at_leaf x k' v) = pick (eqb k k') (Some v) None
answer k damage = None
