-- The tree that a sound pool holds: slots, keys, values and branch places, without references, the depths in headers, or free words.
-- Assumes nothing.
use Rattle.std.specs.Prelude.{◌≡◌, ◌≢◌, ℕ, zero, suc, ◌+◌, ◌≤◌, ◌<◌, Bool, true, false, List, [], ◌∷◌, eqb, Option, None, Some}
use Rattle.digits.specs.Choice.{pick}

-- f with a at c
abbrev pub upd {ℓ} : {B : Type ℓ} → (ℕ → B) → ℕ → B → ℕ → B
upd f c a i = pick (eqb i c) a (f i)

-- f 0 + .. + f (n - 1)
abbrev pub sum : ℕ → (ℕ → ℕ) → ℕ
sum zero f = 0
sum (suc n) f = sum n f + f n

abbrev pub one : Bool → ℕ
one true = 1
one false = 0

-- A slot is named by its byte number in the map. A leaf: slot, key, value. A node: slot, branch place b, a key whose first b digits are those
-- of every key below, and the child at each digit.
pub data Tree (A : Type 0) : Type 0 where
  empty : Tree A
  leaf : ℕ → ℕ → A → Tree A
  node : ℕ → ℕ → ℕ → (ℕ → Tree A) → Tree A

-- A place in a tree is the list of the digits that lead to it.
pub data On {A : Type 0} : List ℕ → Tree A → Type 0 where
  here : {t : Tree A} → On [] t
  down : {c x b s : ℕ} {kids : ℕ → Tree A} {π : List ℕ} → c < 16 → On π (kids c) → On (c ∷ π) (node x b s kids)

module _ {A : Type 0} where
  abbrev pub Filled : Tree A → Type 0
  Filled empty = ⊥
  Filled (leaf x k v) = Unit {0}
  Filled (node x b s kids) = Unit {0}

  -- how often the slot x is reached
  unfoldable pub mult : ℕ → Tree A → ℕ
  mult x empty = 0
  mult x (leaf y k v) = one (eqb x y)
  mult x (node y b s kids) = one (eqb x y) + sum 16 (λ c. mult x (kids c))

  -- how many leaves and how many nodes are reached
  unfoldable pub leaves : Tree A → ℕ
  leaves empty = 0
  leaves (leaf x k v) = 1
  leaves (node x b s kids) = sum 16 (λ c. leaves (kids c))

  unfoldable pub nodes : Tree A → ℕ
  nodes empty = 0
  nodes (leaf x k v) = 0
  nodes (node x b s kids) = 1 + sum 16 (λ c. nodes (kids c))

  -- what stands at a place
  unfoldable pub sub : List ℕ → Tree A → Tree A
  sub [] t = t
  sub (c ∷ π) empty = empty
  sub (c ∷ π) (leaf x k v) = empty
  sub (c ∷ π) (node x b s kids) = sub π (kids c)

  -- the tree with u at a place
  unfoldable pub plug : List ℕ → Tree A → Tree A → Tree A
  plug [] t u = u
  plug (c ∷ π) empty u = empty
  plug (c ∷ π) (leaf x k v) u = empty
  plug (c ∷ π) (node x b s kids) u = node x b s (upd kids c (plug π (kids c) u))

  -- the walk depth at a place, the tree being met at w
  unfoldable pub dep : List ℕ → ℕ → Tree A → ℕ
  dep [] w t = w
  dep (c ∷ π) w empty = w
  dep (c ∷ π) w (leaf x k v) = w
  dep (c ∷ π) w (node x b s kids) = dep π (b + 1) (kids c)

-- u stands at the place π of t
pub record Stands {A : Type 0} (π : List ℕ) (u t : Tree A) : Type 0 where
  pub on : On π t
  pub is : sub π t ≡ u

-- at least two children
pub record Two {A : Type 0} (kids : ℕ → Tree A) : Type 0 where
  pub c : ℕ
  pub d : ℕ
  pub c< : c < 16
  pub d< : d < 16
  pub apart : c ≢ d
  pub at_c : Filled (kids c)
  pub at_d : Filled (kids d)

-- how the digits of a key are read
module _ (dig : ℕ → ℕ → ℕ) where
  -- k's first w digits are those of q
  abbrev pub Agree : ℕ → (ℕ → ℕ) → ℕ → Type 0
  Agree w q k = (i : ℕ) → i < w → dig k i ≡ q i

  -- the digits that lead to a place, the tree's own being q
  unfoldable pub pre : {A : Type 0} → List ℕ → (ℕ → ℕ) → Tree A → ℕ → ℕ
  pre [] q t = q
  pre (c ∷ π) q empty = q
  pre (c ∷ π) q (leaf x k v) = q
  pre (c ∷ π) q (node x b s kids) = pre π (upd (dig s) b c) (kids c)

  -- the value that the tree has for k
  unfoldable pub find : {A : Type 0} → ℕ → Tree A → Option A
  find k empty = None
  find k (leaf x k' v) = pick (eqb k k') (Some v) None
  find k (node x b s kids) = find k (kids (dig k b))

  -- D digits in a key: every key of the tree, met at walk depth w, has the first w digits of q, and branches are where they should be
  unfoldable pub Good : {A : Type 0} → ℕ → ℕ → (ℕ → ℕ) → Tree A → Type 0
  Good D w q empty = Unit {0}
  Good D w q (leaf x k v) = Agree w q k
  Good D w q (node x b s kids) = (w ≤ b) × (b < D) × Agree w q s × ((c : ℕ) → c < 16 → Good D (b + 1) (upd (dig s) b c) (kids c)) × Two kids

  -- k has the digits that lead to the place π of a whole tree, and u is good there
  abbrev pub Leads : {A : Type 0} → List ℕ → Tree A → ℕ → Type 0
  Leads π t k = Agree (dep π 0 t) (pre π (λ i. 0) t) k

  abbrev pub GoodAt : {A : Type 0} → ℕ → List ℕ → Tree A → Tree A → Type 0
  GoodAt D π t u = Good D (dep π 0 t) (pre π (λ i. 0) t) u
