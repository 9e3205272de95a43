-- The plain table as a list of entries, keys rising; and the list that a tree is read as.
-- Assumes nothing.
use Rattle.std.specs.Prelude.{ℕ, zero, suc, ◌<◌, List, [], ◌∷◌, ◌++◌, eqb, Option, None, Some}
use Rattle.digits.specs.Choice.{pick}
use Rattle.tree.specs.Tree.{Tree, empty, leaf, node}

pub record Entry (A : Type 0) : Type 0 where
  pub key : ℕ
  pub value : A

module _ {A : Type 0} where
  unfoldable pub Every : (Entry A → Type 0) → List (Entry A) → Type 0
  Every P [] = Unit {0}
  Every P (e ∷ l) = P e × Every P l

  unfoldable pub Rising : List (Entry A) → Type 0
  Rising [] = Unit {0}
  Rising (e ∷ l) = Every (λ e'. e.key < e'.key) l × Rising l

  -- the value that a list has for a key
  unfoldable pub look : ℕ → List (Entry A) → Option A
  look k [] = None
  look k (e ∷ l) = pick (eqb k e.key) (Some e.value) (look k l)

  -- f 0 to f (n - 1), one after the other
  unfoldable pub cat : ℕ → (ℕ → List (Entry A)) → List (Entry A)
  cat zero f = []
  cat (suc n) f = cat n f ++ f n

  -- a tree's leaves, lowest digit first
  unfoldable pub entries : Tree A → List (Entry A)
  entries empty = []
  entries (leaf x k v) = record { key = k; value = v } ∷ []
  entries (node x b s kids) = cat 16 (λ c. entries (kids c))
