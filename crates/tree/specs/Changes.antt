-- What an operation does to a tree: a key gets a value, a key goes, a place is cleared.
-- Assumes nothing.
use Rattle.std.specs.Prelude.{◌≡◌, ◌≢◌, List, [], ◌∷◌, ℕ, ◌+◌, eqb, None, Some}
use Rattle.tree.specs.Tree.{Tree, one, mult, sub, Leads, find}

-- how often a slot stands in a list
unfoldable pub occurs : ℕ → List ℕ → ℕ
occurs x [] = 0
occurs x (y ∷ l) = one (eqb x y) + occurs x l

module _ (dig : ℕ → ℕ → ℕ) {A : Type 0} where
  -- t' is t with v for k; the slots `taken` are reached besides
  pub record Adds (k : ℕ) (v : A) (taken : List ℕ) (t t' : Tree A) : Type 0 where
    pub found : find dig k t' ≡ Some v
    pub others : (k' : ℕ) → k' ≢ k → find dig k' t' ≡ find dig k' t
    pub slots : (x : ℕ) → mult x t' ≡ mult x t + occurs x taken

  -- t' is t without k; the slots `freed` are not reached
  pub record Removes (k : ℕ) (freed : List ℕ) (t t' : Tree A) : Type 0 where
    pub gone : find dig k t' ≡ None
    pub others : (k' : ℕ) → k' ≢ k → find dig k' t' ≡ find dig k' t
    pub slots : (x : ℕ) → mult x t' + occurs x freed ≡ mult x t

  -- t' is t without all that stands at the place π: no key that leads there is found, keys that were not found there are as they were, and neither
  -- the slots there nor the slots `over` are reached
  pub record Clears (π : List ℕ) (over : List ℕ) (t t' : Tree A) : Type 0 where
    pub gone : (k : ℕ) → Leads dig π t k → find dig k t' ≡ None
    pub others : (k : ℕ) → find dig k (sub π t) ≡ None → find dig k t' ≡ find dig k t
    pub slots : (x : ℕ) → mult x t' + mult x (sub π t) + occurs x over ≡ mult x t
