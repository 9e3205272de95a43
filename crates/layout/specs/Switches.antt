-- What an operation's stores do to the tree that a pool holds, whichever of them a cut leaves.
-- Assumes nothing.
use Rattle.std.specs.Prelude.{List, [], ◌∷◌, ◌++◌, ◌≡◌, ℕ, ◌-◌, ltb}
use Rattle.digits.specs.Choice.{pick}
use Rattle.digits.specs.Digits.{digit_in}
use Rattle.digits.specs.Headers.{depth_of}
use Rattle.pool.specs.Places.{node_word}
use Rattle.tree.specs.Tree.{Tree}
use Rattle.tree.specs.Changes.{Adds, Removes, Clears}
use Rattle.tree.specs.Shape.{Mem}
use Rattle.tree.specs.Straight.{StraightBut}
use Rattle.tree.specs.Stores.{Store, run, Part}
use Rattle.layout.specs.Layout.{Held}
use Rattle.layout.specs.Operations.{Putting, Deleting}

-- ---- stale nodes
-- the depth that the header of the node in slot x says; a leaf has none
abbrev pub depths : ℕ → Mem → ℕ → ℕ
depths N m x = pick (ltb x N) 0 (depth_of (m (node_word N (x - N))))

-- none of the tree's nodes is stale
abbrev pub NoneStale : ℕ → Mem → Tree ℕ → Type 0
NoneStale N m t = StraightBut (depths N m) (λ x. ⊥) 0 t

-- none but that in one slot
pub record OneStale (N : ℕ) (m : Mem) (t : Tree ℕ) : Type 0 where
  pub slot : ℕ
  pub straight : StraightBut (depths N m) (λ x. x ≡ slot) 0 t

-- what an operation leaves stale where nothing was: see below
pub record Stales (N : ℕ) (m : Mem) (σ : List Store) (s : Store) (ρ : List Store) (t after : Tree ℕ) : Type 0 where
  pub before : (τ : List Store) → Part σ τ → OneStale N (run τ m) t
  pub since : (τ : List Store) → Part ρ τ → OneStale N (run (σ ++ s ∷ τ) m) after
  pub whole : NoneStale N (run (σ ++ s ∷ ρ) m) after

-- ---- operations
-- An operation stores σ, then s, its switch, then ρ. Whatever part of σ is made, the pool holds the tree t; from s on, whatever part of ρ is made, it
-- holds a tree that t becomes.
pub record Switches (D N : ℕ) (m : Mem) (σ : List Store) (s : Store) (ρ : List Store) (t : Tree ℕ) (Becomes : Tree ℕ → Type 0) : Type 0 where
  pub before : (τ : List Store) → Part σ τ → Held D N (run τ m) t
  pub after : Tree ℕ
  pub since : (τ : List Store) → Part ρ τ → Held D N (run (σ ++ s ∷ τ) m) after
  pub becomes : Becomes after
  -- where no node was stale at most one is at any moment, and none when all is stored
  pub stales : NoneStale N m t → Stales N m σ s ρ t after

-- a put of v for k, which takes slots, counts from its last store
abbrev pub Puts : ℕ → ℕ → Mem → Tree ℕ → ℕ → ℕ → Putting → List ℕ → Type 0
Puts D N m t k v o taken = Switches D N m o.first o.last [] t (Adds (digit_in D) k v taken t)

-- a delete of k, which frees slots, counts from its first
abbrev pub Deletes : ℕ → ℕ → Mem → Tree ℕ → ℕ → Deleting → List ℕ → Type 0
Deletes D N m t k o freed = Switches D N m [] o.first o.rest t (Removes (digit_in D) k freed t)

-- the same of all that stands at a place: its slots are freed, and the slots over it
abbrev pub Drops : ℕ → ℕ → Mem → Tree ℕ → List ℕ → Deleting → List ℕ → Type 0
Drops D N m t π o over = Switches D N m [] o.first o.rest t (Clears (digit_in D) π over t)
