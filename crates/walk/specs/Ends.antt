-- What is true at the end of every walk in a pool of n leaves, whatever its words are: the walk stands inside the pool.
-- Assumes nothing.
use Rattle.std.specs.Prelude.{◌≡◌, List, ℕ, ◌+◌, ◌-◌, ◌*◌, ◌≤◌, ◌<◌, Some}
use Rattle.pool.specs.Places.{word_at, header_at, child_word}
use Rattle.pool.specs.Refs.{ref_of, Within}
use Rattle.pool.specs.declared.Ref.{Ref}
use Rattle.pool.specs.declared.Ref.TheVariants.{Empty, Leaf, Node}
use Rattle.walk.specs.declared.Spot.{Spot}
use Rattle.walk.specs.declared.End.{End}
use Rattle.walk.specs.declared.End.TheVariants.{AtLeaf, AtEmpty, Stopped, Damaged}
use Rattle.walk.specs.Walks.{head_of, root}

-- the reference r, met at walk depth w, is to node j, and its header is accepted with branch place b
pub record Accepted (pool : List ℕ) (n w r j b : ℕ) : Type 0 where
  pub refers : ref_of n r ≡ Node j
  pub j< : j + 1 < n
  pub head : head_of w (header_at pool n j) ≡ Some b
  pub w≤b : w ≤ b
  pub b< : b < 16

-- the last node that a walk passed, and the child c of it that the walk stands at
pub record Passed (pool : List ℕ) (n : ℕ) (s : Spot) : Type 0 where
  pub b : ℕ
  pub c : ℕ
  pub accepted : Accepted pool n s.above (word_at pool s.over) s.node b
  pub over≥ : 1 ≤ s.over
  pub over< : s.over < 19 * n - 15
  pub depth≡ : s.depth ≡ b + 1
  pub c< : c < 16
  pub at≡ : s.at ≡ child_word n s.node c

-- a walk stands inside the pool, and passed no node that branches at or past `stop`
pub record Inside (pool : List ℕ) (n stop : ℕ) (s : Spot) : Type 0 where
  pub at≥ : 1 ≤ s.at
  pub at< : s.at < 19 * n - 15
  pub depth≤ : s.depth ≤ 16
  pub depth≤stop : s.depth ≤ stop
  pub nodes≤ : s.nodes ≤ s.depth
  pub began : s.nodes ≡ 0 → s ≡ root
  pub passed : (s.nodes ≡ 0 → ⊥) → Passed pool n s

-- a walk stands inside the pool, at a reference that means r
pub record Stands (pool : List ℕ) (n stop : ℕ) (s : Spot) (r : Ref) : Type 0 where
  pub inside : Inside pool n stop s
  pub refers : ref_of n (word_at pool s.at) ≡ r
  pub within : Within n r

-- a walk stands inside the pool, before node j that branches at b, not before `stop`
pub record Stops (pool : List ℕ) (n stop : ℕ) (s : Spot) (j b : ℕ) : Type 0 where
  pub inside : Inside pool n stop s
  pub accepted : Accepted pool n s.depth (word_at pool s.at) j b
  pub stop≤ : stop ≤ b

abbrev pub Ends : List ℕ → ℕ → ℕ → End → Type 0
Ends pool n stop (AtLeaf s i) = Stands pool n stop s (Leaf i)
Ends pool n stop (AtEmpty s) = Stands pool n stop s Empty
Ends pool n stop (Stopped s j b) = Stops pool n stop s j b
Ends pool n stop (Damaged m f) = m ≤ 16

-- how many nodes had an accepted header on a walk, one at which it stopped among them
abbrev pub met_of : End → ℕ
met_of (AtLeaf s i) = s.nodes
met_of (AtEmpty s) = s.nodes
met_of (Stopped s j b) = s.nodes + 1
met_of (Damaged m f) = m
