-- Where a walk stands, told by the tree: at the word of the reference to its place, at that place's walk depth, past the nodes on the way.
-- Rests on nothing but what a place is. Assumes nothing.
use mathlib.Core.Path.{◌≡◌, refl}
use mathlib.Core.Bool.{Bool, true, false}
use mathlib.Core.List.{List, [], ◌∷◌, ◌++◌}
use Prim.Native.Nat.{ℕ, ◌+◌, ◌-◌}
use native.Mathlib.Omega.{arith}
use borrow.Author.Tests.{lt-ltb}
use lib.Dec.{ltb}
use lib.ListN.{length}
use Rattle.digits.specs.Choice.{pick}
use Rattle.digits.proofs.Digits.{digit_lt}
use Rattle.tree.specs.Tree.{Tree, empty, leaf, node, upd, On, here, down, sub, dep, find, Good}
use Rattle.tree.specs.Near.{way}
use Rattle.layout.specs.Layout.{ref_at}
use Rattle.walk.specs.Walks.{below}
use Rattle.walk.specs.declared.Spot.{Spot}
use Rattle.held.specs.Ways.{dig, spot_at}

module _ (n : ℕ) where
  pub spot_word : (s : Spot) (π : List ℕ) (t : Tree ℕ) → On π t → (spot_at n s π t).at ≡ ref_at n s.at π t
  unfolding spot_at ref_at
  spot_word s π t here = refl
  spot_word s π t (down {c} {x} {b} {kids = kids} {π = ρ} l o) = spot_word (below n (x - n) b c s) ρ (kids c) o

  pub spot_depth : (s : Spot) (π : List ℕ) (t : Tree ℕ) → On π t → (spot_at n s π t).depth ≡ dep π s.depth t
  unfolding spot_at dep
  spot_depth s π t here = refl
  spot_depth s π t (down {c} {x} {b} {kids = kids} {π = ρ} l o) = spot_depth (below n (x - n) b c s) ρ (kids c) o

  pub spot_nodes : (s : Spot) (π : List ℕ) (t : Tree ℕ) → On π t → (spot_at n s π t).nodes ≡ s.nodes + length π
  unfolding spot_at
  spot_nodes s π t here = omega arith
  spot_nodes s π t (down {c} {x} {b} {kids = kids} {π = ρ} l o) = omega (arith, spot_nodes (below n (x - n) b c s) ρ (kids c) o)

  -- one node further
  pub spot_below : (s : Spot) (ρ : List ℕ) (c x b k : ℕ) (kids : ℕ → Tree ℕ) (t : Tree ℕ) → On ρ t → sub ρ t ≡ node x b k kids
      → spot_at n s (ρ ++ c ∷ []) t ≡ below n (x - n) b c (spot_at n s ρ t)
  unfolding sub spot_at
  spot_below s ρ c x b k kids t here e = rw e
  spot_below s ρ c x b k kids t (down {c = d} {x = y} {b = b'} {kids = kids'} {π = π} l o) e = spot_below (below n (y - n) b' d s) π c x b k kids (kids' d) o e

-- a key's way is a way in the tree
pub way_on : (f k : ℕ) (t : Tree ℕ) → On (way dig f k t) t
unfolding way
way_on f k empty = here
way_on f k (leaf x k' v) = here
way_on f k (node x b s kids) = go (way_on f k (kids (dig k b))) (ltb b f)
  where
    go : On (way dig f k (kids (dig k b))) (kids (dig k b)) → (u : Bool) → On (pick u (dig k b ∷ way dig f k (kids (dig k b))) []) (node x b s kids)
    go o true = down {kids = kids} (digit_lt 16 k b) o
    go o false = here

-- what stands at its end decides what the key finds
pub way_finds : (f k : ℕ) (t : Tree ℕ) → find dig k t ≡ find dig k (sub (way dig f k t) t)
unfolding find sub way
way_finds f k empty = refl
way_finds f k (leaf x k' v) = refl
way_finds f k (node x b s kids) = go (way_finds f k (kids (dig k b))) (ltb b f)
  where
    go : find dig k (kids (dig k b)) ≡ find dig k (sub (way dig f k (kids (dig k b))) (kids (dig k b))) → (u : Bool)
        → find dig k (kids (dig k b)) ≡ find dig k (sub (pick u (dig k b ∷ way dig f k (kids (dig k b))) []) (node x b s kids))
    go e true = e
    go e false = refl

-- the whole way of a key ends at no node
abbrev pub NoNode : Tree ℕ → Type 0
NoNode empty = Unit {0}
NoNode (leaf x k v) = Unit {0}
NoNode (node x b s kids) = ⊥

pub way_ends : (k w : ℕ) (q : ℕ → ℕ) (t : Tree ℕ) → Good dig 16 w q t → NoNode (sub (way dig 16 k t) t)
unfolding Good sub way
way_ends k w q empty g = tt
way_ends k w q (leaf x k' v) g = tt
way_ends k w q (node x b s kids) g = rw (lt-ltb b 16 g.1) (way_ends k (b + 1) (upd (dig s) b (dig k b)) (kids (dig k b)) (g.3 (dig k b) (digit_lt 16 k b)))
