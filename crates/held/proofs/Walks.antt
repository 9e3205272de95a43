-- The walk along a key, in a pool that holds a tree, is the tree's own. Rests on what references come to, and on the walk's turns.
-- Assumes nothing.
use mathlib.Core.Path.{◌≡◌, refl, ◌∙◌}
use mathlib.Core.Bool.{Bool, true, false}
use mathlib.Core.List.{List, [], ◌∷◌}
use Prim.Native.Nat.{ℕ, zero, suc, ◌+◌, ◌-◌, ◌≤◌}
use native.Mathlib.Omega.{arith}
use borrow.Author.Tests.{ltb-true, ltb-false, le-leb, lt-leb}
use lib.Dec.{ltb}
use Rattle.digits.specs.Choice.{pick}
use Rattle.digits.specs.Digits.{digit_of}
use Rattle.digits.proofs.Digits.{digit_lt}
use Rattle.pool.specs.Places.{word_at}
use Rattle.pool.specs.declared.Ref.TheVariants.{Empty, Leaf}
use Rattle.tree.specs.Tree.{Tree, empty, leaf, node, upd, sub, Good}
use Rattle.tree.specs.Near.{way}
use Rattle.tree.specs.Shape.{Holds}
use Rattle.layout.specs.Layout.{base}
use Rattle.walk.specs.Walks.{past, walk_from, below}
use Rattle.walk.specs.Ends.{Accepted}
use Rattle.walk.specs.declared.Spot.{Spot}
use Rattle.walk.specs.declared.End.{End}
use Rattle.walk.proofs.Walks.{walk_ends, walk_stops, walk_goes}
use Rattle.held.specs.Ways.{dig, mem, spot_at, end_at}
use Rattle.held.proofs.Heads.{held_empty, held_leaf, held_node, held_child}

module _ (pool : List ℕ) (n key stop : ℕ) where
  -- where the walk that stands at s before the tree t ends
  abbrev pub way_end : Spot → Tree ℕ → End
  way_end s t = end_at n (spot_at n s (way dig stop key t) t) (sub (way dig stop key t) t)

  pub walk_held : (f : ℕ) (s : Spot) (q : ℕ → ℕ) (t : Tree ℕ) → Holds (base 16 n) (mem pool) s.depth (word_at pool s.at) t → Good dig 16 s.depth q t
      → s.depth ≤ 16 → 17 ≤ f + s.depth → walk_from f pool n key (past stop) s ≡ way_end s t
  unfolding Good way spot_at sub
  walk_held zero s q t h g l fu = absurd (omega arith)
  walk_held (suc f) s q empty h g l fu = walk_ends pool n key (past stop) f s Empty (held_empty pool n s.depth (word_at pool s.at) h).1 tt
  walk_held (suc f) s q (leaf x k v) h g l fu =
      walk_ends pool n key (past stop) f s (Leaf x) (held_leaf pool n s.depth (word_at pool s.at) x k v h).ref tt
  walk_held (suc f) s q (node x b k kids) h g l fu =
      go (walk_held f (below n (x - n) b c s) (upd (dig k) b c) (kids c) (held_child pool n s.depth (word_at pool s.at) x b k kids c h (digit_lt 16 key b))
      (g.3 c (digit_lt 16 key b)) (omega (arith, g.1)) (omega (arith, g.0))) (ltb b stop) refl
    where
      c : ℕ
      c = digit_of key b

      A : Accepted pool n s.depth (word_at pool s.at) (x - n) b
      A = held_node pool n s.depth (word_at pool s.at) x b k kids h

      go : walk_from f pool n key (past stop) (below n (x - n) b c s) ≡ way_end (below n (x - n) b c s) (kids c) → (u : Bool) → ltb b stop ≡ u
          → walk_from (suc f) pool n key (past stop) s
          ≡ end_at n (spot_at n s (pick u (c ∷ way dig stop key (kids c)) []) (node x b k kids))
          (sub (pick u (c ∷ way dig stop key (kids c)) []) (node x b k kids))
      go on true e = walk_goes pool n key (past stop) f s (x - n) b A (lt-leb stop b (ltb-true b stop e)) ∙ on
      go on false e = walk_stops pool n key (past stop) f s (x - n) b A (le-leb stop b (ltb-false b stop e))
