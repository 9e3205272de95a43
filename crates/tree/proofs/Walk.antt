-- The walk on the pool is the walk on the tree, and its leaf decides. Rests on what it is to hold a tree. Assumes nothing.
use mathlib.Core.Path.{◌≡◌, refl}
use Prim.Native.Nat.{ℕ, zero, suc, ◌+◌, ◌≤◌, ◌<◌}
use native.Mathlib.Omega.{arith}
use borrow.Author.Tests.{le-ltb}
use Rattle.tree.specs.Tree.{Tree, empty, leaf, node, upd, find, Good}
use Rattle.tree.specs.Shape.{Mem, Shape, Holds, walk, end_of, answer}

module _ (dig : ℕ → ℕ → ℕ) {A : Type 0} where
  pub answer_find : (t : Tree A) (k : ℕ) → answer k (end_of dig k t) ≡ find dig k t
  unfolding answer end_of find
  answer_find empty k = refl
  answer_find (leaf x k' v) k = refl
  answer_find (node x b s kids) k = answer_find (kids (dig k b)) k

  module _ (S : Shape A) (D : ℕ) (dl : (k i : ℕ) → dig k i < 16) where
    pub walk_tree : (n : ℕ) (m : Mem) (w r k : ℕ) (q : ℕ → ℕ) (t : Tree A) → Holds S m w r t → Good dig D w q t → w ≤ D → D < n + w
        → walk S dig n m w r k ≡ end_of dig k t
    unfolding walk end_of Holds Good
    walk_tree zero m w r k q t g o l f = absurd (omega arith)
    walk_tree (suc n) m w r k q empty g o l f = rw (g, walk)
    walk_tree (suc n) m w r k q (leaf x k' v) g o l f = rw (g, walk)
    walk_tree (suc n) m w r k q (node x b s kids) g o l f =
        rw (g.0.there, le-ltb g.0.h w g.0.low, walk)
        (walk_tree n m (b + 1) (S.kid m x (dig k b)) k (upd (dig s) b (dig k b)) (kids (dig k b)) (g.1 (dig k b) (dl k b))
        (o.3 (dig k b) (dl k b)) (omega arith) (omega arith))
