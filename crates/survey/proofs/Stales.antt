-- Stale nodes of a pool that holds a tree are those that the tree has. Rests on what is reached in such a pool. Assumes nothing.
use mathlib.Core.Path.{◌≡◌, ap, ◌∙◌, subst}
use mathlib.Core.Logic.{◌⊎◌, inl, inr}
use mathlib.Core.List.{List}
use Prim.Native.Nat.{ℕ, ◌+◌, ◌-◌, ◌≤◌, ◌<◌}
use native.Mathlib.Omega.{arith}
use Rattle.digits.specs.Headers.{depth_of}
use Rattle.pool.specs.Places.{word_at, header_at, child_word}
use Rattle.tree.specs.Tree.{Tree, empty, leaf, node}
use Rattle.tree.specs.Shape.{Holds}
use Rattle.tree.specs.Straight.{StraightBut}
use Rattle.tree.proofs.Basics.{Same?, same, other, same?, less?}
use Rattle.tree.proofs.Straight.{straight_at}
use Rattle.layout.specs.Layout.{base, Held}
use Rattle.layout.specs.Switches.{depths, NoneStale, OneStale}
use Rattle.layout.proofs.Stales.{depth_there}
use Rattle.held.specs.Ways.{mem}
use Rattle.held.proofs.Heads.{Headed, held_head, held_child}
use Rattle.survey.specs.Soundness.{depth, branch, Reached, root, Stale}
use Rattle.survey.proofs.HeldReached.{kid_reached, place_means, reached_place}

module _ (pool : List ℕ) (n : ℕ) where
  -- the depth that a node's header says
  depth_is : (j : ℕ) → depths n (mem pool) (n + j) ≡ depth pool n j
  depth_is j =
      let back : n + j - n ≡ j = omega arith in
      depth_there n (mem pool) (n + j) (omega arith) ∙ ap (λ (i : ℕ). depth_of (header_at pool n i)) back

  -- ---- where the tree is straight no node is stale
  module _ (t : Tree ℕ) (H : Held 16 n (mem pool) t) where
    stale_but : (but : ℕ → Type 0) → StraightBut (depths n (mem pool)) but 0 t → (j : ℕ) → Stale pool n j → (but (n + j) → ⊥) → ⊥
    stale_but but g j S o =
        let P = reached_place pool n t H S.reached in
        let N = place_means pool n t H P S.node in
        let e = straight_at (depths n (mem pool)) but P.π 0 t (n + j) (branch pool n j) N.s N.kids (record { on = P.on; is = N.is }) g o in
        omega (arith, depth_is j, P.met, S.above)

    pub none_stale : NoneStale n (mem pool) t → (j : ℕ) → Stale pool n j → ⊥
    none_stale g j S = stale_but (λ x. ⊥) g j S (λ o. o)

    -- one in a slot, no other
    pub one_stale : (O : OneStale n (mem pool) t) (j : ℕ) → Stale pool n j → n + j ≡ O.slot
    one_stale O j S = go (same? (n + j) O.slot)
      where
        go : Same? (n + j) O.slot → n + j ≡ O.slot
        go (same e q) = e
        go (other e q) = absurd (stale_but (λ x. x ≡ O.slot) O.straight j S e)

  -- ---- where no node is stale but in some slots the tree is straight but for them
  module _ (but : ℕ → Type 0) (all : (j : ℕ) → Stale pool n j → but (n + j)) where
    straight_below : (i w : ℕ) (t : Tree ℕ) → Reached pool n i w → Holds (base 16 n) (mem pool) w (word_at pool i) t
        → StraightBut (depths n (mem pool)) but w t
    unfolding StraightBut
    straight_below i w empty R h = tt
    straight_below i w (leaf x k v) R h = tt
    straight_below i w (node x b s kids) R h = (
      λ o. exact o (less? w (depth pool n (x - n))),
      λ c l.
          straight_below (child_word n (x - n) c) (b + 1) (kids c) (kid_reached pool n i w x b s kids R h c l)
          (held_child pool n w (word_at pool i) x b s kids c h l),
    )
      where
        G : Headed pool n w (word_at pool i) x b s
        G = held_head pool n w (word_at pool i) x b s kids h

        back : n + (x - n) ≡ x
        back = omega (arith, G.past)

        exact : (but x → ⊥) → (w < depth pool n (x - n)) ⊎ (depth pool n (x - n) ≤ w) → depths n (mem pool) x ≡ w
        exact o (inl l) = absurd (o (subst but back (all (x - n) (record { i = i; w = w; reached = R; node = G.ref; above = l }))))
        exact o (inr l) = depth_there n (mem pool) x G.past ∙ omega (arith, G.low, G.shown.depth)

    pub straight_tree : (t : Tree ℕ) → Held 16 n (mem pool) t → StraightBut (depths n (mem pool)) but 0 t
    straight_tree t H = straight_below 1 0 t root H.holds
