-- On a pool that holds a tree, the stores of a delete do to the tree what a delete means: from the first on the key is gone and nothing else has
-- changed. A delete is refused only where the key is not held. Rests on the layout's deletes and on the walk in a held pool. Assumes nothing.
use Rattle.std.specs.Prelude.{Some, None}
use mathlib.Core.Path.{◌≡◌, refl, sym, ap, ◌∙◌, subst}
use mathlib.Core.Logic.{◌≢◌, ◌⊎◌, inl, inr}
use mathlib.Core.List.{List, [], ◌∷◌, ◌++◌}
use Prim.Native.Nat.{ℕ, ◌+◌, ◌-◌, ◌≤◌, ◌<◌}
use native.Mathlib.Omega.{arith}
use borrow.Author.Tests.{lt-ltb, le-ltb, eq-eqb, ne_eqb}
use lib.Dec.{eqb}
use Rattle.digits.specs.Choice.{pick}
use Rattle.digits.proofs.Digits.{digit_lt}
use Rattle.pool.specs.Sizes.{capacity_of}
use Rattle.pool.specs.Places.{key_at, child_at, child_word}
use Rattle.tree.specs.Tree.{Tree, empty, leaf, node, upd, Filled, Two, sub, dep, Stands, find, Good, GoodAt}
use Rattle.tree.specs.Near.{children, low, way}
use Rattle.tree.specs.Shape
use Rattle.tree.proofs.Stores.{Words}
use Rattle.tree.proofs.Basics.{Same?, same, other, same?, less?}
use Rattle.tree.proofs.Places.{child, by_place}
use Rattle.tree.proofs.Near.{of_two, low_agrees, stands_found}
use Rattle.layout.specs.Layout.{Held, base, ref_at}
use Rattle.layout.specs.Operations.{Deleting, delete_stores, emptying, bypassing, lifting}
use Rattle.layout.specs.Switches.{Deletes, Drops}
use Rattle.layout.proofs.Held.{holds_at, good_at}
use Rattle.layout.proofs.Deletes.{drops_root, drops_child, drops_bypass, drops_bypass_node, deletes}
use Rattle.walk.specs.Walks.{root, below, children_of}
use Rattle.walk.specs.declared.Spot.{Spot}
use Rattle.plan.specs.Plans.{Decided, decided, refused}
use Rattle.plan.specs.Effects.{takes, frees}
use Rattle.plan.specs.declared.Effect.{Effect}
use Rattle.plan.specs.declared.Effect.TheVariants.{FreesLeaf, FreesBoth}
use Rattle.held.specs.Ways.{dig, mem, spot_at, end_at}
use Rattle.held.proofs.Heads.{held_leaf, held_node, held_slot, held_child}
use Rattle.held.proofs.Walks.{walk_held}
use Rattle.held.proofs.Lowest.{children_held, Other, other_held, low_held}
use Rattle.held.proofs.Spots.{spot_word, spot_depth, spot_below, way_on, way_finds, way_ends, NoNode}
use Rattle.rules.proofs.HeldPuts.{ref_above}
use Rattle.rules.specs.Deletes.{emptied, merge_with, unlink_of, delete_at, delete_plan}

-- what the plan of a delete of k is: a refusal where the key is not held, or stores that take it out
pub data DeleteIs (pool : List ℕ) (n : ℕ) (t : Tree ℕ) (k : ℕ) (d : Decided) : Type 0 where
  absent : d ≡ refused 3 → find dig k t ≡ None → DeleteIs pool n t k d
  does : (o : Deleting) (e : Effect) (v : ℕ) → d ≡ decided (delete_stores o) e → Deletes 16 n (mem pool) t k o (frees e) → takes e ≡ []
      → find dig k t ≡ Some v → Words (λ w. 0 < w) (delete_stores o) → DeleteIs pool n t k d

module _ (pool : List ℕ) (n : ℕ) (t : Tree ℕ) (H : Held 16 n (mem pool) t) (k : ℕ) where
  abbrev all : List ℕ
  all = way dig 16 k t

  abbrev end : Spot
  end = spot_at n root all t

  -- ---- the key is found, in leaf x
  module _ (x v : ℕ) (p : Stands all (leaf x k v) t) where
    found_here : find dig k t ≡ Some v
    found_here = stands_found dig (digit_lt 16) 16 x k v all t H.good p

    abbrev plan : Decided
    plan = pick (eqb end.nodes 0) (emptied end.at (FreesLeaf x)) (unlink_of pool n end (FreesLeaf x))

    -- which is dropped
    drops : (o : Deleting) (over : List ℕ) (e : Effect) → frees e ≡ x ∷ over → takes e ≡ [] → Words (λ w. 0 < w) (delete_stores o)
        → Drops 16 n (mem pool) t all o over → DeleteIs pool n t k (decided (delete_stores o) e)
    drops o over e fe te above d =
        does o e v refl (subst (Deletes 16 n (mem pool) t k o) (sym fe) (deletes 16 n (mem pool) t H all o over x k v p d)) te found_here above

    at_root : [] ≡ all → DeleteIs pool n t k plan
    unfolding spot_at Words
    at_root e =
        rw (← e)
        (drops (emptying 1) [] (FreesLeaf x) refl refl (omega arith, tt)
        (subst (λ π. Drops 16 n (mem pool) t π (emptying 1) []) e (drops_root 16 n (mem pool) t H)))

    -- ---- child c of node y
    module _ (ρ : List ℕ) (c y b s : ℕ) (kids : ℕ → Tree ℕ) (lc : c < 16) (q : Stands ρ (node y b s kids) t) (way_is : ρ ++ c ∷ [] ≡ all) where
      abbrev above : Spot
      above = spot_at n root ρ t

      abbrev w : ℕ
      w = dep ρ 0 t

      abbrev word : ℕ
      word = ref_at n 1 ρ t

      end_is : end ≡ below n (y - n) b c above
      end_is = ap (λ π. spot_at n root π t) (sym way_is) ∙ spot_below n root ρ c y b s kids t q.on q.is

      kid_is : kids c ≡ leaf x k v
      kid_is = sym (child dig ρ c y b s kids t lc q).stands.is ∙ ap (λ π. sub π t) way_is ∙ p.is

      dropped : (o : Deleting) (over : List ℕ) (e : Effect) → frees e ≡ x ∷ over → takes e ≡ [] → Words (λ w. 0 < w) (delete_stores o)
          → Drops 16 n (mem pool) t (ρ ++ c ∷ []) o over → DeleteIs pool n t k (decided (delete_stores o) e)
      dropped o over e fe te positive d = drops o over e fe te positive (subst (λ π. Drops 16 n (mem pool) t π o over) way_is d)

      holds : Shape.Holds (base 16 n) (mem pool) w (mem pool word) (node y b s kids)
      holds = holds_at 16 n (mem pool) t H ρ (node y b s kids) q

      good : GoodAt dig 16 ρ t (node y b s kids)
      good = good_at 16 n (mem pool) t H ρ (node y b s kids) q

      two : Two kids
      unfolding Good
      two = good.4

      counted : children_of pool n (y - n) ≡ children kids
      counted = children_held pool n w (mem pool word) y b s kids holds

      -- three children or more
      unlinked : 2 < children kids → DeleteIs pool n t k (unlink_of pool n (below n (y - n) b c above) (FreesLeaf x))
      unfolding Words
      unlinked h =
          rw (counted, le-ltb (children kids) 2 (omega arith), lt-ltb 2 (children kids) h)
          (dropped (emptying (child_word n (y - n) c)) [] (FreesLeaf x) refl refl (omega arith, tt) (drops_child 16 n (mem pool) t H ρ y b s kids q c lc h))

      -- two children: the other is o
      module _ (O : Other pool n w (mem pool word) y b s kids holds c) (count : children kids ≡ 2) where
        abbrev r : ℕ
        r = child_at pool n (y - n) O.o

        other_holds : (u : Tree ℕ) → kids O.o ≡ u → Shape.Holds (base 16 n) (mem pool) (b + 1) r u
        other_holds u e = subst (Shape.Holds (base 16 n) (mem pool) (b + 1) r) e (held_child pool n w (mem pool word) y b s kids O.o holds O.o<)

        apart : c ≢ O.o
        apart e = O.apart (sym e)

        full : Filled (kids c)
        full = rw kid_is tt

        slot_back : n + (y - n) ≡ y
        slot_back = omega (arith, held_slot pool n w (mem pool word) y b s kids holds)

        merged : (u : Tree ℕ) → kids O.o ≡ u
            → DeleteIs pool n t k (merge_with pool n (below n (y - n) b c above) (FreesLeaf x) (child_word n (y - n) O.o) r)
        unfolding Good Words
        merged empty e = absurd (rw e at O.there)
        merged (leaf z k' v') e =
            rw ((held_leaf pool n (b + 1) r z k' v' (other_holds (leaf z k' v') e)).ref, spot_word n root ρ t q.on, slot_back)
            (dropped (bypassing word r) (y ∷ []) (FreesBoth x y) refl refl (ref_above n 1 ρ t (omega arith), tt)
            (drops_bypass 16 n (mem pool) t H ρ y b s kids q c lc O.o O.o< apart count full O.there z k' v' e))
        merged (node z b' s' kids') e =
            let u : Tree ℕ = node z b' s' kids' in
            let a = held_node pool n (b + 1) r z b' s' kids' (other_holds u e) in
            let g = subst (Good dig 16 (b + 1) (upd (dig s) b O.o)) e (good.3 O.o O.o<) in
            let low_is = low_held pool n 17 (b + 1) (child_word n (y - n) O.o) r (upd (dig s) b O.o) u (other_holds u e) g tt (omega (arith, a.w≤b, a.b<)) (omega arith) in
            rw (a.refers, a.head, low_is, spot_word n root ρ t q.on, spot_depth n root ρ t q.on, slot_back)
            (dropped (lifting 16 n word r (z - n) w b' (low u)) (y ∷ []) (FreesBoth x y) refl refl (ref_above n 1 ρ t (omega arith), (omega arith, tt))
            (drops_bypass_node 16 n (mem pool) t H ρ y b s kids q c lc O.o O.o< apart count full O.there (omega arith) z b' s' kids' (low u) e
            (low_agrees dig (digit_lt 16) 16 b' (dig s') u tt (omega arith, g.1, λ i l. refl, g.3, g.4))))

        bypassed : DeleteIs pool n t k (unlink_of pool n (below n (y - n) b c above) (FreesLeaf x))
        bypassed = rw (counted, count, O.is, lt-ltb O.o 16 O.o<) (merged (kids O.o) refl)

      at_child : DeleteIs pool n t k plan
      at_child = rw (end_is, ne_eqb (above.nodes + 1) 0 (λ z. omega arith)) (go (less? 2 (children kids)))
        where
          go : (2 < children kids) ⊎ (children kids ≤ 2) → DeleteIs pool n t k (unlink_of pool n (below n (y - n) b c above) (FreesLeaf x))
          go (inl h) = unlinked h
          go (inr h) = bypassed (other_held pool n w (mem pool word) y b s kids holds c two) (omega (arith, of_two kids two))

    found : DeleteIs pool n t k plan
    found = by_place (λ π. π ≡ all → DeleteIs pool n t k plan) t at_root at_child all p.on refl

  -- ---- by where the walk ends
  pub delete_is : capacity_of pool ≡ Some n → DeleteIs pool n t k (delete_plan pool k)
  unfolding delete_plan find
  delete_is cap-is =
      rw (cap-is, walk_held pool n k 16 17 root (λ i. 0) t H.holds H.good (omega arith) (omega arith))
      (go (sub all t) refl (way_ends k 0 (λ i. 0) t H.good))
    where
      at_leaf : (x k' v : ℕ) → Stands all (leaf x k' v) t → DeleteIs pool n t k (delete_at pool n k (end_at n end (leaf x k' v)))
      at_leaf x k' v p = case (same? k' k)
        where
          key : key_at pool x ≡ k'
          key = (held_leaf pool n (dep all 0 t) (mem pool (ref_at n 1 all t)) x k' v (holds_at 16 n (mem pool) t H all (leaf x k' v) p)).key

          case : Same? k' k → DeleteIs pool n t k (delete_at pool n k (end_at n end (leaf x k' v)))
          case (same e q) = rw (eq-eqb (key_at pool x) k (key ∙ e)) (found x v (record { on = p.on; is = p.is ∙ ap (λ i. leaf x i v) e }))
          case (other e q) =
              absent (rw (ne_eqb (key_at pool x) k (λ z. e (sym key ∙ z))))
              (way_finds 16 k t ∙ ap (find dig k) p.is ∙ rw (ne_eqb k k' (λ z. e (sym z))))

      go : (u : Tree ℕ) → sub all t ≡ u → NoNode u → DeleteIs pool n t k (delete_at pool n k (end_at n end u))
      go empty e h = absent refl (way_finds 16 k t ∙ ap (find dig k) e)
      go (leaf x k' v) e h = at_leaf x k' v (record { on = way_on 16 k t; is = e })
      go (node x b s kids) e h = absurd h
