-- What is reached in a pool that holds a tree: the references at the tree's places, above its keys, and its slots.
-- Rests on what references come to, and on places. Assumes nothing.
use Rattle.std.specs.Prelude.{Option, None, Some}
use mathlib.Core.Path.{◌≡◌, refl, sym, ap, ◌∙◌, subst}
use mathlib.Core.List.{List, [], ◌∷◌, ◌++◌}
use Prim.Native.Nat.{ℕ, ◌+◌, ◌-◌, ◌%◌, ◌^◌, ◌≤◌, ◌<◌}
use native.Mathlib.Omega.{arith}
use lib.Dec.{eqb}
use Rattle.digits.specs.Headers.{length_of, stored_in}
use Rattle.pool.specs.Places.{word_at, key_at, value_at, header_at, child_at, child_word}
use Rattle.pool.specs.Refs.{ref_of}
use Rattle.pool.specs.declared.Ref.{Ref}
use Rattle.pool.specs.declared.Ref.TheVariants.{Empty, Leaf, Node, Bad}
use Rattle.tree.specs.Tree.{Tree, empty, leaf, node, upd, one, mult, On, here as whole, down, sub, dep, Stands, pre, Agree, Good}
use Rattle.tree.specs.Shape.{Holds}
use Rattle.tree.proofs.Basics.{Same?, same, other, same?, one_at, one_off, one_is, sum_has, sum_two, sum_some}
use Rattle.tree.proofs.Places.{sub_mult, child as child-place, agree_up, good_sub}
use Rattle.layout.specs.Layout.{base, Held, ref_at}
use Rattle.layout.proofs.Held.{ref_child, sub_holds}
use Rattle.held.specs.Ways.{dig, mem}
use Rattle.held.proofs.Heads.{Headed, held_empty, held_leaf, held_head, held_node, held_slot, held_child}
use Rattle.survey.specs.Soundness.{slot_of, at, depth, branch, Reached, root, child, Below, here, under, InUse}

-- ---- keys and slots of a tree
-- k is the key of one of the tree's leaves
unfoldable pub KeyIn : ℕ → Tree ℕ → Type 0
KeyIn k empty = ⊥
KeyIn k (leaf x k' v) = k ≡ k'
KeyIn k (node x b s kids) = (c : ℕ) × (c < 16) × KeyIn k (kids c)

-- it begins as the way to the tree says
pub key_agrees : (w : ℕ) (q : ℕ → ℕ) (t : Tree ℕ) (k : ℕ) → Good dig 16 w q t → KeyIn k t → Agree dig w q k
unfolding KeyIn Good
key_agrees w q empty k g h = absurd h
key_agrees w q (leaf x k' v) k g h = rw h g
key_agrees w q (node x b s kids) k g h =
    agree_up dig w b h.0 s q k g.0 g.2 (key_agrees (b + 1) (upd (dig s) b h.0) (kids h.0) k (g.3 h.0 h.1) h.2)

-- the slot of the tree's root
abbrev pub root_slot : Tree ℕ → Option ℕ
root_slot empty = None
root_slot (leaf x k v) = Some x
root_slot (node x b s kids) = Some x

slot_counts : (x : ℕ) (t : Tree ℕ) → root_slot t ≡ Some x → 0 < mult x t
unfolding mult
slot_counts x empty e = let o : ◌≡◌ {A = ℕ} 0 1 = cc in absurd (omega arith)
slot_counts x (leaf y k v) e = let z : y ≡ x = cc in rw (z, one_at x) (omega arith)
slot_counts x (node y b s kids) e = let z : y ≡ x = cc in rw (z, one_at x) (omega arith)

pub place_counts : (x : ℕ) (t : Tree ℕ) (π : List ℕ) → On π t → root_slot (sub π t) ≡ Some x → 0 < mult x t
place_counts x t π o a = omega (arith, sub_mult π t x o, slot_counts x (sub π t) a)

-- the root's slot, counted once, is no child's
root_alone : (x y b s : ℕ) (kids : ℕ → Tree ℕ) (c : ℕ) (π : List ℕ) → mult x (node y b s kids) ≤ 1 → y ≡ x → c < 16 → On π (kids c)
    → root_slot (sub π (kids c)) ≡ Some x → ⊥
unfolding mult
root_alone x y b s kids c π m e l o a =
    omega (arith, one_at x, ap (λ (i : ℕ). one (eqb x i)) e, sum_has 16 (λ c. mult x (kids c)) c l, place_counts x (kids c) π o a)

-- a slot that is counted once is that of one place
pub one_place : (x : ℕ) (t : Tree ℕ) (π ρ : List ℕ) → mult x t ≤ 1 → On π t → On ρ t → root_slot (sub π t) ≡ Some x → root_slot (sub ρ t) ≡ Some x → π ≡ ρ
unfolding mult sub
one_place x t π ρ m whole whole a b = refl
one_place x t π ρ m whole (down {c} {x = y} {b = h} {s} {kids} {π = σ} l o) a b = absurd (root_alone x y h s kids c σ m (cc) l o b)
one_place x t π ρ m (down {c} {x = y} {b = h} {s} {kids} {π = σ} l o) whole a b = absurd (root_alone x y h s kids c σ m (cc) l o a)
one_place x (node y h s kids) (c ∷ π) (d ∷ ρ) m (down l o) (down l' o') a b = go (same? d c) (λ ρ m o'. one_place x (kids c) π ρ m o o')
  where
    count : ℕ → ℕ
    count c = mult x (kids c)

    go : Same? d c → ((ρ : List ℕ) → mult x (kids c) ≤ 1 → On ρ (kids c) → root_slot (sub π (kids c)) ≡ Some x → root_slot (sub ρ (kids c)) ≡ Some x → π ≡ ρ)
        → ◌≡◌ {A = List ℕ} (c ∷ π) (d ∷ ρ)
    go (same e z) ih =
        let π-is : π ≡ ρ = ih ρ (omega (arith, sum_has 16 count c l)) (rw e at o') a (rw e at b) in
        cc
    go (other e z) ih = absurd (omega (arith, sum_two 16 count d c l' l e, place_counts x (kids c) π o a, place_counts x (kids d) ρ o' b))

-- ---- places
-- the reference at word i, met at walk depth w, is that of a place of the tree whose own is in word 1
pub record Place (n : ℕ) (t : Tree ℕ) (i w : ℕ) : Type 0 where
  pub π : List ℕ
  pub on : On π t
  pub word : ref_at n 1 π t ≡ i
  pub met : dep π 0 t ≡ w

module _ (pool : List ℕ) (n : ℕ) where
  -- ---- a reference that holds a tree
  -- the tree's root is node j, met at walk depth w
  pub record NodeHeld (w j : ℕ) (t : Tree ℕ) : Type 0 where
    pub s : ℕ
    pub kids : ℕ → Tree ℕ
    pub is : t ≡ node (n + j) (branch pool n j) s kids
    pub below : (c : ℕ) → c < 16 → Holds (base 16 n) (mem pool) (branch pool n j + 1) (child_at pool n j c) (kids c)
    pub deep : w ≤ depth pool n j
    pub high : branch pool n j < 16
    pub stored : header_at pool n j % 2 ^ 48 ≡ stored_in 16 12 (depth pool n j) (length_of (header_at pool n j)) s

  -- what the reference means
  abbrev pub Means : ℕ → Tree ℕ → Ref → Type 0
  Means w t Empty = t ≡ empty
  Means w t (Leaf l) = t ≡ leaf l (key_at pool l) (value_at pool l)
  Means w t (Node j) = NodeHeld w j t
  Means w t Bad = ⊥

  node_held : (w r x b s : ℕ) (kids : ℕ → Tree ℕ) → Holds (base 16 n) (mem pool) w r (node x b s kids) → NodeHeld w (x - n) (node x b s kids)
  node_held w r x b s kids h =
      let H : Headed pool n w r x b s = held_head pool n w r x b s kids h in
      let back : n + (x - n) ≡ x = omega (arith, H.past) in
      let at_b : branch pool n (x - n) ≡ b = H.shown.branch in
      let len : b - H.h ≡ length_of (header_at pool n (x - n)) = omega (arith, H.shown.depth) in
      record {
        s = s;
        kids = kids;
        is = rw (back, at_b);
        below = rw at_b (λ c l. held_child pool n w r x b s kids c h l);
        deep = omega (arith, H.low, H.shown.depth);
        high = omega (arith, H.shown.most);
        stored = H.shown.digits ∙ rw (len, H.shown.depth);
      }

  pub means : (w r : ℕ) (t : Tree ℕ) → Holds (base 16 n) (mem pool) w r t → Means w t (ref_of n r)
  means w r empty h = rw (held_empty pool n w r h).1
  means w r (leaf x k v) h =
      let see = held_leaf pool n w r x k v h in
      rw see.ref (rw (← see.key, ← see.value))
  means w r (node x b s kids) h = rw (held_node pool n w r x b s kids h).refers (node_held w r x b s kids h)

  -- the slot that it names is that of the tree's root
  pub slot_is : (w r : ℕ) (t : Tree ℕ) → Holds (base 16 n) (mem pool) w r t → slot_of n (ref_of n r) ≡ root_slot t
  slot_is w r empty h = rw (held_empty pool n w r h).1
  slot_is w r (leaf x k v) h = rw (held_leaf pool n w r x k v h).ref
  slot_is w r (node x b s kids) h = rw (held_node pool n w r x b s kids h).refers (ap Some (omega (arith, held_slot pool n w r x b s kids h)))

  -- the keys below are the tree's
  pub below_key : {i k : ℕ} → Below pool n i k → (w : ℕ) (t : Tree ℕ) → Holds (base 16 n) (mem pool) w (word_at pool i) t → KeyIn k t
  unfolding KeyIn
  below_key {i} (here l e) w t h = rw (subst (Means w t) e (means w (word_at pool i) t h)) refl
  below_key {i} {k} (under j c e l B) w t h =
      let N : NodeHeld w j t = subst (Means w t) e (means w (word_at pool i) t h) in
      rw N.is (c, l, below_key B (branch pool n j + 1) (N.kids c) (N.below c l))

  -- the children of a node that is reached
  pub kid_reached : (i w y b s : ℕ) (kids : ℕ → Tree ℕ) → Reached pool n i w → Holds (base 16 n) (mem pool) w (word_at pool i) (node y b s kids)
      → (c : ℕ) → c < 16 → Reached pool n (child_word n (y - n) c) (b + 1)
  kid_reached i w y b s kids R h c l =
      let is = (node_held w (word_at pool i) y b s kids h).is in
      let at_b : branch pool n (y - n) ≡ b = cc in
      subst (λ (w : ℕ). Reached pool n (child_word n (y - n) c) (w + 1)) at_b (child (y - n) c R (held_node pool n w (word_at pool i) y b s kids h).refers l)

  -- a slot that is counted below what is reached is in use
  counted_in_use : (x i w : ℕ) (t : Tree ℕ) → Reached pool n i w → Holds (base 16 n) (mem pool) w (word_at pool i) t → 0 < mult x t → InUse pool n x
  unfolding mult
  counted_in_use x i w empty R h p = absurd (omega arith)
  counted_in_use x i w (leaf y k v) R h p = record { i = i; w = w; reached = R; slot = slot_is w (word_at pool i) (leaf y k v) h ∙ ap Some (sym (one_is x y p)) }
  counted_in_use x i w (node y b s kids) R h p = go (same? x y) (λ c. counted_in_use x (child_word n (y - n) c) (b + 1) (kids c))
    where
      go : Same? x y
          → ((c : ℕ) → Reached pool n (child_word n (y - n) c) (b + 1) → Holds (base 16 n) (mem pool) (b + 1) (child_at pool n (y - n) c) (kids c) → 0 < mult x (kids c)
          → InUse pool n x)
          → InUse pool n x
      go (same e z) ih = record { i = i; w = w; reached = R; slot = slot_is w (word_at pool i) (node y b s kids) h ∙ ap Some (sym e) }
      go (other e z) ih =
          let (c, l, o) = sum_some 16 (λ c. mult x (kids c)) (omega (arith, one_off x y e)) in
          ih c (kid_reached i w y b s kids R h c l) (held_child pool n w (word_at pool i) y b s kids c h l) o

  -- ---- a pool that holds a tree
  module _ (t : Tree ℕ) (H : Held 16 n (mem pool) t) where
    -- what stands there is held, good, and what the reference means
    pub place_holds : {i w : ℕ} (P : Place n t i w) → Holds (base 16 n) (mem pool) w (word_at pool i) (sub P.π t)
    place_holds P = rw (← P.word, ← P.met) (sub_holds 16 n (mem pool) P.π 0 1 t P.on H.holds)

    pub place_good : {i w : ℕ} (P : Place n t i w) → Good dig 16 w (pre dig P.π (λ i. 0) t) (sub P.π t)
    place_good P = rw (← P.met) (good_sub dig 16 P.π 0 (λ i. 0) t P.on H.good)

    pub place_means : {i w : ℕ} {x : Ref} (P : Place n t i w) → at pool n i ≡ x → Means w (sub P.π t) x
    place_means {i} {w} P e = subst (Means w (sub P.π t)) e (means w (word_at pool i) (sub P.π t) (place_holds P))

    pub place_slot : {i w x : ℕ} (P : Place n t i w) → slot_of n (at pool n i) ≡ Some x → root_slot (sub P.π t) ≡ Some x
    place_slot {i} {w} P e = sym (slot_is w (word_at pool i) (sub P.π t) (place_holds P)) ∙ e

    -- everything reached is at a place
    pub reached_place : {i w : ℕ} → Reached pool n i w → Place n t i w
    unfolding ref_at dep
    reached_place root = record { π = []; on = whole; word = refl; met = refl }
    reached_place (child j c R e l) =
        let P = reached_place R in
        let N = place_means P e in
        let stands : Stands P.π (node (n + j) (branch pool n j) N.s N.kids) t = record { on = P.on; is = N.is } in
        let C = child-place dig P.π c (n + j) (branch pool n j) N.s N.kids t l stands in
        let back : n + j - n ≡ j = omega arith in
        record {
          π = P.π ++ c ∷ [];
          on = C.stands.on;
          word = ref_child 16 n P.π c (n + j) (branch pool n j) N.s N.kids t stands ∙ ap (λ (j : ℕ). child_word n j c) back;
          met = C.dep_is 0;
        }

    -- the slots in use are those that the tree counts
    pub in_use : (x : ℕ) → InUse pool n x → 0 < mult x t
    in_use x u =
        let P = reached_place u.reached in
        place_counts x t P.π P.on (place_slot P u.slot)

    pub reached_in_use : (x : ℕ) → 0 < mult x t → InUse pool n x
    reached_in_use x p = counted_in_use x 1 0 t root H.holds p
