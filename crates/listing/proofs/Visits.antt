-- Laws of a visit: one that is over does nothing, its bound on nodes is not seen, and a node is visited over its children, of which an empty one
-- changes nothing.
-- Assumes nothing.
use Rattle.std.specs.Prelude.{None, Option, Some}
use mathlib.Core.Path.{◌≡◌, refl, sym, ap, ◌∙◌}
use mathlib.Core.Bool.{Bool, true, false}
use mathlib.Core.List.{List}
use Prim.Native.Nat.{ℕ, zero, suc, ◌+◌, ◌-◌, ◌≤◌, ◌<◌}
use native.Mathlib.Omega.{arith}
use borrow.Author.Tests.{eq-eqb, ne_eqb, ltb-true, ltb-false}
use lib.Dec.{eqb, ltb}
use lib.ListN.{length, get_or, drop}
use Rattle.std.specs.Option.{is_some}
use Rattle.std.proofs.lemmas.Bool.{false≢true}
use Rattle.std.proofs.lemmas.List.{length-take, length-drop, get_or-take, get_or-drop}
use Rattle.pool.specs.Sizes.{Sized}
use Rattle.digits.specs.Choice.{pick}
use Rattle.digits.specs.Loops.{upto}
use Rattle.pool.specs.Places.{key_at, value_at, header_at, node_word, child_at, children_at}
use Rattle.pool.specs.Refs.{ref_of}
use Rattle.pool.specs.declared.Ref.{Ref}
use Rattle.pool.specs.declared.Ref.TheVariants.{Empty, Leaf, Node, Bad}
use Rattle.walk.specs.Walks.{head_of, Between, is_child, children_of, place_of, lowest_child}
use Rattle.walk.proofs.Heads.{between}
use Rattle.walk.proofs.Loops.{scan_true}
use Rattle.listing.specs.Listings.{Visit, spoilt, leaf_of, kids_of, node_of, ref_visit, visit_from}
use Rattle.digits.proofs.Choice.{pick_case}
use Rattle.digits.proofs.Loops.{tally_none, tally_some}
use Rattle.listing.proofs.Loops.{upto_next, upto_idle, upto_same, upto_keeps, scan_passes}

-- the sixteen children of a node, as a list
module _ {pool : List ℕ} {n : ℕ} (z : Sized pool n) (j : ℕ) (h : j + 1 < n) {xs : List ℕ} (e : xs ≡ children_at pool n j) where
  pub children_long : length xs ≡ 16
  children_long = rw e (omega (arith, z.words, length-take 16 (drop (node_word n j + 1) pool), length-drop (node_word n j + 1) pool))

  pub child_listed : (c : ℕ) → c < length xs → (c < 16) × (get_or xs c 0 ≡ child_at pool n j c)
  child_listed c l =
      let g : c < 16 = omega (arith, children_long) in
      (g, rw e (get_or-take 16 (drop (node_word n j + 1) pool) c 0 g ∙ get_or-drop (node_word n j + 1) pool c 0))

-- none has a place just where no place is below 16
place_missing : (c : ℕ) → is_some (place_of c) ≡ false → 16 ≤ c
place_missing c e = go (ltb c 16) refl e
  where
    go : (t : Bool) → ltb c 16 ≡ t → is_some (pick t (Some c) None) ≡ false → 16 ≤ c
    go true q e = absurd (false≢true (sym e))
    go false q e = ltb-false c 16 q

place_there : (c : ℕ) → is_some (place_of c) ≡ true → c < 16
place_there c e = go (ltb c 16) refl e
  where
    go : (t : Bool) → ltb c 16 ≡ t → is_some (pick t (Some c) None) ≡ true → c < 16
    go true q e = ltb-true c 16 q
    go false q e = absurd (false≢true e)

module _ (pool : List ℕ) (n from : ℕ) where
  -- a node that is met with so many nodes left below the reference to it
  abbrev pub node_from : ℕ → ℕ → ℕ → Visit → Visit
  node_from zero w j = spoilt
  node_from (suc f) w j = node_of (visit_from f pool n from) pool n w j

  visit_turn : (f w r : ℕ) (v : Visit)
      → visit_from f pool n from w r v ≡ pick (eqb v.state.phase 0) (ref_visit (node_from f w) pool n from (ref_of n r) v) v
  unfolding visit_from
  visit_turn zero w r v = refl
  visit_turn (suc f) w r v = refl

  -- "there it stops": a visit that is over does nothing
  pub visit_over : (f w r : ℕ) {v : Visit} → (v.state.phase ≡ 0 → ⊥) → visit_from f pool n from w r v ≡ v
  visit_over f w r {v} h = visit_turn f w r v ∙ rw (ne_eqb v.state.phase 0 h)

  -- one that goes on does what the reference says
  pub visit_on : (f w r : ℕ) (v : Visit) {x y : Ref} → v.state.phase ≡ 0 → x ≡ ref_of n r → x ≡ y
      → visit_from f pool n from w r v ≡ ref_visit (node_from f w) pool n from y v
  visit_on f w r v h e q = visit_turn f w r v ∙ rw (eq-eqb v.state.phase 0 h, ← e, q)

  -- visits that treat a node alike are alike
  nodes_same : (f g w u r : ℕ) (v : Visit) → ((j : ℕ) → ref_of n r ≡ Node j → node_from f w j v ≡ node_from g u j v)
      → visit_from f pool n from w r v ≡ visit_from g pool n from u r v
  nodes_same f g w u r v h =
      visit_turn f w r v ∙ ap (λ (z : Visit). pick (eqb v.state.phase 0) z v) (go (ref_of n r) refl) ∙ sym (visit_turn g u r v)
    where
      go : (x : Ref) → ref_of n r ≡ x → ref_visit (node_from f w) pool n from x v ≡ ref_visit (node_from g u) pool n from x v
      go Empty e = refl
      go (Leaf i) e = refl
      go (Node j) e = h j e
      go Bad e = refl

  pub visit_empty : (f w r : ℕ) (v : Visit) → r ≡ 0 → visit_from f pool n from w r v ≡ v
  unfolding ref_of
  visit_empty f w r v e = visit_turn f w r v ∙ rw e (go (eqb v.state.phase 0))
    where
      go : (t : Bool) → pick t v v ≡ v
      go true = refl
      go false = refl

  -- ---- the bound on nodes is not seen
  -- children are met deeper than their node
  node_same : (go go' : ℕ → ℕ → Visit → Visit) (w j : ℕ) (v : Visit) → ((d r : ℕ) (u : Visit) → w < d → go d r u ≡ go' d r u)
      → node_of go pool n w j v ≡ node_of go' pool n w j v
  node_same go go' w j v e = at_head (head_of w (header_at pool n j)) (between w (header_at pool n j))
    where
      at_head : (h : Option ℕ) → Between w h → kids_of go pool n j h v ≡ kids_of go' pool n j h v
      at_head (Some b) l = ap (pick (eqb (children_of pool n j) 0) (spoilt v)) (upto_same _ _ v (λ c u. e (b + 1) (child_at pool n j c) u (omega arith)) 16)
      at_head None l = refl

  -- no header is accepted where no digit is left
  node_end : (f w j : ℕ) (v : Visit) → 16 ≤ w → spoilt v ≡ node_from f w j v
  node_end zero w j v g = refl
  node_end (suc f) w j v g = at_head (head_of w (header_at pool n j)) (between w (header_at pool n j))
    where
      at_head : (h : Option ℕ) → Between w h → spoilt v ≡ kids_of (visit_from f pool n from) pool n j h v
      at_head (Some b) l = absurd (omega arith)
      at_head None l = refl

  -- a bound that leaves one node for each digit that is left is not seen
  pub visit_bound_unseen : (f g w r : ℕ) (v : Visit) → 16 ≤ f + w → 16 ≤ g + w → visit_from f pool n from w r v ≡ visit_from g pool n from w r v
  visit_bound_unseen zero g w r v a b = nodes_same 0 g w w r v (λ j e. node_end g w j v (omega arith))
  visit_bound_unseen (suc f) zero w r v a b = nodes_same (suc f) 0 w w r v (λ j e. sym (node_end (suc f) w j v (omega arith)))
  visit_bound_unseen (suc f) (suc g) w r v a b =
      nodes_same (suc f) (suc g) w w r v
      (λ j e. node_same (visit_from f pool n from) (visit_from g pool n from) w j v (λ d x u l. visit_bound_unseen f g d x u (omega arith) (omega arith)))

  -- so a node's children are visited under the bound of the node
  pub visit_node : (f w r : ℕ) (v : Visit) {x : Ref} {j : ℕ} → 16 ≤ f → v.state.phase ≡ 0 → x ≡ ref_of n r → x ≡ Node j
      → visit_from f pool n from w r v ≡ node_of (visit_from f pool n from) pool n w j v
  visit_node zero w r v l h e q = absurd (omega arith)
  visit_node (suc f) w r v {x} {j} l h e q =
      visit_on (suc f) w r v h e q
      ∙ node_same (visit_from f pool n from) (visit_from (suc f) pool n from) w j v
      (λ d y u g. visit_bound_unseen f (suc f) d y u (omega arith) (omega arith))

  -- ---- a node's children
  -- the visit of child m of node j, which branches at b
  abbrev pub kid : ℕ → ℕ → ℕ → Visit → Visit
  kid b j m = visit_from 17 pool n from (b + 1) (child_at pool n j m)

  -- a node that has none, and one that has one, by its lowest
  module _ (j w : ℕ) (v : Visit) {y : Option ℕ} {b h : ℕ} {o : Option ℕ} (e : h ≡ header_at pool n j) (k : y ≡ head_of w h) (q : y ≡ Some b)
      (s : o ≡ place_of (lowest_child pool n j)) where
    pub node_childless : is_some o ≡ false → spoilt v ≡ node_of (visit_from 17 pool n from) pool n w j v
    node_childless f =
        let l = place_missing (lowest_child pool n j) (rw (← s) f) in
        let z : children_of pool n j ≡ 0 = tally_none (is_child pool n j) 16 (λ m g. scan_passes (is_child pool n j) 16 0 m (omega arith) (omega arith)) in
        rw (← e, ← k, q, eq-eqb (children_of pool n j) 0 z)

    pub node_visits : is_some o ≡ true → upto 16 (kid b j) v ≡ node_of (visit_from 17 pool n from) pool n w j v
    node_visits f =
        let l = place_there (lowest_child pool n j) (rw (← s) f) in
        let z = tally_some (is_child pool n j) 16 (lowest_child pool n j) l (scan_true (is_child pool n j) 16 0 (omega arith)) in
        rw (← e, ← k, q, ne_eqb (children_of pool n j) 0 z)

  -- the visit of node j, which branches at b, has come from o past so many of its children to u
  module _ (b j : ℕ) (o : Visit) (i : ℕ) {r : ℕ} {u : Visit} (e : r ≡ child_at pool n j i) (p : u ≡ upto i (kid b j) o) where
    -- an empty one changes nothing
    pub kids_same : r ≡ 0 → u ≡ upto (i + 1) (kid b j) o
    kids_same z = upto_next (kid b j) o i p (sym (visit_empty 17 (b + 1) (child_at pool n j i) u (sym e ∙ z)))

    module _ {v : Visit} (l : b < 16) (q : v ≡ visit_from 17 pool n from (16 - (16 - 1 - b)) r u) where
      pub kids_next : v ≡ upto (i + 1) (kid b j) o
      kids_next =
          let z : 16 - (16 - 1 - b) ≡ b + 1 = omega arith in
          upto_next (kid b j) o i p (q ∙ rw (z, e))

      -- once the visit is over the children that are left may be left out
      pub kids_over : i < 16 → (v.state.phase ≡ 0 → ⊥) → v ≡ upto 16 (kid b j) o
      kids_over g h =
          kids_next ∙ upto_idle (kid b j) o (i + 1) 16 (omega arith) (λ m _ _. visit_over 17 (b + 1) (child_at pool n j m) (rw (← kids_next) h))

  -- ---- what damage and every leaf keep, a visit keeps
  module _ (P : Visit → Type 0) (damage : (v : Visit) → P v → P (spoilt v)) (leaf : (key value : ℕ) (v : Visit) → P v → P (leaf_of n from key value v)) where
    kids_keep : (go : ℕ → ℕ → Visit → Visit) → ((d r : ℕ) (v : Visit) → P v → P (go d r v)) → (j : ℕ) (h : Option ℕ) (v : Visit) → P v
        → P (kids_of go pool n j h v)
    kids_keep go k j (Some b) v p =
        pick_case P (eqb (children_of pool n j) 0) (λ e. damage v p)
        (λ e. upto_keeps P (λ c. go (b + 1) (child_at pool n j c)) (λ c u. k (b + 1) (child_at pool n j c) u) 16 v p)
    kids_keep go k j None v p = damage v p

    turn_keeps : (f w r : ℕ) (v : Visit) → ((j : ℕ) (u : Visit) → P u → P (node_from f w j u)) → P v → P (visit_from f pool n from w r v)
    turn_keeps f w r v k p = rw (visit_turn f w r v) (pick_case P (eqb v.state.phase 0) (λ e. go (ref_of n r)) (λ e. p))
      where
        go : (x : Ref) → P (ref_visit (node_from f w) pool n from x v)
        go Empty = p
        go (Leaf i) = leaf (key_at pool i) (value_at pool i) v p
        go (Node j) = k j v p
        go Bad = damage v p

    pub visit_keeps : (f w r : ℕ) (v : Visit) → P v → P (visit_from f pool n from w r v)
    visit_keeps zero w r v p = turn_keeps 0 w r v (λ j u q. damage u q) p
    visit_keeps (suc f) w r v p = turn_keeps (suc f) w r v (λ j u q. kids_keep (visit_from f pool n from) (visit_keeps f) j (head_of w (header_at pool n j)) u q) p
