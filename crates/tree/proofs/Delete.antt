-- The trees that a delete makes: nothing left at a place, which is the root or the child of a node of three or more; a node of two bypassed.
-- Rests on replacing at a place, and on counted children. Assumes nothing.
use Rattle.std.specs.Prelude.{Option, None, Some}
use mathlib.Core.Path.{◌≡◌, refl, sym, ap, ◌∙◌, subst}
use mathlib.Core.Logic.{◌≢◌}
use Prim.Native.Nat.{ℕ, ◌+◌, ◌≤◌, ◌<◌}
use mathlib.Core.List.{List, [], ◌∷◌, ◌++◌}
use native.Mathlib.Omega.{arith}
use borrow.Author.Tests.{ne_eqb}
use Rattle.tree.specs.Tree.{Tree, empty, leaf, node, upd, mult, Filled, Stands, On, sub, plug, dep, pre, Agree, Leads, find, Good, GoodAt}
use Rattle.tree.specs.Changes.{occurs, Removes, Clears}
use Rattle.tree.specs.Near.{children}
use Rattle.tree.proofs.Basics.{Same?, same, other, same?, upd_at, upd_case, sum_only}
use Rattle.tree.proofs.Places.{plug_mult, Child, child, agree_up, find_keeps, find_there, good_sub, good_plug, good_lift, found_agrees, not_found}
use Rattle.tree.proofs.Near.{two_left, no_third}

module _ (dig : ℕ → ℕ → ℕ) (dl : (k i : ℕ) → dig k i < 16) (D : ℕ) {A : Type 0} (t : Tree A) (good : Good dig D 0 (λ i. 0) t) where
  -- ---- nothing left at a place
  pub empty_clears : (π : List ℕ) → On π t → Clears dig π [] t (plug π t empty)
  unfolding find mult occurs
  empty_clears π on = record {
    gone = λ k a. find_there dig D π 0 (λ i. 0) t empty k on good a;
    others = λ k e. find_keeps dig π t empty k on (sym e);
    slots = λ x. omega (arith, plug_mult π t empty x on);
  }

  module _ (ρ : List ℕ) (x b s : ℕ) (kids : ℕ → Tree A) (p : Stands ρ (node x b s kids) t) where
    node_good : GoodAt dig D ρ t (node x b s kids)
    node_good = subst (GoodAt dig D ρ t) p.is (good_sub dig D ρ 0 (λ i. 0) t p.on good)

    -- a child of three or more dropped
    pub child_dropped_good : (c : ℕ) → c < 16 → 3 ≤ children kids → Good dig D 0 (λ i. 0) (plug (ρ ++ c ∷ []) t empty)
    unfolding Good
    child_dropped_good c l h =
        rw ((child dig ρ c x b s kids t l p).plug_is empty)
        (good_plug dig D ρ 0 (λ i. 0) t (node x b s (upd kids c empty)) p.on good tt (
          node_good.0,
          node_good.1,
          node_good.2,
          λ d j. upd_case (λ d. Good dig D (b + 1) (upd (dig s) b d)) kids c empty d tt (λ n. node_good.3 d j),
          two_left kids c l h,
        ))

    -- ---- a node of two bypassed: o stays, c goes
    module _ (c o : ℕ) (lc : c < 16) (lo : o < 16) (apart : c ≢ o) (two : children kids ≡ 2) (fc : Filled (kids c)) (fo : Filled (kids o)) where
      pub bypass_good : Good dig D 0 (λ i. 0) (plug ρ t (kids o))
      unfolding Good
      bypass_good =
          good_plug dig D ρ 0 (λ i. 0) t (kids o) p.on good fo
          (good_lift dig D (dep ρ 0 t) b o s (pre dig ρ (λ i. 0) t) (kids o) node_good.0 node_good.2 (node_good.3 o lo))

      off : (k : ℕ) → dig k b ≢ o → find dig k (kids o) ≡ None
      unfolding Good
      off k n = not_found dig D dl (b + 1) (upd (dig s) b o) (kids o) k b (node_good.3 o lo) (omega arith) (λ e. n (e ∙ upd_at (dig s) b o))

      only : (d : ℕ) → d < 16 → d ≢ c → d ≢ o → kids d ≡ empty
      only = no_third kids c o two lc lo apart fc fo

      -- a key that is not below c is found below o as below the node
      kept : (k : ℕ) → find dig k (kids c) ≡ None → Same? (dig k b) o → Same? (dig k b) c → find dig k (kids o) ≡ find dig k (kids (dig k b))
      unfolding find
      kept k e (same y z) v = rw y
      kept k e (other y z) (same y' z') = off k y ∙ sym (rw y' e)
      kept k e (other y z) (other y' z') = off k y ∙ sym (ap (find dig k) (only (dig k b) (dl k b) y' y))

      pub bypass_clears : Clears dig (ρ ++ c ∷ []) (x ∷ []) t (plug ρ t (kids o))
      unfolding Good find mult occurs
      bypass_clears =
          let C : Child dig ρ c x b s kids t = child dig ρ c x b s kids t lc p in
          record {
            gone = λ k leads.
                let a : Agree dig (b + 1) (upd (dig s) b c) k = rw (C.dep_is 0, C.pre_is (λ i. 0)) at leads in
                find_there dig D ρ 0 (λ i. 0) t (kids o) k p.on good
                (agree_up dig (dep ρ 0 t) b c s (pre dig ρ (λ i. 0) t) k node_good.0 node_good.2 a)
                ∙ off k (λ z. apart (sym (a b (omega arith) ∙ upd_at (dig s) b c) ∙ z));
            others = λ k e.
                find_keeps dig ρ t (kids o) k p.on
                (kept k (ap (find dig k) (sym C.stands.is) ∙ e) (same? (dig k b) o) (same? (dig k b) c) ∙ sym (ap (find dig k) p.is));
            slots = λ y.
                omega (
                  arith,
                  plug_mult ρ t (kids o) y p.on,
                  ap (mult y) p.is,
                  ap (mult y) C.stands.is,
                  sum_only 16 (λ d. mult y (kids d)) c o lc lo apart (λ d l n n'. ap (mult y) (only d l n n')),
                );
          }

  -- ---- keys
  -- a key that does not lead to the place is as it was
  pub elsewhere_kept : (π : List ℕ) (over : List ℕ) (t' : Tree A) → On π t → Clears dig π over t t' → (k : ℕ) → (Leads dig π t k → ⊥)
      → find dig k t' ≡ find dig k t
  elsewhere_kept π over t' on cl k n = cl.others k (go (find dig k (sub π t)) refl)
    where
      go : (r : Option A) → find dig k (sub π t) ≡ r → find dig k (sub π t) ≡ None
      go None e = e
      go (Some v) e = absurd (n (found_agrees dig D dl (dep π 0 t) (pre dig π (λ i. 0) t) (sub π t) k v (good_sub dig D π 0 (λ i. 0) t on good) e))

  -- a leaf dropped is its key removed
  pub leaf_removed : (π : List ℕ) (over : List ℕ) (t' : Tree A) (x k : ℕ) (v : A) → Stands π (leaf x k v) t → Clears dig π over t t'
      → Removes dig k (x ∷ over) t t'
  unfolding Good find mult occurs
  leaf_removed π over t' x k v p cl = record {
    gone = cl.gone k (subst (GoodAt dig D π t) p.is (good_sub dig D π 0 (λ i. 0) t p.on good));
    others = λ k' n. cl.others k' (rw (p.is, ne_eqb k' k n));
    slots = λ y. omega (arith, cl.slots y, ap (mult y) p.is);
  }
