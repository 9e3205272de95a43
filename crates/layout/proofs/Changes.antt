-- One store to a pool that holds a tree: outside its slots, to a slot below a place, or to the reference of a place.
-- Rests on the frame laws of trees. Assumes nothing.
use mathlib.Core.Path.{◌≡◌, refl, sym, ap, ◌∙◌}
use mathlib.Core.Logic.{◌≢◌, ◌⊎◌, inl, inr}
use Prim.Native.Nat.{ℕ, ◌+◌, ◌-◌, ◌*◌, ◌≤◌, ◌<◌}
use mathlib.Core.List.{List, [], ◌∷◌, ◌++◌}
use native.Mathlib.Omega.{arith}
use lib.Dec.{eqb}
use Rattle.digits.specs.Digits.{digit_in}
use Rattle.pool.specs.Places.{node_word, child_word}
use Rattle.tree.specs.Tree.{Tree, node, upd, one, mult, On, sub, plug, dep, Stands}
use Rattle.tree.specs.Shape.{Mem, Holds}
use Rattle.tree.proofs.Basics.{upd_at, upd_off, one_at, sum_has}
use Rattle.tree.proofs.Places.{sub_mult, Child, child, by_place}
use Rattle.tree.proofs.Frame.{frame, graft, link}
use Rattle.layout.specs.Layout.{own, base, Held, ref_at}
use Rattle.layout.proofs.Base.{head_kept, own_root, own_slot, base_lawful}
use Rattle.layout.proofs.Held.{held, ref_child, node_slot, slot_low}

module _ (D N : ℕ) (m : Mem) (t : Tree ℕ) (H : Held D N m t) where
  -- ---- outside the tree's slots
  pub kept : (m' : Mem) → ((i : ℕ) → (i ≡ 1) ⊎ (0 < mult (own N i) t) → m' i ≡ m i) → Held D N m' t
  unfolding base
  kept m' same =
      held D N m' t
      (rw (same 1 (inl refl)) (frame (base D N) (base_lawful D N) m m' 0 (m 1) t H.holds (λ x h i e. same i (inr (rw e h)))))
      H.good

  -- ---- to a slot below a place: what stood there becomes u
  pub amended : (π : List ℕ) → On π t → (i a : ℕ) (u : Tree ℕ) → 0 < mult (own N i) (sub π t)
      → ((r : ℕ) → Holds (base D N) m (dep π 0 t) r (sub π t) → Holds (base D N) (upd m i a) (dep π 0 t) r u)
      → Holds (base D N) (upd m i a) 0 (upd m i a 1) (plug π t u)
  unfolding base
  amended π on i a u h new =
      let low : own N i < 2 * N = slot_low D N m 0 (m 1) t (own N i) H.holds (omega (arith, sub_mult π t (own N i) on)) in
      rw (upd_off m i a 1 (λ z. omega (arith, own_root N, ap (own N) z)))
      (graft (base D N) (base_lawful D N) m (upd m i a) π 0 (m 1) t u on H.holds
      (λ x l j e. upd_off m i a j (λ z.
      let f : own N i ≡ x = ap (own N) (sym z) ∙ e in
      let p : 0 < mult x (sub π t) = rw f at h in
      omega (arith, H.once x)))
      new)

  -- ---- to the reference of a place
  -- a slot that is free, or below the place, does not own that word
  pub ref_owner : (π : List ℕ) → On π t → (x : ℕ) → x < 2 * N → mult x t ≤ mult x (sub π t) → own N (ref_at N 1 π t) ≢ x
  unfolding ref_at mult
  ref_owner =
      by_place (λ π. (x : ℕ) → x < 2 * N → mult x t ≤ mult x (sub π t) → own N (ref_at N 1 π t) ≢ x) t
      (λ x l h e. omega (arith, own_root N))
      (λ ρ c y b s kids lc p x l h e.
      let q : own N (child_word N (y - N) c) ≡ y = own_slot N y (child_word N (y - N) c) (node_slot D N m t H ρ y b s kids p).0 (omega arith) (omega arith) in
      let z : x ≡ y = sym e ∙ ap (own N) (ref_child D N ρ c y b s kids t p) ∙ q in
      omega (
        arith,
        sub_mult ρ t x p.on,
        ap (mult x) p.is,
        ap (λ y. one (eqb x y)) z,
        one_at x,
        sum_has 16 (λ i. mult x (kids i)) c lc,
        ap (mult x) (child (digit_in D) ρ c y b s kids t lc p).stands.is,
      ))

  module _ (r : ℕ) (u : Tree ℕ) where
    -- what holds u before the store holds it after, u's slots not being used outside the place
    still : (π : List ℕ) → On π t → Holds (base D N) m (dep π 0 t) r u → ((x : ℕ) → 0 < mult x u → mult x t ≤ mult x (sub π t))
        → Holds (base D N) (upd m (ref_at N 1 π t) r) (dep π 0 t) r u
    unfolding base
    still π on new apart =
        frame (base D N) (base_lawful D N) m (upd m (ref_at N 1 π t) r) (dep π 0 t) r u new
        (λ x h i e. upd_off m (ref_at N 1 π t) r i (λ z. ref_owner π on x (slot_low D N m (dep π 0 t) r u x new h) (apart x h) (ap (own N) (sym z) ∙ e)))

    child_switched : (ρ : List ℕ) (c x b s : ℕ) (kids : ℕ → Tree ℕ) → c < 16 → Stands ρ (node x b s kids) t
        → Holds (base D N) (upd m (child_word N (x - N) c) r) (b + 1) r u
        → Holds (base D N) (upd m (child_word N (x - N) c) r) 0 (upd m (child_word N (x - N) c) r 1) (plug ρ t (node x b s (upd kids c u)))
    unfolding base
    child_switched ρ c x b s kids lc p new =
        let q : ℕ = child_word N (x - N) c in
        let own-q : own N q ≡ x = own_slot N x q (node_slot D N m t H ρ x b s kids p).0 (omega arith) (omega arith) in
        rw (upd_off m q r 1 (λ z. omega arith))
        (link (base D N) (base_lawful D N) m (upd m q r) ρ 0 (m 1) t x b s kids c u lc p H.once H.holds
        (λ y n l i e. upd_off m q r i (λ z. n (sym e ∙ ap (own N) z ∙ own-q)))
        (λ d l n. upd_off m q r (child_word N (x - N) d) (λ z. n (omega arith)))
        (λ r' g. record {
          h = g.h;
          low = g.low;
          high = g.high;
          there = head_kept D N m (upd m q r) r' x g.h b ((base D N).stored g.h b s) g.there (upd_off m q r (node_word N (x - N)) (λ z. omega arith));
        })
        (rw (upd_at m q r) new))

    -- a reference that holds u at the place's walk depth puts u there
    pub switched : (π : List ℕ) → On π t → Holds (base D N) m (dep π 0 t) r u → ((x : ℕ) → 0 < mult x u → mult x t ≤ mult x (sub π t))
        → Holds (base D N) (upd m (ref_at N 1 π t) r) 0 (upd m (ref_at N 1 π t) r 1) (plug π t u)
    unfolding ref_at plug dep
    switched π on new apart =
        by_place
        (λ π. Holds (base D N) (upd m (ref_at N 1 π t) r) (dep π 0 t) r u
        → Holds (base D N) (upd m (ref_at N 1 π t) r) 0 (upd m (ref_at N 1 π t) r 1) (plug π t u)) t
        (λ g. rw (upd_at m 1 r) g)
        (λ ρ c x b s kids lc p g.
        let q : ref_at N 1 (ρ ++ c ∷ []) t ≡ child_word N (x - N) c = ref_child D N ρ c x b s kids t p in
        let C : Child (digit_in D) ρ c x b s kids t = child (digit_in D) ρ c x b s kids t lc p in
        rw (q, C.plug_is u) (child_switched ρ c x b s kids lc p (rw (q, C.dep_is 0) at g)))
        π on (still π on new apart)
