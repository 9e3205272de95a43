-- No slot is reached twice in a tree that is held and good: two ways to one slot part at a node, and the lowest key below it would have two digits
-- there. Rests on the frame and on the lowest leaf. Assumes nothing.
use mathlib.Core.Path.{◌≡◌, refl, sym, ap, ◌∙◌, subst}
use mathlib.Core.Logic.{◌≢◌, ◌⊎◌, inl, inr}
use Prim.Native.Nat.{ℕ, ◌+◌, ◌≤◌, ◌<◌}
use native.Mathlib.Omega.{arith}
use lib.Dec.{eqb}
use Rattle.digits.specs.Loops.{scan}
use Rattle.tree.specs.Tree.{Tree, empty, leaf, node, upd, sum, one, mult, Agree, Good}
use Rattle.tree.specs.Shape.{node_there, Mem, Shape, Holds}
use Rattle.tree.specs.Near.{filled, low}
use Rattle.tree.proofs.Basics.{Same?, same, other, same?, less?, upd_at, one_is, one_le, sum_zero, sum_some, sum_once}
use Rattle.tree.proofs.Places.{agree_up}
use Rattle.tree.proofs.Frame.{Shows, Lawful}
use Rattle.tree.proofs.Near.{scan_same, lowest, low_agrees}

module _ {A : Type 0} (S : Shape A) (L : Lawful S) (dig : ℕ → ℕ → ℕ) (dl : (k i : ℕ) → dig k i < 16) (D : ℕ) (m : Mem) where
  -- one reference leads to one lowest leaf, whichever tree it is said to hold
  pub low_decided : (w w' r : ℕ) (q : ℕ → ℕ) (t t' : Tree A) → Holds S m w r t → Holds S m w' r t' → Good dig D w q t
      → (filled t ≡ filled t') × (low t ≡ low t')
  unfolding Holds low Good
  low_decided w w' r q empty empty h h' g = (refl, refl)
  low_decided w w' r q empty (leaf x k v) h h' g = (cc, cc)
  low_decided w w' r q empty (node x b s kids) h h' g = let e = h'.0.there in (cc, cc)
  low_decided w w' r q (leaf x k v) empty h h' g = (cc, cc)
  low_decided w w' r q (leaf x k v) (leaf x' k' v') h h' g = (refl, cc)
  low_decided w w' r q (leaf x k v) (node x' b s kids) h h' g = let e = h'.0.there in (refl, cc)
  low_decided w w' r q (node x b s kids) empty h h' g = let e = h.0.there in (cc, cc)
  low_decided w w' r q (node x b s kids) (leaf x' k v) h h' g = let e = h.0.there in (refl, cc)
  low_decided w w' r q (node x b s kids) (node x' b' s' kids') h h' g =
      let xx : x' ≡ x = let e = h.0.there in let e' = h'.0.there in cc in
      let ih : (c : ℕ) → c < 16 → (filled (kids c) ≡ filled (kids' c)) × (low (kids c) ≡ low (kids' c))
      = λ c l. low_decided (b + 1) (b' + 1) (S.kid m x c) (upd (dig s) b c) (kids c) (kids' c) (h.1 c l) (rw xx at (h'.1 c l)) (g.3 c l) in
      let d : ℕ = scan 16 0 (λ c. filled (kids c)) in
      let e : d ≡ scan 16 0 (λ c. filled (kids' c)) = scan_same 16 0 (λ c. filled (kids c)) (λ c. filled (kids' c)) (λ c a l. (ih c (omega arith)).0) in
      (refl, (ih d (lowest kids g.4).0).1 ∙ ap (λ c. low (kids' c)) e)

  -- a slot that is reached is the root of a tree held and good somewhere below, whose lowest key comes by the way to it
  record Reached (x w : ℕ) (q : ℕ → ℕ) : Type 0 where
    at : ℕ
    ref : ℕ
    digits : ℕ → ℕ
    tree : Tree A
    shows : Shows x (S.view m ref)
    holds : Holds S m at ref tree
    good : Good dig D at digits tree
    deep : w ≤ at
    key : Agree dig w q (low tree)

  reached : (x w r : ℕ) (q : ℕ → ℕ) (t : Tree A) → Holds S m w r t → Good dig D w q t → 0 < mult x t → Reached x w q
  unfolding Holds Good mult low
  reached x w r q empty h g p = absurd (omega arith)
  reached x w r q (leaf y k v) h g p =
      record { at = w; ref = r; digits = q; tree = leaf y k v; shows = rw h (one_is x y p); holds = h; good = g; deep = omega arith; key = g }
  reached x w r q (node y b s kids) h g p = go (same? x y) (λ c l. reached x (b + 1) (S.kid m y c) (upd (dig s) b c) (kids c) (h.1 c l) (g.3 c l))
    where
      go : Same? x y → ((c : ℕ) → c < 16 → 0 < mult x (kids c) → Reached x (b + 1) (upd (dig s) b c)) → Reached x w q
      go (same e i) ih = record {
        at = w;
        ref = r;
        digits = q;
        tree = node y b s kids;
        shows = rw h.0.there e;
        holds = h;
        good = g;
        deep = omega arith;
        key = low_agrees dig dl D w q (node y b s kids) tt g;
      }
      go (other n i) ih =
          let (c, l, o) = sum_some 16 (λ c. mult x (kids c)) (omega (arith, ap one i)) in
          let z : Reached x (b + 1) (upd (dig s) b c) = ih c l o in
          record {
            at = z.at;
            ref = z.ref;
            digits = z.digits;
            tree = z.tree;
            shows = z.shows;
            holds = z.holds;
            good = z.good;
            deep = omega (arith, g.0, z.deep);
            key = agree_up dig w b c s q (low z.tree) g.0 g.2 z.key;
          }

  -- a slot that is reached in two ways has a key below that comes by both
  key_below : (x w w' : ℕ) (q q' : ℕ → ℕ) → Reached x w q → Reached x w' q' → (k : ℕ) × Agree dig w q k × Agree dig w' q' k
  key_below x w w' q q' a b =
      let r : b.ref ≡ a.ref = L.one_ref m b.ref a.ref x b.shows a.shows in
      let h : Holds S m b.at a.ref b.tree = subst (λ r. Holds S m b.at r b.tree) r b.holds in
      let e : low a.tree ≡ low b.tree = (low_decided a.at b.at a.ref a.digits a.tree b.tree a.holds h a.good).1 in
      (low a.tree, a.key, rw e b.key)

  -- a node's branch place is that of every tree that its reference is said to hold
  branch_below : (w r x h b g : ℕ) (q : ℕ → ℕ) (t : Tree A) → Holds S m w r t → Good dig D w q t → S.view m r ≡ node_there x h b g → w ≤ b
  unfolding Holds Good
  branch_below w r x h b g q empty a o e = let z : ◌≡◌ {A = ℕ} 0 1 = cc in absurd (omega arith)
  branch_below w r x h b g q (leaf y k v) a o e = let z : ◌≡◌ {A = ℕ} 0 1 = cc in absurd (omega arith)
  branch_below w r x h b g q (node y b' s kids) a o e = let p = a.0.there in let z : b' ≡ b = cc in rw (← z) o.0

  pub once : (x w r : ℕ) (q : ℕ → ℕ) (t : Tree A) → Holds S m w r t → Good dig D w q t → mult x t ≤ 1
  unfolding Holds Good mult
  once x w r q empty h g = omega arith
  once x w r q (leaf y k v) h g = one_le (eqb x y)
  once x w r q (node y b s kids) h g =
      go (same? x y)
      (sum_once 16 (λ c. mult x (kids c)) (λ c l. once x (b + 1) (S.kid m y c) (upd (dig s) b c) (kids c) (h.1 c l) (g.3 c l)) apart)
    where
      there : (c : ℕ) → c < 16 → 0 < mult x (kids c) → Reached x (b + 1) (upd (dig s) b c)
      there c l p = reached x (b + 1) (S.kid m y c) (upd (dig s) b c) (kids c) (h.1 c l) (g.3 c l) p

      apart : (c d : ℕ) → c < 16 → d < 16 → c ≢ d → 0 < mult x (kids c) → 0 < mult x (kids d) → ⊥
      apart c d l j n p o =
          let (k, a, a') = key_below x (b + 1) (b + 1) (upd (dig s) b c) (upd (dig s) b d) (there c l p) (there d j o) in
          n (sym (upd_at (dig s) b c) ∙ sym (a b (omega arith)) ∙ a' b (omega arith) ∙ upd_at (dig s) b d)

      none_below : x ≡ y → (c : ℕ) → c < 16 → (0 < mult x (kids c)) ⊎ (mult x (kids c) ≤ 0) → mult x (kids c) ≡ 0
      none_below e c l (inr z) = omega arith
      none_below e c l (inl p) =
          let z : Reached x (b + 1) (upd (dig s) b c) = there c l p in
          let f : z.ref ≡ r = L.one_ref m z.ref r x z.shows (rw h.0.there e) in
          let d : ℕ = S.stored h.0.h b s in
          absurd (omega (arith, z.deep, branch_below z.at z.ref y h.0.h b d z.digits z.tree z.holds z.good (rw f h.0.there)))

      go : Same? x y → sum 16 (λ c. mult x (kids c)) ≤ 1 → one (eqb x y) + sum 16 (λ c. mult x (kids c)) ≤ 1
      go (same e i) le = omega (arith, ap one i, sum_zero 16 (λ c. mult x (kids c)) (λ c l. none_below e c l (less? 0 (mult x (kids c)))))
      go (other n i) le = omega (arith, ap one i)
