-- A header rewritten, as a split, a delete and an opening do: the pool holds the same tree.
-- Rests on the laws of the header word. Assumes nothing.
use mathlib.Core.Logic.{◌⊎◌, inl, inr}
use mathlib.Core.Path.{◌≡◌, sym, ap, ◌∙◌, subst}
use Prim.Native.Nat.{ℕ, ◌+◌, ◌-◌, ◌≤◌, ◌<◌}
use mathlib.Core.List.{List, [], ◌∷◌}
use native.Mathlib.Omega.{arith}
use lib.Dec.{eqb}
use borrow.Author.Tests.{lt-ltb}
use Rattle.digits.specs.Digits.{digit_in}
use Rattle.digits.specs.Headers.{stored_in, header_in}
use Rattle.digits.proofs.Headers.{depth_of_header, length_of_header, digits_of_header}
use Rattle.pool.specs.Places.{node_word, child_word}
use Rattle.tree.specs.Tree.{Tree, node, upd, sum, one, mult, sub, dep, Stands, Agree, Good}
use Rattle.tree.specs.Shape.{node_there, Mem, Holds}
use Rattle.tree.specs.Stores.{Store, run, Part}
use Rattle.tree.proofs.Basics.{upd_at, upd_off, one_at, sum_has}
use Rattle.tree.proofs.Places.{plug_sub, sub_mult}
use Rattle.tree.proofs.Frame.{rehead}
use Rattle.tree.proofs.Stores.{part_one}
use Rattle.layout.specs.Layout.{own, head_view, base, Held}
use Rattle.layout.specs.Operations.{header_store}
use Rattle.layout.proofs.Base.{sees, node_seen, stored_decided, own_slot, base_lawful}
use Rattle.layout.proofs.Held.{held, good_at, node_slot}
use Rattle.layout.proofs.Changes.{amended}

-- a header shows what was packed
pub header_view : (D x h b s : ℕ) → D ≤ 256 → h ≤ b → b < D → head_view D x (header_in D h (b - h) s) ≡ node_there x h b (stored_in D 12 h (b - h) s)
unfolding head_view
header_view D x h b s d l k =
    let e : h + (b - h) ≡ b = omega arith in
    rw (
      depth_of_header D h (b - h) s (omega arith),
      length_of_header D h (b - h) s (omega arith),
      digits_of_header D h (b - h) s,
      lt-ltb (b - h) D (omega arith),
      e,
      lt-ltb b D k,
    )

module _ (D N : ℕ) (d : D ≤ 256) where
  -- a node is held under its new header, at any walk depth up to its depth
  header_holds : (m : Mem) (w w' r x b s : ℕ) (kids : ℕ → Tree ℕ) (h s' : ℕ) → Holds (base D N) m w r (node x b s kids)
      → ((c : ℕ) → c < 16 → mult x (kids c) ≡ 0) → w' ≤ h → h ≤ b → b < D → Agree (digit_in D) b (digit_in D s) s'
      → Holds (base D N) (upd m (node_word N (x - N)) (header_in D h (b - h) s')) w' r (node x b s kids)
  unfolding base Holds
  header_holds m w w' r x b s kids h s' g apart a l k agree =
      let i : ℕ = node_word N (x - N) in
      let v : ℕ = header_in D h (b - h) s' in
      let p = sees D N m r (node_there x g.0.h b ((base D N).stored g.0.h b s)) g.0.there in
      rehead (base D N) (base_lawful D N) m (upd m i v) w w' r x b s kids g
      (record {
        h = h;
        low = a;
        high = l;
        there = node_seen D N (upd m i v) r x h b (stored_in D 12 h (b - h) s) (record {
          ref = p.ref;
          low = p.low;
          high = p.high;
          head =
              ap (head_view D x) (upd_at m i v)
              ∙ header_view D x h b s' d l k
              ∙ ap (node_there x h b) (sym (stored_decided D N h b s s' agree));
        });
      })
      (λ c o. upd_off m i v (child_word N (x - N) c) (λ z. omega arith))
      (λ c o y q j e. upd_off m i v j (λ z.
      let f : y ≡ x = sym e ∙ ap (own N) z ∙ own_slot N x i p.low (omega arith) (omega arith) in
      let n : 0 < mult x (kids c) = rw f at q in
      omega (arith, apart c o)))

  -- the node at a place of a held tree; s' is any key that begins as those below it
  module _ (m : Mem) (t : Tree ℕ) (H : Held D N m t) (π : List ℕ) (x b s : ℕ) (kids : ℕ → Tree ℕ) (p : Stands π (node x b s kids) t)
      (h s' : ℕ) (high : h ≤ b) (agree : Agree (digit_in D) b (digit_in D s) s') where
    count : (y : ℕ) → mult y (sub π t) ≡ one (eqb y x) + sum 16 (λ c. mult y (kids c))
    unfolding mult
    count y = ap (mult y) p.is

    branch : b < D
    unfolding Good
    branch = (good_at D N m t H π (node x b s kids) p).1

    pub header_at : (w r : ℕ) → w ≤ h → Holds (base D N) m (dep π 0 t) r (sub π t)
        → Holds (base D N) (upd m (node_word N (x - N)) (header_in D h (b - h) s')) w r (sub π t)
    header_at w r low g =
        rw p.is
        (header_holds m (dep π 0 t) w r x b s kids h s' (rw p.is at g)
        (λ c o. omega (arith, count x, one_at x, H.once x, sub_mult π t x p.on, sum_has 16 (λ c. mult x (kids c)) c o)) low high branch agree)

    pub reheaded : dep π 0 t ≤ h → Held D N (upd m (node_word N (x - N)) (header_in D h (b - h) s')) t
    reheaded low =
        let i : ℕ = node_word N (x - N) in
        let v : ℕ = header_in D h (b - h) s' in
        let own-i : own N i ≡ x = own_slot N x i (node_slot D N m t H π x b s kids p).0 (omega arith) (omega arith) in
        held D N (upd m i v) t
        (subst (Holds (base D N) (upd m i v) 0 (upd m i v 1)) (plug_sub π t p.on)
        (amended D N m t H π p.on i v (sub π t) (rw own-i (omega (arith, count x, one_at x))) (λ r g. header_at (dep π 0 t) r low g)))
        H.good

    -- as a list of one store, of which a cut leaves all or nothing
    pub header_kept : dep π 0 t ≤ h → (τ : List Store) → Part (header_store D N (x - N) h b s' ∷ []) τ → Held D N (run τ m) t
    unfolding run
    header_kept low τ part = go (part_one (header_store D N (x - N) h b s') τ part)
      where
        go : (τ ≡ []) ⊎ (τ ≡ header_store D N (x - N) h b s' ∷ []) → Held D N (run τ m) t
        go (inl e) = rw e H
        go (inr e) = rw e (reheaded low)
