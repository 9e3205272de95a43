-- A pool that holds a good tree holds the tree that it is read as. Rests on the lowest leaf. Assumes nothing.
use mathlib.Core.Path.{◌≡◌, refl, sym, ap, ◌∙◌}
use Prim.Native.Nat.{ℕ, zero, suc, ◌+◌, ◌≤◌, ◌<◌}
use native.Mathlib.Omega.{arith}
use lib.Dec.{eqb}
use Rattle.digits.specs.Choice.{pick}
use Rattle.tree.specs.Tree.{Tree, empty, leaf, node, upd, one, mult, Filled, Two, Agree, Good}
use Rattle.tree.specs.Shape.{node_there, Mem, Shape, Holds}
use Rattle.tree.specs.Near.{low}
use Rattle.tree.specs.Grow.{low_node, grow}
use Rattle.tree.proofs.Basics.{Same?, same, other, same?, sum_same}
use Rattle.tree.proofs.Places.{good_same}
use Rattle.tree.proofs.Near.{low_agrees}

upd_same : (b c : ℕ) (q q' : ℕ → ℕ) → ((i : ℕ) → i < b → q i ≡ q' i) → (i : ℕ) → i < b + 1 → upd q b c i ≡ upd q' b c i
upd_same b c q q' e i h = go (same? i b)
  where
    go : Same? i b → pick (eqb i b) c (q i) ≡ pick (eqb i b) c (q' i)
    go (same z p) = rw p
    go (other z p) = rw p (e i (omega arith))

module _ {A : Type 0} (S : Shape A) (dig : ℕ → ℕ → ℕ) (dl : (k i : ℕ) → dig k i < 16) (D : ℕ)
    (stored_same : (h b s s' : ℕ) → Agree dig b (dig s) s' → S.stored h b s ≡ S.stored h b s') where
  -- t' is as good as t
  pub record Like (m : Mem) (w r : ℕ) (q : ℕ → ℕ) (t t' : Tree A) : Type 0 where
    pub holds : Holds S m w r t'
    pub good : Good dig D w q t'
    pub count : (x : ℕ) → mult x t' ≡ mult x t
    pub fill : Filled t → Filled t'

  node_like : (m : Mem) (w r x b s : ℕ) (q : ℕ → ℕ) (kids kids' : ℕ → Tree A) → Holds S m w r (node x b s kids) → Good dig D w q (node x b s kids)
      → ((c : ℕ) → c < 16 → Like m (b + 1) (S.kid m x c) (upd (dig s) b c) (kids c) (kids' c)) → Like m w r q (node x b s kids) (low_node x b kids')
  unfolding Holds Good mult low
  node_like m w r x b s q kids kids' h g like =
      let two : Two kids' = record {
        c = g.4.c;
        d = g.4.d;
        c< = g.4.c<;
        d< = g.4.d<;
        apart = g.4.apart;
        at_c = (like g.4.c g.4.c<).fill g.4.at_c;
        at_d = (like g.4.d g.4.d<).fill g.4.at_d;
      } in
      let s' : ℕ = low (node x b 0 kids') in
      let a : Agree dig b (dig s) s'
      = low_agrees dig dl D b (dig s) (node x b s kids') tt (omega arith, g.1, λ i o. refl, λ c l. (like c l).good, two) in
      record {
        holds = (
          record {
            h = h.0.h;
            low = h.0.low;
            high = h.0.high;
            there = h.0.there ∙ ap (node_there x h.0.h b) (stored_same h.0.h b s s' a);
          },
          λ c l. (like c l).holds,
        );
        good = (
          g.0,
          g.1,
          λ i o. a i (omega arith) ∙ g.2 i o,
          λ c l. good_same dig D (b + 1) (upd (dig s) b c) (upd (dig s') b c) (kids' c) (upd_same b c (dig s) (dig s') (λ i o. sym (a i o))) (like c l).good,
          two,
        );
        count = λ y. ap (one (eqb y x) +◌) (sum_same 16 (λ c. mult y (kids' c)) (λ c. mult y (kids c)) (λ c l. (like c l).count y));
        fill = λ f. tt;
      }

  pub regrow : (n : ℕ) (m : Mem) (w r : ℕ) (q : ℕ → ℕ) (t : Tree A) → Holds S m w r t → Good dig D w q t → w ≤ D → D < n + w → Like m w r q t (grow S n m r)
  unfolding Holds Good grow
  regrow zero m w r q t h g l f = absurd (omega arith)
  regrow (suc n) m w r q empty h g l f = rw (h, grow) (record { holds = h; good = g; count = λ x. refl; fill = λ o. o })
  regrow (suc n) m w r q (leaf x k v) h g l f = rw (h, grow) (record { holds = h; good = g; count = λ x. refl; fill = λ o. o })
  regrow (suc n) m w r q (node x b s kids) h g l f =
      rw (h.0.there, grow)
      (node_like m w r x b s q kids (λ c. grow S n m (S.kid m x c)) h g
      (λ c o. regrow n m (b + 1) (S.kid m x c) (upd (dig s) b c) (kids c) (h.1 c o) (g.3 c o) (omega arith) (omega arith)))
