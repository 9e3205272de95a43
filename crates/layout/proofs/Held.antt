-- What is held at the places of a held tree, and in which slots. That no slot is reached twice follows from the rest.
-- Rests on the layout's laws. Assumes nothing.
use mathlib.Core.Path.{◌≡◌, sym, ap, ◌∙◌, subst}
use mathlib.Core.Logic.{◌⊎◌, inl, inr}
use Prim.Native.Nat.{ℕ, ◌+◌, ◌-◌, ◌*◌, ◌≤◌, ◌<◌}
use mathlib.Core.List.{List, [], ◌∷◌, ◌++◌}
use mathlib.Core.Bool.{not}
use native.Mathlib.Omega.{arith}
use lib.Dec.{eqb}
use borrow.Author.Tests.{eq-eqb, ne_eqb}
use Rattle.digits.specs.Digits.{digit_in}
use Rattle.digits.proofs.Digits.{digit_lt}
use Rattle.pool.specs.Places.{child_word, leaf_ref, node_ref}
use Rattle.tree.specs.Tree.{Tree, empty, leaf, node, mult, On, here, down, sub, dep, Stands, find, Good, GoodAt}
use Rattle.tree.specs.Shape.{none_there, leaf_there, node_there, Mem, Holds, walk, answer}
use Rattle.tree.specs.Near.{filled}
use Rattle.tree.specs.Grow.{grow}
use Rattle.tree.proofs.Basics.{less?}
use Rattle.tree.proofs.Places.{good_sub}
use Rattle.tree.proofs.Once.{once}
use Rattle.tree.proofs.Walk.{answer_find, walk_tree}
use Rattle.tree.proofs.Grow.{regrow}
use Rattle.tree.proofs.Room.{Slots, slots_out}
use Rattle.layout.specs.Layout.{base, Held, ref_at}
use Rattle.layout.proofs.Base.{Decoded, decoded, sees, none_seen, stored_decided, base_lawful, slots_held}

module _ (D N : ℕ) where
  pub once_follows : (m : Mem) (q : ℕ → ℕ) (t : Tree ℕ) → Holds (base D N) m 0 (m 1) t → Good (digit_in D) D 0 q t → (x : ℕ) → mult x t ≤ 1
  once_follows m q t h g x = once (base D N) (base_lawful D N) (digit_in D) (digit_lt D) D m x 0 (m 1) q t h g

  pub held : (m : Mem) (t : Tree ℕ) → Holds (base D N) m 0 (m 1) t → Good (digit_in D) D 0 (λ i. 0) t → Held D N m t
  held m t h g = record { holds = h; good = g; once = once_follows m (λ i. 0) t h g }

  -- a pool whose root reference is 0 holds nothing
  pub held_empty : (m : Mem) → m 1 ≡ 0 → Held D N m empty
  unfolding Holds Good
  held_empty m e = held m empty (rw e (none_seen D N m)) tt

  -- ---- places
  pub sub_holds : (m : Mem) (π : List ℕ) (w i : ℕ) (t : Tree ℕ) → On π t → Holds (base D N) m w (m i) t
      → Holds (base D N) m (dep π w t) (m (ref_at N i π t)) (sub π t)
  unfolding sub dep ref_at Holds base
  sub_holds m π w i t here g = g
  sub_holds m π w i t (down {c} {x} {b} {kids = kids} {π = ρ} l o) g = sub_holds m ρ (b + 1) (child_word N (x - N) c) (kids c) o (g.1 c l)

  -- the reference of a child
  ref_child_on : (i : ℕ) (ρ : List ℕ) (c x b s : ℕ) (kids : ℕ → Tree ℕ) (t : Tree ℕ) → On ρ t → sub ρ t ≡ node x b s kids
      → ref_at N i (ρ ++ c ∷ []) t ≡ child_word N (x - N) c
  unfolding sub ref_at
  ref_child_on i ρ c x b s kids t here e = rw e
  ref_child_on i ρ c x b s kids t (down {c = d} {x = y} {kids = kids'} {π = π} l o) e = ref_child_on (child_word N (y - N) d) π c x b s kids (kids' d) o e

  pub ref_child : (ρ : List ℕ) (c x b s : ℕ) (kids : ℕ → Tree ℕ) (t : Tree ℕ) → Stands ρ (node x b s kids) t → ref_at N 1 (ρ ++ c ∷ []) t ≡ child_word N (x - N) c
  ref_child ρ c x b s kids t p = ref_child_on 1 ρ c x b s kids t p.on p.is

  module _ (m : Mem) (t : Tree ℕ) (H : Held D N m t) (π : List ℕ) where
    pub holds_at : (u : Tree ℕ) → Stands π u t → Holds (base D N) m (dep π 0 t) (m (ref_at N 1 π t)) u
    holds_at u p = subst (Holds (base D N) m (dep π 0 t) (m (ref_at N 1 π t))) p.is (sub_holds m π 0 1 t p.on H.holds)

    pub good_at : (u : Tree ℕ) → Stands π u t → GoodAt (digit_in D) D π t u
    good_at u p = subst (GoodAt (digit_in D) D π t) p.is (good_sub (digit_in D) D π 0 (λ i. 0) t p.on H.good)

    -- ---- slots
    slots_at : (u : Tree ℕ) → Stands π u t → Slots N u
    slots_at u p = slots_held D N m (dep π 0 t) (m (ref_at N 1 π t)) u (holds_at u p)

    pub leaf_slot : (x k v : ℕ) → Stands π (leaf x k v) t → x < N
    unfolding Slots
    leaf_slot x k v p = slots_at (leaf x k v) p

    pub node_slot : (x b s : ℕ) (kids : ℕ → Tree ℕ) → Stands π (node x b s kids) t → (N ≤ x) × (x + 1 < N + N)
    unfolding Slots
    node_slot x b s kids p = let (low, high, below) = slots_at (node x b s kids) p in (low, high)

  -- "A child is any of the sixteen words that is not 0."
  pub filled_word : (m : Mem) (w r : ℕ) (t : Tree ℕ) → Holds (base D N) m w r t → filled t ≡ not (eqb r 0)
  unfolding Holds
  filled_word m w r empty g = rw (eq-eqb r 0 (sees D N m r none_there g))
  filled_word m w r (leaf x k v) g =
      let d : (x < N) × (r ≡ leaf_ref x) = subst (Decoded N r) (sees D N m r (leaf_there x k v) g).ref (decoded N r) in
      rw (ne_eqb r 0 (λ z. omega (arith, d.1)))
  filled_word m w r (node x b s kids) g =
      let p = sees D N m r (node_there x g.0.h b ((base D N).stored g.0.h b s)) g.0.there in
      let d : (x - N + 1 < N) × (r ≡ node_ref (x - N)) = subst (Decoded N r) p.ref (decoded N r) in
      rw (ne_eqb r 0 (λ z. omega (arith, d.1)))

  -- words 0 and 1 belong to no slot that is reached
  pub slot_low : (m : Mem) (w r : ℕ) (t : Tree ℕ) (x : ℕ) → Holds (base D N) m w r t → 0 < mult x t → x < 2 * N
  slot_low m w r t x g h = go (less? x (2 * N))
    where
      go : (x < 2 * N) ⊎ (2 * N ≤ x) → x < 2 * N
      go (inl l) = l
      go (inr l) = absurd (omega (arith, slots_out N t (slots_held D N m w r t g) x (omega arith)))

-- ---- what is held is decided by the memory
module _ (D N : ℕ) (m : Mem) where
  pub find_decided : (t t' : Tree ℕ) → Held D N m t → Held D N m t' → (k : ℕ) → find (digit_in D) k t ≡ find (digit_in D) k t'
  find_decided t t' H H' k = sym (walked t H) ∙ walked t' H'
    where
      walked : (t : Tree ℕ) → Held D N m t → answer k (walk (base D N) (digit_in D) (D + 1) m 0 (m 1) k) ≡ find (digit_in D) k t
      walked t H =
          ap (answer k) (walk_tree (digit_in D) (base D N) D (digit_lt D) (D + 1) m 0 (m 1) k (λ i. 0) t H.holds H.good (omega arith) (omega arith))
          ∙ answer_find (digit_in D) t k

  pub mult_decided : (t t' : Tree ℕ) → Held D N m t → Held D N m t' → (x : ℕ) → mult x t ≡ mult x t'
  mult_decided t t' H H' x = sym (grown t H) ∙ grown t' H'
    where
      grown : (t : Tree ℕ) → Held D N m t → mult x (grow (base D N) (D + 1) m (m 1)) ≡ mult x t
      grown t H =
          (regrow (base D N) (digit_in D) (digit_lt D) D (stored_decided D N) (D + 1) m 0 (m 1) (λ i. 0) t H.holds H.good (omega arith) (omega arith)).count x
