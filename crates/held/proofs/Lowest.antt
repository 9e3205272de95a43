-- The lowest leaf and the children of a node, in a pool that holds a tree, are the tree's own.
-- Rests on what references come to, and on the walk's turns. Assumes nothing.
use Rattle.std.specs.Prelude.{Ok}
use mathlib.Core.Path.{◌≡◌, refl, sym, ap, ◌∙◌, subst}
use mathlib.Core.Bool.{Bool, true, false}
use mathlib.Core.Logic.{◌≢◌}
use mathlib.Core.List.{List}
use Prim.Native.Nat.{ℕ, zero, suc, ◌+◌, ◌-◌, ◌≤◌, ◌<◌}
use native.Mathlib.Omega.{arith}
use borrow.Author.Tests.{eq-eqb, ne_eqb}
use lib.Dec.{eqb}
use Rattle.digits.specs.Choice.{pick}
use Rattle.digits.specs.Loops.{scan, tally}
use Rattle.pool.specs.Places.{word_at, leaf_word, child_at, child_word}
use Rattle.pool.specs.declared.Ref.TheVariants.{Leaf}
use Rattle.tree.specs.Tree.{Tree, empty, leaf, node, upd, one, Filled, Two, Good}
use Rattle.tree.specs.Near.{filled, children, low}
use Rattle.tree.specs.Shape.{Holds}
use Rattle.tree.proofs.Basics.{Same?, same, other, same?, true_not_false, sum_same, tally_sum}
use Rattle.tree.proofs.Near.{scan_finds, scan_same, lowest, filled_is, filled_true}
use Rattle.layout.specs.Layout.{base}
use Rattle.walk.specs.Walks.{is_child, children_of, lowest_child, other_child, lowest_from}
use Rattle.walk.proofs.LowestLeaf.{lowest_ends, lowest_goes}
use Rattle.held.specs.Ways.{dig, mem}
use Rattle.held.proofs.Heads.{held_leaf, held_node, held_child, held_zero}

pub tally_same : (n : ℕ) (f g : ℕ → Bool) → ((c : ℕ) → c < n → f c ≡ g c) → tally n f ≡ tally n g
tally_same n f g e = tally_sum n f ∙ sum_same n (λ c. one (f c)) (λ c. one (g c)) (λ c l. ap one (e c l)) ∙ sym (tally_sum n g)

module _ (pool : List ℕ) (n w r x b s : ℕ) (kids : ℕ → Tree ℕ) (h : Holds (base 16 n) (mem pool) w r (node x b s kids)) where
  -- a child's word is 0 just where the tree has no child
  pub child_held : (c : ℕ) → c < 16 → is_child pool n (x - n) c ≡ filled (kids c)
  child_held c l = held_zero pool n (b + 1) (child_at pool n (x - n) c) (kids c) (held_child pool n w r x b s kids c h l)

  pub children_held : children_of pool n (x - n) ≡ children kids
  children_held = tally_same 16 (is_child pool n (x - n)) (λ c. filled (kids c)) child_held

  pub lowest_held : lowest_child pool n (x - n) ≡ scan 16 0 (λ c. filled (kids c))
  lowest_held = scan_same 16 0 (is_child pool n (x - n)) (λ c. filled (kids c)) (λ c a l. child_held c (omega arith))

  -- the lowest child but child c: where c is one of two or more there is another
  pub record Other (c : ℕ) : Type 0 where
    pub o : ℕ
    pub is : other_child pool n (x - n) (child_word n (x - n) c) ≡ o
    pub o< : o < 16
    pub apart : o ≢ c
    pub there : Filled (kids o)

  others : ℕ → ℕ → Bool
  others c d = pick (eqb d c) false (filled (kids d))

  others_true : (c d : ℕ) → others c d ≡ true → (d ≢ c) × Filled (kids d)
  unfolding others
  others_true c d e = go (same? d c)
    where
      go : Same? d c → (d ≢ c) × Filled (kids d)
      go (same p q) = absurd (true_not_false (rw q at e) refl)
      go (other p q) = (p, filled_is (kids d) (rw q at e))

  others_found : (c d : ℕ) → d ≢ c → Filled (kids d) → others c d ≡ true
  unfolding others
  others_found c d a f = rw (ne_eqb d c a) (filled_true (kids d) f)

  pub other_held : (c : ℕ) → Two kids → Other c
  unfolding others
  other_held c two = go (same? two.c c)
    where
      is_scan : other_child pool n (x - n) (child_word n (x - n) c) ≡ scan 16 0 (others c)
      is_scan =
          scan_same 16 0 (λ d. pick (eqb (child_word n (x - n) d) (child_word n (x - n) c)) false (is_child pool n (x - n) d)) (others c)
          (λ d a l. word_case d (omega arith) (same? d c))
        where
          word_case : (d : ℕ) → d < 16 → Same? d c → pick (eqb (child_word n (x - n) d) (child_word n (x - n) c)) false (is_child pool n (x - n) d) ≡ others c d
          word_case d l (same p q) = rw (q, eq-eqb (child_word n (x - n) d) (child_word n (x - n) c) (omega arith))
          word_case d l (other p q) = rw (q, ne_eqb (child_word n (x - n) d) (child_word n (x - n) c) (λ z. p (omega arith))) (child_held d l)

      from : (d : ℕ) → d < 16 → d ≢ c → Filled (kids d) → Other c
      from d l a f =
          let (lo, tr) = scan_finds 16 0 (others c) d (omega arith) (omega arith) (others_found c d a f) in
          let (ap', fl) = others_true c (scan 16 0 (others c)) tr in
          record { o = scan 16 0 (others c); is = is_scan; o< = omega arith; apart = ap'; there = fl }

      go : Same? two.c c → Other c
      go (same p q) = from two.d two.d< (λ z. two.apart (p ∙ sym z)) two.at_d
      go (other p q) = from two.c two.c< p two.at_c

module _ (pool : List ℕ) (n : ℕ) where
  -- the lowest leaf's key is the tree's lowest
  pub low_held : (f w at r : ℕ) (q : ℕ → ℕ) (t : Tree ℕ) → Holds (base 16 n) (mem pool) w r t → Good dig 16 w q t → Filled t → w ≤ 16 → 17 ≤ f + w
      → lowest_from f pool n w at r ≡ Ok (low t)
  unfolding Good low
  low_held zero w at r q t h g fl l fu = absurd (omega arith)
  low_held (suc f) w at r q empty h g fl l fu = absurd fl
  low_held (suc f) w at r q (leaf x k v) h g fl l fu =
      let see = held_leaf pool n w r x k v h in
      lowest_ends pool n f w at r (Leaf x) see.ref tt ∙ ap Ok see.key
  low_held (suc f) w at r q (node x b s kids) h g fl l fu =
      let d : ℕ = scan 16 0 (λ c. filled (kids c)) in
      let (ld, fd) = lowest kids g.4 in
      let e : lowest_child pool n (x - n) ≡ d = lowest_held pool n w r x b s kids h in
      lowest_goes pool n f w at r (x - n) b (held_node pool n w r x b s kids h) (rw e ld)
      ∙ ap (λ c. lowest_from f pool n (b + 1) (child_word n (x - n) c) (child_at pool n (x - n) c)) e
      ∙ low_held f (b + 1) (child_word n (x - n) d) (child_at pool n (x - n) d) (upd (dig s) b d) (kids d) (held_child pool n w r x b s kids d h ld) (g.3 d ld)
      (filled_is (kids d) fd) (omega (arith, g.1)) (omega (arith, g.0))

  -- which is one of the pool's words
  pub low_word : (bound : ℕ) → ((i : ℕ) → word_at pool i < bound) → (w r : ℕ) (q : ℕ → ℕ) (t : Tree ℕ)
      → Holds (base 16 n) (mem pool) w r t → Good dig 16 w q t → Filled t → low t < bound
  unfolding Good low
  low_word bound words w r q empty h g fl = absurd fl
  low_word bound words w r q (leaf x k v) h g fl = subst (λ (i : ℕ). i < bound) (held_leaf pool n w r x k v h).key (words (leaf_word x))
  low_word bound words w r q (node x b s kids) h g fl =
      let d : ℕ = scan 16 0 (λ c. filled (kids c)) in
      let (ld, fd) = lowest kids g.4 in
      low_word bound words (b + 1) (child_at pool n (x - n) d) (upd (dig s) b d) (kids d) (held_child pool n w r x b s kids d h ld) (g.3 d ld)
      (filled_is (kids d) fd)
