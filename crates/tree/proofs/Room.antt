-- Room: in a tree whose slots are a pool's, leaves and nodes are counted by their slots, and nodes are fewer than leaves; so what is not full has a
-- free slot. Rests on sums. Assumes nothing.
use mathlib.Core.Path.{◌≡◌, refl, sym, ap, ◌∙◌}
use mathlib.Core.Logic.{◌≢◌, ◌⊎◌, inl, inr}
use Prim.Native.Nat.{ℕ, zero, suc, ◌+◌, ◌-◌, ◌≤◌, ◌<◌}
use native.Mathlib.Omega.{arith}
use lib.Dec.{eqb}
use borrow.Author.Tests.{ne_eqb, eq-eqb}
use Rattle.tree.specs.Tree.{Tree, empty, leaf, node, upd, sum, one, mult, leaves, nodes, Filled, Good}
use Rattle.tree.proofs.Basics.{Same?, same, other, same?, last?, one_off, sum_same, sum_zero, sum_add, sum_swap, sum_two}

-- ---- slots of a pool of N leaves: leaf i is slot i, node j is slot N + j
module _ {A : Type 0} where
  unfoldable pub Slots : ℕ → Tree A → Type 0
  Slots N empty = Unit {0}
  Slots N (leaf x k v) = x < N
  Slots N (node x b s kids) = (N ≤ x) × (x + 1 < N + N) × ((c : ℕ) → c < 16 → Slots N (kids c))

  -- no other slot is reached
  pub slots_out : (N : ℕ) (t : Tree A) → Slots N t → (x : ℕ) → N + N ≤ x + 1 → mult x t ≡ 0
  unfolding Slots mult
  slots_out N empty g x h = refl
  slots_out N (leaf y k v) g x h = one_off x y (λ z. omega arith)
  slots_out N (node y b s kids) g x h =
      omega (arith, one_off x y (λ z. omega (arith, g.1)), sum_zero 16 (λ c. mult x (kids c)) (λ c l. slots_out N (kids c) (g.2 c l) x h))

-- ---- counting one slot
sum_one : (n y : ℕ) → y < n → sum n (λ x. one (eqb x y)) ≡ 1
sum_one zero y h = absurd (omega arith)
sum_one (suc n) y h = go (sum_one n y) (same? n y)
  where
    go : (y < n → sum n (λ x. one (eqb x y)) ≡ 1) → Same? n y → sum n (λ x. one (eqb x y)) + one (eqb n y) ≡ 1
    go ih (same e p) = omega (arith, ap one p, sum_zero n (λ x. one (eqb x y)) (λ i l. one_off i y (λ z. omega arith)))
    go ih (other m p) = omega (arith, ap one p, ih (omega arith))

one_shift : (n j y : ℕ) → n ≤ y → one (eqb (n + j) y) ≡ one (eqb j (y - n))
one_shift n j y h = go (same? (n + j) y)
  where
    go : Same? (n + j) y → one (eqb (n + j) y) ≡ one (eqb j (y - n))
    go (same e p) = ap one (p ∙ sym (eq-eqb j (y - n) (omega arith)))
    go (other e p) = ap one (p ∙ sym (ne_eqb j (y - n) (λ z. e (omega arith))))

module _ {A : Type 0} (N : ℕ) where
  -- the slots of a node are its own and its children's
  sum_node : (n : ℕ) (at : ℕ → ℕ) (y b s : ℕ) (kids : ℕ → Tree A)
      → sum n (λ i. mult (at i) (node y b s kids)) ≡ sum n (λ i. one (eqb (at i) y)) + sum 16 (λ c. sum n (λ i. mult (at i) (kids c)))
  unfolding mult
  sum_node n at y b s kids =
      sum_add n (λ i. one (eqb (at i) y)) (λ i. sum 16 (λ c. mult (at i) (kids c)))
      ∙ ap (sum n (λ i. one (eqb (at i) y)) +◌) (sum_swap n 16 (λ i c. mult (at i) (kids c)))

  pub count_leaves : (t : Tree A) → Slots N t → sum N (λ x. mult x t) ≡ leaves t
  unfolding Slots mult leaves
  count_leaves empty g = sum_zero N (λ x. 0) (λ i h. refl)
  count_leaves (leaf y k v) g = sum_one N y g
  count_leaves (node y b s kids) g =
      omega (
        arith,
        sum_node N (λ i. i) y b s kids,
        sum_zero N (λ x. one (eqb x y)) (λ i l. one_off i y (λ z. omega (arith, g.0))),
        sum_same 16 (λ c. sum N (λ x. mult x (kids c))) (λ c. leaves (kids c)) (λ c l. count_leaves (kids c) (g.2 c l)),
      )

  pub count_nodes : (t : Tree A) → Slots N t → sum (N - 1) (λ j. mult (N + j) t) ≡ nodes t
  unfolding Slots mult nodes
  count_nodes empty g = sum_zero (N - 1) (λ x. 0) (λ i h. refl)
  count_nodes (leaf y k v) g = sum_zero (N - 1) (λ j. one (eqb (N + j) y)) (λ j l. one_off (N + j) y (λ z. omega arith))
  count_nodes (node y b s kids) g =
      omega (
        arith,
        sum_node (N - 1) (λ j. N + j) y b s kids,
        sum_same (N - 1) (λ j. one (eqb (N + j) y)) (λ j. one (eqb j (y - N))) (λ j l. one_shift N j y g.0),
        sum_one (N - 1) (y - N) (omega (arith, g.0, g.1)),
        sum_same 16 (λ c. sum (N - 1) (λ j. mult (N + j) (kids c))) (λ c. nodes (kids c)) (λ c l. count_nodes (kids c) (g.2 c l)),
      )

-- ---- nodes are fewer than leaves
-- two summands that are larger
sum_more : (n : ℕ) (f g : ℕ → ℕ) (c d : ℕ) → ((i : ℕ) → i < n → f i ≤ g i) → c < n → d < n → c ≢ d → f c < g c → f d < g d → sum n f + 1 < sum n g
sum_more n f g c d le lc ld apart p q =
    let h : ℕ → ℕ = λ i. g i - f i in
    omega (arith, sum_add n f h, sum_same n (λ i. f i + h i) g (λ i l. omega (arith, le i l)), sum_two n h c d lc ld apart)

module _ (dig : ℕ → ℕ → ℕ) (D : ℕ) {A : Type 0} where
  nodes_le : (t : Tree A) → (Filled t → nodes t < leaves t) → nodes t ≤ leaves t
  unfolding nodes leaves
  nodes_le empty f = omega arith
  nodes_le (leaf x k v) f = omega arith
  nodes_le (node x b s kids) f = omega (arith, f tt)

  pub fewer_nodes : (w : ℕ) (q : ℕ → ℕ) (t : Tree A) → Good dig D w q t → Filled t → nodes t < leaves t
  unfolding Good nodes leaves
  fewer_nodes w q empty g f = absurd f
  fewer_nodes w q (leaf x k v) g f = omega arith
  fewer_nodes w q (node x b s kids) g f =
      let ih : (c : ℕ) → c < 16 → Filled (kids c) → nodes (kids c) < leaves (kids c) = λ c l. fewer_nodes (b + 1) (upd (dig s) b c) (kids c) (g.3 c l) in
      omega (
        arith,
        sum_more 16 (λ c. nodes (kids c)) (λ c. leaves (kids c)) g.4.c g.4.d (λ c l. nodes_le (kids c) (ih c l))
            g.4.c< g.4.d< g.4.apart (ih g.4.c g.4.c< g.4.at_c) (ih g.4.d g.4.d< g.4.at_d),
      )

-- ---- pigeonhole
pub free : (n : ℕ) (f : ℕ → ℕ) → sum n f < n → (x : ℕ) × (x < n) × (f x ≡ 0)
free zero f h = absurd (omega arith)
free (suc n) f h = go (free n f) (f n) refl
  where
    go : (sum n f < n → (x : ℕ) × (x < n) × (f x ≡ 0)) → (a : ℕ) → f n ≡ a → (x : ℕ) × (x < suc n) × (f x ≡ 0)
    go ih zero e = (n, omega arith, e)
    go ih (suc a) e = let (x, l, p) = ih (omega arith) in (x, omega arith, p)

module _ (f : ℕ → ℕ) (le : (i : ℕ) → f i ≤ 1) where
  pub sum_le : (n : ℕ) → sum n f ≤ n
  sum_le zero = omega arith
  sum_le (suc n) = omega (arith, sum_le n, le n)

  less_if_free : (n x : ℕ) → x < n → sum n f + 1 ≤ n + f x
  less_if_free zero x l = absurd (omega arith)
  less_if_free (suc n) x l = go (less_if_free n x) (last? x n l)
    where
      go : (x < n → sum n f + 1 ≤ n + f x) → (x ≡ n) ⊎ (x < n) → sum n f + f n + 1 ≤ suc n + f x
      go ih (inl e) = rw e (omega (arith, sum_le n))
      go ih (inr o) = omega (arith, ih o, le n)

  pub full : (n : ℕ) → n ≤ sum n f → (x : ℕ) → x < n → f x ≡ 1
  full n h x l = omega (arith, less_if_free n x l, le x)
