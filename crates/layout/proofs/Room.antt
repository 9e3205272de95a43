-- Room in a pool: a free leaf while fewer than N keys are held, and then a free node; none when N are.
-- Rests on the counts of slots. Assumes nothing.
use mathlib.Core.Path.{◌≡◌}
use Prim.Native.Nat.{ℕ, ◌+◌, ◌-◌, ◌≤◌, ◌<◌}
use native.Mathlib.Omega.{arith}
use Rattle.digits.specs.Digits.{digit_in}
use Rattle.tree.specs.Tree.{Tree, sum, mult, leaves, nodes, Filled}
use Rattle.tree.specs.Shape.{Mem}
use Rattle.tree.proofs.Room.{Slots, count_leaves, count_nodes, fewer_nodes, free, full, sum_le}
use Rattle.layout.specs.Layout.{Held}
use Rattle.layout.proofs.Base.{slots_held}

module _ (D N : ℕ) (m : Mem) (t : Tree ℕ) (H : Held D N m t) where
  pub slots_in : Slots N t
  slots_in = slots_held D N m 0 (m 1) t H.holds

  -- as many leaves as leaf slots reached, and as many nodes
  pub leaves_counted : sum N (λ x. mult x t) ≡ leaves t
  leaves_counted = count_leaves N t slots_in

  pub nodes_counted : sum (N - 1) (λ j. mult (N + j) t) ≡ nodes t
  nodes_counted = count_nodes N t slots_in

  pub nodes_fewer : Filled t → nodes t < leaves t
  nodes_fewer = fewer_nodes (digit_in D) D 0 (λ i. 0) t H.good

  pub leaves_fit : leaves t ≤ N
  leaves_fit = omega (arith, leaves_counted, sum_le (λ x. mult x t) H.once N)

  -- so there is room
  pub free_leaf_lem : leaves t < N → (z : ℕ) × (z < N) × (mult z t ≡ 0)
  free_leaf_lem h = free N (λ x. mult x t) (omega (arith, leaves_counted))

  pub free_node_lem : Filled t → leaves t < N → (j : ℕ) × (j + 1 < N) × (mult (N + j) t ≡ 0)
  free_node_lem f h =
      let (j, l, e) = free (N - 1) (λ j. mult (N + j) t) (omega (arith, nodes_counted, nodes_fewer f)) in
      (j, omega arith, e)

  -- and no more
  pub no_leaf_free : leaves t ≡ N → (z : ℕ) → z < N → mult z t ≡ 1
  no_leaf_free h z l = full (λ x. mult x t) H.once N (omega (arith, leaves_counted)) z l
