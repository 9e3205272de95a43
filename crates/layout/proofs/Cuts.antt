-- A cut after n stores: before the switch the pool holds the tree as it was, from it on the one that it becomes.
-- Rests on nothing but what a part is. Assumes nothing.
use mathlib.Core.Path.{◌≡◌}
use Prim.Native.Nat.{ℕ, suc, ◌+◌, ◌-◌, ◌≤◌, ◌<◌}
use mathlib.Core.List.{List, ◌∷◌, ◌++◌}
use native.Mathlib.Omega.{arith}
use lib.ListN.{length, take}
use lib.Seq.{take-append-le, take-append-add}
use Rattle.tree.specs.Tree.{Tree}
use Rattle.tree.specs.Shape.{Mem}
use Rattle.tree.specs.Stores.{Store, run}
use Rattle.tree.proofs.Stores.{part_take}
use Rattle.layout.specs.Layout.{Held}
use Rattle.layout.specs.Switches.{Switches}

module _ (D N : ℕ) (m : Mem) (σ : List Store) (s : Store) (ρ : List Store) (t : Tree ℕ) (Becomes : Tree ℕ → Type 0) (S : Switches D N m σ s ρ t Becomes) where
  pub cut_before : (n : ℕ) → n ≤ length σ → Held D N (run (take n (σ ++ s ∷ ρ)) m) t
  cut_before n h = rw (take-append-le n σ (s ∷ ρ) h) (S.before (take n σ) (part_take n σ))

  pub cut_since : (n : ℕ) → length σ < n → Held D N (run (take n (σ ++ s ∷ ρ)) m) S.after
  cut_since n h =
      let j : ℕ = n - suc (length σ) in
      let e : n ≡ length σ + suc j = omega arith in
      rw (e, take-append-add σ (s ∷ ρ) (suc j)) (S.since (take j ρ) (part_take j ρ))
