-- Room: where the map marks just the slots of the tree, the lowest free bytes are slots that the tree does not reach, and there are such while fewer
-- than N keys are held. Rests on the counts of a held tree. Assumes nothing.
use mathlib.Core.Path.{◌≡◌, refl}
use mathlib.Core.Bool.{Bool, true, false}
use mathlib.Core.Logic.{◌⊎◌, inl, inr}
use mathlib.Core.List.{List}
use Prim.Native.Nat.{ℕ, zero, suc, ◌+◌, ◌-◌, ◌≤◌, ◌<◌}
use native.Mathlib.Omega.{arith}
use borrow.Author.Tests.{eq-eqb, eqb-true}
use lib.Dec.{eqb}
use lib.ListN.{get_or}
use Rattle.digits.specs.Loops.{scan}
use Rattle.pool.specs.Sizes.{bytes_of}
use Rattle.tree.specs.Tree.{Tree, mult, leaves, Filled}
use Rattle.tree.proofs.Basics.{less?}
use Rattle.tree.proofs.Near.{scan_finds}
use Rattle.layout.specs.Layout.{Held}
use Rattle.layout.proofs.Room.{leaves_fit, free_leaf_lem, free_node_lem, no_leaf_free}
use Rattle.walk.proofs.Loops.{scan_true}
use Rattle.held.specs.Ways.{mem}
use Rattle.held.specs.Maps.{Marked}
use Rattle.rules.specs.Puts.{free_from, free_leaf, free_node}

-- the lowest free byte of a part of the map
scan_from : (n i : ℕ) (test : ℕ → Bool) → i ≤ scan n i test
unfolding scan
scan_from zero i test = omega arith
scan_from (suc n) i test = go (scan_from n (i + 1) test) (test i) refl
  where
    go : i + 1 ≤ scan n (i + 1) test → (t : Bool) → test i ≡ t → i ≤ scan (suc n) i test
    go h true e = rw (e, scan) (omega arith)
    go h false e = rw (e, scan) (omega arith)

module _ (bytes : List ℕ) (from to : ℕ) (le : from ≤ to) where
  pub free_low : from ≤ free_from bytes from to
  free_low = scan_from (to - from) from (λ i. eqb (get_or bytes i 0) 0)

  pub free_zero : free_from bytes from to < to → get_or bytes (free_from bytes from to) 0 ≡ 0
  free_zero h = eqb-true (get_or bytes (free_from bytes from to) 0) 0 (scan_true (λ i. eqb (get_or bytes i 0) 0) (to - from) from (omega arith))

  pub free_there : (x : ℕ) → from ≤ x → x < to → get_or bytes x 0 ≡ 0 → free_from bytes from to < to
  free_there x a b e =
      let r = scan_finds (to - from) from (λ i. eqb (get_or bytes i 0) 0) x a (omega arith) (eq-eqb (get_or bytes x 0) 0 e) in
      omega (arith, r.0)

module _ (pool bytes : List ℕ) (n : ℕ) (t : Tree ℕ) (some : 1 ≤ n) (H : Held 16 n (mem pool) t) (M : Marked n bytes t) where
  pub leaf_free : free_leaf bytes n < n → mult (free_leaf bytes n) t ≡ 0
  leaf_free h = M.free (free_leaf bytes n) (omega arith) (free_zero bytes 0 n (omega arith) h)

  pub node_free : free_node bytes n < bytes_of n → (n ≤ free_node bytes n) × (mult (free_node bytes n) t ≡ 0)
  node_free h = (free_low bytes n (bytes_of n) (omega arith), M.free (free_node bytes n) h (free_zero bytes n (bytes_of n) (omega arith) h))

  -- while fewer than N keys are held there is a free leaf
  pub leaf_room : leaves t < n → free_leaf bytes n < n
  leaf_room h =
      let (z, l, e) = free_leaf_lem 16 n (mem pool) t H h in
      free_there bytes 0 n (omega arith) z (omega arith) l (M.taken z (omega arith) e)

  -- and a free node besides
  pub node_room : leaves t < n → Filled t → free_node bytes n < bytes_of n
  node_room h f =
      let (j, l, e) = free_node_lem 16 n (mem pool) t H f h in
      free_there bytes n (bytes_of n) (omega arith) (n + j) (omega arith) (omega arith) (M.taken (n + j) (omega arith) e)

  -- a free leaf is room for one more key
  pub leaf_fewer : free_leaf bytes n < n → leaves t < n
  leaf_fewer h = go (less? (leaves t) n)
    where
      go : (leaves t < n) ⊎ (n ≤ leaves t) → leaves t < n
      go (inl l) = l
      go (inr l) = omega (arith, leaf_free h, no_leaf_free 16 n (mem pool) t H (omega (arith, leaves_fit 16 n (mem pool) t H)) (free_leaf bytes n) h)

  -- where there is none, all N places are held
  pub all_held : n ≤ free_leaf bytes n → leaves t ≡ n
  all_held h = go (less? (leaves t) n)
    where
      go : (leaves t < n) ⊎ (n ≤ leaves t) → leaves t ≡ n
      go (inl l) = omega (arith, leaf_room l)
      go (inr l) = omega (arith, leaves_fit 16 n (mem pool) t H)
