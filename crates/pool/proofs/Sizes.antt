-- Laws of sizes: a run that has a capacity fits it, and a run of no words has none.
-- Assumes nothing.
use Rattle.std.specs.Prelude.{None, Some}
use mathlib.Core.Path.{◌≡◌, refl}
use mathlib.Core.Bool.{Bool, true, false}
use mathlib.Core.List.{List}
use Prim.Native.Nat.{ℕ, ◌-◌, ◌*◌, ◌≤◌}
use native.Mathlib.Omega.{arith}
use borrow.Author.Tests.{ltb-false, eqb-true, lt-ltb}
use lib.Dec.{eqb, ltb}
use lib.ListN.{length, get_or, get_or-eq_default}
use Rattle.digits.specs.Choice.{pick}
use Rattle.pool.specs.Sizes.{size_of, capacity_of, Measured}

-- what a size says is true of the run
pub size_fits : (pool : List ℕ) (n : ℕ) → Measured pool (size_of (length pool) n)
unfolding size_of
size_fits pool n = go (ltb n 1) refl (ltb 1024 n) refl (eqb (length pool) (19 * n - 15)) refl
  where
    go : (a : Bool) → ltb n 1 ≡ a → (b : Bool) → ltb 1024 n ≡ b → (c : Bool) → eqb (length pool) (19 * n - 15) ≡ c
        → Measured pool (pick a None (pick b None (pick c (Some n) None)))
    go true ea b eb c ec = tt
    go false ea true eb c ec = tt
    go false ea false eb true ec =
        let l : 1 ≤ n = ltb-false n 1 ea in
        let h : n ≤ 1024 = ltb-false 1024 n eb in
        let e : length pool ≡ 19 * n - 15 = eqb-true (length pool) (19 * n - 15) ec in
        record { some = l; most = h; words = omega arith }
    go false ea false eb false ec = tt

pub none_wrong : (pool : List ℕ) → length pool ≡ 0 → capacity_of pool ≡ None
unfolding capacity_of size_of
none_wrong pool e =
    let z : get_or pool 0 0 ≡ 0 = get_or-eq_default pool 0 (omega arith) in
    rw (lt-ltb (get_or pool 0 0) 1 (omega arith))
