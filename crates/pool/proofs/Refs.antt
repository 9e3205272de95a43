-- The number in a good reference is one of the pool's.
-- Assumes nothing.
use mathlib.Core.Path.{◌≡◌, refl}
use mathlib.Core.Bool.{Bool, true, false}
use Prim.Native.Nat.{ℕ, ◌+◌, ◌-◌}
use borrow.Author.Tests.{ltb-true}
use lib.Dec.{eqb, leb, ltb}
use Rattle.digits.specs.Choice.{pick}
use Rattle.pool.specs.declared.Ref.TheVariants.{Empty, Leaf, Node, Bad}
use Rattle.pool.specs.Refs.{ref_of, Within}

pub within : (n r : ℕ) → Within n (ref_of n r)
unfolding ref_of
within n r = go (eqb r 0) (leb r 1024) (ltb (r - 1) n) refl (leb r 2047) (ltb (r - 1025 + 1) n) refl
  where
    go : (a b c : Bool) → ltb (r - 1) n ≡ c → (d e : Bool) → ltb (r - 1025 + 1) n ≡ e
        → Within n (pick a Empty (pick b (pick c (Leaf (r - 1)) Bad) (pick d (pick e (Node (r - 1025)) Bad) Bad)))
    go true b c ec d e ee = tt
    go false true true ec d e ee = ltb-true (r - 1) n ec
    go false true false ec d e ee = tt
    go false false c ec true true ee = ltb-true (r - 1025 + 1) n ee
    go false false c ec true false ee = tt
    go false false c ec false e ee = tt
