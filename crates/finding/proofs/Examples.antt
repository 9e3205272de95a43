-- Quick lookups beside lookups on small pools, by computation of their definitions alone.
-- Assumes nothing.
use mathlib.Core.Path.{◌≡◌, refl}
use mathlib.Core.List.{List, ◌∷◌, ◌++◌}
use Prim.Native.Nat.{ℕ}
use lib.ListN.{replicate}
use Rattle.digits.specs.Loops.{tally}
use Rattle.digits.specs.Headers.{differs_in}
use Rattle.pool.specs.Sizes.{size_of, capacity_of}
use Rattle.pool.specs.Refs.{ref_of}
use Rattle.walk.specs.Walks.{head_of, walk_from}
use Rattle.finding.specs.Lookups.{answer, lookup_of, quick_of}

-- N = 3, with leaves for three keys. Node 0, the root, branches at digit 13, to the reference r and to the third leaf; node 1 branches at digit 15, to
-- the first two. Node 0's header is h.
abbrev pool_with : ℕ → ℕ → List ℕ
pool_with h r =
    3 ∷ 1025 ∷ 0x123456789abcd0f0 ∷ 11 ∷ 0x123456789abcd0f1 ∷ 12 ∷ 0x123456789abcd1f0 ∷ 13
    ∷ h ∷ r ∷ 3 ∷ (replicate 14 0 ++ 0x0e01f00000000000 ∷ 1 ∷ 2 ∷ replicate 14 0)

abbrev straight : List ℕ
straight = pool_with 0x000d123456789abc 1026

-- node 0's depth is 4: it stores the digits from there on
abbrev stale : List ℕ
stale = pool_with 0x040956789abcd000 1026

-- no sound pools: node 0's last stored digit is wrong; and the reference to node 1 too
abbrev wrong : List ℕ
wrong = pool_with 0x000d123456789abd 1026

abbrev torn : List ℕ
torn = pool_with 0x000d123456789abd 2048

-- N = 2, and a node 0 that branches, by its header h, to the keys 0x5500 and 0x5501
abbrev pair_with : ℕ → List ℕ
pair_with h = 2 ∷ 1025 ∷ 0x5500 ∷ 21 ∷ 0x5501 ∷ 22 ∷ h ∷ 1 ∷ 2 ∷ replicate 14 0

-- a key that is held; a miss at the first node, by its first digit and by its twelfth; "Taking twelve equal stored digits for the whole prefix": the
-- thirteenth is not compared; the second node compares too
pub misses :
    (quick_of straight 0x123456789abcd0f0 ≡ answer 0 11 2)
    × (quick_of straight 0x023456789abcd0f0 ≡ answer 3 0 1) × (lookup_of straight 0x023456789abcd0f0 ≡ answer 3 0 2)
    × (quick_of straight 0x123456789ab0d0f0 ≡ answer 3 0 1) × (lookup_of straight 0x123456789ab0d0f0 ≡ answer 3 0 2)
    × (quick_of straight 0x123456789abc70f0 ≡ answer 3 0 2) × (lookup_of straight 0x123456789abc70f0 ≡ answer 3 0 2)
    × (quick_of straight 0x123456789abcd000 ≡ answer 3 0 2) × (lookup_of straight 0x123456789abcd000 ≡ answer 3 0 2)
unfolding lookup_of quick_of capacity_of size_of walk_from ref_of head_of differs_in tally
misses = (refl, refl, refl, refl, refl, refl, refl, refl, refl)

-- in a stale node the digits before its depth are not compared, and those from there on are
pub gaps :
    (quick_of stale 0x123456789abcd0f0 ≡ answer 0 11 2)
    × (quick_of stale 0x000056789abcd0f0 ≡ answer 3 0 2)
    × (quick_of stale 0x123406789abcd0f0 ≡ answer 3 0 1)
unfolding quick_of capacity_of size_of walk_from ref_of head_of differs_in tally
gaps = (refl, refl, refl)

-- a node of length 0 compares nothing, and of one of length 2 two places are compared, whatever stands in the others
pub unused :
    (quick_of (pair_with 0x0f00ffffffffffff) 0x5500 ≡ answer 0 21 1)
    × (quick_of (pair_with 0x0d0250ffffffffff) 0x5500 ≡ answer 0 21 1)
    × (quick_of (pair_with 0x0d0255ffffffffff) 0x5500 ≡ answer 3 0 1)
unfolding quick_of capacity_of size_of walk_from ref_of head_of differs_in tally
unused = (refl, refl, refl)

-- on a pool that is not sound each follows its own walk: one misses what the other finds, or comes to no damage where the other does
pub apart :
    (lookup_of wrong 0x123456789abcd0f0 ≡ answer 0 11 2) × (quick_of wrong 0x123456789abcd0f0 ≡ answer 3 0 1)
    × (lookup_of torn 0x123456789abcd0f0 ≡ answer 2 0 1) × (quick_of torn 0x123456789abcd0f0 ≡ answer 3 0 1)
unfolding lookup_of quick_of capacity_of size_of walk_from ref_of head_of differs_in tally
apart = (refl, refl, refl, refl)

-- a header is judged before its digits; a size before all
pub refusals :
    (quick_of (pair_with 0x0010ffffffffffff) 0x5500 ≡ answer 2 0 0)
    × (quick_of (1 ∷ replicate 4 0) 0x5500 ≡ answer 1 0 0)
unfolding quick_of capacity_of size_of walk_from ref_of head_of differs_in tally
refusals = (refl, refl)
