-- A lookup's answer and its cause, in a pool of n leaves.
-- Assumes nothing.
use mathlib.Core.Path.{◌≡◌}
use mathlib.Core.List.{List}
use Prim.Native.Nat.{ℕ}
use native.Mathlib.Omega.{arith}
use borrow.Author.Tests.{eq-eqb, ne_eqb}
use Rattle.pool.specs.Places.{key_at}
use Rattle.pool.specs.declared.Ref.TheVariants.{Empty, Leaf}
use Rattle.tree.proofs.Basics.{Same?, same, other, same?}
use Rattle.walk.specs.Walks.{walk_of}
use Rattle.finding.specs.Lookups.{Answer, found_at}
use Rattle.survey.specs.Soundness.{at}
use Rattle.demands.specs.Ways.{Way, Lookup}
use Rattle.demands.proofs.Ways.{spot_is, comes_to, comes_to_damage, First, first_empty, first_leaf, first_broken, first_node, first}

module _ (pool : List ℕ) (n key : ℕ) where
  -- every cause leads to its answer
  pub lookup_is : (a : Answer) → Lookup pool n key a → found_at pool key (walk_of pool n key) ≡ a
  lookup_is a (Lookup.damage W b) = rw (comes_to_damage pool n W b)
  lookup_is a (Lookup.empty W e) = rw (comes_to pool n W Empty e tt, (spot_is pool n W).2)
  lookup_is a (Lookup.other {l = l} W e h) = rw (comes_to pool n W (Leaf l) e tt, ne_eqb (key_at pool l) key h, (spot_is pool n W).2)
  lookup_is a (Lookup.found {l = l} W e h) = rw (comes_to pool n W (Leaf l) e tt, eq-eqb (key_at pool l) key h, (spot_is pool n W).2)

  -- and every lookup has a cause
  pub lookup_some : (a : Answer) × Lookup pool n key a
  lookup_some = go (first pool n key 16)
    where
      judge : {i w m l : ℕ} → Way pool n key i w m → at pool n i ≡ Leaf l → Same? (key_at pool l) key → (a : Answer) × Lookup pool n key a
      judge W e (same h q) = (_, Lookup.found W e h)
      judge W e (other h q) = (_, Lookup.other W e h)

      go : First pool n key 16 → (a : Answer) × Lookup pool n key a
      go (first_empty W h e) = (_, Lookup.empty W e)
      go (first_leaf {l = l} W h e) = judge W e (same? (key_at pool l) key)
      go (first_broken W h b) = (_, Lookup.damage W b)
      go (first_node W h a l) = absurd (omega (arith, a.high, l))
