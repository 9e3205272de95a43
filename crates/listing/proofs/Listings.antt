-- A listing's answer, by its tests in order.
-- Assumes nothing.
use Rattle.std.specs.Prelude.{None, Some}
use mathlib.Core.Path.{◌≡◌}
use mathlib.Core.Bool.{Bool, false}
use mathlib.Core.List.{List}
use Prim.Native.Nat.{ℕ}
use borrow.Author.Tests.{eq-eqb, ne_eqb}
use lib.Dec.{eqb}
use lib.ListN.{length, replicate}
use Rattle.pool.specs.Sizes.{capacity_of}
use Rattle.pool.specs.Places.{word_at}
use Rattle.listing.specs.Listings.{Visit, state, visit, visit_from, shown, listed, judged, list_of}

-- "Order: 1, 6, 2"
module _ (pool : List ℕ) (from : ℕ) (ks vs : List ℕ) where
  pub list_wrong : capacity_of pool ≡ None → shown ks vs (listed 1 0 false) ≡ list_of pool from ks vs
  unfolding list_of
  list_wrong e = rw e

  module _ {n : ℕ} (e : capacity_of pool ≡ Some n) where
    pub list_none : length ks ≡ 0 → shown ks vs (listed 6 0 false) ≡ list_of pool from ks vs
    unfolding list_of
    list_none h = rw (e, eq-eqb (length ks) 0 h)

    module _ (h : length ks ≡ 0 → ⊥) where
      pub list_unequal : (length ks ≡ length vs → ⊥) → shown ks vs (listed 6 0 false) ≡ list_of pool from ks vs
      unfolding list_of
      list_unequal g = rw (e, ne_eqb (length ks) 0 h, ne_eqb (length ks) (length vs) g)

      pub list_judged : length ks ≡ length vs → {v : Visit} → v ≡ visit_from 17 pool n from 0 (word_at pool 1) (visit ks vs (state 0 0 0))
          → judged v ≡ list_of pool from ks vs
      unfolding list_of
      list_judged g f = rw (e, ne_eqb (length ks) 0 h, eq-eqb (length ks) (length vs) g, f)

module _ (v : Visit) where
  pub judged_damage : {ks vs : List ℕ} → v.state.phase ≡ 2 → ks ≡ replicate (length v.keys) 0 → vs ≡ replicate (length v.values) 0
      → shown ks vs (listed 2 0 false) ≡ judged v
  unfolding judged
  judged_damage h a b = rw (eq-eqb v.state.phase 2 h, a, b)

  pub judged_done : {ks vs : List ℕ} {more : Bool} → (v.state.phase ≡ 2 → ⊥) → ks ≡ v.keys → vs ≡ v.values → more ≡ eqb v.state.phase 1
      → shown ks vs (listed 0 v.state.count more) ≡ judged v
  unfolding judged
  judged_done h a b e = rw (ne_eqb v.state.phase 2 h, a, b, e)
