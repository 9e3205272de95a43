-- What is true in every state that a listing reaches, whatever the pool's words are: no more than N leaves are counted, no more entries handed out than
-- there is room, and entries beyond the count are as they were. Assumes nothing.
use mathlib.Core.Path.{◌≡◌, refl, ◌∙◌}
use mathlib.Core.List.{List}
use Prim.Native.Nat.{ℕ, ◌+◌, ◌≤◌, ◌<◌}
use native.Mathlib.Omega.{arith}
use borrow.Author.Tests.{leb-true, leb-false, le-leb, lt-leb}
use lib.Dec.{leb, ltb}
use lib.ListN.{length, get_or, set, length-set}
use lib.Seq.{get_or-set_other}
use Rattle.listing.specs.Listings.{Visit, state, visit, spoilt, leaf_of, visit_from}
use Rattle.digits.proofs.Choice.{pick_case}
use Rattle.listing.proofs.Visits.{visit_keeps}

-- a state v of a listing in a pool of n leaves that began with the buffers ks and vs
pub record Bounded (n : ℕ) (ks vs : List ℕ) (v : Visit) : Type 0 where
  pub met≤ : v.state.met ≤ n
  pub count≤met : v.state.count ≤ v.state.met
  pub count≤ : v.state.count ≤ length ks
  pub further : v.state.phase ≡ 1 → v.state.count ≡ length ks
  pub keys≡ : length v.keys ≡ length ks
  pub values≡ : length v.values ≡ length vs
  pub beyond : (i : ℕ) → v.state.count ≤ i → (get_or v.keys i 0 ≡ get_or ks i 0) × (get_or v.values i 0 ≡ get_or vs i 0)

module _ (n : ℕ) (ks vs : List ℕ) where
  pub bounded_start : Bounded n ks vs (visit ks vs (state 0 0 0))
  bounded_start =
      record {
        met≤ = omega arith;
        count≤met = omega arith;
        count≤ = omega arith;
        further = λ e. absurd (omega arith);
        keys≡ = refl;
        values≡ = refl;
        beyond = λ i h. (refl, refl);
      }

  bounded_damage : (v : Visit) → Bounded n ks vs v → Bounded n ks vs (spoilt v)
  bounded_damage v b =
      record {
        met≤ = b.met≤;
        count≤met = b.count≤met;
        count≤ = b.count≤;
        further = λ e. absurd (omega arith);
        keys≡ = b.keys≡;
        values≡ = b.values≡;
        beyond = b.beyond;
      }

  module _ (v : Visit) (b : Bounded n ks vs v) (few : v.state.met < n) where
    -- a leaf that is counted and not handed out
    bounded_met : (p : ℕ) → (p ≡ 1 → v.state.count ≡ length ks)
        → Bounded n ks vs (visit v.keys v.values (state v.state.count (v.state.met + 1) p))
    bounded_met p h =
        record {
          met≤ = omega arith;
          count≤met = omega (arith, b.count≤met);
          count≤ = b.count≤;
          further = h;
          keys≡ = b.keys≡;
          values≡ = b.values≡;
          beyond = b.beyond;
        }

    -- one that is handed out
    bounded_handed : (key value : ℕ) → v.state.count < length v.keys
        → Bounded n ks vs (visit (set v.keys v.state.count key) (set v.values v.state.count value)
        (state (v.state.count + 1) (v.state.met + 1) 0))
    bounded_handed key value h =
        record {
          met≤ = omega arith;
          count≤met = omega (arith, b.count≤met);
          count≤ = omega (arith, b.keys≡);
          further = λ e. absurd (omega arith);
          keys≡ = simp length-set b.keys≡;
          values≡ = simp length-set b.values≡;
          beyond = λ i l. (kept v.keys key i l ∙ (b.beyond i (omega arith)).0, kept v.values value i l ∙ (b.beyond i (omega arith)).1);
        }
      where
        kept : (l : List ℕ) (x i : ℕ) → v.state.count + 1 ≤ i → get_or (set l v.state.count x) i 0 ≡ get_or l i 0
        kept l x i g = get_or-set_other l v.state.count i x 0 (λ e. omega (arith, e, g))

  bounded_leaf : (from key value : ℕ) (v : Visit) → Bounded n ks vs v → Bounded n ks vs (leaf_of n from key value v)
  unfolding leaf_of
  bounded_leaf from key value v b =
      pick_case (Bounded n ks vs) (leb n v.state.met) (λ e. bounded_damage v b)
      (λ e.
      let few = leb-false n v.state.met e in
      pick_case (Bounded n ks vs) (ltb key from) (λ f. bounded_met v b few 0 (λ z. absurd (omega arith)))
      (λ f.
      pick_case (Bounded n ks vs) (leb (length v.keys) v.state.count)
      (λ g. bounded_met v b few 1 (λ z. omega (arith, leb-true (length v.keys) v.state.count g, b.count≤, b.keys≡)))
      (λ g. bounded_handed v b few key value (leb-false (length v.keys) v.state.count g))))

  -- in every state that is reached
  pub visit_bounded : (pool : List ℕ) (from f w r : ℕ) (v : Visit) → Bounded n ks vs v → Bounded n ks vs (visit_from f pool n from w r v)
  visit_bounded pool from f w r v b = visit_keeps pool n from (Bounded n ks vs) bounded_damage (bounded_leaf from) f w r v b

-- every leaf met counts one, but the one past N, which ends the visit: so a listing meets N + 1 leaves at most
module _ (n from key value : ℕ) (v : Visit) where
  pub leaf_counts : v.state.met < n → (leaf_of n from key value v).state.met ≡ v.state.met + 1
  unfolding leaf_of
  leaf_counts h =
      rw (lt-leb n v.state.met h)
      (pick_case (λ (u : Visit). u.state.met ≡ v.state.met + 1) (ltb key from) (λ e. refl)
      (λ e. pick_case (λ (u : Visit). u.state.met ≡ v.state.met + 1) (leb (length v.keys) v.state.count) (λ f. refl) (λ f. refl)))

  pub leaf_refused : n ≤ v.state.met → leaf_of n from key value v ≡ spoilt v
  unfolding leaf_of
  leaf_refused h = rw (le-leb n v.state.met h)
