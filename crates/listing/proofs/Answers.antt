-- What a listing answers for every run of words there is, and that the numbers of an answer tell its case.
-- Assumes nothing.
use Rattle.std.specs.Prelude.{None, Option, Some, Result, Ok, Err}
use mathlib.Core.Path.{◌≡◌, refl, sym, ap, ◌∙◌}
use mathlib.Core.Bool.{Bool, true, false}
use mathlib.Core.Logic.{◌⊎◌, inl, inr}
use mathlib.Core.List.{List}
use Prim.Native.Nat.{ℕ}
use borrow.Author.Tests.{eqb-true, eqb-false}
use lib.Dec.{eqb}
use lib.ListN.{length, replicate}
use Rattle.digits.specs.Choice.{pick}
use Rattle.refusals.specs.declared.Refusal.{Refusal}
use Rattle.refusals.specs.Refusals.{answer_at}
use Rattle.refusals.proofs.Numbers.{answer_told}
use Rattle.pool.specs.Sizes.{capacity_of}
use Rattle.pool.specs.Places.{word_at}
use Rattle.listing.specs.declared.Listed.{Listed}
use Rattle.listing.specs.Listings.{Visit, state, visit, visit_from, Told, numbers, Shown, shown, listed, judged, list_in, list_of}
use Rattle.digits.proofs.Choice.{pick_case}
use Rattle.listing.proofs.Bounds.{Bounded, bounded_start, visit_bounded}

-- the visit that a listing makes
abbrev pub whole_of : List ℕ → ℕ → ℕ → List ℕ → List ℕ → Visit
whole_of pool n from ks vs = visit_from 17 pool n from 0 (word_at pool 1) (visit ks vs (state 0 0 0))

-- "1 | size | everything unchanged"; "6 | listing buffers of length 0 or of unequal length | unchanged"; "2 | damage met | .. both buffers all 0";
-- and else the entries handed out, of which there are no more than the buffers hold; "Entries beyond the count keep their contents."
pub data Lists (pool : List ℕ) (from : ℕ) (ks vs : List ℕ) : Shown → Type 0 where
  size : capacity_of pool ≡ None → Lists pool from ks vs (shown ks vs (listed 1 0 false))
  buffers : {n : ℕ} → capacity_of pool ≡ Some n → (length ks ≡ 0) ⊎ (length ks ≡ length vs → ⊥)
      → Lists pool from ks vs (shown ks vs (listed 6 0 false))
  damage : {n : ℕ} → capacity_of pool ≡ Some n → (whole_of pool n from ks vs).state.phase ≡ 2
      → Lists pool from ks vs (shown (replicate (length ks) 0) (replicate (length vs) 0) (listed 2 0 false))
  done : {n : ℕ} (v : Visit) → capacity_of pool ≡ Some n → v ≡ whole_of pool n from ks vs → (v.state.phase ≡ 2 → ⊥) → Bounded n ks vs v
      → Lists pool from ks vs (shown v.keys v.values (listed 0 v.state.count (eqb v.state.phase 1)))

module _ (pool : List ℕ) (from : ℕ) (ks vs : List ℕ) where
  judged_lists : {n : ℕ} (v : Visit) → capacity_of pool ≡ Some n → v ≡ whole_of pool n from ks vs → Bounded n ks vs v
      → Lists pool from ks vs (judged v)
  unfolding judged
  judged_lists v c e b =
      pick_case (Lists pool from ks vs) (eqb v.state.phase 2)
      (λ t. rw (b.keys≡, b.values≡) (damage c (rw e at (eqb-true v.state.phase 2 t))))
      (λ t. done v c e (eqb-false v.state.phase 2 t) b)

  pub list_answers_lem : Lists pool from ks vs (list_of pool from ks vs)
  unfolding list_of
  list_answers_lem = go (capacity_of pool) refl
    where
      go : (r : Option ℕ) → capacity_of pool ≡ r → Lists pool from ks vs (list_in pool from ks vs r)
      go (Some n) c =
          pick_case (Lists pool from ks vs) (eqb (length ks) 0) (λ t. buffers c (inl (eqb-true (length ks) 0 t)))
          (λ t.
          pick_case (Lists pool from ks vs) (eqb (length ks) (length vs))
          (λ u. judged_lists (whole_of pool n from ks vs) c refl (visit_bounded n ks vs pool from 17 0 (word_at pool 1) _ (bounded_start n ks vs)))
          (λ u. buffers c (inr (eqb-false (length ks) (length vs) u))))
      go None c = size c

-- the answer that a listing's numbers tell
abbrev untold : Told → Result Listed Refusal
untold t = answer_at t.number (record { count = t.count; more = eqb t.more 1 })

untold_numbers : (a : Result Listed Refusal) → untold (numbers a) ≡ a
untold_numbers (Ok a) = ap (λ (m : Bool). Ok (record { count = a.count; more = m })) (back a.more)
  where
    back : (m : Bool) → eqb (pick m 1 0) 1 ≡ m
    back true = refl
    back false = refl
untold_numbers (Err r) = answer_told (Err r) (record { count = 0; more = false })

pub numbers_injective : (a b : Result Listed Refusal) → numbers a ≡ numbers b → a ≡ b
numbers_injective a b e = sym (untold_numbers a) ∙ ap untold e ∙ untold_numbers b
