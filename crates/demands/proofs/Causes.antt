-- Every call has its causes, one for each number that it gives back: for every pool, map, plan and key.
-- Assumes nothing.
use Rattle.std.specs.Prelude.{None, Option, Some}
use mathlib.Core.Path.{◌≡◌, refl, sym, subst}
use mathlib.Core.Bool.{true, false}
use mathlib.Core.List.{List}
use Prim.Native.Nat.{ℕ, ◌≤◌, ◌<◌}
use native.Mathlib.Omega.{arith}
use borrow.Author.Tests.{ltb-true, ltb-false, leb-true, leb-false, eqb-true, eqb-false}
use lib.Dec.{eqb, leb, ltb}
use lib.ListN.{length, get_or, replicate}
use Rattle.digits.specs.Choice.{pick}
use Rattle.digits.proofs.Choice.{pick_case}
use Rattle.pool.proofs.Sizes.{size_fits}
use Rattle.pool.specs.Sizes.{size_of, bytes_of, Sized}
use Rattle.tree.proofs.Basics.{true_not_false}
use Rattle.walk.specs.Walks.{walk_of}
use Rattle.plan.specs.Plans.{After as Stored, Decided, decided, store_of, step_of, refused}
use Rattle.plan.specs.declared.Effect.{Effect}
use Rattle.plan.specs.declared.Effect.TheVariants.{Nothing, TakesLeaf, TakesBoth, FreesLeaf, FreesBoth}
use Rattle.finishing.specs.Finishes.{stores_of, finish_of}
use Rattle.plan.specs.declared.Plan.{Plan}
use Rattle.finding.specs.Lookups.{Answer, answer, found_in, lookup_of, quick_in, quick_of}
use Rattle.listing.specs.Listings.{Shown, shown, listed, list_in, list_of}
use Rattle.rules.specs.Puts.{put_at, put_file, put_in, put_plan}
use Rattle.rules.specs.Deletes.{delete_in, delete_plan}
use Rattle.writing.specs.Calls.{mapped_of, Formatted, format_in, format_of}
use Rattle.writing.proofs.Wholes.{size_same, put_whole_number, delete_mapped, delete_whole_number}
use Rattle.survey.specs.Soundness.{Sound}
use Rattle.survey.specs.Surveys.{survey_of}
use Rattle.survey.proofs.SoundTree.{sound_held}
use Rattle.survey.proofs.SoundHeld.{held_is_sound, sound_holds, sound_capacity}
use Rattle.survey.proofs.HeldSurvey.{held_sound}
use Rattle.opening.specs.Openings.{mend_first, open_in, open_plan, opened, Left, left, restored, left_judged, left_in, open_of}
use Rattle.opening.proofs.Answers.{plan_modest}
use Rattle.demands.specs.Ways.{Lookup, Quick, Delete, Put, Listing}
use Rattle.demands.specs.Causes.{Exactly, Asks, so, not_so, Fits, FitsMap, After, Retires, Named, Causes}
use Rattle.demands.proofs.Ways.{sized_holds, fits_holds}
use Rattle.demands.proofs.Exactly.{wrong_holds, exactly, after_pool, after_map, asked, retires, generations}
use Rattle.demands.proofs.LookupCauses.{lookup_is, lookup_some}
use Rattle.demands.proofs.QuickCauses.{quick_is, quick_some}
use Rattle.demands.proofs.DeleteCauses.{delete_is, delete_some}
use Rattle.demands.proofs.PutCauses.{put_is, put_some}
use Rattle.demands.proofs.ListCauses.{list_is, list_some}

-- ---- the calls that judge sizes first
abbrev number : Decided → ℕ
number d = d.number

module _ (pool : List ℕ) where
  lookup_causes : (k : ℕ) → Exactly (lookup_of pool k) (After (answer 1 0 0) (Fits pool) (λ n. Lookup pool n k))
  unfolding lookup_of
  lookup_causes k =
      after_pool (λ (a : Answer). a) (answer 1 0 0) (λ n. Lookup pool n k) pool (found_in pool k) refl
      (λ n z. exactly (Lookup pool n k) (lookup_some pool n k) (lookup_is pool n k))

  quick_causes : (k : ℕ) → Exactly (quick_of pool k) (After (answer 1 0 0) (Fits pool) (λ n. Quick pool n k))
  unfolding quick_of
  quick_causes k =
      after_pool (λ (a : Answer). a) (answer 1 0 0) (λ n. Quick pool n k) pool (quick_in pool k) refl
      (λ n z. exactly (Quick pool n k) (quick_some pool n k) (quick_is pool n k))

  list_causes : (from : ℕ) (ks vs : List ℕ)
      → Exactly (list_of pool from ks vs).answer (After (listed 1 0 false) (Fits pool) (λ n. Listing pool n from (length ks) (length vs)))
  unfolding list_of
  list_causes from ks vs =
      after_pool (λ (s : Shown). s.answer) (shown ks vs (listed 1 0 false)) (λ n. Listing pool n from (length ks) (length vs)) pool
      (list_in pool from ks vs) refl
      (λ n z. exactly (Listing pool n from (length ks) (length vs)) (list_some pool n from ks vs) (list_is pool n from ks vs))

  -- ---- put and delete
  plan_put_causes : (bytes : List ℕ) (k v : ℕ)
      → Exactly (put_plan pool bytes k v).number (After 1 (FitsMap pool bytes) (λ n. Retires v (Put pool n bytes k)))
  unfolding put_plan
  plan_put_causes bytes k v =
      after_map number (refused 1) (λ n. Retires v (Put pool n bytes k)) pool (put_in pool bytes k v) refl bytes (λ n. put_file pool bytes n k v) (λ n. refl)
      (λ n z. retires (put_at pool bytes n k v (walk_of pool n k)) v (Put pool n bytes k) (exactly (Put pool n bytes k) (put_some pool n bytes k v) (put_is pool n bytes k v)))

  plan_delete_causes : (k : ℕ) → Exactly (delete_plan pool k).number (After 1 (Fits pool) (λ n. Delete pool n k))
  unfolding delete_plan
  plan_delete_causes k =
      after_pool number (refused 1) (λ n. Delete pool n k) pool (delete_in pool k) refl
      (λ n z. exactly (Delete pool n k) (delete_some pool n k) (delete_is pool n k))

  delete_causes : (bytes : List ℕ) (k : ℕ) → Exactly (delete_mapped pool bytes k).number (After 1 (FitsMap pool bytes) (λ n. Delete pool n k))
  unfolding delete_plan
  delete_causes bytes k =
      after_map number (refused 1) (λ n. Delete pool n k) pool (λ s. mapped_of bytes s (delete_plan pool k)) refl bytes (λ n. delete_plan pool k) (λ n. refl)
      (λ n z. rw (fits_holds z) (exactly (Delete pool n k) (delete_some pool n k) (delete_is pool n k)))

  -- ---- open
  -- a call that answers 0 where the survey finds the pool sound, else 2
  sound_exactly : {A : Type 0} (read : A → ℕ) (n : ℕ) → Fits pool n → (a b : A) → read a ≡ 0 → read b ≡ 2
      → Exactly (read (pick (survey_of pool n).census.sound a b)) (Asks (Sound pool) 2)
  sound_exactly {A} read n z a b p q =
      asked
      (pick_case (λ (x : A). Asks (Sound pool) 2 (read x)) (survey_of pool n).census.sound
      (λ e. let (t, H) = sound_held pool n e in rw p (so (held_is_sound pool n t (fits_holds z) H)))
      (λ e. rw q (not_so (λ s. true_not_false (found s) e))))
    where
      found : Sound pool → (survey_of pool n).census.sound ≡ true
      found s =
          let (t, H) = sound_holds pool s in
          subst (λ (m : ℕ). (survey_of pool m).census.sound ≡ true) (sound_capacity pool n s (fits_holds z)) (held_sound pool s.n t H).0

  plan_open_causes : Exactly (open_plan pool).number (After 1 (Fits pool) (λ n. Asks (Sound pool) 2))
  unfolding open_plan
  plan_open_causes =
      after_pool number (refused 1) (λ n. Asks (Sound pool) 2) pool (open_in pool) refl
      (λ n z. sound_exactly number n z (decided (mend_first pool n (survey_of pool n).marks) Nothing) (refused 2) refl refl)

  open_causes : (bytes : List ℕ) → Exactly (open_of pool bytes).answer.number (After 1 (FitsMap pool bytes) (λ n. Asks (Sound pool) 2))
  unfolding open_of
  open_causes bytes =
      let read : Left → ℕ = λ l. l.answer.number in
      after_map read (left (opened 1 0 0) pool bytes) (λ n. Asks (Sound pool) 2) pool (left_in pool bytes) refl bytes
      (λ n. left_judged pool bytes n (survey_of pool n)) (λ n. refl)
      (λ n z. sound_exactly read n z (restored n (survey_of pool n).marks pool) (left (opened 2 0 0) pool (replicate (length bytes) 0)) refl refl)

-- ---- format, step and finish
format_asked : (pool bytes : List ℕ) (n : ℕ) → Asks (Sized pool n × (length bytes ≡ bytes_of n)) 1 (format_of pool bytes n).number
unfolding format_of
format_asked pool bytes n = go (size_of (length pool) n) refl
  where
    go : (s : Option ℕ) → size_of (length pool) n ≡ s → Asks (Sized pool n × (length bytes ≡ bytes_of n)) 1 (format_in pool bytes s).number
    go (Some m) e =
        let q : m ≡ n = size_same (length pool) n m (sym e) in
        let z : Sized pool n = rw (e, q) at (size_fits pool n) in
        rw q
        (pick_case (λ (f : Formatted). Asks (Sized pool n × (length bytes ≡ bytes_of n)) 1 f.number) (eqb (length bytes) (bytes_of n))
        (λ t. so (z, eqb-true (length bytes) (bytes_of n) t)) (λ t. not_so (λ h. eqb-false (length bytes) (bytes_of n) t h.1)))
    go None e = not_so (λ h. wrong_holds e (sized_holds h.0))

-- a store, or two, or 5
module _ {P : Type 0} (l : List ℕ) (i : ℕ) where
  store_asked : (v : ℕ) → (i < length l → P) → (P → i < length l) → Asks P 5 (store_of i v l).number
  store_asked v f g =
      pick_case (λ (a : Stored). Asks P 5 a.number) (ltb i (length l)) (λ e. so (f (ltb-true i (length l) e)))
      (λ e. not_so (λ p. omega (arith, g p, ltb-false i (length l) e)))

  stores_asked : (j v : ℕ) → (i < length l → j < length l → P) → (P → (i < length l) × (j < length l)) → Asks P 5 (stores_of i j v l).number
  stores_asked j v f g =
      pick_case (λ (a : Stored). Asks P 5 a.number) (ltb i (length l))
      (λ e.
      pick_case (λ (a : Stored). Asks P 5 a.number) (ltb j (length l)) (λ q. so (f (ltb-true i (length l) e) (ltb-true j (length l) q)))
      (λ q. not_so (λ p. omega (arith, (g p).1, ltb-false j (length l) q))))
      (λ e. not_so (λ p. omega (arith, (g p).0, ltb-false i (length l) e)))

step_asked : (p : Plan) (s : ℕ) (pool : List ℕ)
    → Asks ((p.count ≤ 21) × (s < p.count) × (get_or p.words s 0 < length pool)) 5 (step_of p s pool).number
unfolding step_of
step_asked p s pool =
    let M : Stored → Type 0 = λ a. Asks ((p.count ≤ 21) × (s < p.count) × (get_or p.words s 0 < length pool)) 5 a.number in
    pick_case M (ltb 21 p.count) (λ e. not_so (λ h. omega (arith, h.0, ltb-true 21 p.count e)))
    (λ e.
    pick_case M (leb p.count s) (λ q. not_so (λ h. omega (arith, h.1, leb-true p.count s q)))
    (λ q. store_asked pool (get_or p.words s 0) (get_or p.values s 0) (λ w. (ltb-false 21 p.count e, leb-false p.count s q, w)) (λ h. h.2)))

finish_asked : (e : Effect) (bytes : List ℕ) → Asks (Named e (length bytes)) 5 (finish_of e bytes).number
finish_asked Nothing bytes = so tt
finish_asked (TakesLeaf a) bytes = store_asked bytes a 1 (λ h. h) (λ h. h)
finish_asked (TakesBoth a b) bytes = stores_asked bytes a b 1 (λ h k. (h, k)) (λ h. h)
finish_asked (FreesLeaf a) bytes = store_asked bytes a 0 (λ h. h) (λ h. h)
finish_asked (FreesBoth a b) bytes = stores_asked bytes a b 0 (λ h k. (h, k)) (λ h. h)

pub causes : Causes
causes = record {
  lookup = lookup_causes;
  quick = quick_causes;
  list = list_causes;
  plan_put = λ pool bytes k v g. generations g (put_plan pool bytes k v) _ (plan_put_causes pool bytes k v);
  put = λ pool bytes k v. rw (put_whole_number pool bytes k v) (plan_put_causes pool bytes k v);
  plan_delete = λ pool k g. generations g (delete_plan pool k) _ (plan_delete_causes pool k);
  delete = λ pool bytes k. rw (delete_whole_number pool bytes k) (delete_causes pool bytes k);
  plan_open = λ pool g. generations g (open_plan pool) _ (plan_open_causes pool);
  opening = open_causes;
  one_store = λ pool. (plan_modest pool).one;
  format = λ pool bytes n. asked (format_asked pool bytes n);
  step = λ p s pool. asked (step_asked p s pool);
  finish = λ e bytes. asked (finish_asked e bytes);
}
