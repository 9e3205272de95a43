-- Demand 1 holds: the table "Numbers given back", row by row, for every pool, map, plan and key. Assumes nothing.
use Rattle.std.specs.Prelude.{None, Option, Some}
use mathlib.Core.Path.{◌≡◌, refl, sym, ap, ◌∙◌, subst}
use mathlib.Core.Bool.{Bool, true, false}
use mathlib.Core.Logic.{◌⊎◌, inl, inr}
use mathlib.Core.List.{List, [], ◌∷◌}
use Prim.Native.Nat.{ℕ, ◌≤◌, ◌<◌}
use native.Mathlib.Omega.{arith}
use types.Run as run
use lib.Dec.{eqb, leb, ltb}
use lib.ListN.{length, get_or, set, length-set, length-replicate}
use Rattle.digits.specs.Choice.{pick}
use Rattle.digits.proofs.Choice.{pick_case}
use Rattle.pool.specs.Sizes.{capacity_of, bytes_of}
use Rattle.tree.proofs.Basics.{Same?, same, other, same?}
use Rattle.tree.proofs.Stores.{Words}
use Rattle.plan.specs.Plans.{all_but_last, the_switch, one_group, adr, fences_of, fenced, After, after, Decided, store_of, step_of, decided, refused, planned_of, decided_for, planned_for, Planned}
use Rattle.finishing.specs.Finishes.{stores_of, finish_of}
use Rattle.plan.specs.declared.Plan.{Plan}
use Rattle.plan.specs.declared.Effect.{Effect}
use Rattle.plan.specs.declared.Effect.TheVariants.{Nothing, TakesLeaf, TakesBoth, FreesLeaf, FreesBoth}
use Rattle.plan.proofs.Laws.{plan_word, plan_unused, words_at}
use Rattle.finding.specs.Lookups.{Answer}
use Rattle.listing.specs.Listings.{Shown}
use Rattle.finding.proofs.Answers.{Looks, lookup_answers, quick_answers}
use Rattle.finding.proofs.Answers as finding
use Rattle.listing.proofs.Answers.{Lists, list_answers_lem}
use Rattle.listing.proofs.Answers as listing
use Rattle.rules.specs.Puts.{put_plan}
use Rattle.rules.specs.Deletes.{delete_plan}
use Rattle.writing.specs.Calls.{Left, left, done, Formatted, mapped_of, format_of}
use Rattle.rules.proofs.Fits.{put_number, put_refusal, put_few, put_inside, delete_number, delete_refusal, delete_few, delete_inside}
use Rattle.writing.proofs.Wholes.{put_whole_number, put_refused, put_lengths, delete_mapped, delete_whole_number, delete_refused, delete_lengths, Formats, format_formats}
use Rattle.survey.specs.Surveys.{survey_of}
use Rattle.opening.specs.Openings.{mend_first, open_in, open_plan, open_of}
use Rattle.opening.specs.Openings as opening
use Rattle.opening.proofs.Answers.{plan_modest, open_number, open_size, open_damage, open_length, open_map_length}
use Rattle.handing.specs.Plans.{plan_in}
use Rattle.demands.proofs.ByPlan.{judged}
use Rattle.demands.specs.Demand1.{OneOf, LookupSays, ListSays, Plans, Whole, OpenSays, Stays, Demand1}

-- ---- numbers of a list
one_of : (l : List ℕ) (x : ℕ) → run.OneOf l x → OneOf l x
unfolding OneOf
one_of [] x h = h
one_of (k ∷ []) x h = inl h
one_of (k ∷ k' ∷ l) x (inl e) = inl e
one_of (k ∷ k' ∷ l) x (inr h) = inr (one_of (k' ∷ l) x h)

up_to_two : (x : ℕ) → x ≤ 2 → OneOf (0 ∷ 1 ∷ 2 ∷ []) x
unfolding OneOf
up_to_two x h = go (same? x 0) (same? x 1)
  where
    go : Same? x 0 → Same? x 1 → OneOf (0 ∷ 1 ∷ 2 ∷ []) x
    go (same e q) s = inl e
    go (other e q) (same e' q') = inr (inl e')
    go (other e q) (other e' q') = inr (inr (inl (omega arith)))

-- ---- step and finish: 0, or 5 and all as it was
module _ (l : List ℕ) where
  done_stays : {l' : List ℕ} → length l' ≡ length l → Stays l (after 0 l')
  unfolding OneOf
  done_stays e = record { number = inl refl; refusal = λ z. absurd (omega arith); same_length = e }

  refused_stays : Stays l (after 5 l)
  unfolding OneOf
  refused_stays = record { number = inr (inl refl); refusal = λ z. refl; same_length = refl }

  pick_stays : (b : Bool) {x y : After} → Stays l x → Stays l y → Stays l (pick b x y)
  pick_stays true p q = p
  pick_stays false p q = q

  store_stays : (i v : ℕ) → Stays l (store_of i v l)
  store_stays i v = pick_stays (ltb i (length l)) (done_stays (length-set l i v)) refused_stays

  step_stays : (p : Plan) (at : ℕ) → Stays l (step_of p at l)
  unfolding step_of
  step_stays p at =
      pick_stays (ltb 21 p.count) refused_stays
      (pick_stays (leb p.count at) refused_stays (store_stays (get_or p.words at 0) (get_or p.values at 0)))

  stores_stays : (i j v : ℕ) → Stays l (stores_of i j v l)
  stores_stays i j v =
      pick_stays (ltb i (length l)) (pick_stays (ltb j (length l)) (done_stays (length-set (set l i v) j v ∙ length-set l i v)) refused_stays) refused_stays

  finish_stays : (e : Effect) → Stays l (finish_of e l)
  finish_stays Nothing = done_stays refl
  finish_stays (TakesLeaf a) = store_stays a 1
  finish_stays (TakesBoth a b) = stores_stays a b 1
  finish_stays (FreesLeaf a) = store_stays a 0
  finish_stays (FreesBoth a b) = stores_stays a b 0

-- ---- planning calls
-- a plan of what is decided, for a generation
module _ (group : ℕ → ℕ) (empty : group 0 ≡ 0) (g : ℕ) (numbers pool : List ℕ) (one : OneOf numbers 1) (d : Decided) where
  -- no store, no fence
  unfenced : (first : ℕ) → fences_of g first 0 ≡ 0
  unfenced first = pick_case (λ (n : ℕ). n ≡ 0) (eqb g adr) (λ e. refl) (λ e. refl)

  plans : length d.stores ≤ 21 → Words (λ w. w < length pool) d.stores → OneOf numbers d.number
      → ((d.number ≡ 0 → ⊥) → d ≡ refused d.number) → {p : Planned} → p ≡ planned_for g group d → Plans numbers pool p
  unfolding Words
  plans few inside o f e =
      let d' = decided_for g d in
      let few' = judged g d (λ x. length x.stores ≤ 21) few (omega arith) in
      let inside' = judged g d (λ x. Words (λ w. w < length pool) x.stores) inside tt in
      rw e (record {
        number = judged g d (λ x. OneOf numbers x.number) o one;
        refusal = λ z.
            ap (λ (x : Decided). (fenced g (planned_of group x)).plan) (judged g d (λ x. (x.number ≡ 0 → ⊥) → x ≡ refused x.number) f (λ h. refl) z)
            ∙ rw (unfenced (group 0), empty);
        most = few';
        inside = λ i h. rw (plan_word group d'.stores d'.effect few' i) (words_at (λ w. w < length pool) d'.stores i h inside');
        unused = plan_unused group d'.stores d'.effect few';
      })

open_plan_refused : (pool : List ℕ) → ((open_plan pool).number ≡ 0 → ⊥) → open_plan pool ≡ refused (open_plan pool).number
unfolding open_plan
open_plan_refused pool = go (capacity_of pool)
  where
    go : (s : Option ℕ) → ((open_in pool s).number ≡ 0 → ⊥) → open_in pool s ≡ refused (open_in pool s).number
    go (Some n) = judge (survey_of pool n).census.sound
      where
        judge : (b : Bool) → let d : Decided = pick b (decided (mend_first pool n (survey_of pool n).marks) Nothing) (refused 2) in
            (d.number ≡ 0 → ⊥) → d ≡ refused d.number
        judge true h = absurd (h refl)
        judge false h = refl
    go None = λ h. refl

-- ---- whole calls
left_kept : {x : Left} {k : ℕ} {pool map : List ℕ} → x ≡ left (done k 0) pool map → (x.done.stores ≡ 0) × (x.pool ≡ pool) × (x.map ≡ map)
left_kept e = (ap (λ (x : Left). x.done.stores) e, ap (λ (x : Left). x.pool) e, ap (λ (x : Left). x.map) e)

format_whole : (pool map : List ℕ) (n : ℕ) {f : Formatted} → f ≡ format_of pool map n
    → Whole (0 ∷ 1 ∷ []) pool map (left (done f.number 0) f.pool f.map)
format_whole pool map n e = rw e (record {
  number = one_of (0 ∷ 1 ∷ []) (format_of pool map n).number F.number;
  refusal = λ z. unchanged F.number z;
  same_words = F.words;
  same_bytes = F.bytes;
})
  where
    F : Formats pool map n (format_of pool map n)
    F = format_formats pool map n

    unchanged : run.OneOf (0 ∷ 1 ∷ []) (format_of pool map n).number → ((format_of pool map n).number ≡ 0 → ⊥)
        → (◌≡◌ {A = ℕ} 0 0) × ((format_of pool map n).pool ≡ pool) × ((format_of pool map n).map ≡ map)
    unchanged (inl e) z = absurd (z e)
    unchanged (inr e) z = (refl, ap (λ (f : Formatted). f.pool) (F.unchanged e), ap (λ (f : Formatted). f.map) (F.unchanged e))

-- delete is lent the map too
mapped_number : (pool map : List ℕ) (k : ℕ) → OneOf (0 ∷ 1 ∷ 2 ∷ 3 ∷ []) (delete_mapped pool map k).number
unfolding OneOf
mapped_number pool map k = go (capacity_of pool)
  where
    go : (s : Option ℕ) → OneOf (0 ∷ 1 ∷ 2 ∷ 3 ∷ []) (mapped_of map s (delete_plan pool k)).number
    go (Some n) = judge (eqb (length map) (bytes_of n))
      where
        judge : (b : Bool) → OneOf (0 ∷ 1 ∷ 2 ∷ 3 ∷ []) (pick b (delete_plan pool k) (refused 1)).number
        judge true = one_of (0 ∷ 1 ∷ 2 ∷ 3 ∷ []) (delete_plan pool k).number (delete_number pool k)
        judge false = inr (inl refl)
    go None = inr (inl refl)

-- ---- lookup and listing
looked : {a : Answer} → Looks a → LookupSays a
unfolding OneOf
looked (finding.done h) = record { number = inl refl; refusal = λ z. absurd (z refl); nodes = h }
looked (finding.absent h) = record { number = inr (inr (inr (inl refl))); refusal = λ z. refl; nodes = h }
looked (finding.damage h) = record { number = inr (inr (inl refl)); refusal = λ z. refl; nodes = h }
looked finding.size = record { number = inr (inl refl); refusal = λ z. refl; nodes = omega arith }

neither : {n : ℕ} {A : Type 0} → (n ≡ 1 → ⊥) → (n ≡ 6 → ⊥) → (n ≡ 1) ⊎ (n ≡ 6) → A
neither p q (inl e) = absurd (p e)
neither p q (inr e) = absurd (q e)

shows : (pool : List ℕ) (from : ℕ) (ks vs : List ℕ) {s : Shown} → Lists pool from ks vs s → ListSays ks vs s
unfolding OneOf
shows pool from ks vs (listing.size c) = record {
  number = inr (inl refl);
  refusal = λ z. (refl, refl);
  kept = λ z. (refl, refl);
  cleared = λ z. absurd (omega arith);
  lengths = (refl, refl);
  beyond = λ z. absurd (omega arith);
}
shows pool from ks vs (listing.buffers c h) = record {
  number = inr (inr (inr (inl refl)));
  refusal = λ z. (refl, refl);
  kept = λ z. (refl, refl);
  cleared = λ z. absurd (omega arith);
  lengths = (refl, refl);
  beyond = λ z. absurd (omega arith);
}
shows pool from ks vs (listing.damage c h) = record {
  number = inr (inr (inl refl));
  refusal = λ z. (refl, refl);
  kept = neither (λ e. omega arith) (λ e. omega arith);
  cleared = λ z. (refl, refl);
  lengths = (length-replicate {A = ℕ} (length ks) 0, length-replicate {A = ℕ} (length vs) 0);
  beyond = λ z. absurd (omega arith);
}
shows pool from ks vs (listing.done v c e p b) = record {
  number = inl refl;
  refusal = λ z. absurd (z refl);
  kept = neither (λ e. omega arith) (λ e. omega arith);
  cleared = λ z. absurd (omega arith);
  lengths = (b.keys≡, b.values≡);
  beyond = λ z i h. b.beyond i h;
}

-- ---- open
opens : (pool bytes : List ℕ) → OpenSays pool bytes (open_of pool bytes)
opens pool bytes = record {
  number = up_to_two (open_of pool bytes).answer.number (open_number pool bytes);
  refusal = λ h. go h (same? (open_of pool bytes).answer.number 1);
  size = λ e. ap (λ (l : opening.Left). l.map) (open_size pool bytes e);
  damage = λ e. ap (λ (l : opening.Left). l.map) (open_damage pool bytes e);
  same_words = open_length pool bytes;
  same_bytes = open_map_length pool bytes;
}
  where
    go : ((open_of pool bytes).answer.number ≡ 0 → ⊥) → Same? (open_of pool bytes).answer.number 1
        → ((open_of pool bytes).pool ≡ pool) × ((open_of pool bytes).answer.keys ≡ 0) × ((open_of pool bytes).answer.headers ≡ 0)
    go h (same e q) = rw (open_size pool bytes e) (refl, refl, refl)
    go h (other e q) = rw (open_damage pool bytes (omega (arith, open_number pool bytes, e, h))) (refl, refl, refl)

pub demand1 : Demand1
unfolding OneOf
demand1 = record {
  lookup = λ pool k a e. rw e (looked (lookup_answers pool k));
  quick = λ pool k a e. rw e (looked (quick_answers pool k));
  list = λ pool from ks vs s e. rw e (shows pool from ks vs (list_answers_lem pool from ks vs));
  plan_put = λ pool map k v g p.
      plans all_but_last refl g (0 ∷ 1 ∷ 2 ∷ 4 ∷ 7 ∷ []) pool (inr (inl refl)) (put_plan pool map k v) (put_few pool map k v) (put_inside pool map k v)
      (one_of (0 ∷ 1 ∷ 2 ∷ 4 ∷ 7 ∷ []) (put_plan pool map k v).number (put_number pool map k v)) (put_refusal pool map k v);
  plan_delete = λ pool k g p.
      plans the_switch refl g (0 ∷ 1 ∷ 2 ∷ 3 ∷ []) pool (inr (inl refl)) (delete_plan pool k) (delete_few pool k) (delete_inside pool k)
      (one_of (0 ∷ 1 ∷ 2 ∷ 3 ∷ []) (delete_plan pool k).number (delete_number pool k)) (delete_refusal pool k);
  plan_open = λ pool g p.
      plans one_group refl g (0 ∷ 1 ∷ 2 ∷ []) pool (inr (inl refl)) (open_plan pool) (omega (arith, (plan_modest pool).one)) (plan_modest pool).inside
      (up_to_two (open_plan pool).number (plan_modest pool).number≤) (open_plan_refused pool);
  put = λ pool map k v l e. rw e (record {
    number = subst (OneOf (0 ∷ 1 ∷ 2 ∷ 4 ∷ 7 ∷ [])) (sym (put_whole_number pool map k v))
        (one_of (0 ∷ 1 ∷ 2 ∷ 4 ∷ 7 ∷ []) (put_plan pool map k v).number (put_number pool map k v));
    refusal = λ z. left_kept (put_refused pool map k v (λ e. z (put_whole_number pool map k v ∙ e)));
    same_words = (put_lengths pool map k v).0;
    same_bytes = (put_lengths pool map k v).1;
  });
  delete = λ pool map k l e. rw e (record {
    number = subst (OneOf (0 ∷ 1 ∷ 2 ∷ 3 ∷ [])) (sym (delete_whole_number pool map k)) (mapped_number pool map k);
    refusal = λ z. left_kept (delete_refused pool map k (λ e. z (delete_whole_number pool map k ∙ e)));
    same_words = (delete_lengths pool map k).0;
    same_bytes = (delete_lengths pool map k).1;
  });
  format = λ pool map n f e. format_whole pool map n e;
  opening = λ pool bytes l e. rw e (opens pool bytes);
  step = λ p at pool a e. rw e (step_stays pool p at);
  finish = λ p map a e. rw e (finish_stays map p.effect);
  finish_words = λ words map a e. rw e (pick_stays map (ltb 4 (get_or words 3 0)) (refused_stays map) (finish_stays map (plan_in words).effect));
}
