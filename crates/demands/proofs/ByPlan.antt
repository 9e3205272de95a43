-- Plans carried out: n steps make the first n stores, all of them and the finish make the whole call, no finish is refused, and each case has its count.
-- Assumes nothing.
use Rattle.std.specs.Prelude.{None, Option, Some}
use mathlib.Core.Path.{◌≡◌, refl, sym, ap, ◌∙◌, subst}
use mathlib.Core.Bool.{true}
use mathlib.Core.Logic.{◌⊎◌, inl, inr, ⊎_elim}
use mathlib.Core.List.{List}
use Prim.Native.Nat.{ℕ, zero, suc, ◌-◌, ◌≤◌, ◌<◌}
use native.Mathlib.Numerals.{add-one}
use native.Mathlib.Omega.{arith}
use borrow.Author.Tests.{eq-eqb, ne_eqb, lt-ltb, le-ltb, ltb-true}
use lib.Dec.{ltb}
use lib.ListN.{length, take}
use lib.Seq.{take_all}
use Rattle.digits.proofs.Choice.{pick_case}
use Rattle.pool.specs.Sizes.{capacity_of}
use Rattle.tree.proofs.Basics.{Same?, same, other, same?, less?}
use Rattle.tree.proofs.Stores.{Words}
use Rattle.plan.specs.Plans.{all_but_last, the_switch, one_group, adr, eadr, known, groups_of, fenced, made, after, step_of, Decided, refused, planned_of, decided_for, planned_for, Planned}
use Rattle.plan.specs.declared.Plan.{Plan}
use Rattle.plan.proofs.Laws.{plan_word, plan_value, step_after}
use Rattle.finishing.specs.Finishes.{finish_of}
use Rattle.finishing.proofs.Laws.{finish_done}
use Rattle.rules.specs.Puts.{put_plan}
use Rattle.rules.specs.Deletes.{delete_plan}
use Rattle.rules.proofs.Fits.{put_few, put_inside, put_named, put_count_lem, put_refusal, delete_few, delete_inside, delete_named, delete_count_lem, delete_refusal}
use Rattle.writing.specs.Calls.{whole_of, put_of, delete_of}
use Rattle.writing.proofs.Wholes.{put_made, delete_unsized_whole, delete_made}
use Rattle.opening.specs.Openings.{open_plan}
use Rattle.opening.proofs.Answers.{plan_modest}
use Rattle.demands.specs.ByPlan.{steps_of, StepByStep, carried_out, Mapped, AllButLast, Grouped, none, some, Known, Counted, no_group, one_group_lem, two_groups, Fenced, ByPlan}

-- a step reads no fences
step_fenced : (g : ℕ) (p : Planned) (i : ℕ) (pool : List ℕ) → step_of (fenced g p).plan i pool ≡ step_of p.plan i pool
unfolding step_of
step_fenced g p i pool = refl

module _ (g : ℕ) (group : ℕ → ℕ) (d : Decided) (pool : List ℕ) (few : length d.stores ≤ 21) (inside : Words (λ w. w < length pool) d.stores) where
  steps_made : (n : ℕ) → n ≤ length d.stores → steps_of n (fenced g (planned_of group d)).plan pool ≡ after 0 (made (take n d.stores) pool)
  unfolding steps_of made
  steps_made zero h = refl
  steps_made (suc n) h =
      rw (steps_made n (omega arith), ← add-one n) (step_fenced g (planned_of group d) n _ ∙ step_after group d.stores d.effect few pool inside n h)

  steps : {p : Planned} → p ≡ fenced g (planned_of group d) → StepByStep pool d.stores p
  steps e = rw e (refl, steps_made)

  -- all steps and the finish leave what a whole call leaves, of a refusal too
  pub carried_whole : ((d.number ≡ 0 → ⊥) → d ≡ refused d.number) → (map : List ℕ) → carried_out (fenced g (planned_of group d)) pool map ≡ whole_of d pool map
  unfolding steps_of
  carried_whole f map = go (same? d.number 0)
    where
      go : Same? d.number 0 → carried_out (fenced g (planned_of group d)) pool map ≡ whole_of d pool map
      go (same e q) = rw (q, steps_made (length d.stores) (omega arith), take_all (length d.stores) d.stores (omega arith), e)
      go (other h q) = ap (λ (x : Decided). carried_out (fenced g (planned_of group x)) pool map) (f h) ∙ rw q

-- a generation that there is changes no decision
known_is : {g : ℕ} → Known g → known g ≡ true
known_is {g} k = ⊎_elim (λ e. rw (eq-eqb g adr e)) (λ e. newer (same? g adr) e) k
  where
    newer : Same? g adr → g ≡ eadr → known g ≡ true
    newer (same e q) h = rw q
    newer (other n q) h = rw (q, eq-eqb g eadr h)

pub known_decides : {g : ℕ} → Known g → (group : ℕ → ℕ) (d : Decided) → planned_for g group d ≡ fenced g (planned_of group d)
known_decides k group d = rw (known_is k)

module _ (g : ℕ) (k-is : Known g) where
  pub put_carried : (pool map : List ℕ) (k v : ℕ) → carried_out (planned_for g all_but_last (put_plan pool map k v)) pool map ≡ put_of pool map k v
  put_carried pool map k v =
      subst (λ (p : Planned). carried_out p pool map ≡ put_of pool map k v) (sym (known_decides k-is all_but_last (put_plan pool map k v)))
      (put_made pool map k v refl
      (carried_whole g all_but_last (put_plan pool map k v) pool (put_few pool map k v) (put_inside pool map k v) (put_refusal pool map k v) map))

module _ (pool map : List ℕ) (k : ℕ) (m : Mapped pool map) where
  pub delete_carried : (g : ℕ) → Known g → carried_out (planned_for g the_switch (delete_plan pool k)) pool map ≡ delete_of pool map k
  unfolding delete_plan
  delete_carried g k-is =
      subst (λ (p : Planned). carried_out p pool map ≡ delete_of pool map k) (sym (known_decides k-is the_switch (delete_plan pool k))) (go (capacity_of pool) refl)
    where
      whole : carried_out (fenced g (planned_of the_switch (delete_plan pool k))) pool map ≡ whole_of (delete_plan pool k) pool map
      whole = carried_whole g the_switch (delete_plan pool k) pool (delete_few pool k) (delete_inside pool k) (delete_refusal pool k) map

      go : (z : Option ℕ) → z ≡ capacity_of pool → carried_out (fenced g (planned_of the_switch (delete_plan pool k))) pool map ≡ delete_of pool map k
      go (Some n) e = delete_made pool map k e refl (m n (sym e)) refl whole
      go None e = whole ∙ rw (← e) (delete_unsized_whole pool map k e refl)

  delete_finishes : (finish_of (delete_plan pool k).effect map).number ≡ 0
  unfolding delete_plan
  delete_finishes = go (capacity_of pool) refl
    where
      go : (z : Option ℕ) → capacity_of pool ≡ z → (finish_of (delete_plan pool k).effect map).number ≡ 0
      go (Some n) e = finish_done (delete_plan pool k).effect map (rw (m n e) (delete_named pool k e))
      go None e = rw e

-- ---- what is decided for a generation
module _ (g : ℕ) (d : Decided) where
  -- what is so of a decision and of number 1 is so of what is decided for a generation
  pub judged : (Is : Decided → Type 0) → Is d → Is (refused 1) → Is (decided_for g d)
  judged Is x y = pick_case Is (known g) (λ e. x) (λ e. y)

  -- a decision that is not refused is the decision itself
  decided_is : (decided_for g d).number ≡ 0 → decided_for g d ≡ d
  decided_is z = pick_case (λ (x : Decided). x.number ≡ 0 → x ≡ d) (known g) (λ e h. refl) (λ e h. absurd (omega arith)) z

-- ---- groups
module _ (p : Plan) where
  put_grouped : p.first ≡ all_but_last p.count → Grouped (AllButLast p) p
  put_grouped e = go (less? 1 p.count)
    where
      single : p.first ≡ p.count → p.count ≤ 1 → Same? p.count 0 → Grouped (AllButLast p) p
      single f h (same z q) = none z (f ∙ z)
      single f h (other n q) = some (omega arith) (omega arith) (inr (omega arith, omega arith))

      go : (1 < p.count) ⊎ (p.count ≤ 1) → Grouped (AllButLast p) p
      go (inl h) =
          let f : p.first ≡ p.count - 1 = e ∙ rw (lt-ltb 1 p.count h) in
          some (omega arith) (omega arith) (inl (omega arith))
      go (inr h) = single (e ∙ rw (le-ltb 1 p.count h)) h (same? p.count 0)

  delete_grouped : p.first ≡ the_switch p.count → Grouped (p.first ≡ 1) p
  delete_grouped e = go (less? 1 p.count)
    where
      single : p.first ≡ p.count → p.count ≤ 1 → Same? p.count 0 → Grouped (p.first ≡ 1) p
      single f h (same z q) = none z (f ∙ z)
      single f h (other n q) = some (omega arith) (omega arith) (omega arith)

      go : (1 < p.count) ⊎ (p.count ≤ 1) → Grouped (p.first ≡ 1) p
      go (inl h) = let f : p.first ≡ 1 = e ∙ rw (lt-ltb 1 p.count h) in some (omega arith) (omega arith) f
      go (inr h) = single (e ∙ rw (le-ltb 1 p.count h)) h (same? p.count 0)

  open_grouped : p.first ≡ p.count → p.count ≤ 1 → Grouped ((p.first ≡ 1) × (p.count ≡ 1)) p
  open_grouped e h = go (same? p.count 0)
    where
      go : Same? p.count 0 → Grouped ((p.first ≡ 1) × (p.count ≡ 1)) p
      go (same z q) = none z (e ∙ z)
      go (other n q) = some (omega arith) (omega arith) (omega arith, omega arith)

  -- ---- fences
  counted : p.first ≤ p.count → Counted p (groups_of p.first p.count)
  counted h = go (same? p.count 0) (less? p.first p.count)
    where
      go : Same? p.count 0 → (p.first < p.count) ⊎ (p.count ≤ p.first) → Counted p (groups_of p.first p.count)
      go (same z q) s = rw q (no_group z)
      go (other n q) (inl l) = rw (q, lt-ltb p.first p.count l) (two_groups l)
      go (other n q) (inr l) = rw (q, le-ltb p.first p.count l) (one_group_lem (omega arith) (omega arith))

fences_of_lem : (g : ℕ) (group : ℕ → ℕ) (d : Decided) → group (length d.stores) ≤ length d.stores → Fenced g (fenced g (planned_of group d)).plan
fences_of_lem g group d h =
    let p = (fenced g (planned_of group d)).plan in
    let on-adr : g ≡ adr → p.fences ≡ groups_of p.first p.count = λ e. rw (eq-eqb g adr e) in
    (λ e. subst (Counted p) (sym (on-adr e)) (counted p h), λ e. rw (ne_eqb g adr (λ z. omega arith)))

all_but_few : (c : ℕ) → all_but_last c ≤ c
all_but_few c = pick_case (λ (x : ℕ). x ≤ c) (ltb 1 c) (λ e. omega arith) (λ e. omega arith)

switch_few : (c : ℕ) → the_switch c ≤ c
switch_few c = pick_case (λ (x : ℕ). x ≤ c) (ltb 1 c) (λ e. omega (arith, ltb-true 1 c e)) (λ e. omega arith)

pub by_plan_lem : ByPlan
by_plan_lem = record {
  put_steps = λ pool map k v g p h e.
      let d = put_plan pool map k v in
      steps g all_but_last d pool (put_few pool map k v) (put_inside pool map k v) (e ∙ known_decides h all_but_last d);
  delete_steps = λ pool k g p h e.
      let d = delete_plan pool k in
      steps g the_switch d pool (delete_few pool k) (delete_inside pool k) (e ∙ known_decides h the_switch d);
  open_steps_lem = λ pool g p h e.
      let d = open_plan pool in
      steps g one_group d pool (omega (arith, (plan_modest pool).one)) (plan_modest pool).inside (e ∙ known_decides h one_group d);
  put = λ pool map k v g p l h e q. rw (e, q) (put_carried g h pool map k v);
  delete = λ pool map k g p l m h e q. rw (e, q) (delete_carried pool map k m g h);
  put_finish = λ pool map k v g p a e q.
      let d = put_plan pool map k v in
      rw (q, e) (judged g d (λ x. (finish_of x.effect map).number ≡ 0) (finish_done d.effect map (put_named pool map k v)) refl);
  delete_finish = λ pool map k g p a m e q.
      rw (q, e) (judged g (delete_plan pool k) (λ x. (finish_of x.effect map).number ≡ 0) (delete_finishes pool map k m) refl);
  put_groups = λ pool map k v g p e. put_grouped p.plan (rw e);
  delete_groups = λ pool k g p e. delete_grouped p.plan (rw e);
  open_groups = λ pool g p e.
      open_grouped p.plan (rw e) (rw e (judged g (open_plan pool) (λ x. length x.stores ≤ 1) (plan_modest pool).one (omega arith)));
  put_fences = λ pool map k v g p e. rw e (fences_of_lem g all_but_last (decided_for g (put_plan pool map k v)) (all_but_few _));
  delete_fences = λ pool k g p e. rw e (fences_of_lem g the_switch (decided_for g (delete_plan pool k)) (switch_few _));
  open_fences = λ pool g p e. rw e (fences_of_lem g one_group (decided_for g (open_plan pool)) (omega arith));
  put_count_lem = λ pool map k v g n p c e z.
      let d = put_plan pool map k v in
      let is = decided_is g d (rw e at z) in
      let done : d.number ≡ 0 = sym (ap (λ (x : Decided). x.number) is) ∙ (rw e at z) in
      rw (e, is, plan_word all_but_last d.stores d.effect (put_few pool map k v) (length d.stores - 1)) (put_count_lem pool map k v c done);
  delete_count_lem = λ pool k g n p c e z.
      let d = delete_plan pool k in
      let is = decided_is g d (rw e at z) in
      let done : d.number ≡ 0 = sym (ap (λ (x : Decided). x.number) is) ∙ (rw e at z) in
      rw (e, is, plan_value the_switch d.stores d.effect (delete_few pool k) 0) (delete_count_lem pool k c done);
}
