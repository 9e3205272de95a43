-- Each public call's promise leaves one outcome: it is an equation with what a definition gives. Assumes nothing.
use mathlib.Core.Path.{◌≡◌, refl, sym, ap, ◌∙◌}
use Prim.Native.Nat.{ℕ}
use Rattle.std.specs.Prelude.{Result, Ok, Err}
use Rattle.refusals.specs.declared.Refusal.{Refusal}
use Rattle.refusals.specs.Refusals.{number_in, answer_at}
use Rattle.refusals.proofs.Numbers.{answer_told}
use Rattle.plan.specs.declared.Plan.{Plan}
use Rattle.writing.specs.Calls.{done_in}
use Rattle.opening.specs.declared.mending.Opened.{Opened}
use Rattle.opening.specs.Openings.{Answer, told}
use Rattle.plan.specs.Plans.{Planned, outcome}
use Rattle.finding.proofs.Answers.{told_injective}
use Rattle.listing.proofs.Answers.{numbers_injective}
use Rattle.handing.specs.Plans.{planned_in, HandedOut}
use Rattle.demands.specs.Unique.{OneOutcome, Unique}

equation : {A : Type 0} (x : A) → OneOutcome (λ a. a ≡ x) x
equation x = record { met = refl; one = λ a b p q. p ∙ sym q }

-- ---- the answer of the code that numbers tell
one_told : {A B : Type 0} (tell : A → B) (untell : B → A) → ((a : A) → untell (tell a) ≡ a) → (a b : A) → tell a ≡ tell b → a ≡ b
one_told tell untell back a b e = sym (back a) ∙ ap untell e ∙ back b

done_back : (r : Result ℕ Refusal) → answer_at (done_in r).number (done_in r).stores ≡ r
done_back (Ok n) = refl
done_back (Err r) = answer_told (Err r) 0

opened_at : Answer → Result Opened Refusal
opened_at a = answer_at a.number (record { keys = a.keys; headers = a.headers })

opened_back : (r : Result Opened Refusal) → opened_at (told r) ≡ r
unfolding opened_at
opened_back (Ok a) = refl
opened_back (Err r) = answer_told (Err r) (record { keys = 0; headers = 0 })

planned_back : (r : Result Plan Refusal) → answer_at (outcome r).number (outcome r).plan ≡ r
planned_back (Ok p) = refl
planned_back (Err r) = answer_told (Err r) (outcome (Err r)).plan

finished_back : (r : Result (Unit {0}) Refusal) → answer_at (number_in r) tt ≡ r
finished_back (Ok u) = refl
finished_back (Err r) = answer_told (Err r) tt

handed_one : (Gives : Planned → Type 0) (p : Planned) → OneOutcome Gives p → OneOutcome (HandedOut Gives) (planned_in p)
handed_one Gives p o = record {
  met = (p, o.met, refl);
  one = λ l m a b. a.2 ∙ ap planned_in (o.one a.0 b.0 a.1 b.1) ∙ sym b.2;
}

pub unique : Unique
unique = record {
  lookup = λ pool k. equation _;
  quick = λ pool k. equation _;
  list = λ pool from ks vs. equation _;
  plan_put = λ pool map k v g. equation _;
  plan_delete = λ pool k g. equation _;
  plan_open = λ pool g. equation _;
  step = λ p at pool. equation _;
  run = λ most p pool. equation _;
  finish = λ p map. equation _;
  put = λ pool map k v. equation _;
  delete = λ pool map k. equation _;
  format = λ pool map n. equation _;
  opening = λ pool map. equation _;
  found = told_injective;
  further = numbers_injective;
  made = one_told done_in (λ d. answer_at d.number d.stores) done_back;
  counted = one_told told opened_at opened_back;
  planned = one_told outcome (λ p. answer_at p.number p.plan) planned_back;
  finished = one_told number_in (λ k. answer_at k tt) finished_back;
  plan_put_words = λ pool map k v g. handed_one _ _ (equation _);
  plan_delete_words = λ pool k g. handed_one _ _ (equation _);
  plan_open_words = λ pool g. handed_one _ _ (equation _);
  finish_words = λ words map. equation _;
}
