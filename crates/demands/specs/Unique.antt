-- "For every input, refusals too, a public function's promise determines the answer and the pool, map and buffers after it; uniqueness is proved": each line is
-- a call's own promise, by the name that its function and the C function cite.
-- Assumes nothing.
use Rattle.std.specs.Prelude.{◌≡◌, List, ℕ, Result}
use Rattle.refusals.specs.declared.Refusal.{Refusal}
use Rattle.refusals.specs.Refusals.{number_in}
use Rattle.plan.specs.Plans.{all_but_last, the_switch, one_group, planned_for, outcome, step_of, StepGives, run_of, RunGives}
use Rattle.finishing.specs.Finishes.{finish_of, FinishGives}
use Rattle.plan.specs.declared.Plan.{Plan}
use Rattle.finding.specs.Lookups.{told, lookup_of, LookupGives, quick_of, QuickGives}
use Rattle.listing.specs.Listings.{numbers, list_of, ListGives}
use Rattle.finding.specs.declared.Found.{Found}
use Rattle.listing.specs.declared.Listed.{Listed}
use Rattle.rules.specs.Puts.{put_plan, PlanPutGives}
use Rattle.rules.specs.Deletes.{delete_plan, PlanDeleteGives}
use Rattle.writing.specs.Calls.{done_in, put_of, PutGives, delete_of, DeleteGives, format_of, FormatGives}
use Rattle.opening.specs.declared.mending.Opened.{Opened}
use Rattle.opening.specs.Openings.{told as told_opening, open_plan, PlanOpenGives, open_of, OpenGives}
use Rattle.handing.specs.Plans.{finish_in, FinishInGives, planned_in, HandedOut}

module _ {A : Type 0} where
  -- an outcome meets a promise, and two outcomes that both meet it are equal
  pub record OneOutcome (Promise : A → Type 0) (outcome : A) : Type 0 where
    pub met : Promise outcome
    pub one : (a a' : A) → Promise a → Promise a' → a ≡ a'

pub record Unique : Type 0 where
  pub lookup : (pool : List ℕ) (k : ℕ) → OneOutcome (LookupGives pool k) (lookup_of pool k)
  pub quick : (pool : List ℕ) (k : ℕ) → OneOutcome (QuickGives pool k) (quick_of pool k)
  pub list : (pool : List ℕ) (from : ℕ) (ks vs : List ℕ) → OneOutcome (ListGives pool from ks vs) (list_of pool from ks vs)
  pub plan_put : (pool map : List ℕ) (k v g : ℕ) → OneOutcome (PlanPutGives pool map k v g) (planned_for g all_but_last (put_plan pool map k v))
  pub plan_delete : (pool : List ℕ) (k g : ℕ) → OneOutcome (PlanDeleteGives pool k g) (planned_for g the_switch (delete_plan pool k))
  pub plan_open : (pool : List ℕ) (g : ℕ) → OneOutcome (PlanOpenGives pool g) (planned_for g one_group (open_plan pool))
  pub step : (p : Plan) (at : ℕ) (pool : List ℕ) → OneOutcome (StepGives p at pool) (step_of p at pool)
  pub run : (most : ℕ) (p : Plan) (pool : List ℕ) → OneOutcome (RunGives most p pool) (run_of most p pool)
  pub finish : (p : Plan) (map : List ℕ) → OneOutcome (FinishGives p map) (finish_of p.effect map)
  pub put : (pool map : List ℕ) (k v : ℕ) → OneOutcome (PutGives pool map k v) (put_of pool map k v)
  pub delete : (pool map : List ℕ) (k : ℕ) → OneOutcome (DeleteGives pool map k) (delete_of pool map k)
  pub format : (pool map : List ℕ) (n : ℕ) → OneOutcome (FormatGives pool map n) (format_of pool map n)
  pub opening : (pool map : List ℕ) → OneOutcome (OpenGives pool map) (open_of pool map)
  -- the numbers that a promise speaks of are of one answer of the code, refusals too: what a lookup finds, whether a listing found a further entry, the
  -- stores that a put or a delete made, what an opening counted, a plan, and that a step or a finish is done
  pub found : (f g : Found) → told f ≡ told g → f ≡ g
  pub further : (a b : Result Listed Refusal) → numbers a ≡ numbers b → a ≡ b
  pub made : (a b : Result ℕ Refusal) → done_in a ≡ done_in b → a ≡ b
  pub counted : (a b : Result Opened Refusal) → told_opening a ≡ told_opening b → a ≡ b
  pub planned : (a b : Result Plan Refusal) → outcome a ≡ outcome b → a ≡ b
  pub finished : (a b : Result (Unit {0}) Refusal) → number_in a ≡ number_in b → a ≡ b
  -- the plans handed out to C as words, and a finish by such words
  pub plan_put_words : (pool map : List ℕ) (k v g : ℕ)
      → OneOutcome (HandedOut (PlanPutGives pool map k v g)) (planned_in (planned_for g all_but_last (put_plan pool map k v)))
  pub plan_delete_words : (pool : List ℕ) (k g : ℕ) → OneOutcome (HandedOut (PlanDeleteGives pool k g)) (planned_in (planned_for g the_switch (delete_plan pool k)))
  pub plan_open_words : (pool : List ℕ) (g : ℕ) → OneOutcome (HandedOut (PlanOpenGives pool g)) (planned_in (planned_for g one_group (open_plan pool)))
  pub finish_words : (words map : List ℕ) → OneOutcome (FinishInGives words map) (finish_in words map)
