-- A plan from C: what went out as words comes back as the same plan.
-- Assumes nothing.
use Rattle.std.specs.Prelude.{◌≡◌, List, ℕ, length, set}
use Rattle.plan.specs.Plans.{After, StepGives, Planned}
use Rattle.plan.specs.declared.Plan.{Plan}
use Rattle.finishing.specs.Finishes.{FinishGives}
use Rattle.rules.specs.Puts.{PlanPutGives}
use Rattle.rules.specs.Deletes.{PlanDeleteGives}
use Rattle.opening.specs.Openings.{PlanOpenGives}
use Rattle.handing.specs.Plans.{words_of, plan_in, FinishInGives, PlannedWords, HandedOut}

-- "A plan holds at most 21 stores": it has 21 places
abbrev pub AllPlaces : Plan → Type 0
AllPlaces p = (length p.words ≡ 21) × (length p.values ≡ 21)

-- the answer of a planning call, read off what C was handed
abbrev pub taken_in : PlannedWords → Planned
taken_in w = record { number = w.number; plan = plan_in w.plan }

pub record Returns : Type 0 where
  pub plan : (p : Plan) → AllPlaces p → plan_in (words_of p) ≡ p
  -- what wort_step and wort_finish do with the words is what step and finish do with the plan
  pub step : (p : Plan) → AllPlaces p → (at : ℕ) (pool : List ℕ) (a : After) → StepGives (plan_in (words_of p)) at pool a → StepGives p at pool a
  pub finish : (p : Plan) (map : List ℕ) (a : After) → FinishInGives (words_of p) map a → FinishGives p map a
  -- neither reads the stores of the first group and the fences, words 1 and 2: whatever stands there, they do the same
  pub step_unread : (words : List ℕ) (x y at : ℕ) (pool : List ℕ) (a : After)
      → StepGives (plan_in (set (set words 1 x) 2 y)) at pool a → StepGives (plan_in words) at pool a
  pub finish_unread : (words : List ℕ) (x y : ℕ) (map : List ℕ) (a : After) → FinishInGives (set (set words 1 x) 2 y) map a → FinishInGives words map a
  -- what wort_plan_put, wort_plan_delete and wort_plan_open hand out is, taken in again, what plan_put, plan_delete and plan_open promise
  pub put : (pool map : List ℕ) (k v g : ℕ) (w : PlannedWords) → HandedOut (PlanPutGives pool map k v g) w → PlanPutGives pool map k v g (taken_in w)
  pub delete : (pool : List ℕ) (k g : ℕ) (w : PlannedWords) → HandedOut (PlanDeleteGives pool k g) w → PlanDeleteGives pool k g (taken_in w)
  pub opening : (pool : List ℕ) (g : ℕ) (w : PlannedWords) → HandedOut (PlanOpenGives pool g) w → PlanOpenGives pool g (taken_in w)
