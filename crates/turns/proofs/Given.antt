-- Laws of answers: the numbers of the definitions, read as an answer of the code, are the answer that gave them.
-- Assumes nothing.
use Rattle.std.proofs.Common.{◌≡◌, ℕ, List, [], Result, Ok, Err, refl, rules}
use Rattle.std.specs.Prelude.{MatchResult, IsOk}
use Rattle.std.specs.Result.{result_unwrap_or}
use Rattle.refusals.specs.declared.Refusal.{Refusal}
use Rattle.refusals.specs.Refusals.{answer_at}
use Rattle.refusals.proofs.Numbers.{answer_told}
use Rattle.plan.specs.declared.Effect.TheVariants.{Nothing}
use Rattle.plan.specs.declared.Plan.{Plan}
use Rattle.plan.specs.Plans.{plan_of, one_group, outcome}
use Rattle.finding.specs.Lookups.{told}
use Rattle.writing.specs.Calls.{done_in, left}
use Rattle.answers.specs.declared.Answer.TheVariants.{Get}
use Rattle.turns.specs.Turns.{stores_made, get_answer}

pub stores_given : (r : Result ℕ Refusal) (pool map : List ℕ) → stores_made (left (done_in r) pool map) ≡ r
stores_given (Ok stores) pool map = refl
stores_given (Err r) pool map = answer_told (Err r) 0

pub value_given : (value : Result ℕ Refusal) (nodes : ℕ) → get_answer (told record { value = value; nodes = nodes }) ≡ Get value nodes
value_given value nodes = rw (answer_told value 0) refl

pub number_given : (planned : Result Plan Refusal) (r : Result (Unit {0}) Refusal) → MatchResult planned (λ _. IsOk r) (λ e. r ≡ Err e)
    → answer_at (outcome planned).number tt ≡ r
number_given (Ok plan) (Ok u) h = refl
number_given (Ok plan) (Err r) h = search rules
number_given (Err e) r h = rw h (answer_told {A = Unit {0}} (Err e) tt)

pub plan_given : (planned : Result Plan Refusal) → (outcome planned).plan ≡ result_unwrap_or planned (plan_of one_group [] Nothing)
plan_given (Ok plan) = refl
plan_given (Err r) = refl
