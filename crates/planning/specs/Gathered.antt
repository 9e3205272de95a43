-- What a planning call decided, gathered from its answer and from the stores that it laid out.
-- Assumes nothing.
use Rattle.std.specs.Prelude.{◌≡◌, ℕ, List, Result, Ok, Err}
use Rattle.refusals.specs.declared.Refusal.{Refusal}
use Rattle.refusals.specs.Refusals.{number_of}
use Rattle.tree.specs.Stores.{Store}
use Rattle.plan.specs.Plans.{Decided, decided, refused}
use Rattle.plan.specs.declared.Effect.{Effect}

abbrev pub gathered : Result Effect Refusal → List Store → Decided
gathered (Ok e) σ = decided σ e
gathered (Err r) σ = refused (number_of r)

-- whatever this call may give and lay out, it decided this
abbrev pub IsDecided : (Result Effect Refusal → List Store → Type 0) → Decided → Type 0
IsDecided Gives d = (r : Result Effect Refusal) (σ : List Store) → Gives r σ → gathered r σ ≡ d

-- whatever this call may give for so many stores, it is the first group of so many
abbrev pub IsGroup : (ℕ → ℕ → Type 0) → (ℕ → ℕ) → Type 0
IsGroup Gives group = (c k : ℕ) → Gives c k → k ≡ group c
