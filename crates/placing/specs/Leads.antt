-- What a put stores at a place, whatever the map and the value.
-- Assumes nothing.
use Rattle.std.specs.Prelude.{◌≡◌, List, ℕ, ◌≤◌, ◌<◌, Result, Ok, Err}
use Rattle.refusals.specs.declared.Refusal.{Refusal}
use Rattle.refusals.specs.Refusals.{number_of}
use Rattle.plan.specs.Plans.{Decided, refused}
use Rattle.placing.specs.declared.Place.{Place}
use Rattle.placing.specs.declared.Place.TheVariants.{Held, Gap, Apart}
use Rattle.rules.specs.Puts.{Splits, replaced, grow_of, split_of}

abbrev pub plan_at : List ℕ → ℕ → ℕ → ℕ → Place → Decided
plan_at map n k v (Held i) = replaced i v
plan_at map n k v (Gap at) = grow_of map n k v at
plan_at map n k v (Apart s target) = split_of map n s k v target

-- and for a put that has no place, its refusal
abbrev pub plan_for : List ℕ → ℕ → ℕ → ℕ → Result Place Refusal → Decided
plan_for map n k v (Ok p) = plan_at map n k v p
plan_for map n k v (Err r) = refused (number_of r)

-- the numbers in a place are such as a store there asks for
abbrev pub Able : ℕ → Place → Type 0
Able n (Held i) = i < n
Able n (Gap at) = Unit {0}
Able n (Apart s target) = (s.depth ≤ s.diff) × (s.diff < 16) × Splits n s target

abbrev pub AbleIf : ℕ → Result Place Refusal → Type 0
AbleIf n (Ok p) = Able n p
AbleIf n (Err r) = Unit {0}

-- a place leads to these plans
pub record Leads (n k : ℕ) (p : Result Place Refusal) (plan : List ℕ → ℕ → Decided) : Type 0 where
  pub able : AbleIf n p
  pub plans : (map : List ℕ) (v : ℕ) → plan_for map n k v p ≡ plan map v

-- a place leads to these plans for one value
pub record Suits (n k v : ℕ) (p : Result Place Refusal) (plan : List ℕ → Decided) : Type 0 where
  pub able : AbleIf n p
  pub plans : (map : List ℕ) → plan_for map n k v p ≡ plan map
