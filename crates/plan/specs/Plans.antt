-- Plans: their stores in order, one step, and a run of steps.
-- Assumes nothing.
use Rattle.std.specs.Prelude.{◌≡◌, Bool, true, false, Result, Ok, Err, List, [], ◌∷◌, ◌++◌, map, ℕ, zero, suc, ◌+◌, ◌-◌, eqb, leb, ltb, length, get_or, set, take, replicate}
use Rattle.digits.specs.Choice.{pick}
use Rattle.tree.specs.Stores.{Store}
use Rattle.refusals.specs.declared.Refusal.{Refusal}
use Rattle.refusals.specs.declared.Refusal.TheVariants.{Size}
use Rattle.refusals.specs.Refusals.{number_of}
use Rattle.plan.specs.declared.Plan.{Plan}
use Rattle.plan.specs.declared.Generation.{Generation}
use Rattle.plan.specs.declared.Generation.TheVariants.{Adr, Eadr}
use Rattle.plan.specs.declared.Effect.{Effect}
use Rattle.plan.specs.declared.Effect.TheVariants.{Nothing}

-- the words after all the stores, in their order
unfoldable pub made : List Store → List ℕ → List ℕ
made [] l = l
made (s ∷ σ) l = made σ (set l s.word s.value)

-- "A plan holds at most 21 stores, each a word number and a value (unused places 0)"
abbrev pub padded : List ℕ → List ℕ
padded l = take 21 (l ++ replicate 21 0)

-- 02 (ii): "A plan now carries its stores in groups": how many of so many stores are the first group; the others are the second, if there are any.
-- "for a put, everything but the last store, then the last; for a delete, the switch, then the header. Each header open rewrites is a group; no group is
-- empty."
abbrev pub all_but_last : ℕ → ℕ
all_but_last c = pick (ltb 1 c) (c - 1) c

abbrev pub the_switch : ℕ → ℕ
the_switch c = pick (ltb 1 c) 1 c

abbrev pub one_group : ℕ → ℕ
one_group c = c

-- the plan of these stores, grouped so, with no fence
abbrev pub plan_of : (ℕ → ℕ) → List Store → Effect → Plan
plan_of group σ e = record {
  words = padded (map (λ (s : Store). s.word) σ);
  values = padded (map (λ (s : Store). s.value) σ);
  count = length σ;
  first = group (length σ);
  fences = 0;
  effect = e;
}

-- what a planning call decides: the number it gives back, the stores, what they do to the map
pub record Decided : Type 0 where
  pub number : ℕ
  pub stores : List Store
  pub effect : Effect

abbrev pub decided : List Store → Effect → Decided
decided σ e = record { number = 0; stores = σ; effect = e }

-- "Refusals give .. a plan that does nothing."
abbrev pub refused : ℕ → Decided
refused k = record { number = k; stores = []; effect = Nothing }

-- what a planning call gives back: the number, and the plan
pub record Planned : Type 0 where
  pub number : ℕ
  pub plan : Plan

abbrev pub planned_of : (ℕ → ℕ) → Decided → Planned
planned_of group d = record { number = d.number; plan = plan_of group d.stores d.effect }

-- 02 (v): "Newer machines (eADR) let stores arrive in list order; older ones (ADR) follow (ii)." The generations by their numbers; there is no other.
abbrev pub adr : ℕ
adr = 1

abbrev pub eadr : ℕ
eadr = 2

abbrev pub known : ℕ → Bool
known generation = pick (eqb generation adr) true (eqb generation eadr)

-- the generations of the code, by their numbers
abbrev pub generation_number : Generation → ℕ
generation_number Adr = adr
generation_number Eadr = eadr

-- the generation of a number; "any other generation is 1"
abbrev pub generation_of : ℕ → Result Generation Refusal
generation_of number = pick (eqb number adr) (Ok Adr) (pick (eqb number eadr) (Ok Eadr) (Err Size))

-- "An ADR plan has a fence after each group, an eADR plan none, and the plan reports the number."
abbrev pub groups_of : ℕ → ℕ → ℕ
groups_of first count = pick (eqb count 0) 0 (pick (ltb first count) 2 1)

abbrev pub fences_of : ℕ → ℕ → ℕ → ℕ
fences_of generation first count = pick (eqb generation adr) (groups_of first count) 0

abbrev pub fenced_plan : ℕ → Plan → Plan
fenced_plan generation p = record {
  words = p.words;
  values = p.values;
  count = p.count;
  first = p.first;
  fences = fences_of generation p.first p.count;
  effect = p.effect;
}

abbrev pub fenced : ℕ → Planned → Planned
fenced generation p = record { number = p.number; plan = fenced_plan generation p.plan }

-- "Planning takes the generation." "any other generation is 1, before all else"
abbrev pub decided_for : ℕ → Decided → Decided
decided_for generation d = pick (known generation) d (refused 1)

abbrev pub planned_for : ℕ → (ℕ → ℕ) → Decided → Planned
planned_for generation group d = fenced generation (planned_of group (decided_for generation d))

-- what an answer of the code comes to: the plan, or the refusal's number and a plan that does nothing
abbrev pub outcome : Result Plan Refusal → Planned
outcome (Ok p) = record { number = 0; plan = p }
outcome (Err r) = planned_of one_group (refused (number_of r))

-- the plan of the stores that were laid out for a generation
abbrev pub laid_for : (ℕ → ℕ) → Result (Generation × Effect) Refusal → List Store → Result Plan Refusal
laid_for group (Ok p) σ = Ok (fenced_plan (generation_number p.0) (plan_of group σ p.1))
laid_for group (Err r) σ = Err r

-- the number given back, and the words or bytes after the call
pub record After : Type 0 where
  pub number : ℕ
  pub left : List ℕ

abbrev pub after : ℕ → List ℕ → After
after k l = record { number = k; left = l }

-- a store of v at place i; 5 where there is no such place
abbrev pub store_of : ℕ → ℕ → List ℕ → After
store_of i v l = pick (ltb i (length l)) (after 0 (set l i v)) (after 5 l)

-- "One step makes one store." 5: "count over 21, step number not below the count, or its word outside the pool"
unfoldable pub step_of : Plan → ℕ → List ℕ → After
step_of p at pool =
    pick (ltb 21 p.count) (after 5 pool)
    (pick (leb p.count at) (after 5 pool)
    (store_of (get_or p.words at 0) (get_or p.values at 0) pool))

-- what step promises
abbrev pub StepGives : Plan → ℕ → List ℕ → After → Type 0
StepGives p at pool a = a ≡ step_of p at pool

-- ---- stores one after the other
-- two lists as stores: the word numbers, and the values for them
unfoldable pub stores_in : List ℕ → List ℕ → List Store
stores_in [] vs = []
stores_in (w ∷ ws) [] = []
stores_in (w ∷ ws) (v ∷ vs) = record { word = w; value = v } ∷ stores_in ws vs

-- how many stores were made, and the words then
pub record Ran : Type 0 where
  pub steps : ℕ
  pub left : List ℕ

abbrev pub ran : ℕ → List ℕ → Ran
ran k l = record { steps = k; left = l }

abbrev pub one_more : Ran → Ran
one_more r = ran (r.steps + 1) r.left

-- the first n of these stores, in their order, until one is refused; a word may be named twice
unfoldable pub makes_of : ℕ → List Store → List ℕ → Ran
makes_of zero σ pool = ran 0 pool
makes_of (suc n) [] pool = ran 0 pool
makes_of (suc n) (s ∷ σ) pool =
    let a : After = store_of s.word s.value pool in
    elim (eqb a.number 0) [ true ↦ one_more (makes_of n σ a.left) | false ↦ ran 0 pool ]

-- the stores that a plan's steps make, in order: none where its count is over 21
abbrev pub stores_of : Plan → List Store
stores_of p = pick (ltb 21 p.count) [] (take p.count (stores_in p.words p.values))

-- the first steps of a plan, at most so many, until one is refused
abbrev pub run_of : ℕ → Plan → List ℕ → Ran
run_of most p pool = makes_of most (stores_of p) pool

-- what run promises
abbrev pub RunGives : ℕ → Plan → List ℕ → Ran → Type 0
RunGives most p pool r = r ≡ run_of most p pool
