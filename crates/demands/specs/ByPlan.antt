-- Plans carried out: "One step makes one store. Finishing changes only the named map bytes. The whole call plans, makes all stores and finishes."
-- Assumes nothing.
use Rattle.std.specs.Prelude.{◌≡◌, ◌⊎◌, List, ℕ, zero, suc, ◌+◌, ◌-◌, ◌≤◌, ◌<◌, length, take, Some}
use Rattle.pool.specs.Sizes.{capacity_of, bytes_of}
use Rattle.pool.specs.Places.{word_at}
use Rattle.pool.specs.Refs.{ref_of}
use Rattle.tree.specs.Stores.{Store}
use Rattle.plan.specs.Plans.{adr, eadr, made, After, after, step_of, Planned}
use Rattle.plan.specs.declared.Plan.{Plan}
use Rattle.finishing.specs.Finishes.{finish_of, FinishGives}
use Rattle.rules.specs.Counts.{put_count, delete_count}
use Rattle.rules.specs.Puts.{put_plan, PlanPutGives}
use Rattle.rules.specs.Deletes.{delete_plan, PlanDeleteGives}
use Rattle.writing.specs.Calls.{Left, left, done, PutGives, DeleteGives}
use Rattle.opening.specs.Openings.{open_plan, PlanOpenGives}

-- the first n steps of a plan, each on what the one before it left
unfoldable pub steps_of : ℕ → Plan → List ℕ → After
steps_of zero p pool = after 0 pool
steps_of (suc n) p pool = step_of p n (steps_of n p pool).left

-- n steps of a plan make its first n stores, each giving 0, and it counts as many as there are
abbrev pub StepByStep : List ℕ → List Store → Planned → Type 0
StepByStep pool stores p =
    (p.plan.count ≡ length stores) × ((n : ℕ) → n ≤ length stores → steps_of n p.plan pool ≡ after 0 (made (take n stores) pool))

-- a plan carried out: all its steps in order, then the finish; the number is the planning call's
abbrev pub carried_out : Planned → List ℕ → List ℕ → Left
carried_out p pool map =
    left (done p.number p.plan.count) (steps_of p.plan.count p.plan pool).left (finish_of p.plan.effect map).left

-- a map of the pool's length, which plan_delete is not lent and delete is
abbrev pub Mapped : List ℕ → List ℕ → Type 0
Mapped pool map = (n : ℕ) → capacity_of pool ≡ Some n → length map ≡ bytes_of n

-- a plan of one store has one group, and of more everything but the last
abbrev pub AllButLast : Plan → Type 0
AllButLast p = (p.first + 1 ≡ p.count) ⊎ ((p.first ≡ 1) × (p.count ≡ 1))

-- a plan of no store has no group; else the first group is not empty, has no more stores than there are, and is as is said
pub data Grouped (Bound : Type 0) (p : Plan) : Type 0 where
  none : p.count ≡ 0 → p.first ≡ 0 → Grouped Bound p
  some : 1 ≤ p.first → p.first ≤ p.count → Bound → Grouped Bound p

-- there is such a generation
abbrev pub Known : ℕ → Type 0
Known g = (g ≡ adr) ⊎ (g ≡ eadr)

-- how many groups a plan has
pub data Counted (p : Plan) : ℕ → Type 0 where
  no_group : p.count ≡ 0 → Counted p 0
  one_group_lem : 0 < p.count → p.first ≡ p.count → Counted p 1
  two_groups : p.first < p.count → Counted p 2

-- 02 (v): "An ADR plan has a fence after each group, an eADR plan none, and the plan reports the number."
abbrev pub Fenced : ℕ → Plan → Type 0
Fenced g p = (g ≡ adr → Counted p p.fences) × (g ≡ eadr → p.fences ≡ 0)

pub record ByPlan : Type 0 where
  -- "One step makes one store."
  pub put_steps : (pool map : List ℕ) (k v g : ℕ) (p : Planned) → Known g → PlanPutGives pool map k v g p → StepByStep pool (put_plan pool map k v).stores p
  pub delete_steps : (pool : List ℕ) (k g : ℕ) (p : Planned) → Known g → PlanDeleteGives pool k g p → StepByStep pool (delete_plan pool k).stores p
  pub open_steps_lem : (pool : List ℕ) (g : ℕ) (p : Planned) → Known g → PlanOpenGives pool g p → StepByStep pool (open_plan pool).stores p
  -- "The whole call plans, makes all stores and finishes."
  pub put : (pool map : List ℕ) (k v g : ℕ) (p : Planned) (l : Left) → Known g → PlanPutGives pool map k v g p → PutGives pool map k v l
      → carried_out p pool map ≡ l
  pub delete : (pool map : List ℕ) (k g : ℕ) (p : Planned) (l : Left) → Mapped pool map → Known g → PlanDeleteGives pool k g p → DeleteGives pool map k l
      → carried_out p pool map ≡ l
  -- the bytes that a plan names are inside the map: its finish is not refused
  pub put_finish : (pool map : List ℕ) (k v g : ℕ) (p : Planned) (a : After) → PlanPutGives pool map k v g p → FinishGives p.plan map a → a.number ≡ 0
  pub delete_finish : (pool map : List ℕ) (k g : ℕ) (p : Planned) (a : After) → Mapped pool map → PlanDeleteGives pool k g p → FinishGives p.plan map a
      → a.number ≡ 0
  -- 02 (ii): "for a put, everything but the last store, then the last; for a delete, the switch, then the header. Each header open rewrites is a group; no
  -- group is empty."
  pub put_groups : (pool map : List ℕ) (k v g : ℕ) (p : Planned) → PlanPutGives pool map k v g p → Grouped (AllButLast p.plan) p.plan
  pub delete_groups : (pool : List ℕ) (k g : ℕ) (p : Planned) → PlanDeleteGives pool k g p → Grouped (p.plan.first ≡ 1) p.plan
  pub open_groups : (pool : List ℕ) (g : ℕ) (p : Planned) → PlanOpenGives pool g p → Grouped ((p.plan.first ≡ 1) × (p.plan.count ≡ 1)) p.plan
  pub put_fences : (pool map : List ℕ) (k v g : ℕ) (p : Planned) → PlanPutGives pool map k v g p → Fenced g p.plan
  pub delete_fences : (pool : List ℕ) (k g : ℕ) (p : Planned) → PlanDeleteGives pool k g p → Fenced g p.plan
  pub open_fences : (pool : List ℕ) (g : ℕ) (p : Planned) → PlanOpenGives pool g p → Fenced g p.plan
  -- 1, 3, 20 or 21 stores of a put, the target of a split being what the last store's word referred to; 1 or 2 of a delete, the other child being the
  -- value of the first store
  pub put_count_lem : (pool map : List ℕ) (k v g n : ℕ) (p : Planned) → capacity_of pool ≡ Some n → PlanPutGives pool map k v g p → p.number ≡ 0
      → p.plan.count ≡ put_count p.plan.effect (ref_of n (word_at pool (word_at p.plan.words (p.plan.count - 1))))
  pub delete_count_lem : (pool : List ℕ) (k g n : ℕ) (p : Planned) → capacity_of pool ≡ Some n → PlanDeleteGives pool k g p → p.number ≡ 0
      → p.plan.count ≡ delete_count p.plan.effect (ref_of n (word_at p.plan.values 0))
