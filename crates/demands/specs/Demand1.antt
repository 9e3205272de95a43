-- "1. No pool, map, plan or key can make a call read or write outside what it was lent, or run forever. Wrong sizes, damage, an absent name, no
-- room: each has its number, and what it leaves in memory is fixed."
-- That a call stays within what it is lent and ends is what the checker proves of every function that has no `requires`. Here is the table "Numbers
-- given back", for every pool, map, plan and key, and for every outcome that the call's promise allows.
-- Assumes nothing.
use Rattle.std.specs.Prelude.{◌≡◌, ◌⊎◌, List, [], ◌∷◌, ℕ, ◌≤◌, ◌<◌, length, replicate}
use Rattle.pool.specs.Places.{word_at}
use Rattle.plan.specs.Plans.{one_group, plan_of, After, StepGives, Planned}
use Rattle.finishing.specs.Finishes.{FinishGives}
use Rattle.plan.specs.declared.Plan.{Plan}
use Rattle.plan.specs.declared.Effect.TheVariants.{Nothing}
use Rattle.finding.specs.Lookups.{Answer, LookupGives, QuickGives}
use Rattle.listing.specs.Listings.{Shown, ListGives}
use Rattle.rules.specs.Puts.{PlanPutGives}
use Rattle.rules.specs.Deletes.{PlanDeleteGives}
use Rattle.writing.specs.Calls.{Left, left, done, PutGives, DeleteGives, Formatted, FormatGives}
use Rattle.opening.specs.Openings.{PlanOpenGives, OpenGives, Left as LeftOpen}
use Rattle.handing.specs.Plans.{FinishInGives}

-- one of the numbers of a list
unfoldable pub OneOf : List ℕ → ℕ → Type 0
OneOf [] k = ⊥
OneOf (a ∷ l) k = (k ≡ a) ⊎ OneOf l k

-- lookup, plain and quick: "Refusals give 0 in every number field but lookup's node count", which is at most 16
pub record LookupSays (a : Answer) : Type 0 where
  pub number : OneOf (0 ∷ 1 ∷ 2 ∷ 3 ∷ []) a.number
  pub refusal : (a.number ≡ 0 → ⊥) → a.value ≡ 0
  pub nodes : a.nodes ≤ 16

-- listing: 1 and 6 leave the buffers, 2 makes both all 0; "Entries beyond the count keep their contents"
pub record ListSays (ks vs : List ℕ) (s : Shown) : Type 0 where
  pub number : OneOf (0 ∷ 1 ∷ 2 ∷ 6 ∷ []) s.answer.number
  pub refusal : (s.answer.number ≡ 0 → ⊥) → (s.answer.count ≡ 0) × (s.answer.more ≡ 0)
  pub kept : (s.answer.number ≡ 1) ⊎ (s.answer.number ≡ 6) → (s.keys ≡ ks) × (s.values ≡ vs)
  pub cleared : s.answer.number ≡ 2 → (s.keys ≡ replicate (length ks) 0) × (s.values ≡ replicate (length vs) 0)
  pub lengths : (length s.keys ≡ length ks) × (length s.values ≡ length vs)
  pub beyond : s.answer.number ≡ 0 → (i : ℕ) → s.answer.count ≤ i → (word_at s.keys i ≡ word_at ks i) × (word_at s.values i ≡ word_at vs i)

-- a planning call: a refusal gives "a plan that does nothing"; "A plan holds at most 21 stores, each a word number and a value (unused places 0)", and each
-- word is one of the pool's
pub record Plans (numbers : List ℕ) (pool : List ℕ) (p : Planned) : Type 0 where
  pub number : OneOf numbers p.number
  pub refusal : (p.number ≡ 0 → ⊥) → p.plan ≡ plan_of one_group [] Nothing
  pub most : p.plan.count ≤ 21
  pub inside : (i : ℕ) → i < p.plan.count → word_at p.plan.words i < length pool
  pub unused : (i : ℕ) → p.plan.count ≤ i → (word_at p.plan.words i ≡ 0) × (word_at p.plan.values i ≡ 0)

-- a whole call: a refusal leaves everything unchanged
pub record Whole (numbers : List ℕ) (pool map : List ℕ) (l : Left) : Type 0 where
  pub number : OneOf numbers l.done.number
  pub refusal : (l.done.number ≡ 0 → ⊥) → (l.done.stores ≡ 0) × (l.pool ≡ pool) × (l.map ≡ map)
  pub same_words : length l.pool ≡ length pool
  pub same_bytes : length l.map ≡ length map

-- open: "2 | damage met | pool unchanged; open: map all 0"
pub record OpenSays (pool map : List ℕ) (l : LeftOpen) : Type 0 where
  pub number : OneOf (0 ∷ 1 ∷ 2 ∷ []) l.answer.number
  pub refusal : (l.answer.number ≡ 0 → ⊥) → (l.pool ≡ pool) × (l.answer.keys ≡ 0) × (l.answer.headers ≡ 0)
  pub size : l.answer.number ≡ 1 → l.map ≡ map
  pub damage : l.answer.number ≡ 2 → l.map ≡ replicate (length map) 0
  pub same_words : length l.pool ≡ length pool
  pub same_bytes : length l.map ≡ length map

-- "A step or a finish gives 0 or 5 only", and 5 leaves everything unchanged
pub record Stays (memory : List ℕ) (a : After) : Type 0 where
  pub number : OneOf (0 ∷ 5 ∷ []) a.number
  pub refusal : a.number ≡ 5 → a.left ≡ memory
  pub same_length : length a.left ≡ length memory

pub record Demand1 : Type 0 where
  pub lookup : (pool : List ℕ) (k : ℕ) (a : Answer) → LookupGives pool k a → LookupSays a
  pub quick : (pool : List ℕ) (k : ℕ) (a : Answer) → QuickGives pool k a → LookupSays a
  pub list : (pool : List ℕ) (from : ℕ) (ks vs : List ℕ) (s : Shown) → ListGives pool from ks vs s → ListSays ks vs s
  pub plan_put : (pool map : List ℕ) (k v g : ℕ) (p : Planned) → PlanPutGives pool map k v g p → Plans (0 ∷ 1 ∷ 2 ∷ 4 ∷ 7 ∷ []) pool p
  pub plan_delete : (pool : List ℕ) (k g : ℕ) (p : Planned) → PlanDeleteGives pool k g p → Plans (0 ∷ 1 ∷ 2 ∷ 3 ∷ []) pool p
  pub plan_open : (pool : List ℕ) (g : ℕ) (p : Planned) → PlanOpenGives pool g p → Plans (0 ∷ 1 ∷ 2 ∷ []) pool p
  pub put : (pool map : List ℕ) (k v : ℕ) (l : Left) → PutGives pool map k v l → Whole (0 ∷ 1 ∷ 2 ∷ 4 ∷ 7 ∷ []) pool map l
  pub delete : (pool map : List ℕ) (k : ℕ) (l : Left) → DeleteGives pool map k l → Whole (0 ∷ 1 ∷ 2 ∷ 3 ∷ []) pool map l
  pub format : (pool map : List ℕ) (n : ℕ) (f : Formatted) → FormatGives pool map n f
      → Whole (0 ∷ 1 ∷ []) pool map (left (done f.number 0) f.pool f.map)
  pub opening : (pool map : List ℕ) (l : LeftOpen) → OpenGives pool map l → OpenSays pool map l
  pub step : (p : Plan) (at : ℕ) (pool : List ℕ) (a : After) → StepGives p at pool a → Stays pool a
  pub finish : (p : Plan) (map : List ℕ) (a : After) → FinishGives p map a → Stays map a
  pub finish_words : (words map : List ℕ) (a : After) → FinishInGives words map a → Stays map a
