-- Demand 1 by cause: "Wrong sizes, damage, an absent name, no room: each has its number". For every pool, map, plan and key, which number a call
-- gives back exactly when; what the call leaves is in Demand1.
-- Assumes nothing.
use Rattle.std.specs.Prelude.{◌≡◌, false, ◌↔◌, ◌≢◌, ◌⊎◌, List, ℕ, ◌≤◌, ◌<◌, length, get_or}
use Rattle.pool.specs.Sizes.{Sized, bytes_of}
use Rattle.pool.specs.Places.{word_at}
use Rattle.plan.specs.Plans.{all_but_last, the_switch, one_group, adr, eadr, planned_for, step_of}
use Rattle.plan.specs.declared.Plan.{Plan}
use Rattle.plan.specs.declared.Effect.{Effect}
use Rattle.plan.specs.declared.Effect.TheVariants.{Nothing, TakesLeaf, TakesBoth, FreesLeaf, FreesBoth}
use Rattle.finishing.specs.Finishes.{finish_of}
use Rattle.finding.specs.Lookups.{answer, lookup_of, quick_of}
use Rattle.listing.specs.Listings.{listed, list_of}
use Rattle.rules.specs.Puts.{put_plan}
use Rattle.rules.specs.Deletes.{delete_plan}
use Rattle.writing.specs.Calls.{put_of, delete_of, format_of}
use Rattle.survey.specs.Soundness.{Sound}
use Rattle.opening.specs.Openings.{open_plan, open_of}
use Rattle.demands.specs.Ways.{Lookup, Quick, Delete, Put, Listing}

-- the answer x is a exactly when a cause of a is there
abbrev pub Exactly : {A : Type 0} → A → (A → Type 0) → Type 0
Exactly {A} x Cause = (a : A) → (x ≡ a) ↔ Cause a

-- a call that asks one thing: 0 where it is so, else the number k
pub data Asks (P : Type 0) (k : ℕ) : ℕ → Type 0 where
  so : P → Asks P k 0
  not_so : (P → ⊥) → Asks P k k

-- "1 | size: N, word 0, pool length or map length wrong". "Number 1 judges a map only where one is lent"
abbrev pub Fits : List ℕ → ℕ → Type 0
Fits pool n = Sized pool n × (word_at pool 0 ≡ n)

abbrev pub FitsMap : List ℕ → List ℕ → ℕ → Type 0
FitsMap pool bytes n = Fits pool n × (length bytes ≡ bytes_of n)

-- "Order: 1, .." A call that judges sizes first: `one` is its answer with number 1, and what fits N leaves has N's causes.
pub data After {A : Type 0} (one : A) (Fit : ℕ → Type 0) (Cause : ℕ → A → Type 0) : A → Type 0 where
  wrong : ((n : ℕ) → Fit n → ⊥) → After one Fit Cause one
  right : {a : A} (n : ℕ) → Fit n → Cause n a → After one Fit Cause a

-- the map bytes that an effect names are among n
abbrev pub Named : Effect → ℕ → Type 0
Named Nothing n = Unit {0}
Named (TakesLeaf a) n = a < n
Named (TakesBoth a b) n = (a < n) × (b < n)
Named (FreesLeaf a) n = a < n
Named (FreesBoth a b) n = (a < n) × (b < n)

-- 02 (x): "Puts of file number 0 are refused, for new and held keys alike. .. 7, after 1 and before 2."
pub data Retires (v : ℕ) (Cause : ℕ → Type 0) : ℕ → Type 0 where
  retired : v ≡ 0 → Retires v Cause 7
  other : {x : ℕ} → v ≢ 0 → Cause x → Retires v Cause x

-- 02 (v): "Refusals: any other generation is 1, before all else."
pub data Generations (g : ℕ) (Cause : ℕ → Type 0) : ℕ → Type 0 where
  unknown : g ≢ adr → g ≢ eadr → Generations g Cause 1
  known : {x : ℕ} → (g ≡ adr) ⊎ (g ≡ eadr) → Cause x → Generations g Cause x

pub record Causes : Type 0 where
  pub lookup : (pool : List ℕ) (k : ℕ) → Exactly (lookup_of pool k) (After (answer 1 0 0) (Fits pool) (λ n. Lookup pool n k))
  pub quick : (pool : List ℕ) (k : ℕ) → Exactly (quick_of pool k) (After (answer 1 0 0) (Fits pool) (λ n. Quick pool n k))
  pub list : (pool : List ℕ) (from : ℕ) (ks vs : List ℕ)
      → Exactly (list_of pool from ks vs).answer (After (listed 1 0 false) (Fits pool) (λ n. Listing pool n from (length ks) (length vs)))
  pub plan_put : (pool bytes : List ℕ) (k v g : ℕ)
      → Exactly (planned_for g all_but_last (put_plan pool bytes k v)).number
      (Generations g (After 1 (FitsMap pool bytes) (λ n. Retires v (Put pool n bytes k))))
  pub put : (pool bytes : List ℕ) (k v : ℕ) → Exactly (put_of pool bytes k v).done.number (After 1 (FitsMap pool bytes) (λ n. Retires v (Put pool n bytes k)))
  pub plan_delete : (pool : List ℕ) (k g : ℕ)
      → Exactly (planned_for g the_switch (delete_plan pool k)).number (Generations g (After 1 (Fits pool) (λ n. Delete pool n k)))
  pub delete : (pool bytes : List ℕ) (k : ℕ) → Exactly (delete_of pool bytes k).done.number (After 1 (FitsMap pool bytes) (λ n. Delete pool n k))
  -- "Open checks soundness of the whole pool first"
  pub plan_open : (pool : List ℕ) (g : ℕ)
      → Exactly (planned_for g one_group (open_plan pool)).number (Generations g (After 1 (Fits pool) (λ n. Asks (Sound pool) 2)))
  pub opening : (pool bytes : List ℕ) → Exactly (open_of pool bytes).answer.number (After 1 (FitsMap pool bytes) (λ n. Asks (Sound pool) 2))
  -- "A planning call answers the first such store as a plan, or a plan of none"
  pub one_store : (pool : List ℕ) → length (open_plan pool).stores ≤ 1
  -- "format does not judge word 0"
  pub format : (pool bytes : List ℕ) (n : ℕ) → Exactly (format_of pool bytes n).number (Asks (Sized pool n × (length bytes ≡ bytes_of n)) 1)
  -- "5 | step: count over 21, step number not below the count, or its word outside the pool; finish: a named map byte outside the map"
  pub step : (p : Plan) (i : ℕ) (pool : List ℕ)
      → Exactly (step_of p i pool).number (Asks ((p.count ≤ 21) × (i < p.count) × (get_or p.words i 0 < length pool)) 5)
  pub finish : (e : Effect) (bytes : List ℕ) → Exactly (finish_of e bytes).number (Asks (Named e (length bytes)) 5)
