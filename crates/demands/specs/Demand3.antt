-- "3. Take a freshly formatted pool and its map. Make any sequence of puts and deletes, any of them cut before, between or after its stores, the
-- stores reaching memory in order. After a cut the map is lost and opening is repeated, itself cut at any store, until one finishes. At every
-- moment lookup and listing equal the plain table holding all finished operations, and a cut one wholly or not at all: a put counts from its
-- last store, a delete from its first. An opening that is lent a map of the right length and is not cut gives 0, and no room is lost then."
-- Assumes nothing.
use Rattle.std.specs.Prelude.{◌≡◌, Bool, true, false, List, [], ◌++◌, ℕ, zero, suc, ◌-◌, ◌*◌, ◌≤◌, eqb, length, take, drop, Option, None, Some}
use Rattle.digits.specs.Choice.{pick}
use Rattle.tree.specs.Stores.{Store, Part}
use Rattle.pool.specs.Sizes.{bytes_of}
use Rattle.plan.specs.Plans.{all_but_last, the_switch, adr, eadr, made, Decided, planned_for}
use Rattle.rules.specs.Puts.{put_plan}
use Rattle.rules.specs.Deletes.{delete_plan}
use Rattle.writing.specs.Calls.{Left, put_of, delete_of, Formatted, format_of, FormatGives}
use Rattle.survey.specs.Soundness.{Sound, Stale, Straight}
use Rattle.opening.specs.Openings.{open_plan, open_of, open_steps}
use Rattle.listing.specs.Rows.{Word}
use Rattle.demands.specs.Tables.{Table, blank, given, without, Names, Reads}
use Rattle.demands.specs.Demand2.{Reading}
use Rattle.demands.specs.ByPlan.{carried_out}

-- 02 (v): "Newer machines (eADR) let stores arrive in list order; older ones (ADR) follow (ii)."
pub data Generation : Type 0 where
  ADR : Generation
  EADR : Generation

abbrev pub number_of : Generation → ℕ
number_of ADR = adr
number_of EADR = eadr

-- an operation: a put of a file number under a name, or a delete of a name
pub data Op : Type 0 where
  put : (k v : ℕ) → Word k → Op
  delete : (k : ℕ) → Word k → Op

-- its plan, its whole call, the same carried out by its plan, and what it does to the plain table
abbrev pub planned : Op → List ℕ → List ℕ → Decided
planned (put k v h) pool map = put_plan pool map k v
planned (delete k h) pool map = delete_plan pool k

abbrev pub whole : Op → List ℕ → List ℕ → Left
whole (put k v h) pool map = put_of pool map k v
whole (delete k h) pool map = delete_of pool map k

-- how many of so many stores are the first group of its plan
abbrev pub first_group : Op → ℕ → ℕ
first_group (put k v h) = all_but_last
first_group (delete k h) = the_switch

abbrev pub by_plan : Generation → Op → List ℕ → List ℕ → Left
by_plan g o pool map = carried_out (planned_for (number_of g) (first_group o) (planned o pool map)) pool map

abbrev pub effect : Op → Table → Table
effect (put k v h) T = given k v T
effect (delete k h) T = without k T

-- What a cut can leave of an operation's stores, and whether the operation then counts, is a parameter of what follows.
abbrev pub Cut : Type 1
Cut = Op → List Store → List Store → Bool → Type 0

-- 02 (ii): "a put or delete counts from its switching store", of which 01 has: "a put counts from its last store, a delete from its first". Where n of all
-- stores have arrived: a put's last is among them if all are, for it is a group of its own; a delete's first if any is, for that is its first group.
abbrev pub counts : Op → ℕ → ℕ → Bool
counts (put k v h) n all = eqb n all
counts (delete k h) zero all = false
counts (delete k h) (suc n) all = true

-- 02 (ii): "A cut leaves all earlier groups and any subset of the current one. 'Between its stores' in demand 3 reads so from now on"
pub data InGroups : Op → List Store → List Store → Bool → Type 0 where
  in_first : {o : Op} {σ τ : List Store} → Part (take (first_group o (length σ)) σ) τ → InGroups o σ τ (counts o (length τ) (length σ))
  in_second : {o : Op} {σ τ : List Store} → Part (drop (first_group o (length σ)) σ) τ
      → InGroups o σ (take (first_group o (length σ)) σ ++ τ) (counts o (length (take (first_group o (length σ)) σ ++ τ)) (length σ))

-- 01: "the stores reaching memory in order": a cut leaves the first n of them
pub data InOrder : Op → List Store → List Store → Bool → Type 0 where
  first : {o : Op} {σ : List Store} (n : ℕ) → n ≤ length σ → InOrder o σ (take n σ) (counts o n (length σ))

-- which of them a generation has
abbrev pub cuts_of : Generation → Cut
cuts_of ADR = InGroups
cuts_of EADR = InOrder

-- what one rule of cuts can leave, the other can
abbrev pub Within : Cut → Cut → Type 0
Within C C' = (o : Op) (σ τ : List Store) (b : Bool) → C o σ τ b → C' o σ τ b

-- "on ADR the caller makes the single steps and fences where the plan says, open's headers by its planning call before open itself; demand 3 reads a whole call
-- for eADR alone"
abbrev pub WholeCalls : Generation → Type 0
WholeCalls ADR = ⊥
WholeCalls EADR = Unit {0}

abbrev pub MayOpen : Generation → List ℕ → Type 0
MayOpen ADR pool = (open_plan pool).stores ≡ []
MayOpen EADR pool = Unit {0}

-- a pool of n leaves, its map where there is one, and the plain table of all finished operations and of cut ones that count
pub data Reach (B : List ℕ → Type 0) (g : Generation) (n : ℕ) : List ℕ → Option (List ℕ) → Table → Type 0 where
  -- "Take a freshly formatted pool and its map."
  fresh : (pool map : List ℕ) → (format_of pool map n).number ≡ 0 → Reach B g n (format_of pool map n).pool (Some (format_of pool map n).map) blank
  -- 02 (x): "Such entries in existing pools are still found, listed, replaced, deleted and opened." A pool that is there already, of the kind B: it is sound,
  -- reads as a table, and has no map, so that it is opened first.
  existing : {pool : List ℕ} {T : Table} (s : Sound pool) → s.n ≡ n → B pool → Names T → Reads pool T → Reach B g n pool None T
  -- "Make any sequence of puts and deletes"
  done : {pool map : List ℕ} {T : Table} (o : Op) → WholeCalls g → Reach B g n pool (Some map) T → (whole o pool map).done.number ≡ 0
      → Reach B g n (whole o pool map).pool (Some (whole o pool map).map) (effect o T)
  -- the same by its plan: all steps in order, and the finish
  stepped : {pool map : List ℕ} {T : Table} (o : Op) → Reach B g n pool (Some map) T → (planned o pool map).number ≡ 0
      → Reach B g n (by_plan g o pool map).pool (Some (by_plan g o pool map).map) (effect o T)
  refused : {pool map : List ℕ} {T : Table} (o : Op) → WholeCalls g → Reach B g n pool (Some map) T → ((whole o pool map).done.number ≡ 0 → ⊥)
      → Reach B g n (whole o pool map).pool (Some (whole o pool map).map) T
  -- "any of them cut before, between or after its stores" "After a cut the map is lost"
  cut : {pool map : List ℕ} {T : Table} (o : Op) (τ : List Store) (b : Bool) → Reach B g n pool (Some map) T → (planned o pool map).number ≡ 0
      → cuts_of g o (planned o pool map).stores τ b → Reach B g n (made τ pool) None (pick b (effect o T) T)
  lost : {pool map : List ℕ} {T : Table} → Reach B g n pool (Some map) T → Reach B g n pool None T
  -- "opening is repeated, itself cut at any store"
  reopening : {pool : List ℕ} {T : Table} (k : ℕ) → Reach B g n pool None T → Reach B g n (open_steps k pool) None T
  -- "until one finishes"
  opened : {pool : List ℕ} {T : Table} (bytes : List ℕ) → MayOpen g pool → Reach B g n pool None T → length bytes ≡ bytes_of n
      → Reach B g n (open_of pool bytes).pool (Some (open_of pool bytes).map) T

-- what is promised of every state that is reached
pub record Promised (n : ℕ) (pool : List ℕ) (map : Option (List ℕ)) (T : Table) : Type 0 where
  -- "At every moment lookup and listing equal the plain table"
  pub reads : Reads pool T
  -- "An opening that is lent a map of the right length and is not cut gives 0"
  pub opens : (bytes : List ℕ) → length bytes ≡ bytes_of n → (open_of pool bytes).answer.number ≡ 0
  -- "and no room is lost then": where there is a map, the pool and the map are as demand 2 asks, with the same table
  pub room : (bytes : List ℕ) → map ≡ Some bytes → (r : Reading pool bytes T) × (r.sound.n ≡ n)

-- sequences begin at a freshly formatted pool, or at any pool that is there already
abbrev pub Any : List ℕ → Type 0
Any pool = Unit {0}

abbrev pub Demand3 : Generation → Type 0
Demand3 g = (n : ℕ) (pool : List ℕ) (map : Option (List ℕ)) (T : Table) → Reach Any g n pool map T → Promised n pool map T

-- Format accepts every capacity with a pool and a map of its length, so that the states reached begin at each: "Its capacity N is 1 to 1024 leaves", "The pool
-- has exactly 19N-15 words", a map "of 2N-1 bytes".
abbrev pub Begins : Type 0
Begins =
    (n : ℕ) (pool map : List ℕ) → 1 ≤ n → n ≤ 1024 → length pool ≡ 19 * n - 15 → length map ≡ 2 * n - 1
    → (f : Formatted) → FormatGives pool map n f → f.number ≡ 0

-- And beside the demand: in every state that is reached from a formatted pool, or from one that is straight, at most one header is stale.
abbrev pub AtMostOneStale : Generation → Type 0
AtMostOneStale g =
    (n : ℕ) (pool : List ℕ) (map : Option (List ℕ)) (T : Table) → Reach Straight g n pool map T → (j j' : ℕ) → Stale pool n j → Stale pool n j' → j ≡ j'

-- 02 (v): "Prove once that an ADR cut can leave every state an eADR cut can, so demand 3 covers both.": a cut, and with it every state that is reached
pub record Covers : Type 1 where
  pub cuts : Within (cuts_of EADR) (cuts_of ADR)
  pub states : (B : List ℕ → Type 0) (n : ℕ) (pool : List ℕ) (map : Option (List ℕ)) (T : Table) → Reach B EADR n pool map T → Reach B ADR n pool map T
