-- Opening: judge the whole pool, mend the stale headers, mark what is reached.
-- Assumes nothing.
use Rattle.std.specs.Prelude.{◌≡◌, Bool, false, not, List, [], ◌∷◌, map, ℕ, zero, suc, ◌+◌, ◌-◌, eqb, ltb, length, get_or, replicate, Option, Some, None, Result, Ok, Err}
use Rattle.digits.specs.Choice.{pick}
use Rattle.digits.specs.Loops.{upto, scan, tally}
use Rattle.digits.specs.Headers.{header_of, depth_of}
use Rattle.tree.specs.Stores.{Store}
use Rattle.pool.specs.Sizes.{capacity_of, bytes_of}
use Rattle.pool.specs.Places.{header_at, node_word, node_ref}
use Rattle.walk.specs.declared.Fault.{Fault}
use Rattle.walk.specs.Walks.{head_of, lowest_of}
use Rattle.plan.specs.Plans.{one_group, made, Decided, decided, refused, planned_for, Planned}
use Rattle.plan.specs.declared.Effect.TheVariants.{Nothing}
use Rattle.survey.specs.Surveys.{Survey, survey_of}
use Rattle.refusals.specs.Refusals.{number_of}
use Rattle.refusals.specs.declared.Refusal.{Refusal}
use Rattle.opening.specs.declared.mending.Opened.{Opened}

-- the walk depth that a mark says
abbrev pub depth_marked : List ℕ → ℕ → ℕ → ℕ
depth_marked marks n j = get_or marks (n + j) 0 - 1

-- "A node with h > w is stale": node j was met at the walk depth that its mark says
abbrev pub stale : List ℕ → ℕ → List ℕ → ℕ → Bool
stale pool n marks j = pick (eqb (get_or marks (n + j) 0) 0) false (ltb (depth_marked marks n j) (depth_of (header_at pool n j)))

-- the code's answer for node j: the walk depth at which it was met, where it is stale
abbrev pub stale_depth : List ℕ → ℕ → List ℕ → ℕ → Option ℕ
stale_depth pool n marks j = pick (stale pool n marks j) (Some (depth_marked marks n j)) None

-- "rewrites each stale header (depth w, same branch place, digits from w of the keys below) as one store each": node j, which branches at b
abbrev pub mend_with : ℕ → ℕ → ℕ → ℕ → Result ℕ Fault → List Store
mend_with n w j b (Ok k) = record { word = node_word n j; value = header_of w (b - w) k } ∷ []
mend_with n w j b (Err f) = []

-- the lowest leaf is looked for after the whole pool was judged: no word is named
abbrev pub mend_at : List ℕ → ℕ → ℕ → ℕ → Option ℕ → List Store
mend_at pool n w j (Some b) = mend_with n w j b (lowest_of pool n w 0 (node_ref j))
mend_at pool n w j None = []

abbrev pub mend_of : List ℕ → ℕ → ℕ → ℕ → List Store
mend_of pool n w j = mend_at pool n w j (head_of w (header_at pool n j))

-- the stores of the code's answer for node j
abbrev pub fresh_stores : ℕ → ℕ → Option ℕ → List Store
fresh_stores n j (Some word) = record { word = node_word n j; value = word } ∷ []
fresh_stores n j None = []

-- "A planning call answers the first such store as a plan, or a plan of none": "lower-numbered nodes first"
abbrev pub first_stale : List ℕ → ℕ → List ℕ → ℕ
first_stale pool n marks = scan (n - 1) 0 (stale pool n marks)

abbrev pub mend_first : List ℕ → ℕ → List ℕ → List Store
mend_first pool n marks =
    pick (ltb (first_stale pool n marks) (n - 1))
    (mend_of pool n (depth_marked marks n (first_stale pool n marks)) (first_stale pool n marks))
    []

-- "Open checks soundness of the whole pool first"
abbrev pub open_judged : List ℕ → ℕ → Survey → Decided
open_judged pool n v = pick v.census.sound (decided (mend_first pool n v.marks) Nothing) (refused 2)

abbrev pub open_in : List ℕ → Option ℕ → Decided
open_in pool (Some n) = open_judged pool n (survey_of pool n)
open_in pool None = refused 1

unfoldable pub open_plan : List ℕ → Decided
open_plan pool = open_in pool (capacity_of pool)

-- what plan_open promises for a generation
abbrev pub PlanOpenGives : List ℕ → ℕ → Planned → Type 0
PlanOpenGives pool g p = p ≡ planned_for g one_group (open_plan pool)

-- the pool, and how many headers were rewritten
pub record Mended : Type 0 where
  pub pool : List ℕ
  pub headers : ℕ

abbrev pub mends : List ℕ → ℕ → Mended
mends pool h = record { pool = pool; headers = h }

abbrev pub mend_node : ℕ → List ℕ → ℕ → Mended → Mended
mend_node n marks j v =
    pick (stale v.pool n marks j)
    (mends (made (mend_of v.pool n (depth_marked marks n j) j) v.pool) (v.headers + length (mend_of v.pool n (depth_marked marks n j) j)))
    v

-- "open makes just these in turn": the stale headers among the first i nodes mended, lowest first
abbrev pub mended : ℕ → List ℕ → ℕ → List ℕ → Mended
mended n marks i pool = upto i (mend_node n marks) (mends pool 0)

-- "A map byte is then 1 exactly if its slot is reached."
abbrev pub reached : ℕ → ℕ
reached mark = pick (eqb mark 0) 0 1

-- how many leaves are reached
abbrev pub keys_of : ℕ → List ℕ → ℕ
keys_of n marks = tally n (λ i. not (eqb (get_or marks i 0) 0))

-- what an opening answers: 01's number, how many keys are held, how many headers were rewritten
pub record Answer : Type 0 where
  pub number : ℕ
  pub keys : ℕ
  pub headers : ℕ

abbrev pub opened : ℕ → ℕ → ℕ → Answer
opened k c h = record { number = k; keys = c; headers = h }

-- the same of the code's answer, by its cases: 0 is done, and a refusal counts nothing
abbrev pub told : Result Opened Refusal → Answer
told (Ok a) = opened 0 a.keys a.headers
told (Err r) = opened (number_of r) 0 0

-- what an opening leaves: the answer, the pool and the map
pub record Left : Type 0 where
  pub answer : Answer
  pub pool : List ℕ
  pub map : List ℕ

abbrev pub left : Answer → List ℕ → List ℕ → Left
left a pool bytes = record { answer = a; pool = pool; map = bytes }

-- a sound pool with these marks: its stale headers rewritten, its map rebuilt. "It answers the number of keys and of headers rewritten."
abbrev pub restored : ℕ → List ℕ → List ℕ → Left
restored n marks pool =
    left (opened 0 (keys_of n marks) (mended n marks (n - 1) pool).headers) (mended n marks (n - 1) pool).pool (map reached marks)

-- "2 | damage met | pool unchanged; open: map all 0"
abbrev pub left_judged : List ℕ → List ℕ → ℕ → Survey → Left
left_judged pool bytes n v =
    pick v.census.sound (restored n v.marks pool) (left (opened 2 0 0) pool (replicate (length bytes) 0))

abbrev pub left_in : List ℕ → List ℕ → Option ℕ → Left
left_in pool bytes (Some n) =
    pick (eqb (length bytes) (bytes_of n)) (left_judged pool bytes n (survey_of pool n)) (left (opened 1 0 0) pool bytes)
left_in pool bytes None = left (opened 1 0 0) pool bytes

unfoldable pub open_of : List ℕ → List ℕ → Left
open_of pool bytes = left_in pool bytes (capacity_of pool)

-- what open promises
abbrev pub OpenGives : List ℕ → List ℕ → Left → Type 0
OpenGives pool bytes l = l ≡ open_of pool bytes

-- opening's first k stores, each the answer of the planning call on the pool as it then is
unfoldable pub open_steps : ℕ → List ℕ → List ℕ
open_steps zero pool = pool
open_steps (suc k) pool = open_steps k (made (open_plan pool).stores pool)
