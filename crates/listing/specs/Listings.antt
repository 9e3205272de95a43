-- Listing: the entries from a key on, in any run of words, into two lent buffers.
-- Assumes nothing.
use Rattle.std.specs.Prelude.{◌≡◌, Bool, false, List, ℕ, zero, suc, ◌+◌, eqb, leb, ltb, length, set, replicate, None, Option, Some, Result, Ok, Err}
use Rattle.digits.specs.Choice.{pick}
use Rattle.digits.specs.Loops.{upto}
use Rattle.pool.specs.Sizes.{capacity_of}
use Rattle.pool.specs.Places.{word_at, key_at, value_at, header_at, child_at}
use Rattle.pool.specs.Refs.{ref_of}
use Rattle.pool.specs.declared.Ref.{Ref}
use Rattle.pool.specs.declared.Ref.TheVariants.{Empty, Leaf, Node, Bad}
use Rattle.walk.specs.Walks.{head_of, children_of}
use Rattle.refusals.specs.declared.Refusal.{Refusal}
use Rattle.refusals.specs.Refusals.{number_of}
use Rattle.listing.specs.declared.visit.Stop.{Stop}
use Rattle.listing.specs.declared.visit.Stop.TheVariants.{Further, Damage}
use Rattle.listing.specs.declared.visit.Listing.{Listing}
use Rattle.listing.specs.declared.Listed.{Listed}

-- the state of a visit: entries handed out, leaves met, and a phase: 0 the visit goes on, 1 a further entry was found, 2 damage was met
pub record State : Type 0 where
  pub count : ℕ
  pub met : ℕ
  pub phase : ℕ

-- the two buffers, and the state of the visit
pub record Visit : Type 0 where
  pub keys : List ℕ
  pub values : List ℕ
  pub state : State

abbrev pub state : ℕ → ℕ → ℕ → State
state c m p = record { count = c; met = m; phase = p }

abbrev pub visit : List ℕ → List ℕ → State → Visit
visit ks vs s = record { keys = ks; values = vs; state = s }

abbrev pub damaged : State → State
damaged s = state s.count s.met 2

abbrev pub spoilt : Visit → Visit
spoilt v = visit v.keys v.values (damaged v.state)

-- a leaf is met. "more than N leaves met, judged before that stop, refuses"; "It hands out leaves with key at or above a given key until the
-- two lent buffers are full, and says whether a further one was found; there it stops."
unfoldable pub leaf_of : ℕ → ℕ → ℕ → ℕ → Visit → Visit
leaf_of n from key value v =
    pick (leb n v.state.met) (spoilt v)
    (pick (ltb key from) (visit v.keys v.values (state v.state.count (v.state.met + 1) 0))
    (pick (leb (length v.keys) v.state.count) (visit v.keys v.values (state v.state.count (v.state.met + 1) 1))
    (visit (set v.keys v.state.count key) (set v.values v.state.count value) (state (v.state.count + 1) (v.state.met + 1) 0))))

-- "a node's visit visits its sixteen references, lowest first, no subtree skipped. The walk's damage rules hold at each visit: the root has
-- w = 0, a node's children w = b+1." "a childless node .. refuses"
abbrev pub kids_of : (ℕ → ℕ → Visit → Visit) → List ℕ → ℕ → ℕ → Option ℕ → Visit → Visit
kids_of go pool n j (Some b) v =
    pick (eqb (children_of pool n j) 0) (spoilt v) (upto 16 (λ c. go (b + 1) (child_at pool n j c)) v)
kids_of go pool n j None v = spoilt v

abbrev pub node_of : (ℕ → ℕ → Visit → Visit) → List ℕ → ℕ → ℕ → ℕ → Visit → Visit
node_of go pool n w j v = kids_of go pool n j (head_of w (header_at pool n j)) v

abbrev pub ref_visit : (ℕ → Visit → Visit) → List ℕ → ℕ → ℕ → Ref → Visit → Visit
ref_visit node pool n from Empty v = v
ref_visit node pool n from (Leaf i) v = leaf_of n from (key_at pool i) (value_at pool i) v
ref_visit node pool n from (Node j) v = node j v
ref_visit node pool n from Bad v = spoilt v

-- "Listing visits a reference": r, met at walk depth w, with at most so many nodes one below the other. A visit that is over does nothing.
unfoldable pub visit_from : ℕ → List ℕ → ℕ → ℕ → ℕ → ℕ → Visit → Visit
visit_from zero pool n from w r v = pick (eqb v.state.phase 0) (ref_visit (λ j. spoilt) pool n from (ref_of n r) v) v
visit_from (suc more) pool n from w r v =
    pick (eqb v.state.phase 0) (ref_visit (node_of (visit_from more pool n from) pool n w) pool n from (ref_of n r) v) v

-- a listing's answer in document 01's numbers: the last is 1 where a further entry was found, and else 0
pub record Told : Type 0 where
  pub number : ℕ
  pub count : ℕ
  pub more : ℕ

abbrev pub told : ℕ → ℕ → ℕ → Told
told k c m = record { number = k; count = c; more = m }

abbrev pub listed : ℕ → ℕ → Bool → Told
listed k c further = told k c (pick further 1 0)

-- the numbers of the code's answer
abbrev pub numbers : Result Listed Refusal → Told
numbers (Ok a) = listed 0 a.count a.more
numbers (Err r) = listed (number_of r) 0 false

-- ---- a listing of the code's
-- the phase that its last visit left
abbrev pub phase_of : Result (Unit {0}) Stop → ℕ
phase_of (Ok u) = 0
phase_of (Err Further) = 1
phase_of (Err Damage) = 2

-- the visit that it stands for
abbrev pub visited : Listing → Result (Unit {0}) Stop → Visit
visited l r = visit l.keys.now l.values.now (state l.count l.met (phase_of r))

-- the same key to begin with, and the same buffers
pub record Same (l l' : Listing) : Type 0 where
  pub from : l'.from ≡ l.from
  pub keys : l'.keys.ghost_name ≡ l.keys.ghost_name
  pub values : l'.values.ghost_name ≡ l.values.ghost_name

-- what a listing leaves: the buffers and the answer
pub record Shown : Type 0 where
  pub keys : List ℕ
  pub values : List ℕ
  pub answer : Told

abbrev pub shown : List ℕ → List ℕ → Told → Shown
shown ks vs a = record { keys = ks; values = vs; answer = a }

-- "2 | damage met | .. listing: both buffers all 0". "Entries beyond the count keep their contents."
unfoldable pub judged : Visit → Shown
judged v =
    pick (eqb v.state.phase 2)
    (shown (replicate (length v.keys) 0) (replicate (length v.values) 0) (listed 2 0 false))
    (shown v.keys v.values (listed 0 v.state.count (eqb v.state.phase 1)))

-- "6 | listing buffers of length 0 or of unequal length". "Order: 1, 6, 2"
abbrev pub list_in : List ℕ → ℕ → List ℕ → List ℕ → Option ℕ → Shown
list_in pool from ks vs (Some n) =
    pick (eqb (length ks) 0) (shown ks vs (listed 6 0 false))
    (pick (eqb (length ks) (length vs))
    (judged (visit_from 17 pool n from 0 (word_at pool 1) (visit ks vs (state 0 0 0))))
    (shown ks vs (listed 6 0 false)))
list_in pool from ks vs None = shown ks vs (listed 1 0 false)

unfoldable pub list_of : List ℕ → ℕ → List ℕ → List ℕ → Shown
list_of pool from ks vs = list_in pool from ks vs (capacity_of pool)

-- what list promises
abbrev pub ListGives : List ℕ → ℕ → List ℕ → List ℕ → Shown → Type 0
ListGives pool from ks vs s = s ≡ list_of pool from ks vs
