-- What each step of an opening comes to, by what its calls tell: the map's bytes, the header that mends a node, the first of them, all of them.
-- Assumes nothing.
use Rattle.std.specs.Prelude.{Err, None, Ok, Option, Result, Some}
use mathlib.Core.Path.{◌≡◌, refl, sym, ap, ◌∙◌}
use mathlib.Core.Bool.{Bool, true, false, not}
use mathlib.Core.List.{List, [], ◌∷◌, ◌++◌, map}
use Prim.Native.Nat.{ℕ, zero, suc, ◌+◌, ◌-◌, ◌≤◌, ◌<◌}
use native.Mathlib.Nat.{le_of_suc-le-suc, not-suc-le-zero}
use native.Mathlib.Numerals.{add-one}
use native.Mathlib.Omega.{arith}
use borrow.Author.Tests.{eq-eqb, lt-ltb, le-ltb}
use lib.Dec.{eqb}
use lib.ListN.{length, get_or, set, take, drop, replicate, get_or-map}
use Rattle.digits.specs.Choice.{pick}
use Rattle.digits.specs.Headers.{header_of}
use mir.Val.{bool_byte}
use Rattle.digits.specs.Loops.{tally}
use Rattle.tree.specs.Stores.{Store}
use Rattle.tree.proofs.Stores.{Words}
use Rattle.pool.specs.Places.{header_at, node_word, node_ref}
use Rattle.walk.specs.Walks.{head_of, lowest_of}
use Rattle.walk.specs.declared.Fault.{Fault}
use Rattle.walk.proofs.Loops.{tally_le}
use Rattle.plan.specs.Plans.{one_group, made, plan_of, planned_of, refused, Ran, ran, makes_of}
use Rattle.plan.specs.declared.Plan.{Plan}
use Rattle.plan.specs.declared.Effect.TheVariants.{Nothing}
use Rattle.plan.proofs.Laws.{makes_all}
use Rattle.survey.specs.Surveys.{survey_of, Found}
use Rattle.survey.proofs.Loops.{pick_both, tally_same}
use Rattle.opening.specs.Openings.{depth_marked, stale, stale_depth, mend_with, mend_at, mend_of, first_stale, mend_first, open_judged, mends, mend_node, reached, keys_of, opened, Left, left, restored, left_judged}

-- ---- the map's bytes
-- the first i of a list changed by f
abbrev pub changed : (ℕ → ℕ) → ℕ → List ℕ → List ℕ
changed f i l = map f (take i l) ++ drop i l

changed_turn : (f : ℕ → ℕ) (l : List ℕ) (i : ℕ) → i < length l → set (changed f i l) i (f (get_or (changed f i l) i 0)) ≡ changed f (suc i) l
changed_turn f [] i h = absurd (not-suc-le-zero h)
changed_turn f (x ∷ l) zero h = refl
changed_turn f (x ∷ l) (suc i) h = ap (λ (r : List ℕ). f x ∷ r) (changed_turn f l i (le_of_suc-le-suc h))

pub changed_next : (f : ℕ → ℕ) (l : List ℕ) (i : ℕ) {m : List ℕ} {y : ℕ} → m ≡ changed f i l → i < length l → y ≡ f (get_or m i 0)
    → set m i y ≡ changed f (i + 1) l
changed_next f l i e h q = rw (q, e, add-one i) (changed_turn f l i h)

pub few_keys : (l : List ℕ) (i : ℕ) → keys_of i l ≤ i
few_keys l i = tally_le (λ x. not (eqb (get_or l x 0) 0)) i

-- the places of a map that are not 0, as a count of its first bytes
pub key_more : (l : List ℕ) (i : ℕ) → keys_of (i + 1) l ≡ keys_of i l + bool_byte (not (eqb (get_or l i 0) 0))
unfolding tally
key_more l i = rw (add-one i, tally) (go (not (eqb (get_or l i 0) 0)))
  where
    go : (b : Bool) → keys_of i l + pick b 1 0 ≡ keys_of i l + bool_byte b
    go true = refl
    go false = refl

-- ---- a stale node
module _ (pool : List ℕ) (n : ℕ) (marks : List ℕ) (j : ℕ) where
  -- as the code answers
  pub stale_some : {w : ℕ} → Some w ≡ stale_depth pool n marks j → (stale pool n marks j ≡ true) × (w ≡ depth_marked marks n j)
  stale_some {w} e = go (stale pool n marks j) refl e
    where
      go : (t : Bool) → stale pool n marks j ≡ t → Some w ≡ pick t (Some (depth_marked marks n j)) None
          → (stale pool n marks j ≡ true) × (w ≡ depth_marked marks n j)
      go true p q = (p, cc)
      go false p q = cc

  pub unmet_fresh : get_or marks (n + j) 0 ≡ 0 → false ≡ stale pool n marks j
  unmet_fresh e = rw (eq-eqb (get_or marks (n + j) 0) 0 e)

-- ---- the header that mends a node, by what `header` and `accept` told
module _ (pool : List ℕ) (n w j : ℕ) {word : ℕ} {h : Option ℕ} (there : word ≡ header_at pool n j) (is : h ≡ head_of w word) where
  pub mend_wrong : h ≡ None → [] ≡ mend_of pool n w j
  mend_wrong e = rw (← there, ← is, e)

  module _ {b r : ℕ} (e : h ≡ Some b) (to : r ≡ node_ref j) {l : Result ℕ Fault} (low : l ≡ lowest_of pool n w 0 r) where
    pub mend_keyless : {f : Fault} → l ≡ Err f → [] ≡ mend_of pool n w j
    mend_keyless q = rw (← there, ← is, e, ← to, ← low, q)

    pub mend_header : {k v : ℕ} → l ≡ Ok k → v ≡ header_of w (b - w) k → record { word = node_word n j; value = v } ∷ [] ≡ mend_of pool n w j
    mend_header q f = rw (f, ← there, ← is, e, ← to, ← low, q)

-- ---- the first stale node
module _ (pool : List ℕ) (n : ℕ) (marks : List ℕ) where
  pub first_none : n ≤ first_stale pool n marks + 1 → mend_first pool n marks ≡ []
  first_none h = rw (le-ltb (first_stale pool n marks) (n - 1) (omega arith))

  pub first_at : (j : ℕ) → j ≡ first_stale pool n marks → j + 1 < n → mend_first pool n marks ≡ mend_of pool n (depth_marked marks n j) j
  first_at j e h = rw (← e, lt-ltb j (n - 1) (omega arith))

-- ---- one node mended
pub at_most_one_store : (pool : List ℕ) (n w j : ℕ) → length (mend_of pool n w j) ≤ 1
at_most_one_store pool n w j = go (head_of w (header_at pool n j))
  where
    low : (b : ℕ) (l : Result ℕ Fault) → length (mend_with n w j b l) ≤ 1
    low b (Ok k) = omega arith
    low b (Err f) = omega arith

    go : (h : Option ℕ) → length (mend_at pool n w j h) ≤ 1
    go (Some b) = low b (lowest_of pool n w 0 (node_ref j))
    go None = omega arith

-- and that is inside the pool
pub mend_inside : (pool : List ℕ) (n w j : ℕ) → node_word n j < length pool → Words (λ x. x < length pool) (mend_of pool n w j)
unfolding Words
mend_inside pool n w j l = go (head_of w (header_at pool n j))
  where
    low : (b : ℕ) (k : Result ℕ Fault) → Words (λ x. x < length pool) (mend_with n w j b k)
    low b (Ok k) = (l, tt)
    low b (Err f) = tt

    go : (h : Option ℕ) → Words (λ x. x < length pool) (mend_at pool n w j h)
    go (Some b) = low b (lowest_of pool n w 0 (node_ref j))
    go None = tt

module _ (n : ℕ) (marks : List ℕ) (j : ℕ) (pool : List ℕ) {t : Bool} (is : t ≡ stale pool n marks j) where
  pub mend_unneeded : t ≡ false → mends pool 0 ≡ mend_node n marks j (mends pool 0)
  mend_unneeded h = rw (← is, h)

  -- the store that mends it, if there is one, made
  pub mend_done : t ≡ true → {w r : ℕ} {σ : List Store} {l : List ℕ} → w ≡ depth_marked marks n j → node_word n j < length pool → σ ≡ mend_of pool n w j
      → ran r l ≡ makes_of (length σ) σ pool → mends l r ≡ mend_node n marks j (mends pool 0)
  mend_done needed {w} depth h q a =
      let τ : List Store = mend_of pool n w j in
      let m : ran (length τ) (made τ pool) ≡ ran (0 + length τ) (made τ pool) = ap (λ (k : ℕ). ran k (made τ pool)) (omega arith) in
      rw (← is, needed, ← depth)
      (ap (λ (z : Ran). mends z.left z.steps) (a ∙ rw q (makes_all (length τ) τ pool (omega arith) (mend_inside pool n w j h)) ∙ m))

-- ---- the map rebuilt
byte_flat : (m : ℕ) → reached m ≤ 1
byte_flat m = pick_both (λ b. b ≤ 1) (eqb m 0) (omega arith) (omega arith)

-- its bytes are 0 or 1
pub bytes_flat : (marks : List ℕ) (i : ℕ) → get_or (map reached marks) i 0 ≤ 1
bytes_flat marks i = rw (get_or-map reached marks i 0) (byte_flat (get_or marks i 0))

flat_same : (m : ℕ) → eqb (reached m) 0 ≡ eqb m 0
flat_same m = go (eqb m 0)
  where
    go : (t : Bool) → eqb (pick t 0 1) 0 ≡ t
    go true = refl
    go false = refl

-- and just as many slots are reached
pub keys_flat : (n : ℕ) (marks : List ℕ) → keys_of n (map reached marks) ≡ keys_of n marks
keys_flat n marks = tally_same _ _ n (λ i l. rw (get_or-map reached marks i 0) (ap not (flat_same (get_or marks i 0))))

-- ---- what is judged, by what `survey` told
module _ (pool : List ℕ) (n : ℕ) {m : List ℕ} {r : Bool} (told : Found m r (survey_of pool n)) where
  judged : {t : Bool} → r ≡ t → (survey_of pool n).census.sound ≡ t
  judged e = sym told.judged ∙ e

  pub plan_refused : r ≡ false → planned_of one_group (refused 2) ≡ planned_of one_group (open_judged pool n (survey_of pool n))
  plan_refused h = rw (judged h)

  pub plan_first : {p : Plan} → r ≡ true → p ≡ plan_of one_group (mend_first pool n m) Nothing
      → record { number = 0; plan = p } ≡ planned_of one_group (open_judged pool n (survey_of pool n))
  plan_first h q =
      let e = judged h in
      rw (e, q, told.marked e)

  pub open_damaged : (bytes : List ℕ) {m' : List ℕ} → r ≡ false → m' ≡ replicate (length m) 0 → length m ≡ length bytes
      → left (opened 2 0 0) pool m' ≡ left_judged pool bytes n (survey_of pool n)
  open_damaged bytes h q l = rw (judged h, q, l)

  pub open_restored : (bytes : List ℕ) {x : Left} → r ≡ true → x ≡ restored n m pool → x ≡ left_judged pool bytes n (survey_of pool n)
  open_restored bytes h q =
      let e = judged h in
      rw (e, q, told.marked e)
