-- What a survey marks: slots that were not marked before, one after the other. So it meets each slot at most once: at most n leaves and n - 1
-- nodes, and as many leaves as it finds keys. Assumes nothing.
use Rattle.std.specs.Prelude.{None, Option, Some}
use mathlib.Core.Path.{◌≡◌, refl, sym, ◌∙◌}
use mathlib.Core.Bool.{Bool, true, false, not}
use mathlib.Core.List.{List, [], ◌∷◌}
use mathlib.Core.Logic.{◌≢◌}
use Prim.Native.Nat.{ℕ, zero, suc, ◌+◌, ◌-◌, ◌≤◌, ◌<◌}
use native.Mathlib.Omega.{arith}
use borrow.Author.Tests.{eqb-true, eq-eqb, ne_eqb}
use lib.Dec.{eqb, ltb}
use lib.ListN.{length, get_or, set, replicate, length-set, length-replicate}
use lib.Seq.{get_or-set_same, get_or-set_other}
use Rattle.digits.specs.Choice.{pick}
use Rattle.digits.specs.Loops.{upto, tally}
use Rattle.pool.specs.Sizes.{bytes_of}
use Rattle.pool.specs.Places.{word_at, key_at, header_at, child_at}
use Rattle.pool.specs.Refs.{ref_of, Within}
use Rattle.pool.specs.declared.Ref.{Ref}
use Rattle.pool.specs.declared.Ref.TheVariants.{Empty, Leaf, Node, Bad}
use Rattle.pool.proofs.Refs.{within}
use Rattle.walk.specs.Walks.{head_of, Between, children_of}
use Rattle.walk.proofs.Heads.{between}
use Rattle.walk.proofs.Loops.{tally_le}
use Rattle.survey.specs.Surveys.{Survey, survey, census, leaf_met, Gathered, gathered, gather, kid_of, closed, node_met, ref_met, survey_from, survey_of}
use Rattle.survey.proofs.Loops.{pick_both, upto_keeps, tally_flip, tally_same}
use Rattle.survey.proofs.Surveys.{node_from, survey_turn}
use Rattle.opening.specs.Openings.{keys_of}

-- from the marks m to m' by marking leaves and nodes, each of which was not marked before
pub data Marking (n : ℕ) : List ℕ → List ℕ → Type 0 where
  none : {m : List ℕ} → Marking n m m
  leaf : {m m' : List ℕ} (i : ℕ) → i < n → get_or m i 0 ≡ 0 → Marking n (set m i 1) m' → Marking n m m'
  node : {m m' : List ℕ} (j w : ℕ) → j + 1 < n → w < 16 → get_or m (n + j) 0 ≡ 0 → Marking n (set m (n + j) (w + 1)) m' → Marking n m m'

-- how many leaves and how many nodes are marked
abbrev pub leaves : {n : ℕ} {m m' : List ℕ} → Marking n m m' → ℕ
leaves none = 0
leaves (leaf i l z t) = leaves t + 1
leaves (node j w l g z t) = leaves t

abbrev pub nodes : {n : ℕ} {m m' : List ℕ} → Marking n m m' → ℕ
nodes none = 0
nodes (leaf i l z t) = nodes t
nodes (node j w l g z t) = nodes t + 1

and_then : {n : ℕ} {m m' m'' : List ℕ} → Marking n m m' → Marking n m' m'' → Marking n m m''
and_then none u = u
and_then (leaf i l z t) u = leaf i l z (and_then t u)
and_then (node j w l g z t) u = node j w l g z (and_then t u)

-- ---- every survey is such a marking
module _ (pool : List ℕ) (n : ℕ) where
  leaf_marking : (i key : ℕ) (v : Survey) → i < n → Marking n v.marks (leaf_met i key v).marks
  unfolding leaf_met
  leaf_marking i key v l = go (eqb (get_or v.marks i 0) 0) refl
    where
      go : (t : Bool) → eqb (get_or v.marks i 0) 0 ≡ t
          → Marking n v.marks (pick t (survey (set v.marks i 1) (census key true)) (survey v.marks (census v.census.last false))).marks
      go true e = leaf i l (eqb-true (get_or v.marks i 0) 0 e) none
      go false e = none

  module _ (go : ℕ → ℕ → Survey → Survey) (marks : (d r : ℕ) (u : Survey) → Marking n u.marks (go d r u).marks) where
    kids_marking : (j b : ℕ) (g : Gathered) → Marking n g.marks (upto 16 (kid_of go pool n j b) g).marks
    unfolding upto
    kids_marking j b g =
        let P : Gathered → Type 0 = λ x. Marking n g.marks x.marks in
        upto_keeps (kid_of go pool n j b) g P
        (λ c x p. pick_both P (eqb (child_at pool n j c) 0) p (and_then p (marks (b + 1) (child_at pool n j c) (survey x.marks x.sum.census)))) 0 16
        (omega arith) none

    node_marking : (w j : ℕ) (v : Survey) → j + 1 < n → (h : Option ℕ) → Between w h → Marking n v.marks (node_met go pool n w j h v).marks
    node_marking w j v l (Some b) g =
        pick_both (λ (x : Survey). Marking n v.marks x.marks) (ltb (children_of pool n j) 2) none (met (eqb (get_or v.marks (n + j) 0) 0) refl)
      where
        kids : Gathered
        kids = upto 16 (kid_of go pool n j b) (gathered (set v.marks (n + j) (w + 1)) (gather v.census 0 false))

        met : (t : Bool) → eqb (get_or v.marks (n + j) 0) 0 ≡ t
            → Marking n v.marks (pick t (closed (header_at pool n j) kids) (survey v.marks (census v.census.last false))).marks
        met true e =
            node j w l (omega arith) (eqb-true (get_or v.marks (n + j) 0) 0 e)
            (kids_marking j b (gathered (set v.marks (n + j) (w + 1)) (gather v.census 0 false)))
        met false e = none
    node_marking w j v l None g = none

  ref_marking : (f w r : ℕ) (v : Survey) → ((j : ℕ) → j + 1 < n → Marking n v.marks (node_from pool n f w j v).marks)
      → Marking n v.marks (survey_from f pool n w r v).marks
  ref_marking f w r v below =
      rw (survey_turn pool n f w r v) (pick_both (λ (x : Survey). Marking n v.marks x.marks) v.census.sound (at (ref_of n r) (within n r)) none)
    where
      at : (x : Ref) → Within n x → Marking n v.marks (ref_met (node_from pool n f w) pool n x v).marks
      at Empty l = none
      at (Leaf i) l = leaf_marking i (key_at pool i) v l
      at (Node j) l = below j l
      at Bad l = none

  pub survey_marking : (f w r : ℕ) (v : Survey) → Marking n v.marks (survey_from f pool n w r v).marks
  survey_marking zero w r v = ref_marking 0 w r v (λ j l. none)
  survey_marking (suc f) w r v =
      ref_marking (suc f) w r v
      (λ j l. node_marking (survey_from f pool n) (survey_marking f) w j v l (head_of w (header_at pool n j)) (between w (header_at pool n j)))

-- ---- what a marking keeps and what it adds
-- the marks stay as many
pub marking_length : {n : ℕ} {m m' : List ℕ} → Marking n m m' → length m' ≡ length m
marking_length none = refl
marking_length {m = m} (leaf i l z t) = marking_length t ∙ length-set m i 1
marking_length {n = n} {m = m} (node j w l g z t) = marking_length t ∙ length-set m (n + j) (w + 1)

pub survey_keeps_length : (pool : List ℕ) (n f w r : ℕ) (v : Survey) → length (survey_from f pool n w r v).marks ≡ length v.marks
survey_keeps_length pool n f w r v = marking_length (survey_marking pool n f w r v)

-- what is marked stays as it is
kept : (m : List ℕ) (x a i : ℕ) → get_or m x 0 ≡ 0 → (get_or m i 0 ≡ 0 → ⊥) → get_or (set m x a) i 0 ≡ get_or m i 0
kept m x a i z h = get_or-set_other m x i a 0 (λ e. h (rw e z))

pub marking_keeps : {n : ℕ} {m m' : List ℕ} → Marking n m m' → (i : ℕ) → (get_or m i 0 ≡ 0 → ⊥) → get_or m' i 0 ≡ get_or m i 0
marking_keeps none i h = refl
marking_keeps {m = m} (leaf x l z t) i h =
    let e = kept m x 1 i z h in
    marking_keeps t i (rw e h) ∙ e
marking_keeps {n = n} {m = m} (node j w l g z t) i h =
    let e = kept m (n + j) (w + 1) i z h in
    marking_keeps t i (rw e h) ∙ e

set_small : (m : List ℕ) (x a : ℕ) → a ≤ 16 → ((i : ℕ) → get_or m i 0 ≤ 16) → (i : ℕ) → get_or (set m x a) i 0 ≤ 16
set_small [] x a l h i = h i
set_small (y ∷ m) zero a l h zero = l
set_small (y ∷ m) zero a l h (suc i) = h (suc i)
set_small (y ∷ m) (suc x) a l h zero = h zero
set_small (y ∷ m) (suc x) a l h (suc i) = set_small m x a l (λ k. h (suc k)) i

-- a mark fits a byte
pub marking_small : {n : ℕ} {m m' : List ℕ} → Marking n m m' → ((i : ℕ) → get_or m i 0 ≤ 16) → (i : ℕ) → get_or m' i 0 ≤ 16
marking_small none h i = h i
marking_small {m = m} (leaf x l z t) h i = marking_small t (set_small m x 1 (omega arith) h) i
marking_small {n = n} {m = m} (node j w l g z t) h i = marking_small t (set_small m (n + j) (w + 1) (omega arith) h) i

-- a slot is marked
abbrev pub marked : List ℕ → ℕ → Bool
marked m x = not (eqb (get_or m x 0) 0)

-- how many nodes are marked; `keys_of` says how many leaves
abbrev pub nodes_of : ℕ → List ℕ → ℕ
nodes_of n m = tally (n - 1) (λ j. marked m (n + j))

-- a slot of a map that had no mark is marked
module _ (m : List ℕ) (x a : ℕ) (inside : x < length m) (z : get_or m x 0 ≡ 0) (h : 1 ≤ a) where
  marked_before : marked m x ≡ false
  marked_before = rw (eq-eqb (get_or m x 0) 0 z)

  marked_after : marked (set m x a) x ≡ true
  marked_after = rw (get_or-set_same m x a 0 inside, ne_eqb a 0 (λ e. omega arith))

  marked_else : (i : ℕ) → i ≢ x → marked m i ≡ marked (set m x a) i
  marked_else i l = rw (get_or-set_other m x i a 0 l)

-- each leaf that is marked is one key more, each node one node more
module _ (n : ℕ) (m : List ℕ) (long : length m ≡ bytes_of n) where
  leaf_more : (i : ℕ) → i < n → get_or m i 0 ≡ 0 → (keys_of n (set m i 1) ≡ keys_of n m + 1) × (nodes_of n (set m i 1) ≡ nodes_of n m)
  leaf_more i l z = (
    tally_flip (marked m) (marked (set m i 1)) n i l (marked_before m i 1 (omega arith) z (omega arith)) (marked_after m i 1 (omega arith) z (omega arith))
        (λ k b. marked_else m i 1 (omega arith) z (omega arith) k),
    sym (tally_same (λ j. marked m (n + j)) (λ j. marked (set m i 1) (n + j)) (n - 1)
        (λ j b. marked_else m i 1 (omega arith) z (omega arith) (n + j) (λ e. omega arith))),
  )

  node_more : (j w : ℕ) → j + 1 < n → get_or m (n + j) 0 ≡ 0
      → (keys_of n (set m (n + j) (w + 1)) ≡ keys_of n m) × (nodes_of n (set m (n + j) (w + 1)) ≡ nodes_of n m + 1)
  node_more j w l z =
      let x = n + j in
      let a = w + 1 in (
        sym (tally_same (marked m) (marked (set m x a)) n (λ i b. marked_else m x a (omega arith) z (omega arith) i (λ e. omega arith))),
        tally_flip (λ k. marked m (n + k)) (λ k. marked (set m x a) (n + k)) (n - 1) j (omega arith) (marked_before m x a (omega arith) z (omega arith))
            (marked_after m x a (omega arith) z (omega arith)) (λ k b q. marked_else m x a (omega arith) z (omega arith) (n + k) (λ e. q (omega arith))),
      )

pub marking_counts : {n : ℕ} {m m' : List ℕ} (t : Marking n m m') → length m ≡ bytes_of n
    → (keys_of n m' ≡ keys_of n m + leaves t) × (nodes_of n m' ≡ nodes_of n m + nodes t)
marking_counts none long = (omega arith, omega arith)
marking_counts {n} {m} (leaf i l z t) long =
    let c = leaf_more n m long i l z in
    let d = marking_counts t (length-set m i 1 ∙ long) in
    (omega arith, omega arith)
marking_counts {n} {m} (node j w l g z t) long =
    let c = node_more n m long j w l z in
    let d = marking_counts t (length-set m (n + j) (w + 1) ∙ long) in
    (omega arith, omega arith)

-- ---- the survey of a whole pool
unmarked_at : (k i : ℕ) → get_or {A = ℕ} (replicate k 0) i 0 ≡ 0
unmarked_at zero i = refl
unmarked_at (suc k) zero = refl
unmarked_at (suc k) (suc i) = unmarked_at k i

module _ (pool : List ℕ) (n : ℕ) where
  -- the slots that it meets, in their order
  pub slots_met : Marking n (replicate (bytes_of n) 0) (survey_of pool n).marks
  unfolding survey_of
  slots_met = survey_marking pool n 17 0 (word_at pool 1) (survey (replicate (bytes_of n) 0) (census 0 true))

  pub survey_length : length (survey_of pool n).marks ≡ bytes_of n
  survey_length = marking_length slots_met ∙ length-replicate (bytes_of n) 0

  no_tally : (f : ℕ → ℕ) (k : ℕ) → tally k (λ i. marked (replicate (bytes_of n) 0) (f i)) ≡ 0
  unfolding tally
  no_tally f zero = refl
  no_tally f (suc k) = rw (unmarked_at (bytes_of n) (f k)) (omega (arith, no_tally f k))

  -- as many leaves as keys, and no more than there are; no more nodes than there are
  pub leaves_met : leaves slots_met ≡ keys_of n (survey_of pool n).marks
  leaves_met = omega (arith, marking_counts slots_met (length-replicate (bytes_of n) 0), no_tally (λ i. i) n)

  pub few_leaves_met : leaves slots_met ≤ n
  few_leaves_met = omega (arith, leaves_met, tally_le (marked (survey_of pool n).marks) n)

  pub few_nodes_met : nodes slots_met ≤ n - 1
  few_nodes_met =
      omega (
        arith,
        marking_counts slots_met (length-replicate (bytes_of n) 0),
        no_tally (λ j. n + j) (n - 1),
        tally_le
            (λ j. marked (survey_of pool n).marks (n + j)) (n - 1),
      )

  -- a mark is at most 16
  pub survey_small : (i : ℕ) → get_or (survey_of pool n).marks i 0 ≤ 16
  survey_small = marking_small slots_met (λ i. omega (arith, unmarked_at (bytes_of n) i))
