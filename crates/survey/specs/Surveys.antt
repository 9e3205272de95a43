-- The survey of a whole pool: whether all that is reached from the root is sound, and what is reached. It goes as a listing's visit goes.
-- Assumes nothing.
use Rattle.std.specs.Prelude.{◌≡◌, Bool, true, false, List, ℕ, zero, suc, ◌+◌, ◌<◌, eqb, leb, ltb, get_or, set, replicate, Option, Some, None}
use Rattle.digits.specs.Choice.{pick}
use Rattle.digits.specs.Loops.{upto}
use Rattle.digits.specs.Digits.{digit_of, first_diff}
use Rattle.digits.specs.Headers.{header_of, depth_of, length_of}
use Rattle.pool.specs.Sizes.{bytes_of}
use Rattle.pool.specs.Places.{word_at, key_at, header_at, child_at}
use Rattle.pool.specs.Refs.{ref_of}
use Rattle.pool.specs.declared.Ref.{Ref}
use Rattle.pool.specs.declared.Ref.TheVariants.{Empty, Leaf, Node, Bad}
use Rattle.walk.specs.Walks.{head_of, children_of}
use Rattle.survey.specs.declared.Span.{Span}

-- the last key met, and whether all is sound so far
pub record Census : Type 0 where
  pub last : ℕ
  pub sound : Bool

-- what the children of a node so far come to: the census, a key below the first of them, and whether there was one
pub record Gather : Type 0 where
  pub census : Census
  pub first : ℕ
  pub some : Bool

-- the marks, a byte for each slot (0 where it is not reached, 1 for a leaf, 1 + w for a node met at walk depth w), and the census
pub record Survey : Type 0 where
  pub marks : List ℕ
  pub census : Census

abbrev pub survey : List ℕ → Census → Survey
survey m s = record { marks = m; census = s }

abbrev pub census : ℕ → Bool → Census
census k s = record { last = k; sound = s }

abbrev pub unsound : Census → Census
unsound s = census s.last false

abbrev pub spoilt : Survey → Survey
spoilt v = survey v.marks (unsound v.census)

-- a leaf is met. "no slot is reached twice"
unfoldable pub leaf_met : ℕ → ℕ → Survey → Survey
leaf_met i key v =
    pick (eqb (get_or v.marks i 0) 0)
    (survey (set v.marks i 1) (census key true))
    (spoilt v)

abbrev pub gather : Census → ℕ → Bool → Gather
gather s f b = record { census = s; first = f; some = b }

-- child c of a node that branches at b has been surveyed. "every key below it agrees in digits 0 to b-1 with every other; a key below child c
-- has c as digit b": held against one key of each child, since the keys below a child agree among themselves in digit b and before
unfoldable pub join_of : ℕ → ℕ → Gather → Census → Gather
join_of b c g s =
    pick s.sound
    (pick (eqb (digit_of s.last b) c)
    (pick g.some
    (pick (leb b (first_diff g.first s.last)) (gather s g.first true) (gather (unsound s) g.first true))
    (gather s s.last true))
    (gather (unsound s) g.first true))
    (gather s g.first true)

pub record Gathered : Type 0 where
  pub marks : List ℕ
  pub sum : Gather

abbrev pub gathered : List ℕ → Gather → Gathered
gathered m g = record { marks = m; sum = g }

abbrev pub kid_of : (ℕ → ℕ → Survey → Survey) → List ℕ → ℕ → ℕ → ℕ → ℕ → Gathered → Gathered
kid_of go pool n j b c g =
    pick (eqb (child_at pool n j c) 0) g
    (gathered (go (b + 1) (child_at pool n j c) (survey g.marks g.sum.census)).marks
    (join_of b c g.sum (go (b + 1) (child_at pool n j c) (survey g.marks g.sum.census)).census))

-- a header word that a walk accepts
abbrev pub Accepted : ℕ → Type 0
Accepted word = depth_of word + length_of word < 16

-- "stored digits are the keys' digits from h on, for the smaller of length and twelve, the rest zero": the header is the one that a key below
-- the node has
unfoldable pub head_judged : ℕ → Gather → Census
head_judged word g = pick (eqb (header_of (depth_of word) (length_of word) g.first) word) g.census (unsound g.census)

abbrev pub kids_of : (ℕ → ℕ → Survey → Survey) → List ℕ → ℕ → ℕ → ℕ → Survey → Gathered
kids_of go pool n j b v = upto 16 (kid_of go pool n j b) (gathered v.marks (gather v.census 0 false))

abbrev pub closed : ℕ → Gathered → Survey
closed word g = survey g.marks (head_judged word g.sum)

-- node j is met at walk depth w. "a node reached at depth w has w <= h <= b <= 15; it has at least two children"; "no slot is reached twice"
abbrev pub node_met : (ℕ → ℕ → Survey → Survey) → List ℕ → ℕ → ℕ → ℕ → Option ℕ → Survey → Survey
node_met go pool n w j (Some b) v =
    pick (ltb (children_of pool n j) 2) (spoilt v)
    (pick (eqb (get_or v.marks (n + j) 0) 0)
    (closed (header_at pool n j) (kids_of go pool n j b (survey (set v.marks (n + j) (w + 1)) v.census)))
    (spoilt v))
node_met go pool n w j None v = spoilt v

abbrev pub ref_met : (ℕ → Survey → Survey) → List ℕ → ℕ → Ref → Survey → Survey
ref_met node pool n Empty v = v
ref_met node pool n (Leaf i) v = leaf_met i (key_at pool i) v
ref_met node pool n (Node j) v = node j v
ref_met node pool n Bad v = spoilt v

-- the reference r is met at walk depth w, with at most so many nodes one below the other. A survey that has met damage does nothing.
unfoldable pub survey_from : ℕ → List ℕ → ℕ → ℕ → ℕ → Survey → Survey
survey_from zero pool n w r v = pick v.census.sound (ref_met (λ j. spoilt) pool n (ref_of n r) v) v
survey_from (suc more) pool n w r v =
    pick v.census.sound
    (ref_met (λ j. node_met (survey_from more pool n) pool n w j (head_of w (header_at pool n j))) pool n (ref_of n r) v) v

-- the survey of a pool of n leaves, from the root
unfoldable pub survey_of : List ℕ → ℕ → Survey
survey_of pool n = survey_from 17 pool n 0 (word_at pool 1) (survey (replicate (bytes_of n) 0) (census 0 true))

-- what the code answers for a census: the last key met, or nothing once damage is met
abbrev pub answer_of : Census → Option ℕ
answer_of s = pick s.sound (Some s.last) None

-- and for the children of a node so far: a key below the first of them and the last key met, or nothing once damage is met
abbrev pub span_of : Gather → Option Span
span_of g = pick g.census.sound (Some (record { first = g.first; last = g.census.last })) None

-- the children so far as the code has gathered them without damage: none yet, or a span
abbrev pub gather_of : Option Span → Gather
gather_of None = gather (census 0 true) 0 false
gather_of (Some x) = gather (census x.last true) x.first true

-- what the code's marks and answer have to do with the definition's survey u: both have met damage, or they are the same. Damage refuses the whole
-- pool, so what was marked before it is not seen.
pub record Alike (marks : List ℕ) (answer : Option ℕ) (u : Survey) : Type 0 where
  pub told : answer ≡ answer_of u.census
  pub same : u.census.sound ≡ true → marks ≡ u.marks

-- with these marks, all sound so far and whatever key was met last, f comes to the code's marks and answer
abbrev pub Gives : (Survey → Survey) → List ℕ → List ℕ → Option ℕ → Type 0
Gives f before marks answer = (k : ℕ) → Alike marks answer (f (survey before (census k true)))

-- what the code keeps of the survey u of a whole pool
pub record Found (marks : List ℕ) (sound : Bool) (u : Survey) : Type 0 where
  pub judged : sound ≡ u.census.sound
  pub marked : u.census.sound ≡ true → marks ≡ u.marks
