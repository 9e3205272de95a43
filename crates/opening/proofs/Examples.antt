-- Openings by computation: document 01's example, what a second opening does, and damage of each kind.
-- Assumes nothing.
use mathlib.Core.Path.{◌≡◌, refl}
use mathlib.Core.List.{List, [], ◌∷◌, ◌++◌}
use Prim.Native.Nat.{ℕ}
use lib.ListN.{replicate}
use Rattle.digits.specs.Loops.{upto, scan, tally}
use Rattle.digits.specs.Digits.{first_diff_in}
use Rattle.digits.specs.Headers.{stored_in, header_in}
use Rattle.pool.specs.Sizes.{size_of, capacity_of}
use Rattle.pool.specs.Refs.{ref_of}
use Rattle.walk.specs.Walks.{head_of, lowest_from}
use Rattle.plan.specs.Plans.{made, decided, refused}
use Rattle.plan.specs.declared.Effect.TheVariants.{Nothing}
use Rattle.survey.specs.Surveys.{leaf_met, join_of, head_judged, survey_from, survey_of}
use Rattle.opening.specs.Openings.{open_plan, opened, left, open_of}

-- N = 4. Keys 0x200, 0x202 and 0x20f are put, with node 0; 0x222 is put but for its last store: leaf 3 and node 1 are written, and node 0's
-- header is that of a node below node 1. The root refers to node 0.
abbrev node_0 : ℕ → List ℕ
node_0 header = header ∷ 1 ∷ 0 ∷ 2 ∷ (replicate 12 0 ++ 3 ∷ [])

abbrev pool : ℕ → ℕ → List ℕ → List ℕ
pool root key node = 4 ∷ root ∷ 0x200 ∷ 1 ∷ 0x202 ∷ 2 ∷ key ∷ 3 ∷ 0x222 ∷ 4 ∷ (node ++ (0x000e000000000000 ∷ 1025 ∷ 0 ∷ 4 ∷ replicate 13 0) ++ replicate 17 0)

abbrev cut : List ℕ
cut = pool 1025 0x20f (node_0 0x0f00000000000000)

abbrev straight : List ℕ
straight = pool 1025 0x20f (node_0 0x000f000000000000)

-- a map that was never cleared
abbrev bytes : List ℕ
bytes = replicate 7 9

plan_of_one : open_plan cut ≡ decided (record { word = 10; value = 0x000f000000000000 } ∷ []) Nothing
unfolding open_plan capacity_of size_of survey_of survey_from leaf_met join_of head_judged upto scan tally first_diff_in stored_in header_in ref_of head_of lowest_from
plan_of_one = refl

-- "C 0 20 3 1": three keys, one header
opens : open_of cut bytes ≡ left (opened 0 3 1) straight (1 ∷ 1 ∷ 1 ∷ 0 ∷ 1 ∷ 0 ∷ 0 ∷ [])
unfolding open_of capacity_of size_of survey_of survey_from leaf_met join_of head_judged upto scan tally first_diff_in stored_in header_in ref_of head_of lowest_from made
opens = refl

plan_of_none : open_plan (open_of cut bytes).pool ≡ decided [] Nothing
unfolding open_of open_plan capacity_of size_of survey_of survey_from leaf_met join_of head_judged upto scan tally first_diff_in stored_in header_in ref_of head_of lowest_from made
plan_of_none = refl

-- a pool that has no key
opens_empty : open_of (pool 0 0 (replicate 17 0)) bytes ≡ left (opened 0 0 0) (pool 0 0 (replicate 17 0)) (replicate 7 0)
unfolding open_of capacity_of size_of survey_of survey_from leaf_met join_of head_judged upto scan tally first_diff_in stored_in header_in ref_of head_of lowest_from made
opens_empty = refl

-- "Taking header 0 for an unused node: a root that branches at digit 0 has it." Keys 0 and all ones.
abbrev pair : ℕ → List ℕ
pair child = 2 ∷ 1025 ∷ 0 ∷ 1 ∷ 0xffffffffffffffff ∷ 2 ∷ 0 ∷ 1 ∷ (replicate 14 0 ++ child ∷ [])

opens_header_0 : open_of (pair 2) (replicate 3 9) ≡ left (opened 0 2 0) (pair 2) (1 ∷ 1 ∷ 1 ∷ [])
unfolding open_of capacity_of size_of survey_of survey_from leaf_met join_of head_judged upto scan tally first_diff_in stored_in header_in ref_of head_of lowest_from made
opens_header_0 = refl

-- ---- damage: number 2, the pool as it was, the map all 0
abbrev Damaged : List ℕ → Type 0
Damaged p = open_of p bytes ≡ left (opened 2 0 0) p (replicate 7 0)

header_0_twice : open_of (pair 1025) (replicate 3 9) ≡ left (opened 2 0 0) (pair 1025) (replicate 3 0)
unfolding open_of capacity_of size_of survey_of survey_from leaf_met join_of head_judged upto scan tally first_diff_in stored_in header_in ref_of head_of lowest_from made
header_0_twice = refl

one_digit_wrong : Damaged (pool 1025 0x20f (node_0 0x000f000000000001))
unfolding open_of capacity_of size_of survey_of survey_from leaf_met join_of head_judged upto scan tally first_diff_in stored_in header_in ref_of head_of lowest_from made
one_digit_wrong = refl

one_child : Damaged (pool 1025 0x20f (0x000f000000000000 ∷ 1 ∷ replicate 15 0))
unfolding open_of capacity_of size_of survey_of survey_from leaf_met join_of head_judged upto scan tally first_diff_in stored_in header_in ref_of head_of lowest_from made
one_child = refl

digit_13_wrong : Damaged (pool 1025 0x30f (node_0 0x000f000000000000))
unfolding open_of capacity_of size_of survey_of survey_from leaf_met join_of head_judged upto scan tally first_diff_in stored_in header_in ref_of head_of lowest_from made
digit_13_wrong = refl

wrong_child : Damaged (pool 1025 0x20e (node_0 0x000f000000000000))
unfolding open_of capacity_of size_of survey_of survey_from leaf_met join_of head_judged upto scan tally first_diff_in stored_in header_in ref_of head_of lowest_from made
wrong_child = refl

leaf_twice : Damaged (pool 1025 0x20f (0x000f000000000000 ∷ 1 ∷ 0 ∷ 2 ∷ 2 ∷ replicate 12 0))
unfolding open_of capacity_of size_of survey_of survey_from leaf_met join_of head_judged upto scan tally first_diff_in stored_in header_in ref_of head_of lowest_from made
leaf_twice = refl

no_such_leaf : Damaged (pool 5 0x20f (node_0 0x000f000000000000))
unfolding open_of capacity_of size_of survey_of survey_from leaf_met join_of head_judged upto scan tally first_diff_in stored_in header_in ref_of head_of lowest_from made
no_such_leaf = refl

past_the_key : Damaged (pool 1025 0x20f (node_0 0x0808000000000000))
unfolding open_of capacity_of size_of survey_of survey_from leaf_met join_of head_judged upto scan tally first_diff_in stored_in header_in ref_of head_of lowest_from made
past_the_key = refl

plan_damaged : open_plan (pool 1025 0x30f (node_0 0x000f000000000000)) ≡ refused 2
unfolding open_plan capacity_of size_of survey_of survey_from leaf_met join_of head_judged upto scan tally first_diff_in stored_in header_in ref_of head_of lowest_from
plan_damaged = refl

-- ---- sizes: number 1, all as it was
one_byte_short : open_of cut (replicate 6 9) ≡ left (opened 1 0 0) cut (replicate 6 9)
unfolding open_of capacity_of size_of
one_byte_short = refl

one_word_long : open_of (cut ++ 0 ∷ []) bytes ≡ left (opened 1 0 0) (cut ++ 0 ∷ []) bytes
unfolding open_of capacity_of size_of
one_word_long = refl

no_words : open_plan [] ≡ refused 1
unfolding open_plan capacity_of size_of
no_words = refl
