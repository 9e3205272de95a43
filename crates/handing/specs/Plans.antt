-- A plan as a run of 53 words, as include/wort.h has it.
-- Assumes nothing.
use Rattle.std.specs.Prelude.{◌≡◌, List, [], ◌∷◌, ◌++◌, ℕ, eqb, ltb, get_or, take, drop}
use Rattle.digits.specs.Choice.{pick}
use Rattle.plan.specs.Plans.{After, after, Planned}
use Rattle.finishing.specs.Finishes.{finish_of}
use Rattle.plan.specs.declared.Plan.{Plan}
use Rattle.plan.specs.declared.Effect.{Effect}
use Rattle.plan.specs.declared.Effect.TheVariants.{Nothing, TakesLeaf, TakesBoth, FreesLeaf, FreesBoth}

-- "Effects: 0 nothing; 1 takes leaf [4]; 2 takes leaf [4] and node [5]; 3 frees leaf [4]; 4 frees leaf [4] and node [5] (slots by their map byte)"; "4, 5, 6
-- its data, unused places 0"
abbrev pub effect_words : Effect → List ℕ
effect_words Nothing = 0 ∷ 0 ∷ 0 ∷ 0 ∷ []
effect_words (TakesLeaf a) = 1 ∷ a ∷ 0 ∷ 0 ∷ []
effect_words (TakesBoth a b) = 2 ∷ a ∷ b ∷ 0 ∷ []
effect_words (FreesLeaf a) = 3 ∷ a ∷ 0 ∷ 0 ∷ []
effect_words (FreesBoth a b) = 4 ∷ a ∷ b ∷ 0 ∷ []

-- "0 count; 1 first: stores of the first group; 2 fences: .. one for each group on ADR, 0 on eADR; 3 effect; 4, 5, 6 its data; 7..29 word numbers, 30..52 values; places for 23 stores, of
-- which 21 are used ..; unused places 0"
abbrev pub head_words : Plan → List ℕ
head_words p = p.count ∷ p.first ∷ p.fences ∷ effect_words p.effect

abbrev pub spared : List ℕ → List ℕ
spared l = l ++ 0 ∷ 0 ∷ []

abbrev pub words_of : Plan → List ℕ
words_of p = head_words p ++ spared p.words ++ spared p.values

-- the plan that a run of 53 words says; an effect that has no number is nothing
abbrev pub effect_of : ℕ → ℕ → ℕ → Effect
effect_of e a b =
    pick (eqb e 1) (TakesLeaf a) (pick (eqb e 2) (TakesBoth a b) (pick (eqb e 3) (FreesLeaf a) (pick (eqb e 4) (FreesBoth a b) Nothing)))

abbrev pub plan_in : List ℕ → Plan
plan_in l = record {
  words = take 21 (drop 7 l);
  values = take 21 (drop 30 l);
  count = get_or l 0 0;
  first = get_or l 1 0;
  fences = get_or l 2 0;
  effect = effect_of (get_or l 3 0) (get_or l 4 0) (get_or l 5 0);
}

-- finishing by such a run: an effect above 4 names no byte, and is refused with 5
abbrev pub finish_in : List ℕ → List ℕ → After
finish_in l bytes = pick (ltb 4 (get_or l 3 0)) (after 5 bytes) (finish_of (plan_in l).effect bytes)

-- what finishing by such a run promises
abbrev pub FinishInGives : List ℕ → List ℕ → After → Type 0
FinishInGives l bytes a = a ≡ finish_in l bytes

-- a planning call: the number, and the plan's words
pub record PlannedWords : Type 0 where
  pub number : ℕ
  pub plan : List ℕ

abbrev pub planned : ℕ → List ℕ → PlannedWords
planned k l = record { number = k; plan = l }

abbrev pub planned_in : Planned → PlannedWords
planned_in p = planned p.number (words_of p.plan)

-- what handing out the answer of a planning call promises: the words of a plan that the call's own promise allows
abbrev pub HandedOut : (Planned → Type 0) → PlannedWords → Type 0
HandedOut Gives l = (p : Planned) × Gives p × (l ≡ planned_in p)
