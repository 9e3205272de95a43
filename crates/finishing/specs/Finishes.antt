-- Finishing: what an effect does to the bytes of a map.
-- Assumes nothing.
use Rattle.std.specs.Prelude.{◌≡◌, List, ℕ, ltb, length, set}
use Rattle.digits.specs.Choice.{pick}
use Rattle.plan.specs.Plans.{After, after, store_of}
use Rattle.plan.specs.declared.Plan.{Plan}
use Rattle.plan.specs.declared.Effect.{Effect}
use Rattle.plan.specs.declared.Effect.TheVariants.{Nothing, TakesLeaf, TakesBoth, FreesLeaf, FreesBoth}

-- a store of v at two places, both judged before either is stored to; 5 where there is no such place
abbrev pub stores_of : ℕ → ℕ → ℕ → List ℕ → After
stores_of i j v l = pick (ltb i (length l)) (pick (ltb j (length l)) (after 0 (set (set l i v) j v)) (after 5 l)) (after 5 l)

-- "Finishing changes only the named map bytes." 5: "a named map byte outside the map"
abbrev pub finish_of : Effect → List ℕ → After
finish_of Nothing bytes = after 0 bytes
finish_of (TakesLeaf a) bytes = store_of a 1 bytes
finish_of (TakesBoth a b) bytes = stores_of a b 1 bytes
finish_of (FreesLeaf a) bytes = store_of a 0 bytes
finish_of (FreesBoth a b) bytes = stores_of a b 0 bytes

-- what finish promises
abbrev pub FinishGives : Plan → List ℕ → After → Type 0
FinishGives p bytes a = a ≡ finish_of p.effect bytes
