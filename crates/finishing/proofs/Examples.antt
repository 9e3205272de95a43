-- Examples of finishing, by computation.
-- Assumes nothing.
use mathlib.Core.Path.{◌≡◌, refl}
use mathlib.Core.List.{[], ◌∷◌}
use Rattle.plan.specs.Plans.{after}
use Rattle.plan.specs.declared.Effect.TheVariants.{TakesBoth, FreesBoth}
use Rattle.finishing.specs.Finishes.{finish_of}

-- taken bytes become 1, freed bytes 0; where one is outside, neither changes
taken_both : finish_of (TakesBoth 0 2) (0 ∷ 0 ∷ 0 ∷ []) ≡ after 0 (1 ∷ 0 ∷ 1 ∷ [])
taken_both = refl

freed_both : finish_of (FreesBoth 0 2) (1 ∷ 1 ∷ 7 ∷ []) ≡ after 0 (0 ∷ 1 ∷ 0 ∷ [])
freed_both = refl

byte_outside : finish_of (TakesBoth 0 3) (0 ∷ 0 ∷ 0 ∷ []) ≡ after 5 (0 ∷ 0 ∷ 0 ∷ [])
byte_outside = refl
