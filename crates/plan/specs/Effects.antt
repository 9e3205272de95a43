-- Effects: which bytes of the map they take and which they free, and what each byte is afterwards.
-- Assumes nothing.
use Rattle.std.specs.Prelude.{Bool, true, false, List, [], ◌∷◌, ℕ, ◌<◌, eqb}
use Rattle.digits.specs.Choice.{pick}
use Rattle.plan.specs.declared.Effect.{Effect}
use Rattle.plan.specs.declared.Effect.TheVariants.{Nothing, TakesLeaf, TakesBoth, FreesLeaf, FreesBoth}

-- the bytes that an effect takes
abbrev pub takes : Effect → List ℕ
takes Nothing = []
takes (TakesLeaf a) = a ∷ []
takes (TakesBoth a b) = a ∷ b ∷ []
takes (FreesLeaf a) = []
takes (FreesBoth a b) = []

-- the bytes that it frees
abbrev pub frees : Effect → List ℕ
frees Nothing = []
frees (TakesLeaf a) = []
frees (TakesBoth a b) = []
frees (FreesLeaf a) = a ∷ []
frees (FreesBoth a b) = a ∷ b ∷ []

-- whether x is one of these
abbrev pub has : ℕ → List ℕ → Bool
has x [] = false
has x (y ∷ ys) = pick (eqb x y) true (has x ys)

-- byte x after the effect, where it was b: 1 if taken, 0 if freed, else as it was
abbrev pub byte_of : Effect → ℕ → ℕ → ℕ
byte_of e x b = pick (has x (takes e)) 1 (pick (has x (frees e)) 0 b)

-- each of these is below n
abbrev pub Below : ℕ → List ℕ → Type 0
Below n [] = Unit {0}
Below n (x ∷ xs) = (x < n) × Below n xs

-- the bytes that an effect names are inside a map of n bytes
abbrev pub Inside : Effect → ℕ → Type 0
Inside e n = Below n (takes e) × Below n (frees e)
