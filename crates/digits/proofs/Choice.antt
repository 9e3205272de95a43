-- What holds of both, each under its test, holds of the one that is picked.
-- Assumes nothing.
use mathlib.Core.Path.{◌≡◌, refl}
use mathlib.Core.Bool.{Bool, true, false}
use Rattle.digits.specs.Choice.{pick}

pub pick_case : {A : Type 0} (P : A → Type 0) (t : Bool) {a b : A} → (t ≡ true → P a) → (t ≡ false → P b) → P (pick t a b)
pick_case P true f g = f refl
pick_case P false f g = g refl
