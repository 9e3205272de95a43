-- An answer is known by its number and its value. Assumes nothing.
use Rattle.std.proofs.Common.{◌≡◌, Result, Ok, Err, refl}
use Rattle.std.specs.Result.{result_unwrap_or}
use Rattle.refusals.specs.declared.Refusal.{Refusal}
use Rattle.refusals.specs.declared.Refusal.TheVariants.{Size, Damage, Absent, Full, Outside, Buffers, Retired}
use Rattle.refusals.specs.Refusals.{number_in, answer_at}

pub answer_told : {A : Type 0} (r : Result A Refusal) (a : A) → answer_at (number_in r) (result_unwrap_or r a) ≡ r
answer_told (Ok x) a = refl
answer_told (Err Size) a = refl
answer_told (Err Damage) a = refl
answer_told (Err Absent) a = refl
answer_told (Err Full) a = refl
answer_told (Err Outside) a = refl
answer_told (Err Buffers) a = refl
answer_told (Err Retired) a = refl
