-- The numbers of the refusals, and of an answer.
-- Assumes nothing.
use Rattle.std.specs.Prelude.{ℕ, cond, eqb, Result, Ok, Err}
use Rattle.refusals.specs.declared.Refusal.{Refusal}
use Rattle.refusals.specs.declared.Refusal.TheVariants.{Size, Damage, Absent, Full, Outside, Buffers, Retired}

-- 01's table: "1 size", "2 damage met", "3 key absent", "4 no free leaf, or a node needed and none free", "5 step: .. finish: ..", "6 listing buffers";
-- 02 (x): "refused with 7"
abbrev pub number_of : Refusal → ℕ
number_of Size = 1
number_of Damage = 2
number_of Absent = 3
number_of Full = 4
number_of Outside = 5
number_of Buffers = 6
number_of Retired = 7

-- 0 is done
abbrev pub number_in : {A : Type 0} → Result A Refusal → ℕ
number_in (Ok a) = 0
number_in (Err r) = number_of r

-- the refusal with a number
abbrev pub refusal_at : ℕ → Refusal
refusal_at k =
    cond (eqb k 1) Size
    (cond (eqb k 2) Damage
    (cond (eqb k 3) Absent
    (cond (eqb k 4) Full
    (cond (eqb k 5) Outside
    (cond (eqb k 6) Buffers Retired)))))

-- the answer with a number and a value
abbrev pub answer_at : {A : Type 0} → ℕ → A → Result A Refusal
answer_at k a = cond (eqb k 0) (Ok a) (Err (refusal_at k))
