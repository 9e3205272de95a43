-- The whole calls: format, put and delete, and all that each leaves.
-- Assumes nothing.
use Rattle.std.specs.Prelude.{◌≡◌, List, ℕ, eqb, length, set, replicate, None, Option, Some, Result, Ok, Err}
use Rattle.refusals.specs.declared.Refusal.{Refusal}
use Rattle.refusals.specs.Refusals.{number_of}
use Rattle.digits.specs.Choice.{pick}
use Rattle.pool.specs.Sizes.{size_of, capacity_of, bytes_of}
use Rattle.plan.specs.Plans.{made, Decided, refused}
use Rattle.finishing.specs.Finishes.{finish_of}
use Rattle.rules.specs.Puts.{put_plan}
use Rattle.rules.specs.Deletes.{delete_plan}

-- the number given back, and the stores made
pub record Done : Type 0 where
  pub number : ℕ
  pub stores : ℕ

abbrev pub done : ℕ → ℕ → Done
done k c = record { number = k; stores = c }

-- what an answer of the code says: so many stores made, or the refusal's number and none
abbrev pub done_in : Result ℕ Refusal → Done
done_in (Ok made) = done 0 made
done_in (Err r) = done (number_of r) 0

-- and the pool and the map after the call
pub record Left : Type 0 where
  pub done : Done
  pub pool : List ℕ
  pub map : List ℕ

abbrev pub left : Done → List ℕ → List ℕ → Left
left d pool map = record { done = d; pool = pool; map = map }

-- "The whole call plans, makes all stores and finishes." A refusal leaves everything unchanged.
abbrev pub whole_of : Decided → List ℕ → List ℕ → Left
whole_of d pool map =
    pick (eqb d.number 0)
    (left (done 0 (length d.stores)) (made d.stores pool) (finish_of d.effect map).left)
    (left (done d.number 0) pool map)

unfoldable pub put_of : List ℕ → List ℕ → ℕ → ℕ → Left
put_of pool map k v = whole_of (put_plan pool map k v) pool map

-- what put promises
abbrev pub PutGives : List ℕ → List ℕ → ℕ → ℕ → Left → Type 0
PutGives pool map k v l = l ≡ put_of pool map k v

-- a delete is lent the map, which its plan is not: number 1 judges it too
abbrev pub mapped_of : List ℕ → Option ℕ → Decided → Decided
mapped_of map (Some n) d = pick (eqb (length map) (bytes_of n)) d (refused 1)
mapped_of map None d = refused 1

unfoldable pub delete_of : List ℕ → List ℕ → ℕ → Left
delete_of pool map k = whole_of (mapped_of map (capacity_of pool) (delete_plan pool k)) pool map

-- what delete promises
abbrev pub DeleteGives : List ℕ → List ℕ → ℕ → Left → Type 0
DeleteGives pool map k l = l ≡ delete_of pool map k

-- "Format, given N: word 1 := 0, then word 0 := N, all map bytes 0; other words keep their contents." "format does not judge word 0"
pub record Formatted : Type 0 where
  pub number : ℕ
  pub pool : List ℕ
  pub map : List ℕ

abbrev pub formatted : ℕ → List ℕ → List ℕ → Formatted
formatted k pool map = record { number = k; pool = pool; map = map }

abbrev pub format_in : List ℕ → List ℕ → Option ℕ → Formatted
format_in pool map (Some n) =
    pick (eqb (length map) (bytes_of n))
    (formatted 0 (set (set pool 1 0) 0 n) (replicate (length map) 0))
    (formatted 1 pool map)
format_in pool map None = formatted 1 pool map

unfoldable pub format_of : List ℕ → List ℕ → ℕ → Formatted
format_of pool map n = format_in pool map (size_of (length pool) n)

-- what format promises
abbrev pub FormatGives : List ℕ → List ℕ → ℕ → Formatted → Type 0
FormatGives pool map n f = f ≡ format_of pool map n
