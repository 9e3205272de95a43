-- Lookup, and the quick lookup: what a key answers, in any run of words.
-- Assumes nothing.
use Rattle.std.specs.Prelude.{◌≡◌, List, ℕ, ◌+◌, eqb, None, Some, Option}
use Rattle.std.specs.Result.{result_unwrap_or}
use Rattle.digits.specs.Choice.{pick}
use Rattle.pool.specs.Sizes.{capacity_of}
use Rattle.pool.specs.Places.{key_at, value_at}
use Rattle.pool.specs.declared.Ref.{Ref}
use Rattle.pool.specs.declared.Ref.TheVariants.{Empty, Leaf, Node, Bad}
use Rattle.walk.specs.Walks.{walk_of, quick_walk}
use Rattle.walk.specs.declared.End.{End}
use Rattle.walk.specs.declared.End.TheVariants.{AtLeaf, AtEmpty, Stopped, Damaged}
use Rattle.refusals.specs.Refusals.{number_in}
use Rattle.finding.specs.declared.Found.{Found}

-- a lookup's answer in document 01's numbers
pub record Answer : Type 0 where
  pub number : ℕ
  pub value : ℕ
  pub nodes : ℕ

abbrev pub answer : ℕ → ℕ → ℕ → Answer
answer k v m = record { number = k; value = v; nodes = m }

-- the numbers of the code's answer. "Refusals give 0 in every number field but lookup's node count"
abbrev pub told : Found → Answer
told f = answer (number_in f.value) (result_unwrap_or f.value 0) f.nodes

-- what a walk finds that has come past m nodes to no further one. "the leaf's key decides"
abbrev pub found_end : List ℕ → ℕ → ℕ → Ref → Answer
found_end pool key m (Leaf i) = pick (eqb (key_at pool i) key) (answer 0 (value_at pool i) m) (answer 3 0 m)
found_end pool key m Empty = answer 3 0 m
found_end pool key m (Node j) = answer 2 0 m
found_end pool key m Bad = answer 2 0 m

-- "Stored digits are not compared; the leaf's key decides. Lookup also reports how many nodes had an accepted header on its walk"
abbrev pub found_at : List ℕ → ℕ → End → Answer
found_at pool key (AtLeaf s i) = found_end pool key s.nodes (Leaf i)
found_at pool key (AtEmpty s) = found_end pool key s.nodes Empty
found_at pool key (Stopped s j b) = answer 2 0 s.nodes
found_at pool key (Damaged m f) = answer 2 0 m

abbrev pub found_in : List ℕ → ℕ → Option ℕ → Answer
found_in pool key (Some n) = found_at pool key (walk_of pool n key)
found_in pool key None = answer 1 0 0

unfoldable pub lookup_of : List ℕ → ℕ → Answer
lookup_of pool key = found_in pool key (capacity_of pool)

-- what lookup promises
abbrev pub LookupGives : List ℕ → ℕ → Answer → Type 0
LookupGives pool key a = a ≡ lookup_of pool key

-- Document 02: "Add a lookup that compares stored digits on the way and stops at the first that differs." It answers as lookup does, but a walk that was
-- stopped so is a miss, and the node that stopped it is one whose header was accepted.
abbrev pub quick_at : List ℕ → ℕ → End → Answer
quick_at pool key (AtLeaf s i) = found_at pool key (AtLeaf s i)
quick_at pool key (AtEmpty s) = found_at pool key (AtEmpty s)
quick_at pool key (Stopped s j b) = answer 3 0 (s.nodes + 1)
quick_at pool key (Damaged m f) = found_at pool key (Damaged m f)

abbrev pub quick_in : List ℕ → ℕ → Option ℕ → Answer
quick_in pool key (Some n) = quick_at pool key (quick_walk pool n key)
quick_in pool key None = answer 1 0 0

unfoldable pub quick_of : List ℕ → ℕ → Answer
quick_of pool key = quick_in pool key (capacity_of pool)

-- what the quick lookup promises
abbrev pub QuickGives : List ℕ → ℕ → Answer → Type 0
QuickGives pool key a = a ≡ quick_of pool key

-- a lookup answers as a plain table: 0 and the file number of a name that is held, 3 and 0 for one that is not
abbrev pub Finds : Option ℕ → Answer → Type 0
Finds (Some v) a = (a.number ≡ 0) × (a.value ≡ v)
Finds None a = (a.number ≡ 3) × (a.value ≡ 0)
