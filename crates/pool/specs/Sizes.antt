-- Sizes of a pool and of its map.
-- Assumes nothing.
use Rattle.std.specs.Prelude.{◌≡◌, List, ℕ, ◌+◌, ◌-◌, ◌*◌, ◌≤◌, eqb, ltb, length, get_or, None, Option, Some}
use Rattle.digits.specs.Choice.{pick}

-- "Its capacity N is 1 to 1024 leaves. .. The pool has exactly 19N-15 words"
unfoldable pub size_of : ℕ → ℕ → Option ℕ
size_of words n =
    pick (ltb n 1) None
    (pick (ltb 1024 n) None
    (pick (eqb words (19 * n - 15)) (Some n) None))

-- "Word 0 is N." A run of no words has no capacity.
unfoldable pub capacity_of : List ℕ → Option ℕ
capacity_of pool = size_of (length pool) (get_or pool 0 0)

-- "The map is lent working memory of 2N-1 bytes: N for leaves, then N-1 for nodes."
abbrev pub bytes_of : ℕ → ℕ
bytes_of n = 2 * n - 1

-- a run of words that a pool of n leaves fits
pub record Sized (pool : List ℕ) (n : ℕ) : Type 0 where
  pub some : 1 ≤ n
  pub most : n ≤ 1024
  pub words : length pool + 15 ≡ 19 * n

-- what a size says of the run that was measured
abbrev pub Measured : List ℕ → Option ℕ → Type 0
Measured pool (Some n) = Sized pool n
Measured pool None = Unit {0}

-- a run of bytes that is the length of a map of n leaves
pub record Mapped (bytes : List ℕ) (n : ℕ) : Type 0 where
  pub some : 1 ≤ n
  pub most : n ≤ 1024
  pub long : length bytes ≡ bytes_of n
