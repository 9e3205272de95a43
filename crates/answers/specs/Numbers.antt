-- Numbers as digits of a base, printed.
-- Assumes nothing.
use Rattle.std.specs.Prelude.{List, [], ◌∷◌, ◌++◌, ℕ, zero, suc, ◌+◌, ◌-◌, ◌/◌, ◌%◌, ltb}
use Rattle.digits.specs.Choice.{pick}
use Rattle.script.specs.Bytes.{nought, letter_a}

-- the byte that a digit is printed as
unfoldable pub glyph_of : ℕ → ℕ
glyph_of d = pick (ltb d 10) (nought + d) (letter_a + (d - 10))

-- the last k digits of a number, the highest first
unfoldable pub last_digits : ℕ → ℕ → ℕ → List ℕ
last_digits base zero x = []
last_digits base (suc k) x = last_digits base k (x / base) ++ (glyph_of (x % base) ∷ [])

-- how many decimal digits a number has, n at most
unfoldable pub places_in : ℕ → ℕ → ℕ
places_in zero x = zero
places_in (suc n) x = pick (ltb x 10) 1 (places_in n (x / 10) + 1)

-- a key's sixteen digits
abbrev pub hex_of : ℕ → List ℕ
hex_of x = last_digits 16 16 x

-- a number's digits, of which there are twenty at most
abbrev pub decimal_of : ℕ → List ℕ
decimal_of x = last_digits 10 (places_in 20 x) x
