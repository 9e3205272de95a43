-- Numbers as digits of a base, read from a field.
-- Assumes nothing.
use Rattle.std.specs.Prelude.{Bool, true, false, List, [], ◌∷◌, ℕ, ◌+◌, ◌-◌, ◌*◌, eqb, leb, ltb, length, None, Option, Some, option_and_then}
use Rattle.digits.specs.Choice.{pick}
use Rattle.script.specs.Bytes.{nought, letter_a}

-- the largest number
abbrev pub most : ℕ
most = 18446744073709551615

-- the digit that a byte is, 0 to 9 or a to f
abbrev pub value_of : ℕ → Option ℕ
value_of b =
    pick (ltb b nought) None
    (pick (ltb b (nought + 10)) (Some (b - nought))
    (pick (ltb b letter_a) None
    (pick (ltb b (letter_a + 6)) (Some (b - letter_a + 10)) None)))

-- a number with one digit more, where the digit is one of the base and the number is not too large
abbrev pub with_value : ℕ → ℕ → ℕ → Option ℕ
with_value base x d = pick (ltb d base) (pick (leb (x * base + d) most) (Some (x * base + d)) None) None

-- the same, where the byte is a digit
abbrev pub with_digit : ℕ → ℕ → ℕ → Option ℕ
with_digit base x b = option_and_then (with_value base x) (value_of b)

-- a number with all the digits of a list more
abbrev pub number_from : ℕ → ℕ → List ℕ → Option ℕ
number_from base x [] = Some x
number_from base x (b ∷ s) = option_and_then (λ y. number_from base y s) (with_digit base x b)

-- "Keys are 16 lower-case hex digits"
abbrev pub key_of : List ℕ → Option ℕ
key_of field = pick (eqb (length field) 16) (number_from 16 0 field) None

-- no digit, or a leading zero
abbrev pub ill_begun : List ℕ → Bool
ill_begun [] = true
ill_begun (b ∷ []) = false
ill_begun (b ∷ c ∷ s) = eqb b nought

-- "numbers decimal, no leading zeros"
abbrev pub number_of : List ℕ → Option ℕ
number_of field = pick (ill_begun field) None (number_from 10 0 field)
