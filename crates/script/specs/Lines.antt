-- What the bytes of the input are: lines, and each line a command.
-- Assumes nothing.
use Rattle.std.specs.Prelude.{List, [], ◌∷◌, ◌++◌, ℕ, eqb, leb, ltb, length, get_or, take, drop, None, Option, Some}
use Rattle.digits.specs.Choice.{pick}
use Rattle.script.specs.Bytes.{tab, letter_C, letter_D, letter_G, letter_L, letter_P}
use Rattle.script.specs.Numbers.{key_of, number_of}
use Rattle.script.specs.declared.lines.Command.{Command}
use Rattle.script.specs.declared.lines.Command.TheVariants.{Put, Delete, Get, Listing, Cut}

-- "P key value"
abbrev pub put_of : Option ℕ → Option ℕ → Option Command
put_of (Some key) (Some value) = Some (Put key value)
put_of (Some key) None = None
put_of None value = None

-- "D key"
abbrev pub delete_of : Option ℕ → Option Command
delete_of (Some key) = Some (Delete key)
delete_of None = None

-- "G key"
abbrev pub get_of : Option ℕ → Option Command
get_of (Some key) = Some (Get key)
get_of None = None

-- "C n (0 to 21)"
abbrev pub cut_of : Option ℕ → Option Command
cut_of (Some n) = pick (leb n 21) (Some (Cut n)) None
cut_of None = None

-- "Fields are parted by a tab": what stands after P and a tab is a key, a tab and a value
abbrev pub key_and_value_of : List ℕ → Option Command
key_and_value_of rest = pick (eqb (get_or rest 16 0) tab) (put_of (key_of (take 16 rest)) (number_of (drop 17 rest))) None

-- what stands after a tag and a tab
abbrev pub tagged_of : ℕ → List ℕ → Option Command
tagged_of tag rest =
    pick (eqb tag letter_P) (key_and_value_of rest)
    (pick (eqb tag letter_D) (delete_of (key_of rest))
    (pick (eqb tag letter_G) (get_of (key_of rest))
    (pick (eqb tag letter_C) (cut_of (number_of rest)) None)))

abbrev pub short_of : List ℕ → Option Command
short_of [] = None
short_of (tag ∷ []) = pick (eqb tag letter_L) (Some Listing) None
short_of (tag ∷ b ∷ rest) = pick (eqb b tab) (tagged_of tag rest) None

-- the command of a line, and none of a wrong line: "A wrong line, a line over 63 bytes"
unfoldable pub command_of : List ℕ → Option Command
command_of line = pick (ltb 63 (length line)) None (short_of line)

-- the line that is being gathered, with a byte more: one byte is kept beyond the 63 of a right line, so that a longer one is seen to be too long,
-- and what comes after it is dropped
abbrev pub kept_of : List ℕ → ℕ → List ℕ
kept_of line byte = pick (ltb (length line) 64) (line ++ byte ∷ []) line
