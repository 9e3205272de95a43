-- The bytes that lines and answers are made of, by name.
-- Assumes nothing.
use Prim.Native.Char.{code}
use Rattle.std.specs.Prelude.{ℕ}

abbrev pub tab : ℕ
tab = code "\t"

abbrev pub newline : ℕ
newline = code "\n"

abbrev pub nought : ℕ
nought = code "0"

abbrev pub query : ℕ
query = code "?"

abbrev pub letter_C : ℕ
letter_C = code "C"

abbrev pub letter_D : ℕ
letter_D = code "D"

abbrev pub letter_E : ℕ
letter_E = code "E"

abbrev pub letter_G : ℕ
letter_G = code "G"

abbrev pub letter_L : ℕ
letter_L = code "L"

abbrev pub letter_P : ℕ
letter_P = code "P"

abbrev pub letter_a : ℕ
letter_a = code "a"
