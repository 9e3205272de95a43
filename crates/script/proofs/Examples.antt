-- Lines and their commands, by computation: those of document 01's example, and lines that are wrong each in its own way.
-- Assumes nothing.
use Prim.Native.Char.{code}
use Prim.Native.String.{String, [] as []ˢ, ◌∷◌ as ◌∷ˢ◌}
use Rattle.std.specs.Prelude.{◌≡◌, refl, List, [], ◌∷◌, map, ℕ, replicate, None, Option, Some}
use Rattle.script.specs.Bytes.{letter_L}
use Rattle.script.specs.Lines.{command_of}
use Rattle.script.specs.declared.lines.Command.{Command}
use Rattle.script.specs.declared.lines.Command.TheVariants.{Put, Delete, Get, Listing, Cut}

-- the bytes of a text in ASCII
abbrev pub bytes : String → List ℕ
bytes []ˢ = []
bytes (c ∷ˢ text) = code c ∷ bytes text

abbrev commands : List String → List (Option Command)
commands lines = map (λ (line : String). command_of (bytes line)) lines

right_lines : commands (
    "P\t0000000000000200\t1"
    ∷ "G\t000000000000020f"
    ∷ "D\t0000000000000222"
    ∷ "L"
    ∷ "C\t20"
    ∷ "C\t0"
    ∷ "C\t21"
    ∷ "P\tffffffffffffffff\t18446744073709551615"
    ∷ "P\t0000000000000000\t0"
    ∷ []
    )
    ≡ map (λ (c : Command). Some c) (Put 0x200 1 ∷ Get 0x20f ∷ Delete 0x222 ∷ Listing ∷ Cut 20 ∷ Cut 0 ∷ Cut 21 ∷ Put 0xffff_ffff_ffff_ffff 0xffff_ffff_ffff_ffff ∷ Put 0 0 ∷ [])
unfolding command_of
right_lines = refl

wrong : List String
wrong =
    -- a value that is too large, a leading zero, a sign, no digit, a byte that is none
    "P\t0000000000000200\t18446744073709551616"
    ∷ "P\t0000000000000200\t01"
    ∷ "P\t0000000000000200\t+1"
    ∷ "P\t0000000000000200\t-1"
    ∷ "P\t0000000000000200\t"
    ∷ "P\t0000000000000200\ta"
    -- a key with an upper-case digit, with fifteen digits, with seventeen
    ∷ "D\t000000000000020F"
    ∷ "D\t000000000000020"
    ∷ "G\t00000000000002000"
    -- a field too few, a field too many, fields parted otherwise
    ∷ "P\t0000000000000200"
    ∷ "G\t000000000000020f\t"
    ∷ "L\t"
    ∷ "P 0000000000000200 1"
    ∷ "P\t\t0000000000000200\t1"
    -- a cut past 21, a cut with a leading zero, a cut with no number
    ∷ "C\t22"
    ∷ "C\t00"
    ∷ "C"
    -- no line's letter, a small letter, a carriage return, a NUL, nothing
    ∷ "E"
    ∷ "l"
    ∷ "L\r"
    ∷ "\0"
    ∷ ""
    ∷ []

wrong_lines : commands wrong ≡ replicate 22 None
unfolding wrong command_of
wrong_lines = refl

-- a line over 63 bytes
overlong_line : command_of (replicate 64 letter_L) ≡ None
unfolding command_of
overlong_line = refl
