-- The input as a stream of bytes: what each asks for.
-- Assumes nothing.
use Rattle.std.specs.Prelude.{List, [], ℕ, eqb, length}
use Rattle.digits.specs.Choice.{pick}
use Rattle.script.specs.Bytes.{newline}
use Rattle.script.specs.Lines.{command_of, kept_of}
use Rattle.script.specs.Turns.{fresh, Step, turn_of}
use Rattle.script.specs.declared.turns.Shell.{Shell}
use Rattle.script.specs.declared.turns.Turn.{Turn}
use Rattle.script.specs.declared.turns.Turn.TheVariants.{Nothing}
use Rattle.script.specs.declared.input.Reader.{Reader}

abbrev pub reader : List ℕ → Shell → Reader
reader line shell = record { line = line; shell = shell }

-- before the first byte
abbrev pub begun : Reader
begun = reader [] fresh

-- what is to be done, and the reader after it
pub record Taken : Type 0 where
  pub turn : Turn
  pub reader : Reader

abbrev pub taken : Turn → Reader → Taken
taken t r = record { turn = t; reader = r }

-- the turn of a line that is whole, after which the next line begins
abbrev pub ended : Step → Taken
ended s = taken s.turn (reader [] s.shell)

abbrev pub whole : Reader → Taken
whole r = ended (turn_of r.shell (command_of r.line))

-- what is to be done at a byte: a newline ends the line, and a line that is not whole yet asks for nothing
abbrev pub taken_of : Reader → ℕ → Taken
taken_of r byte = pick (eqb byte newline) (whole r) (taken Nothing (reader (kept_of r.line byte) r.shell))

-- the end of the input: "The last line may lack its newline."
abbrev pub end_of : Reader → Taken
end_of r = pick (eqb (length r.line) 0) (taken Nothing r) (whole r)
