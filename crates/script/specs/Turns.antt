-- What is to be done at a line, and the state that the lines before it left.
-- Assumes nothing.
use Rattle.std.specs.Prelude.{ℕ, ◌+◌, min, None, Option, Some}
use Rattle.script.specs.Numbers.{most}
use Rattle.script.specs.declared.lines.Command.{Command}
use Rattle.script.specs.declared.lines.Command.TheVariants.{Put, Delete, Get, Listing, Cut}
use Rattle.script.specs.declared.turns.Shell.{Shell}
use Rattle.script.specs.declared.turns.Turn.{Turn}
use Rattle.script.specs.declared.turns.Turn.TheVariants as to

-- the state before the first line
abbrev pub fresh : Shell
fresh = record { lines = 0; pending = None }

-- lines are counted from 1, wrong ones too
abbrev pub next : ℕ → ℕ
next lines = min (lines + 1) most

-- a turn, and the state after it
pub record Step : Type 0 where
  pub turn : Turn
  pub shell : Shell

abbrev pub step : Turn → Shell → Step
step t s = record { turn = t; shell = s }

abbrev pub stepped : ℕ → Turn → Option ℕ → Step
stepped line t p = step t record { lines = line; pending = p }

-- at a line with no cut that waits: "C n (0 to 21) prints nothing and cuts the next P or D"
abbrev pub plain_turn : ℕ → Option Command → Step
plain_turn line (Some (Put key value)) = stepped line (to.Put key value) None
plain_turn line (Some (Delete key)) = stepped line (to.Delete key) None
plain_turn line (Some (Get key)) = stepped line (to.Get key) None
plain_turn line (Some Listing) = stepped line to.Listing None
plain_turn line (Some (Cut stores)) = stepped line to.Nothing (Some stores)
plain_turn line None = stepped line (to.Wrong line) None

-- at a line with a cut that waits: "one after C that is not a P or D prints ? and its line number; the cut is cancelled"
abbrev pub cut_turn : ℕ → ℕ → Option Command → Step
cut_turn stores line (Some (Put key value)) = stepped line (to.CutPut stores key value) None
cut_turn stores line (Some (Delete key)) = stepped line (to.CutDelete stores key) None
cut_turn stores line (Some (Get key)) = stepped line (to.Wrong line) None
cut_turn stores line (Some Listing) = stepped line (to.Wrong line) None
cut_turn stores line (Some (Cut n)) = stepped line (to.Wrong line) None
cut_turn stores line None = stepped line (to.Wrong line) None

-- the cut that waits for the next P or D: none, or after so many stores
abbrev pub turn_at : Option ℕ → ℕ → Option Command → Step
turn_at None line c = plain_turn line c
turn_at (Some stores) line c = cut_turn stores line c

-- the turn of the line after those of the state
abbrev pub turn_of : Shell → Option Command → Step
turn_of s c = turn_at s.pending (next s.lines) c
