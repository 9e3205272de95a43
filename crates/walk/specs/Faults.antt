-- Which word is bad, and why.
-- Assumes nothing.
use Rattle.std.specs.Prelude.{ℕ, ltb}
use Rattle.digits.specs.Choice.{pick}
use Rattle.digits.specs.Headers.{depth_of}
use Rattle.pool.specs.Places.{node_word}
use Rattle.walk.specs.declared.Reason.{Reason}
use Rattle.walk.specs.declared.Reason.TheVariants.{Range, Depth, Branch, Form}
use Rattle.walk.specs.declared.Fault.{Fault}

-- 02 (iv): "Reading a reference or a header must now say which word was bad and why: 1 out of range, 2 too small a depth, 3 too large a branch place,
-- judged in that order." "Other damage is 4, 'form'."
abbrev pub reason_number : Reason → ℕ
reason_number Range = 1
reason_number Depth = 2
reason_number Branch = 3
reason_number Form = 4

abbrev pub fault : ℕ → Reason → Fault
fault word reason = record { word = word; reason = reason }

-- the reference in a word
abbrev pub out_of_range : ℕ → Fault
out_of_range at = fault at Range

-- the header of node j, which is refused at walk depth w
abbrev pub bad_header : ℕ → ℕ → ℕ → ℕ → Fault
bad_header n j w header = fault (node_word n j) (pick (ltb (depth_of header) w) Depth Branch)

-- all else
abbrev pub bad_form : ℕ → Fault
bad_form word = fault word Form
