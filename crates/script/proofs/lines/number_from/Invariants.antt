-- What is read from the digits that are left is the whole answer. Assumes nothing.
use Rattle.std.proofs.Common.{◌≡◌, drop}
use Rattle.script.specs.Numbers.{number_from}
use Rattle.script.proofs.lines.number_from.Given as goal

abbrev pub invariant-loop-byte : goal.invariant-loop-byte
invariant-loop-byte l = number_from l.base l.x (drop l.byte-index l.digits) ≡ number_from l.base 0 l.digits
