use Rattle.std.proofs.Common.{◌≡◌, ◌++◌, ◌+◌, ◌*◌, ◌≤◌, length, drop}
use Rattle.answers.specs.Answers.{line_end, fields_of}
use Rattle.answers.proofs.push_fields.Given as goal

abbrev pub invariant-loop-number : goal.invariant-loop-number
invariant-loop-number l = record {
  short : length l.text.bytes ≤ length l.initial.text.bytes + 21 * l.number-index;
  whole : l.text.bytes ++ fields_of (drop l.number-index l.numbers) line_end ≡ l.initial.text.bytes ++ fields_of l.numbers line_end;
}
