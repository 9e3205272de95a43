use Rattle.std.proofs.Common.{◌≡◌, ◌++◌, ◌+◌, ◌-◌, ◌/◌, ◌^◌, length}
use Rattle.answers.specs.Numbers.{last_digits}
use Rattle.answers.proofs.push_key.Given as goal

abbrev pub invariant-loop-place : goal.invariant-loop-place
invariant-loop-place l = record {
  short : length l.text.bytes ≡ length l.initial.text.bytes + l.place;
  digits : l.text.bytes ≡ l.initial.text.bytes ++ last_digits 16 l.place (l.key / 16 ^ (16 - l.place));
}
