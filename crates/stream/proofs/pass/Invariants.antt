-- `pass` goes on from piece to piece of its input, with an empty page each time: it holds the same bytes still. Assumes nothing.
use Rattle.std.proofs.Common.{◌≡◌, ◌≤◌, length}
use Rattle.answers.specs.Answers.{on, room_of}
use Rattle.session.specs.Bytes.{most}
use Rattle.stream.proofs.pass.Given as goal

abbrev pub invariant-loop-page : goal.invariant-loop-page
invariant-loop-page g l = record {
  same : l.page.bytes.ghost_name ≡ l.initial.page.bytes.ghost_name;
  room : most ≤ room_of (on l.page);
}

abbrev pub decreases-loop-page : goal.decreases-loop-page
decreases-loop-page g l = length l.rest
