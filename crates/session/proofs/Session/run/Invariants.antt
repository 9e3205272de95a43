-- `run` takes byte after byte: what is still to be run makes the whole (`Runs`). Assumes nothing.
use Rattle.std.proofs.Common.{◌≡◌}
use Rattle.answers.specs.Answers.{on}
use Rattle.session.specs.Bytes.{held, Same, stream, run_of}
use Rattle.session.proofs.Runs.{rest}
use Rattle.session.proofs.Session.run.Given as goal

abbrev pub invariant-loop-used : goal.invariant-loop-used
invariant-loop-used l = record {
  same : Same l.initial.self l.self;
  page : l.page.bytes.ghost_name ≡ l.initial.page.bytes.ghost_name;
  going : rest l.used l.input (stream (held l.self) (on l.page)) ≡ run_of l.input (stream (held l.initial.self) (on l.initial.page));
}
