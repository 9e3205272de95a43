use Rattle.std.proofs.Common.{◌≡◌, length}
use Rattle.answers.specs.Answers.{on, entries_of}
use Rattle.answers.proofs.page.Page.write_listing.Given as goal

abbrev pub invariant-loop-key : goal.invariant-loop-key
invariant-loop-key l = record {
  same : l.self.bytes.ghost_name ≡ l.initial.self.bytes.ghost_name;
  entries : on l.self ≡ entries_of (length l.yielded) l.keys l.values (on l.initial.self);
}
