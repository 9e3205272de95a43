-- `pass` empties its page, which then has all its room again (session's `run_keeps`). Assumes nothing.
use Rattle.std.proofs.Common.{ap, ◌∙◌, arith}
use Rattle.answers.specs.Answers.{room_of}
use Rattle.session.proofs.Prints.{run_keeps}
use Rattle.stream.proofs.pass.Goals as goal

pub loop-page-preserved : goal.loop-page-preserved
loop-page-preserved g c = record {
  same = c.clear.ensures.same ∙ c.run-used.ensures.page ∙ c.loop-page.invariant.same;
  room = omega (arith, ap room_of c.clear.ensures.page, run_keeps _ _ _ _ c.run-used.ensures.going);
}
