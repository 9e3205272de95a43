-- `survey` goes by the reference to the root. Assumes nothing.
use borrow.Author.Tests.{eq-eqb}
use Rattle.survey.proofs.Turns.{found, found_none}
use Rattle.survey.proofs.survey.Goals as goal

pub returns-then-root-eq0 : goal.returns-then-root-eq0
returns-then-root-eq0 c =
    let a = c.args in
    rw (eq-eqb _ 0 c.if-root-eq0.true) (found_none a.pool.now.words.now a.pool.now.n c.requires c.root-root.ensures c.if-root-eq0.true)

pub returns-else-root-eq0 : goal.returns-else-root-eq0
returns-else-root-eq0 c =
    let a = c.args in
    rw c.is_some.ensures (found a.pool.now.words.now a.pool.now.n c.requires c.root-root.ensures c.survey_ref.ensures)
