-- `lay_plan` writes the count and the effect, then the stores. Assumes nothing.
use native.Mathlib.Omega.{arith}
use Rattle.handing.proofs.Laws.{laid_out}
use Rattle.handing.proofs.lay_plan.Goals as goal

pub returns : goal.returns
returns c =
    let a = c.args in
    laid_out a.plan.now _ _ (record { words = a.words.now; values = a.values.now; count = a.count; first = a.first; fences = a.fences; effect = a.effect })
    c.lay_effect.ensures (omega arith) c.lay_stores.ensures
