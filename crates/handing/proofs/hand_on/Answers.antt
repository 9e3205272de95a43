-- What is handed on are the words of the plan of what was laid out. Assumes nothing.
use Rattle.std.proofs.Common.{◌∙◌, sym, ap, length, List}
use Rattle.tree.specs.Stores.{Store}
use Rattle.plan.proofs.Laws.{padded_laid}
use Rattle.handing.specs.Plans.{planned}
use Rattle.handing.proofs.Laid.{laid_few}
use Rattle.handing.proofs.hand_on.Goals as goal

pub returns-in-Ok : goal.returns-in-Ok
returns-in-Ok c =
    let σ : List Store = c.args.stores.now in
    let laid = rw (c.words.ensures, c.values.ensures) at c.lay_plan.ensures in
    let few = laid_few σ c.len-count.result c.args.first c.fences-fences.result c.in-Ok.effect (ap length (sym laid) ∙ c.lay_plan.array_long) in
    rw c.in-Ok.is
    (ap (planned 0)
    (laid
    ∙ rw (c.fences-fences.ensures, c.from.ensures, c.len-count.ensures, ← padded_laid (λ (s : Store). s.word) σ few, ← padded_laid (λ (s : Store). s.value) σ few)))
