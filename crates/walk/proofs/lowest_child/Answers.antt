-- The position in the list is the definition's place. Assumes nothing.
use Rattle.std.proofs.Common.{rules, tests}
use Rattle.std.proofs.lemmas.Iterator.{YieldsList-from_slice}
use Rattle.std.proofs.lemmas.Iterator.Search.{position_from_yields_List}
use Rattle.walk.proofs.Places.{is_there, lowest_listed}
use Rattle.walk.proofs.lowest_child.Goals as goal

pub returns : goal.returns
returns c =
    rw (lowest_listed c.args.pool.now.sized c.args.j c.requires, ← c.children.ensures)
    (position_from_yields_List is_there _ _ _ c.position.ensures.ran (YieldsList-from_slice c.children.result.now cc) (λ x b q k. search (rules, tests)))
