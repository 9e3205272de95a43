-- The position in the list with its places is the definition's place. Assumes nothing.
use Rattle.std.proofs.Common.{rules, tests}
use Rattle.std.proofs.lemmas.Iterator.{YieldsList-from_slice}
use Rattle.std.proofs.lemmas.Iterator.Consumers.{YieldsList-from_enumerate}
use Rattle.std.proofs.lemmas.Iterator.Search.{position_from_yields_List}
use Rattle.walk.proofs.Places.{is_there_off, other_listed}
use Rattle.walk.proofs.other_child.Goals as goal

pub returns : goal.returns
returns c =
    rw (other_listed c.args.pool.now.sized c.args.j c.requires c.args.at, ← c.children.ensures, ← c.node_word.ensures)
    (position_from_yields_List (is_there_off _ _) _ _ _ c.position.ensures.ran
    (YieldsList-from_enumerate (YieldsList-from_slice c.children.result.now cc) cc) (λ x b q k. search (rules, tests)))
