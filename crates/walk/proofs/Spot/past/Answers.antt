-- `past` goes below the node. Assumes nothing.
use Rattle.walk.proofs.Spot.past.Goals as goal

pub returns : goal.returns
returns c = rw (← c.node_word.ensures)
