-- `carry_out` makes all stores by the one loop, and finishes. Assumes nothing.
use Rattle.writing.proofs.Makings.{carried}
use Rattle.writing.proofs.making.carry_out.Goals as goal

pub returns : goal.returns
returns g c = carried _ _ c.args.stores.now c.args.effect c.requires c.make-made.ensures c.take_effect.ensures
