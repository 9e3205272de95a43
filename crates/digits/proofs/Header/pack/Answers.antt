-- `pack` is the header word, by shifts. Assumes nothing.
use Rattle.digits.proofs.Shifts.{packed_at_once}
use Rattle.digits.proofs.Header.pack.Goals as goal

pub returns : goal.returns
returns c = packed_at_once c.args.depth c.args.length c.args.key c.min.result c.min.ensures c.requires
