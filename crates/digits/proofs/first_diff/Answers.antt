use Rattle.digits.proofs.FirstDiff.{first_diff_of}
use Rattle.digits.proofs.first_diff.Goals as goal

pub returns : goal.returns
returns c = first_diff_of 16 c.args.a c.args.b c.ranges.a.fits c.ranges.b.fits
