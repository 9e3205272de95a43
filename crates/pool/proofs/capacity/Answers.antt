-- `capacity` is the size that the pool's length and word 0 agree on. Assumes nothing.
use mathlib.Core.Path.{sym, ◌∙◌}
use borrow.Author.Tests.{eqb-true}
use lib.ListN.{get_or}
use Rattle.pool.specs.Sizes.{capacity_of}
use Rattle.pool.proofs.Sizes.{size_fits, none_wrong}
use Rattle.pool.proofs.capacity.Goals as goal

pub returns-then-is_empty : goal.returns-then-is_empty
returns-then-is_empty c = (sym (none_wrong c.args.pool.now (eqb-true _ _ (sym c.is_empty.ensures ∙ c.if-is_empty.true))), tt)

pub returns : goal.returns
unfolding capacity_of
returns c =
    let pool = c.args.pool.now in
    (c.size_of.ensures, rw c.size_of.ensures (size_fits pool (get_or pool 0 0)))
