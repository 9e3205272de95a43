-- `size_of` judges N before it forms 19N - 15. Assumes nothing.
use borrow.Author.Tests.{lt-ltb, le-ltb, eq-eqb, ne_eqb}
use Rattle.pool.specs.Sizes.{size_of}
use Rattle.pool.proofs.size_of.Goals as goal

pub returns-then-n-lt1 : goal.returns-then-n-lt1
unfolding size_of
returns-then-n-lt1 c = simp (lt-ltb _ _ c.if-n-lt1.true)

pub returns-then-n-gt-MOST : goal.returns-then-n-gt-MOST
unfolding size_of
returns-then-n-gt-MOST c = simp (le-ltb _ _ c.if-n-lt1.false, lt-ltb _ _ c.if-n-gt-MOST.true)

pub returns-then-words-leaves : goal.returns-then-words-leaves
unfolding size_of
returns-then-words-leaves c = simp (le-ltb _ _ c.if-n-lt1.false, le-ltb _ _ c.if-n-gt-MOST.false, eq-eqb _ _ c.if-words-leaves.true)

pub returns-else-words-leaves : goal.returns-else-words-leaves
unfolding size_of
returns-else-words-leaves c = simp (le-ltb _ _ c.if-n-lt1.false, le-ltb _ _ c.if-n-gt-MOST.false, ne_eqb _ _ c.if-words-leaves.false)
