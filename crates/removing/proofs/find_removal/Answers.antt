-- `find_removal` goes by where the walk ends. It rests on the laws of walks' ends and of deletes. Assumes nothing.
use mathlib.Core.Path.{sym, ◌∙◌}
use native.Mathlib.Omega.{arith}
use Rattle.pool.specs.declared.Ref.TheVariants.{Leaf}
use Rattle.walk.specs.Ends.{Stands}
use Rattle.walk.proofs.Ends.{walk_inside}
use Rattle.removing.proofs.Deletes.{delete_missed, delete_absent, delete_root, delete_below, Walked}
use Rattle.removing.proofs.find_removal.Goals as goal
use Rattle.removing.proofs.find_removal.Goals.{After-walk-end, In-AtLeaf}

walked : (c : After-walk-end) → let a = c.args in Walked a.pool.now.words.now a.pool.now.n a.key c.walk-end.result
walked c = record { size = sym c.requires; walks = c.walk-end.ensures }

-- where the walk that ended at a leaf stands
stands : (c : In-AtLeaf) → Stands c.args.pool.now.words.now c.args.pool.now.n 16 c.in-AtLeaf.s (Leaf c.in-AtLeaf.i)
stands c = walk_inside c.args.pool.now.sized _ 16 (sym c.in-AtLeaf.is ∙ c.walk-end.ensures)

pub returns-in_default : goal.returns-in_default
returns-in_default c = delete_missed (walked (goal.at.returns-in_default c).After-walk-end) c.in_default.not-AtLeaf c.miss.ensures

pub leaf_key-requires : goal.leaf_key-requires
leaf_key-requires c = (stands (goal.at.leaf_key-requires c).In-AtLeaf).within

pub returns-then-leaf_key-key : goal.returns-then-leaf_key-key
returns-then-leaf_key-key c =
    delete_absent (walked (goal.at.returns-then-leaf_key-key c).After-walk-end) c.in-AtLeaf.is c.leaf_key.ensures
    c.if-leaf_key-key.true

pub returns-then-s-eq0 : goal.returns-then-s-eq0
returns-then-s-eq0 c =
    c.empty.ensures
    ∙ delete_root (walked (goal.at.returns-then-s-eq0 c).After-walk-end) c.in-AtLeaf.is
    c.leaf_key.ensures c.if-leaf_key-key.false c.if-s-eq0.true

pub unlink-requires : goal.unlink-requires
unlink-requires c = let i = (stands (goal.at.unlink-requires c).In-AtLeaf).inside in
    let p = i.passed c.if-s-eq0.false in
    (p.accepted.j<, i.depth≤, omega (arith, p.accepted.w≤b))

pub returns : goal.returns
returns c =
    c.unlink.ensures
    ∙ delete_below (walked (goal.at.returns c).After-walk-end) c.in-AtLeaf.is
    c.leaf_key.ensures c.if-leaf_key-key.false c.if-s-eq0.false
