-- `place_key` goes by where the walk ends. It rests on the laws of walks' ends and of puts. Assumes nothing.
use mathlib.Core.Path.{sym, ◌∙◌}
use native.Mathlib.Omega.{arith}
use Rattle.walk.proofs.Ends.{walk_inside}
use Rattle.placing.proofs.Puts.{over_inside, ends_lead, ends_damaged}
use Rattle.placing.proofs.place_key.Goals as goal

pub beside_leaf-requires : goal.beside_leaf-requires
beside_leaf-requires c =
    let z = c.args.pool.now.sized in
    let e = sym c.in-AtLeaf.is ∙ c.walk-end.ensures in
    let i = walk_inside z _ 16 e in
    (sym e, i.within, omega (arith, i.inside.at<))

pub returns-in-AtLeaf : goal.returns-in-AtLeaf
returns-in-AtLeaf c =
    ends_lead c.args.pool.now.words.now _ _ c.walk-end.ensures c.in-AtLeaf.is c.beside_leaf.ensures

pub returns-in_default-end : goal.returns-in_default-end
returns-in_default-end c =
    ends_damaged c.args.pool.now.words.now _ _ c.walk-end.ensures c.in_default.not-AtLeaf c.in_default-end.not-AtEmpty

pub beside_empty-requires : goal.beside_empty-requires
beside_empty-requires c =
    let z = c.args.pool.now.sized in
    let e = sym c.in-AtEmpty.is ∙ c.walk-end.ensures in
    let i = (walk_inside z _ 16 e).inside in
    let o = over_inside z i in
    (sym e, o.0, omega arith, i.depth≤)

pub returns : goal.returns
returns c =
    ends_lead c.args.pool.now.words.now _ _ c.walk-end.ensures c.in-AtEmpty.is c.beside_empty.ensures
