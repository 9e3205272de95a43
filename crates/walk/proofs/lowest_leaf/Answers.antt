-- `lowest_leaf` goes on as the definition does: from where it stands it comes to the whole way's key. Assumes nothing.
use Prim.Native.Nat.{◌<◌}
use mathlib.Core.Path.{◌≡◌, refl, sym, ◌∙◌, subst}
use native.Mathlib.Omega.{arith}
use borrow.Author.Rules.{rules}
use Rattle.pool.specs.Refs.{Within}
use mathlib.Core.Logic.{inl, inr}
use Rattle.pool.specs.declared.Ref.TheVariants.{Empty, Leaf, Bad}
use Rattle.walk.specs.Ends.{Accepted}
use Rattle.walk.specs.Walks.{lowest_child}
use Rattle.walk.proofs.Places.{place_some, place_none}
use Rattle.walk.proofs.Heads.{refused, accepted}
use Rattle.walk.proofs.LowestLeaf.{lowest_ends, lowest_damaged, lowest_childless, lowest_on}
use Rattle.walk.proofs.lowest_leaf.Goals as goal
use Rattle.walk.proofs.lowest_leaf.Goals.{In-Some, In-Some-lowest_child}

node : (c : In-Some)
    →
    let a = c.args in
    let l = c.loop-j in
    Accepted a.pool.now.words.now a.pool.now.n l.depth l.x c.in-Node.j c.in-Some.b
node c =
    let r = c.reference.ensures in
    accepted _ _ _ _ r.0 c.in-Node.is c.header-header.ensures c.accept.ensures.0 r.1 c.accept.ensures.1 c.in-Some.is

pub loop-j-init : goal.loop-j-init
loop-j-init c = (c.requires, refl)

pub returns-in-Leaf : goal.returns-in-Leaf
returns-in-Leaf c =
    rw c.leaf_key.ensures (sym (lowest_ends _ _ 16 _ _ _ (Leaf c.in-Leaf.i) (sym c.reference.ensures.0 ∙ c.in-Leaf.is) tt) ∙ c.loop-j.invariant.1)

pub returns-in-Empty : goal.returns-in-Empty
returns-in-Empty c =
    let r = c.reference.ensures.0 in
    let i = c.loop-j.invariant.1 in
    rw c.out_of_range.ensures
    (elim c.in-Empty.is [
      | inl e ↦ sym (lowest_ends _ _ 16 _ _ _ Empty (sym r ∙ e) tt) ∙ i
      | inr e ↦ sym (lowest_ends _ _ 16 _ _ _ Bad (sym r ∙ e) tt) ∙ i
    ])

pub header-header-requires : goal.header-header-requires
header-header-requires c = rw c.in-Node.is at c.reference.ensures.1

pub bad_header-requires : goal.bad_header-requires
bad_header-requires c =
    let j = subst (Within _) c.in-Node.is c.reference.ensures.1 in
    (search rules, omega arith)

pub returns-in_default : goal.returns-in_default
returns-in_default c =
    let a = refused _ _ _ _ c.reference.ensures.0 c.in-Node.is c.header-header.ensures c.accept.ensures.0
    c.in_default.is in
    rw (c.bad_header.ensures, c.header-header.ensures) (sym (lowest_damaged _ _ 16 _ _ _ _ a) ∙ c.loop-j.invariant.1)

pub lowest_child-requires : goal.lowest_child-requires
lowest_child-requires c = (node (goal.at.lowest_child-requires c).In-Some).j<

pub node_word-requires : goal.node_word-requires
node_word-requires c =
    let a = node (goal.at.node_word-requires c).In-Some in
    omega (arith, c.args.pool.now.sized)

pub returns-in_default-lowest_child : goal.returns-in_default-lowest_child
returns-in_default-lowest_child c =
    let a = node (goal.at.returns-in_default-lowest_child c).In-Some in
    let none = place_none _ (sym c.lowest_child.ensures ∙ c.in_default-lowest_child.is) in
    rw c.node_word.ensures (sym (lowest_childless _ _ 16 _ _ _ _ _ a none) ∙ c.loop-j.invariant.1)

-- the child that was found
found : (c : In-Some-lowest_child)
    →
    let a = c.args in
    let x = c.in-Some-lowest_child.c in
    (x ≡ lowest_child a.pool.now.words.now a.pool.now.n c.in-Node.j) × (lowest_child a.pool.now.words.now a.pool.now.n c.in-Node.j < 16)
found c = place_some _ (sym c.lowest_child.ensures ∙ c.in-Some-lowest_child.is)

pub overflow_add-depth : goal.overflow_add-depth
overflow_add-depth c =
    let a = node (goal.at.overflow_add-depth c).In-Some in
    omega arith

pub node_word-requires-in-loop-j : goal.node_word-requires-in-loop-j
node_word-requires-in-loop-j c =
    let a = node (goal.at.node_word-requires-in-loop-j c).In-Some in
    omega (arith, c.args.pool.now.sized)

pub overflow_add-at : goal.overflow_add-at
overflow_add-at c =
    let a = node (goal.at.overflow_add-at c).In-Some in
    omega (arith, c.node_word-in-loop-j.ensures)

pub overflow_add-at-in-loop-j : goal.overflow_add-at-in-loop-j
overflow_add-at-in-loop-j c =
    let a = node (goal.at.overflow_add-at-in-loop-j c).In-Some in
    let f = found (goal.at.overflow_add-at-in-loop-j c).In-Some-lowest_child in
    omega (arith, c.node_word-in-loop-j.ensures)

pub child-x-requires : goal.child-x-requires
child-x-requires c =
    let f = found (goal.at.child-x-requires c).In-Some-lowest_child in
    ((node (goal.at.child-x-requires c).In-Some).j<, omega arith)

pub loop-j-smaller : goal.loop-j-smaller
loop-j-smaller c =
    let a = node (goal.at.loop-j-smaller c).In-Some in
    omega arith

pub loop-j-preserved : goal.loop-j-preserved
loop-j-preserved c =
    let a = node (goal.at.loop-j-preserved c).In-Some in
    let f = found (goal.at.loop-j-preserved c).In-Some-lowest_child in
    (omega arith, rw (c.child-x.ensures, c.node_word-in-loop-j.ensures, f.0) (lowest_on _ _ _ _ _ _ _ a f.1 ∙ c.loop-j.invariant.1))
