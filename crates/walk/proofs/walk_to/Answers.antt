-- `walk_to` goes on as the walk does: from where it stands the walk comes to the end of the whole walk. Assumes nothing.
use mathlib.Core.Path.{refl, sym, ◌∙◌, subst}
use native.Mathlib.Omega.{arith}
use borrow.Author.Rules.{rules}
use borrow.Author.Tests.{le-leb, lt-leb}
use Rattle.digits.proofs.Digits.{digit_lt}
use Rattle.pool.specs.Places.{word_at}
use Rattle.pool.specs.Refs.{Within}
use Rattle.walk.specs.Ends.{Accepted}
use Rattle.walk.proofs.Heads.{unmatched, refused, accepted}
use Rattle.walk.proofs.Walks.{walk_ends, walk_damaged, walk_stops, walk_on}
use Rattle.walk.proofs.Ends.{root_inside, below_inside}
use Rattle.walk.proofs.walk_to.Goals as goal
use Rattle.walk.proofs.walk_to.Goals.{In-Some}

node : (c : In-Some)
    →
    let a = c.args in
    let l = c.loop-j in
    Accepted a.pool.now.words.now a.pool.now.n l.s.depth (word_at a.pool.now.words.now l.s.at) c.in-Node.j c.in-Some.b
node c =
    let r = c.reference-r.ensures in
    accepted _ _ _ _ r.0 c.in-Node.is c.header-header.ensures c.accept.ensures.0 r.1 c.accept.ensures.1 c.in-Some.is

pub loop-j-init : goal.loop-j-init
loop-j-init c = rw c.root-s.ensures (root_inside c.args.pool.now.sized _, refl)

pub returns-in_default : goal.returns-in_default
returns-in_default c =
    let r = c.reference-r in
    c.ended.ensures ∙ sym (walk_ends _ _ _ _ 16 _ r.result (sym r.ensures.0) (unmatched r.result c.in_default.not-Node)) ∙ c.loop-j.invariant.1

pub header-header-requires : goal.header-header-requires
header-header-requires c = rw c.in-Node.is at c.reference-r.ensures.1

pub bad_header-requires : goal.bad_header-requires
bad_header-requires c =
    let j = subst (Within _) c.in-Node.is c.reference-r.ensures.1 in
    (search rules, omega arith)

pub returns-in_default-accept : goal.returns-in_default-accept
returns-in_default-accept c =
    let a = refused _ _ _ _ c.reference-r.ensures.0 c.in-Node.is c.header-header.ensures c.accept.ensures.0
    c.in_default-accept.is in
    rw (c.bad_header.ensures, c.header-header.ensures) (sym (walk_damaged _ _ _ _ 16 _ _ a) ∙ c.loop-j.invariant.1)

pub returns-then-stop-b : goal.returns-then-stop-b
returns-then-stop-b c =
    sym (walk_stops _ _ _ _ 16 _ _ _ (node (goal.at.returns-then-stop-b c).In-Some) (le-leb _ _ c.if-stop-b.true)) ∙ c.loop-j.invariant.1

pub past-s-requires : goal.past-s-requires
past-s-requires c =
    let a = node (goal.at.past-s-requires c).In-Some in
    (search rules, omega arith, a.b<, omega (arith, c.digit.ensures), omega arith)

pub loop-j-smaller : goal.loop-j-smaller
loop-j-smaller c =
    let a = node (goal.at.loop-j-smaller c).In-Some in
    rw c.past-s.ensures (omega arith)

pub loop-j-preserved : goal.loop-j-preserved
loop-j-preserved c =
    let a = node (goal.at.loop-j-preserved c).In-Some in
    let h = c.if-stop-b.false in
    let i = c.loop-j.invariant in
    rw (c.past-s.ensures, c.digit.ensures) (below_inside c.args.pool.now.sized _ i.0 a h (digit_lt 16 _ _), walk_on _ _ _ _ _ _ _ a (lt-leb _ _ h) ∙ i.1)
