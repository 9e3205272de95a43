-- `survey_ref` and `survey_node` call each other: with each node the walk depth rises. Before each child `survey_node` stands where `Joined` says.
-- Both rest on the laws of turns. Assumes nothing.
use mathlib.Core.Path.{◌≡◌}
use native.Mathlib.Omega.{arith}
use lib.ListN.{length-set}
use Rattle.walk.specs.Walks.{is_child}
use Rattle.walk.proofs.Heads.{header_fits}
use Rattle.walk.proofs.Loops.{tally_le}
use Rattle.survey.proofs.Turns.{child_in, sixteen, joined_none, joined_empty, joined_child, joined_damaged, joined_misplaced, node_few, node_over, node_judged, ref_leaf, ref_node, ref_wrong}
use Rattle.survey.proofs.+survey_node_survey_ref.Goals as goal
use Rattle.survey.proofs.+survey_node_survey_ref.Goals.{survey_node-then-r-ne0+in_ok-last+in_ok-join, survey_node-else-r-ne0}

pub survey_node-loop-c-init : goal.survey_node-loop-c-init
survey_node-loop-c-init t c = joined_none _ _ _ _ _ (simp length-set c.requires.0)

pub survey_node-returns-in_err-last : goal.survey_node-returns-in_err-last
survey_node-returns-in_err-last t c =
    let a = c.args in
    let k = child_in a.pool.now.sized _ c.requires.2 c.children-r-items.ensures _ c.loop-c-test.true in
    let o = joined_damaged _ _ _ _ _ c.loop-c.invariant k.0 c.if-r-ne0.true k.1 (rw c.in_err-last.was at c.survey_ref.ensures) in
    rw c.from_residual-in_err-last.ensures (node_over a.pool.now.words.now a.pool.now.n a.w a.j a.map.now c.header-word.ensures c.accept.ensures.0 _ c.in_ok-b.was
    c.if-map-slot-ne0.false _ o)

pub survey_node-returns-in_err-join : goal.survey_node-returns-in_err-join
survey_node-returns-in_err-join t c =
    let a = c.args in
    let k = child_in a.pool.now.sized _ c.requires.2 c.children-r-items.ensures _ c.loop-c-test.true in
    let o = joined_misplaced _ _ _ _ _ c.loop-c.invariant k.0 c.if-r-ne0.true (rw c.in_ok-last.was at c.survey_ref.ensures) k.1
    (rw c.in_err-join.was at c.join.ensures) in
    rw c.from_residual-in_err-join.ensures (node_over a.pool.now.words.now a.pool.now.n a.w a.j a.map.now c.header-word.ensures c.accept.ensures.0 _ c.in_ok-b.was
    c.if-map-slot-ne0.false _ o)

pub survey_node-overflow_add-children : goal.survey_node-overflow_add-children
survey_node-overflow_add-children t c =
    let a = c.args in
    let k = child_in a.pool.now.sized _ c.requires.2 c.children-r-items.ensures _ c.loop-c-test.true in
    omega (arith, k.1, c.loop-c.invariant.counted, tally_le (is_child a.pool.now.words.now a.pool.now.n a.j) c.loop-c.c)

pub survey_node-loop-c-preserved : goal.survey_node-loop-c-preserved
survey_node-loop-c-preserved t c =
    let i = c.loop-c.invariant in
    let k = child_in c.args.pool.now.sized _ c.requires.2 c.children-r-items.ensures _ c.loop-c-test.true in
    elim c.if-r-ne0.branch [
      | survey_node-then-r-ne0+in_ok-last+in_ok-join w ↦
          rw (w.map-is, w.span-is, w.children-is)
          (joined_child _ _ _ _ _ i k.0 w.if-r-ne0.true (rw w.in_ok-last.was at w.survey_ref.ensures)
          (rw w.in_ok-join.was at w.join.ensures) (omega arith))
      | survey_node-else-r-ne0 w ↦
          rw (w.map-is, w.span-is, w.children-is) (joined_empty _ _ _ _ _ i k.0 w.if-r-ne0.false)
    ]

pub survey_node-judge_header-requires : goal.survey_node-judge_header-requires
survey_node-judge_header-requires t c = header_fits _ _ c.accept.ensures.0 c.in_ok-b.was

pub survey_node-returns-then-children-lt2 : goal.survey_node-returns-then-children-lt2
survey_node-returns-then-children-lt2 t c =
    let a = c.args in
    let e : c.loop-c.c ≡ 16 = omega (arith, sixteen a.pool.now.sized _ c.requires.2 c.children-r-items.ensures) in
    node_few a.pool.now.words.now a.pool.now.n a.w a.j a.map.now c.header-word.ensures c.accept.ensures.0 _ c.in_ok-b.was _
    (rw e at c.loop-c.invariant.counted) c.if-children-lt2.true

pub survey_node-returns-in_err-span : goal.survey_node-returns-in_err-span
survey_node-returns-in_err-span t c = absurd (omega (arith, c.loop-c.invariant.none c.in_err-span.was))

pub survey_node-returns : goal.survey_node-returns
survey_node-returns t c =
    let a = c.args in
    let e : c.loop-c.c ≡ 16 = omega (arith, sixteen a.pool.now.sized _ c.requires.2 c.children-r-items.ensures) in
    let i = rw e at c.loop-c.invariant in
    let o = rw c.in_ok-span.was at i in
    node_judged a.pool.now.words.now a.pool.now.n a.w a.j a.map.now c.header-word.ensures c.accept.ensures.0 _ c.in_ok-b.was c.if-map-slot-ne0.false
    o c.if-children-lt2.false c.judge_header.ensures

pub survey_ref-returns-in-Leaf : goal.survey_ref-returns-in-Leaf
survey_ref-returns-in-Leaf t c =
    let a = c.args in
    ref_leaf a.pool.now.words.now a.pool.now.n a.w a.r a.map.now c.reference.ensures.0 c.in-Leaf.is c.leaf_key.ensures c.meet_leaf.ensures

pub survey_ref-returns-in-Node : goal.survey_ref-returns-in-Node
survey_ref-returns-in-Node t c =
    let a = c.args in
    ref_node a.pool.now.words.now a.pool.now.n a.w a.r a.map.now c.reference.ensures.0 c.in-Node.is c.survey_node.ensures

pub survey_ref-returns-in-Empty : goal.survey_ref-returns-in-Empty
survey_ref-returns-in-Empty t c =
    let a = c.args in
    ref_wrong a.pool.now.words.now a.pool.now.n a.w a.r a.map.now c.reference.ensures.0 c.requires.2 c.in-Empty.is
