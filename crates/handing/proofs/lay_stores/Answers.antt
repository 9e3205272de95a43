-- `lay_stores` writes a word number and a value each turn. The invariant: so many of both are written. Assumes nothing.
use Rattle.std.proofs.Common.{◌≡◌, ◌∙◌, get_or, rules, arith}
use Rattle.handing.specs.Plans.{spared}
use Rattle.handing.proofs.Laws.{length_spared, spared_at, written_none, written_next, written_all}
use Rattle.handing.proofs.lay_stores.Goals as goal

pub loop-i-init : goal.loop-i-init
loop-i-init c = written_none 7 23 c.args.plan.now (spared c.args.words.now) (spared c.args.values.now)

pub loop-i-preserved : goal.loop-i-preserved
loop-i-preserved c =
    let ws = c.args.words.now in
    let vs = c.args.values.now in
    let w : c.unwrap_or.result ≡ get_or ws c.loop-i.i 0 = search rules in
    let v : c.unwrap_or-in-loop-i.result ≡ get_or vs c.loop-i.i 0 = search rules in
    rw (c.loop-i.invariant, w, v, ← spared_at ws c.loop-i.i, ← spared_at vs c.loop-i.i)
    (written_next 7 23 c.args.plan.now (spared ws) (spared vs) c.told-plan (length_spared ws ∙ omega arith) (length_spared vs ∙ omega arith) c.loop-i.i c.loop-i-test.true)

pub returns : goal.returns
returns c =
    let ws = c.args.words.now in
    let vs = c.args.values.now in
    let e : c.loop-i.i ≡ 23 = omega arith in
    (rw e at c.loop-i.invariant) ∙ written_all 7 23 c.args.plan.now (spared ws) (spared vs) c.told-plan (length_spared ws ∙ omega arith) (length_spared vs ∙ omega arith)
