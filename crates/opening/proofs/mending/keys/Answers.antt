-- The keys are counted one by one. Assumes nothing.
use Rattle.std.proofs.Common.{◌≡◌, ◌∙◌, refl, sym, ap, ◌+◌, ◌<◌, not, eqb, get_or, arith}
use Rattle.std.proofs.lemmas.List.{length-take, get_or-take}
use Rattle.digits.specs.Loops.{tally}
use Rattle.walk.proofs.Loops.{tally_le}
use Rattle.opening.specs.Openings.{keys_of}
use Rattle.opening.proofs.Openings.{key_more}
use Rattle.opening.proofs.mending.keys.Goals as goal
use Rattle.opening.proofs.mending.keys.Goals.{After-from-count}

more : (c : After-from-count) → let m = c.args.map.now in
    (c.loop-mark.count + c.from-count.result ≡ keys_of (c.loop-mark.mark-index + 1) m.bytes.now) × (c.loop-mark.mark-index < m.n)
more c =
    let m = c.args.map.now in
    let l : c.loop-mark.mark-index < m.n = omega (arith, length-take m.n m.bytes.now, m.mapped.some, m.mapped.long) in
    let e = rw (get_or-take m.n m.bytes.now c.loop-mark.mark-index 0 l) at c.from-count.ensures in
    (rw (c.loop-mark.invariant, e) (sym (key_more m.bytes.now c.loop-mark.mark-index)), l)

pub loop-mark-init : goal.loop-mark-init
unfolding tally
loop-mark-init c = refl

pub overflow_add-count : goal.overflow_add-count
overflow_add-count c =
    let m = c.args.map.now in
    let n = more (goal.at.overflow_add-count c).After-from-count in
    omega (arith, n.0, tally_le (λ i. not (eqb (get_or m.bytes.now i 0) 0)) (c.loop-mark.mark-index + 1), m.mapped.most)

pub loop-mark-preserved : goal.loop-mark-preserved
loop-mark-preserved c = (more (goal.at.loop-mark-preserved c).After-from-count).0

pub returns : goal.returns
returns c =
    let m = c.args.map.now in
    let all : c.loop-mark.mark-index ≡ m.n = omega (arith, length-take m.n m.bytes.now, m.mapped.some, m.mapped.long) in
    c.loop-mark.invariant ∙ ap (λ i. keys_of i m.bytes.now) all
