-- `mend_first` passes the nodes that are not stale. Assumes nothing.
use Rattle.std.proofs.Common.{◌≡◌, ◌+◌, ◌-◌, List, sym, ap, ◌∙◌, arith}
use Rattle.tree.specs.Stores.{Store}
use Rattle.plan.specs.Plans.{one_group, plan_of}
use Rattle.plan.specs.declared.Effect.TheVariants.{Nothing}
use Rattle.opening.specs.Openings.{stale, first_stale}
use Rattle.opening.proofs.Openings.{stale_some, first_at, first_none}
use Rattle.opening.proofs.HeldMends.{scan_first, scan_nowhere}
use Rattle.opening.proofs.mending.mend_first.Goals as goal

pub returns-in-Some : goal.returns-in-Some
returns-in-Some c =
    let p = c.args.pool.now.words.now in
    let n = c.args.pool.now.n in
    let m = c.args.map.now.bytes.now in
    let l = c.loop-j in
    let s = stale_some p n m l.j c.in-Some.ensures in
    let h : first_stale p n m ≡ l.j = scan_first (n - 1) l.j 0 (stale p n m) (omega arith) (omega arith) (λ k x y. l.invariant k y) s.0 in
    c.mend_plan.ensures ∙ rw s.1 (ap (λ (σ : List Store). plan_of one_group σ Nothing) (sym (first_at p n m l.j (sym h) (omega arith))))

pub returns : goal.returns
returns c =
    let p = c.args.pool.now.words.now in
    let n = c.args.pool.now.n in
    let m = c.args.map.now.bytes.now in
    let h : first_stale p n m ≡ 0 + (n - 1) = scan_nowhere (n - 1) 0 (stale p n m) (λ k x y. c.loop-j.invariant k (omega arith)) in
    c.none.ensures ∙ ap (λ (σ : List Store). plan_of one_group σ Nothing) (sym (first_none p n m (omega arith)))
