-- `plan_for` judges the generation, and gathers a plan from what is laid out. Assumes nothing.
use Rattle.std.proofs.Common.{◌≡◌, [], Ok, rules}
use Rattle.std.proofs.lemmas.Result.{err_from_is_err_and}
use Rattle.std.specs.Fn.{FnReturns, FnOnceReturnsAtMut}
use Rattle.plan.specs.Plans.{generation_of}
use Rattle.planning.proofs.Plans.{plan_laid, plan_refused}
use Rattle.planning.proofs.plan_for.Goals as goal

pub returns-in_err-effect : goal.returns-in_err-effect
returns-in_err-effect g c = λ d by none grouped laid.
    let a : Ok c.in_ok-try_from.field-0 ≡ generation_of c.args.generation = search rules in
    let h : FnOnceReturnsAtMut g.L.FnOnce c.args.lay [] c.lay.result c.lay.new.arg2 = search rules in
    let q = laid _ _ h in
    let p = err_from_is_err_and c.from_residual-in_err-effect.result c.from_residual-in_err-effect.ensures.1 in
    rw (p.1, p.2) (plan_refused c.args.generation by a (rw c.in_err-effect.was at q) none)

pub returns : goal.returns
returns g c = λ d by none grouped laid.
    let a : Ok c.in_ok-try_from.field-0 ≡ generation_of c.args.generation = search rules in
    let h : FnOnceReturnsAtMut g.L.FnOnce c.args.lay [] c.lay.result c.lay.new.arg2 = search rules in
    let q = laid _ _ h in
    let k : FnReturns g.G.Fn c.args.group (c.len.result, tt) c.group-first.result = search rules in
    let f = grouped _ _ k in
    plan_laid c.args.generation by a (rw c.in_ok-effect.was at q) (rw c.len.ensures at f) (rw c.plan.ensures at c.fenced.ensures)
