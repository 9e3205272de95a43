-- `make` makes the stores one by one: at each turn what is left to do comes to the whole. It rests on what `store` ensures. Assumes nothing.
use mathlib.Core.Path.{sym, ◌∙◌}
use mathlib.Core.Logic.{inl, inr, ⊎_elim}
use native.Mathlib.Omega.{arith}
use Rattle.plan.proofs.Laws.{number_done, number_refused, makes_none, makes_next, makes_end}
use Rattle.plan.proofs.make.Goals as goal

pub loop-word-preserved : goal.loop-word-preserved
loop-word-preserved c =
    let h = c.in-Some.ensures.steps in
    let done = number_done c.store.result (sym c.if-is_err.ensures.value) in
    record {
      counted = omega (arith, h.1);
      left = sym (makes_next _ _ _ h.0.0 h.0.1 h.1 c.store.ensures done) ∙ c.loop-word.invariant.left;
    }

pub returns-in-None : goal.returns-in-None
returns-in-None c =
    sym (makes_none _ _ _ _ _ (λ more. ⊎_elim (λ s. inl s.1.0) (λ s. inr s.1.0) (c.in-None.ensures.steps more)))
    ∙ c.loop-word.invariant.left

pub returns-then-is_err : goal.returns-then-is_err
returns-then-is_err c =
    let h = c.in-Some.ensures.steps in
    let refused = number_refused c.store.result (sym c.if-is_err.ensures.value) in
    sym (makes_end _ _ _ h.0.0 h.0.1 h.1 c.store.ensures refused) ∙ c.loop-word.invariant.left
