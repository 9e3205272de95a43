-- A plan from C comes back as the plan that went out. Assumes nothing.
use mathlib.Core.Path.{◌≡◌, ◌∙◌}
use Prim.Native.Nat.{ℕ}
use Rattle.plan.specs.Plans.{all_but_last, the_switch, one_group, Decided, decided_for, planned_for}
use Rattle.plan.proofs.Laws.{plan_places}
use Rattle.rules.specs.Puts.{put_plan}
use Rattle.rules.specs.Deletes.{delete_plan}
use Rattle.opening.specs.Openings.{open_plan}
use Rattle.handing.specs.Plans.{PlannedWords, HandedOut}
use Rattle.handing.proofs.Returns.{plan_returns, finish_returns, step_unread, finish_unread}
use Rattle.demands.specs.FromC.{taken_in, Returns}

-- every plan that is decided has 21 places
planned_returns : (g : ℕ) (group : ℕ → ℕ) (d : Decided) (w : PlannedWords) → HandedOut (λ p. p ≡ planned_for g group d) w → taken_in w ≡ planned_for g group d
planned_returns g group d w h =
    let d' = decided_for g d in
    let places = plan_places group d'.stores d'.effect in
    rw (h.2, h.1, plan_returns (planned_for g group d).plan places.0 places.1)

pub returns : Returns
returns = record {
  plan = λ p h. plan_returns p h.0 h.1;
  step = λ p h at pool a e. rw (plan_returns p h.0 h.1) at e;
  finish = λ p map a e. e ∙ finish_returns p map;
  step_unread = λ words x y at pool a e. e ∙ step_unread words x y at pool;
  finish_unread = λ words x y map a e. e ∙ finish_unread words x y map;
  put = λ pool map k v g w. planned_returns g all_but_last (put_plan pool map k v) w;
  delete = λ pool k g w. planned_returns g the_switch (delete_plan pool k) w;
  opening = λ pool g w. planned_returns g one_group (open_plan pool) w;
}
