-- The plan of what was laid out, for a generation that there is.
-- Assumes nothing.
use mathlib.Core.Path.{◌≡◌, refl}
use mathlib.Core.Bool.{Bool, true, false}
use mathlib.Core.List.{List}
use Prim.Native.Nat.{ℕ}
use lib.Dec.{eqb}
use lib.ListN.{length}
use Rattle.std.specs.Prelude.{Ok}
use Rattle.digits.specs.Choice.{pick}
use Rattle.tree.specs.Stores.{Store}
use Rattle.plan.specs.declared.Plan.{Plan}
use Rattle.plan.specs.declared.Effect.{Effect}
use Rattle.plan.specs.declared.Generation.{Generation}
use Rattle.plan.specs.Plans.{one_group, plan_of, Decided, decided, refused, Planned, planned_of, planned_for, adr, fences_of, generation_of, fenced_plan}
use Rattle.plan.proofs.Laws.{known_keeps}

-- no store, no fence
no_fence : (generation first : ℕ) → fences_of generation first 0 ≡ 0
no_fence generation first = go (eqb generation adr)
  where
    go : (b : Bool) → ◌≡◌ {A = ℕ} (pick b 0 0) 0
    go true = refl
    go false = refl

module _ (generation : ℕ) (by : ℕ → ℕ) {d : Decided} {x : Generation} (known : Ok x ≡ generation_of generation) where
  pub plan_laid : {σ : List Store} {e : Effect} {first : ℕ} {p : Plan} → decided σ e ≡ d → first ≡ by (length σ) → p ≡ fenced_plan generation (plan_of (λ _. first) σ e)
      → ◌≡◌ {A = Planned} (record { number = 0; plan = p }) (planned_for generation by d)
  plan_laid {σ} {e} q f h =
      let k = known_keeps generation d known in
      rw (h, f, ← k.0, ← q)

  pub plan_refused : {k : ℕ} → refused k ≡ d → by 0 ≡ 0 → planned_of one_group (refused k) ≡ planned_for generation by d
  plan_refused q none =
      let k = known_keeps generation d known in
      rw (← k.0, ← q, none, no_fence generation 0)
