-- What is reached on eADR is reached on ADR: a whole call is its plan carried out, a cut in order is a cut by groups, and an opening is its planning call,
-- store by store, until there is none, and then open. Assumes nothing.
use Rattle.std.specs.Prelude.{Option, None, Some}
use mathlib.Core.Path.{◌≡◌, refl, sym, ap, ◌∙◌, subst}
use mathlib.Core.List.{List, []}
use Prim.Native.Nat.{ℕ, zero, suc}
use lib.ListN.{length}
use Rattle.pool.specs.Sizes.{bytes_of}
use Rattle.plan.specs.Plans.{made}
use Rattle.writing.specs.Calls.{Left as Called}
use Rattle.opening.specs.Openings.{Left, open_plan, open_of, open_steps}
use Rattle.opening.proofs.HeldOpens.{open_is, all_mended, none_left, end}
use Rattle.demands.specs.Tables.{Table}
use Rattle.demands.specs.Demand3.{ADR, EADR, planned, effect, Reach, fresh, existing, done, stepped, refused, cut, lost, reopening, opened, Covers}
use Rattle.demands.proofs.States.{State}
use Rattle.demands.proofs.Cuts.{in_order_groups}
use Rattle.demands.proofs.Operations.{whole_number, whole_refused, by_plan_whole}
use Rattle.demands.proofs.Demand3.{reach_state}

-- where the planning call has no store left, single stores change nothing
still : (k : ℕ) (pool : List ℕ) → (open_plan pool).stores ≡ [] → open_steps k pool ≡ pool
unfolding open_steps made
still zero pool e = refl
still (suc k) pool e = rw e (still k pool e)

module _ (B : List ℕ → Type 0) (n : ℕ) where
  -- an opening, by its planning call until there is none
  by_steps : {pool : List ℕ} {T : Table} → State n pool None T → (bytes : List ℕ) → length bytes ≡ bytes_of n → Reach B ADR n pool None T
      → Reach B ADR n (open_of pool bytes).pool (Some (open_of pool bytes).map) T
  by_steps {pool} {T} S bytes e r =
      let A = all_mended n S.pos S.cap S.t pool S.holds in
      let E = (end n S.pos S.cap S.t pool S.holds).pool in
      let left = none_left n S.pos S.cap S.t pool S.holds in
      let A' = all_mended n S.pos S.cap S.t E A.pool in
      let one = open_is n S.pos S.cap S.t pool S.holds bytes e in
      let two = open_is n S.pos S.cap S.t E A.pool bytes e in
      let words : (open_of E bytes).pool ≡ (open_of pool bytes).pool =
      ap (λ (l : Left). l.pool) two ∙ sym A'.steps ∙ still _ E left ∙ sym (ap (λ (l : Left). l.pool) one) in
      let marks : (open_of E bytes).map ≡ (open_of pool bytes).map = ap (λ (l : Left). l.map) two ∙ sym (ap (λ (l : Left). l.map) one) in
      let there : Reach B ADR n E None T = subst (λ (l : List ℕ). Reach B ADR n l None T) A.steps (reopening _ r) in
      subst (λ (l : List ℕ). Reach B ADR n l (Some (open_of pool bytes).map) T) words
      (subst (λ (m : List ℕ). Reach B ADR n (open_of E bytes).pool (Some m) T) marks (opened bytes left there e))

  covered : {pool : List ℕ} {map : Option (List ℕ)} {T : Table} → Reach B EADR n pool map T → Reach B ADR n pool map T
  covered (fresh pool map z) = fresh pool map z
  covered (existing s e b ok r) = existing s e b ok r
  covered (done {pool = pool} {map = map} {T = T} o w r z) =
      let S = reach_state EADR r in
      subst (λ (l : Called). Reach B ADR n l.pool (Some l.map) (effect o T)) (by_plan_whole S ADR o) (stepped o (covered r) (sym (whole_number S o) ∙ z))
  covered (stepped {pool = pool} {map = map} {T = T} o r z) =
      let S = reach_state EADR r in
      subst (λ (l : Called). Reach B ADR n l.pool (Some l.map) (effect o T)) (by_plan_whole S ADR o ∙ sym (by_plan_whole S EADR o)) (stepped o (covered r) z)
  covered (refused {T = T} o w r z) =
      let S = reach_state EADR r in
      subst (λ (l : Called). Reach B ADR n l.pool (Some l.map) T) (sym (whole_refused S o (λ p. z (whole_number S o ∙ p)))) (covered r)
  covered (cut {pool = pool} {map = map} o τ b r z c) = cut o τ b (covered r) z (in_order_groups o (planned o pool map).stores τ b c)
  covered (lost r) = lost (covered r)
  covered (reopening k r) = reopening k (covered r)
  covered (opened bytes u r e) = by_steps (reach_state EADR r) bytes e (covered r)

pub covers : Covers
covers = record { cuts = in_order_groups; states = λ B n pool map T. covered B n }
