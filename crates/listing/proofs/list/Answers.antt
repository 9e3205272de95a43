-- `list` refuses in the order 1, 6, 2, and else answers what the visit of the root left. Assumes nothing.
use Rattle.std.specs.Prelude.{None}
use Rattle.std.proofs.lemmas.Result.{err_from_is_err_and}
use mathlib.Core.Path.{◌≡◌, refl, sym, ◌∙◌}
use native.Mathlib.Omega.{arith}
use lib.Dec.{eqb}
use borrow.Author.Rules.{rules}
use borrow.Author.Tests.{eqb-true, eqb-false}
use Rattle.refusals.specs.declared.Refusal.TheVariants.{Size}
use Rattle.listing.specs.Listings.{visited, judged, list_of}
use Rattle.listing.proofs.Listings.{list_wrong, list_none, list_unequal, list_judged, judged_damage, judged_done}
use Rattle.listing.proofs.list.Goals as goal
use Rattle.listing.proofs.list.Goals.{then-is_empty-via-then-is_empty, then-is_empty-via-else-is_empty+then-keys-values, After-visit_ref, in-Ok, in-Err-Further}

pub returns-in_err-pool : goal.returns-in_err-pool
returns-in_err-pool c =
    let p = err_from_is_err_and c.from_residual.result c.from_residual.ensures.1 in
    let none : c.of.result ≡ None = grind arith in
    let e : c.in_err-pool.field-0.0 ≡ Size = grind arith in
    rw (p.1, p.2, e) (list_wrong _ _ _ _ (rw none at c.of.ensures))

pub returns-then-is_empty : goal.returns-then-is_empty
returns-then-is_empty c =
    let e = rw c.in_ok-pool.ensures.ok_part at c.of.ensures in
    elim c.then-is_empty.branch [
      | then-is_empty-via-then-is_empty w ↦ list_none _ _ _ _ e.0 (eqb-true _ _ (sym w.if-is_empty.ensures))
      | then-is_empty-via-else-is_empty+then-keys-values w ↦ list_unequal _ _ _ _ e.0 (eqb-false _ _ (sym w.if-is_empty.ensures)) w.if-keys-values.true
    ]

-- where the size and the buffers are right, what the visit of the root leaves is judged
judges : (c : After-visit_ref) → judged (visited c.visit_ref.new.self c.visit_ref.result) ≡ list_of c.args.pool.now c.args.from c.args.keys.now c.args.values.now
judges c =
    let e = rw c.in_ok-pool.ensures.ok_part at c.of.ensures in
    list_judged _ _ _ _ e.0 (eqb-false _ _ (sym c.if-is_empty.ensures)) c.if-keys-values.false (rw (c.root.ensures, e.1) at c.visit_ref.ensures.met)

pub returns-in-Err-Damage : goal.returns-in-Err-Damage
returns-in-Err-Damage c =
    let m = c.visit_ref.ensures.same in
    let a = c.fill.ensures.after (λ y e. e) in
    let b = c.fill-in-Err-Damage.ensures.after (λ y e. e) in
    let v = visited c.visit_ref.new.self c.visit_ref.result in
    let p : v.state.phase ≡ 2 = rw (c.in-Err-Damage.is, c.in-Err-Damage.field-0-is) refl in
    judged_damage v p (search rules) (search rules)
    ∙ judges (goal.at.returns-in-Err-Damage c).After-visit_ref

pub returns : goal.returns
returns c =
    let m = c.visit_ref.ensures.same in
    let v = visited c.visit_ref.new.self c.visit_ref.result in
    let (p, q) : (v.state.phase ≡ 2 → ⊥) × (c.match-visit_ref.more ≡ eqb v.state.phase 1)
    = elim c.match-visit_ref.branch [
      | in-Ok w ↦ rw (w.in-Ok.is, w.more-is) ((λ e. omega arith), refl)
      | in-Err-Further w ↦ rw (w.in-Err-Further.is, w.in-Err-Further.field-0-is, w.more-is) ((λ e. omega arith), refl)
    ] in
    judged_done v p (search rules) (search rules) q
    ∙ judges (goal.at.returns c).After-visit_ref
