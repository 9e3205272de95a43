-- Both lookups make the walk along the key without keeping more of it than they answer. Assumes nothing.
use Rattle.std.specs.Prelude.{None}
use Rattle.std.proofs.lemmas.Result.{err_from_is_err_and}
use mathlib.Core.Path.{◌≡◌, sym, ap, ◌∙◌}
use mathlib.Core.Bool.{false, not}
use mathlib.Core.Logic.{◌⊎◌, inl, inr}
use Prim.Native.Nat.{◌+◌}
use native.Mathlib.Omega.{arith}
use borrow.Author.Tests.{ne_eqb, eq-eqb}
use lib.Dec.{eqb}
use Rattle.refusals.specs.declared.Refusal.TheVariants.{Size}
use Rattle.digits.specs.Headers.{differs}
use Rattle.pool.specs.Places.{word_at, header_at}
use Rattle.walk.specs.Ends.{Accepted}
use Rattle.walk.proofs.Heads.{header_fits, NoNode, low_no_node, unmatched, refused, accepted}
use Rattle.finding.proofs.Lookups.{size_wrong, size_right, comes_root, comes_end, comes_damaged, comes_unlike, comes_on}
use Rattle.finding.proofs.find.Goals as goal
use Rattle.finding.proofs.find.Goals.{In-Some, else-this-ne0-via-then-this-ne0+else-differs, else-this-ne0-via-else-this-ne0}

pub returns-in_err-pool : goal.returns-in_err-pool
returns-in_err-pool g c =
    let p = err_from_is_err_and c.from_residual.result c.from_residual.ensures.1 in
    let none : c.of.result ≡ None = grind arith in
    let e : c.in_err-pool.field-0.0 ≡ Size = grind arith in
    rw (p.1, p.2, e, c.requires) (size_wrong _ _ _ (rw none at c.of.ensures))

pub loop-x-init : goal.loop-x-init
loop-x-init g c =
    let e = rw c.in_ok-pool.ensures.ok_part at c.of.ensures in
    rw (c.root-x.ensures, e.1, c.requires) (comes_root, size_right _ _ _ e.0)

pub returns-in_default : goal.returns-in_default
returns-in_default g c =
    let r = c.reference-r in
    let i = c.loop-x.invariant in
    c.found_end.ensures _ ∙ comes_end _ i.0 r.result r.ensures.0 (unmatched r.result c.in_default.not-Node) ∙ i.1

pub returns-in_default-accept : goal.returns-in_default-accept
returns-in_default-accept g c =
    let i = c.loop-x.invariant in
    let h = ap (word_at c.in_ok-pool.pool.words.now) c.node_word-at.ensures in
    comes_damaged _ i.0 (refused _ _ _ _ c.reference-r.ensures.0 c.in-Node.is h c.accept.ensures.0 c.in_default-accept.is) ∙ i.1

pub differs-requires : goal.differs-requires
differs-requires g c = header_fits _ _ c.accept.ensures.0 c.in-Some.is

-- of a turn that has come past `accept`: the node
node : (g : _) (c : In-Some g) → Accepted c.in_ok-pool.pool.words.now c.in_ok-pool.pool.n c.loop-x.w c.loop-x.x c.in-Node.j c.in-Some.b
node g c =
    let r = c.reference-r.ensures in
    let h = ap (word_at c.in_ok-pool.pool.words.now) c.node_word-at.ensures in
    accepted _ _ _ _ r.0 c.in-Node.is h c.accept.ensures.0 r.1 c.accept.ensures.1 c.in-Some.is

pub returns-then-differs : goal.returns-then-differs
returns-then-differs g c =
    let i = c.loop-x.invariant in
    let h = ap (λ at. differs (word_at c.in_ok-pool.pool.words.now at) c.args.key) c.node_word-at.ensures in
    comes_unlike _ i.0 (node g (goal.at.returns-then-differs g c).In-Some) (ap not (ne_eqb _ _ c.if-this-ne0.true))
    (sym h ∙ sym c.differs.ensures ∙ c.if-differs.true) ∙ i.1

pub loop-x-preserved : goal.loop-x-preserved
loop-x-preserved g c =
    let i = c.loop-x.invariant in
    let h = ap (λ at. differs (word_at c.in_ok-pool.pool.words.now at) c.args.key) c.node_word-at.ensures in
    let y = ap (λ at. word_at c.in_ok-pool.pool.words.now (at + 1 + c.digit.result)) c.node_word-at.ensures in
    let passes : (not (eqb g.row.QUICK 0) ≡ false) ⊎ (differs (header_at c.in_ok-pool.pool.words.now c.in_ok-pool.pool.n c.in-Node.j) c.args.key ≡ false)
    = elim c.else-this-ne0.branch [
      | else-this-ne0-via-then-this-ne0+else-differs w ↦ inr (sym h ∙ sym w.differs.ensures ∙ w.if-differs.false)
      | else-this-ne0-via-else-this-ne0 w ↦ inl (ap not (eq-eqb _ _ w.if-this-ne0.false))
    ] in
    (comes_on _ i.0 (node g (goal.at.loop-x-preserved g c).In-Some) passes c.digit.ensures y, i.1)

pub returns : goal.returns
returns g c =
    let r = c.reference-end in
    let i = c.loop-x.invariant in
    let h : NoNode r.result = rw r.ensures.0 (low_no_node _ c.loop-x.x (omega arith)) in
    c.found_end-2.ensures _ ∙ comes_end _ i.0 r.result r.ensures.0 h ∙ i.1
