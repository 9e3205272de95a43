-- A reference is visited, and a node's sixteen references: the two calls fall with the number of digits left. Assumes nothing.
use Rattle.std.specs.Prelude.{Ok, Err}
use Rattle.std.proofs.lemmas.Result.{err_from_is_err_and}
use mathlib.Core.Path.{◌≡◌, refl, sym, ◌∙◌}
use Prim.Native.Nat.{ℕ, ◌-◌}
use native.Mathlib.Omega.{arith}
use Rattle.digits.specs.Loops.{upto}
use Rattle.listing.specs.declared.visit.Stop.{Stop}
use Rattle.listing.specs.declared.visit.Stop.TheVariants.{Further, Damage}
use Rattle.listing.specs.declared.visit.Listing.{Listing}
use Rattle.listing.specs.Listings.{phase_of, Same, visited, node_of, visit_from}
use Rattle.listing.proofs.Visits.{children_long, child_listed, visit_on, visit_node, kid, node_childless, node_visits, kids_same, kids_next, kids_over}
use Rattle.listing.proofs.visit.Listing.+visit.Goals as goal
use Rattle.listing.proofs.visit.Listing.+visit.Goals.{visit_node-After-children-r-items, visit_node-then-r-ne0+in_ok-visit_ref, visit_node-else-r-ne0}

same_trans : {a b c : Listing} → Same a b → Same b c → Same a c
same_trans p q =
    record {
      from = q.from ∙ p.from;
      keys = q.keys ∙ p.keys;
      values = q.values ∙ p.values;
    }

stopped : (s : Stop) → phase_of (Err s) ≡ 0 → ⊥
stopped Further e = omega arith
stopped Damage e = omega arith

pub visit_node-returns-then-is_none-clause-met : goal.visit_node-returns-then-is_none-clause-met
visit_node-returns-then-is_none-clause-met t c =
    node_childless _ _ _ _ _ _ c.header.ensures c.accept.ensures.0 c.in-Some.is c.lowest_child.ensures c.if-is_none.ensures

-- a node with a child is visited over its sixteen
visits : (t : ℕ) (c : visit_node-After-children-r-items t)
    →
    let a = c.args in
    let v = visited a.self.now (Ok tt) in
    upto 16 (kid a.pool.now.words.now a.pool.now.n a.self.now.from c.in-Some.b a.j) v
    ≡ node_of (visit_from 17 a.pool.now.words.now a.pool.now.n a.self.now.from) a.pool.now.words.now a.pool.now.n (16 - a.left) a.j v
visits t c =
    node_visits _ _ _ _ _ _ c.header.ensures c.accept.ensures.0 c.in-Some.is c.lowest_child.ensures c.if-is_none.ensures

pub visit_node-loop-r-init : goal.visit_node-loop-r-init
unfolding upto
visit_node-loop-r-init t c = record { same = record { from = refl; keys = refl; values = refl }; visits = refl }

pub visit_node-returns-in_err-visit_ref-clause-met : goal.visit_node-returns-in_err-visit_ref-clause-met
visit_node-returns-in_err-visit_ref-clause-met t c =
    let p = err_from_is_err_and c.from_residual.result c.from_residual.ensures.1 in
    let i = c.loop-r.invariant in
    let k = child_listed c.args.pool.now.sized c.args.j c.requires.1 c.children-r-items.ensures _ c.loop-r-test.true in
    let b = rw c.in-Some.is at c.accept.ensures.1 in
    let q = rw i.same.from at c.in_err-visit_ref.ensures.met in
    rw (p.1, p.2) (kids_over _ _ _ _ _ _ _ k.1 i.visits b.1 q k.0 (stopped _) ∙ visits t (goal.at.visit_node-returns-in_err-visit_ref-clause-met t c).After-children-r-items)

pub visit_node-loop-r-preserved : goal.visit_node-loop-r-preserved
visit_node-loop-r-preserved t c =
    let i = c.loop-r.invariant in
    let k = child_listed c.args.pool.now.sized c.args.j c.requires.1 c.children-r-items.ensures _ c.loop-r-test.true in
    elim c.if-r-ne0.branch [
      | visit_node-then-r-ne0+in_ok-visit_ref w ↦
          let b = rw c.in-Some.is at c.accept.ensures.1 in
          let q = rw i.same.from at w.in_ok-visit_ref.ensures.met in
          rw w.self-is (record { same = same_trans i.same w.in_ok-visit_ref.ensures.same; visits = kids_next _ _ _ _ _ _ _ k.1 i.visits b.1 q })
      | visit_node-else-r-ne0 w ↦ rw w.self-is (record { same = i.same; visits = kids_same _ _ _ _ _ _ _ k.1 i.visits w.if-r-ne0.false })
    ]

pub visit_node-returns-clause-met : goal.visit_node-returns-clause-met
visit_node-returns-clause-met t c =
    let e : c.loop-r.r-index ≡ 16 = omega (arith, children_long c.args.pool.now.sized c.args.j c.requires.1 c.children-r-items.ensures) in
    (rw e at c.loop-r.invariant.visits) ∙ visits t (goal.at.visit_node-returns-clause-met t c).After-children-r-items

pub visit_ref-returns-in-Empty-clause-met : goal.visit_ref-returns-in-Empty-clause-met
visit_ref-returns-in-Empty-clause-met t c = sym (visit_on _ _ _ 17 _ _ _ refl c.reference.ensures.0 c.in-Empty.is)

pub visit_ref-returns-in-Leaf-clause-met : goal.visit_ref-returns-in-Leaf-clause-met
visit_ref-returns-in-Leaf-clause-met t c =
    let g = rw (c.leaf_key.ensures, c.leaf_value.ensures) at c.leaf.ensures.met in
    g ∙ sym (visit_on _ _ _ 17 _ _ _ refl c.reference.ensures.0 c.in-Leaf.is)

pub visit_ref-returns-in-Node-clause-met : goal.visit_ref-returns-in-Node-clause-met
visit_ref-returns-in-Node-clause-met t c =
    c.visit_node.ensures.met ∙ sym (visit_node _ _ _ 17 _ _ _ (omega arith) refl c.reference.ensures.0 c.in-Node.is)

pub visit_ref-returns-in-Bad-clause-met : goal.visit_ref-returns-in-Bad-clause-met
visit_ref-returns-in-Bad-clause-met t c = sym (visit_on _ _ _ 17 _ _ _ refl c.reference.ensures.0 c.in-Bad.is)
