-- The two calls fall with the number of digits left; the loop has visited the node's children before the place that it stands at.
use Rattle.std.specs.Prelude.{Ok}
use mathlib.Core.Path.{◌≡◌}
use Prim.Native.Nat.{◌+◌, ◌*◌}
use Rattle.digits.specs.Loops.{upto}
use Rattle.listing.specs.Listings.{Same, visited}
use Rattle.listing.proofs.Visits.{kid}
use Rattle.listing.proofs.visit.Listing.+visit.Given as goal

abbrev pub decreases-visit_node : goal.decreases-visit_node
decreases-visit_node l = 2 * l.left

abbrev pub decreases-visit_ref : goal.decreases-visit_ref
decreases-visit_ref l = 2 * l.left + 1

abbrev pub invariant-visit_node-loop-r : goal.invariant-visit_node-loop-r
invariant-visit_node-loop-r l = record {
  same : Same l.initial.self l.self;
  visits : visited l.self (Ok tt) ≡ upto l.r-index (kid l.pool.words.now l.pool.n l.initial.self.from l.b l.j) (visited l.initial.self (Ok tt));
}
