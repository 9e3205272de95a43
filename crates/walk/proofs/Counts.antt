-- How many nodes a walk meets, whatever stops it: at most 16, and no more than a walk that nothing stops.
-- Assumes nothing.
use mathlib.Core.Path.{◌≡◌, refl}
use mathlib.Core.Bool.{Bool, true, false}
use mathlib.Core.List.{List}
use Prim.Native.Nat.{ℕ, zero, suc, ◌≤◌}
use native.Mathlib.Omega.{arith}
use borrow.Author.Tests.{lt-leb}
use Rattle.digits.specs.Digits.{digit_of}
use Rattle.pool.specs.Places.{word_at, header_at}
use Rattle.pool.specs.declared.Ref.{Ref}
use Rattle.pool.specs.declared.Ref.TheVariants.{Empty, Leaf, Node, Bad}
use Rattle.walk.specs.declared.Spot.{Spot}
use Rattle.walk.specs.declared.End.{End}
use Rattle.walk.specs.Walks.{root, below, end_of, Test, never, walk_from}
use Rattle.walk.specs.Ends.{Accepted, met_of}
use Rattle.walk.proofs.Heads.{no_node, wrong, node, met}
use Rattle.walk.proofs.Walks.{Walks, ends, damaged, stops, goes, walk_ends, walk_damaged, walk_stops, walk_goes, walk_has_end}

met_at_end : (s : Spot) (r : Ref) → met_of (end_of s r) ≡ s.nodes
met_at_end s Empty = refl
met_at_end s (Leaf i) = refl
met_at_end s (Node j) = refl
met_at_end s Bad = refl

walks_few : {pool : List ℕ} {n key : ℕ} {test : Test} {s : Spot} {e : End} → Walks pool n key test s e → s.nodes ≤ s.depth → s.depth ≤ 16 → met_of e ≤ 16
walks_few {s = s} (ends r e w h q) i d = rw q (omega (arith, met_at_end s r))
walks_few (damaged j a q) i d = rw q (omega arith)
walks_few (stops j b a l q) i d = rw q (omega (arith, a.w≤b, a.b<))
walks_few (goes j b a l w) i d = walks_few w (omega (arith, a.w≤b)) (omega (arith, a.b<))

module _ (pool : List ℕ) (n key : ℕ) where
  -- "how many nodes had an accepted header on its walk, at most 16"
  pub walk_few : (test : Test) → met_of (walk_from 17 pool n key test root) ≤ 16
  walk_few test = walks_few (walk_has_end pool n key test 17 root (omega arith) (omega arith)) (omega arith) (omega arith)

  met_rises : (f : ℕ) (s : Spot) → s.nodes ≤ met_of (walk_from f pool n key never s)
  unfolding walk_from
  met_rises zero s = omega arith
  met_rises (suc f) s =
      elim (met pool n s.depth (word_at pool s.at)) [
        | no_node r e i g ↦ rw (walk_ends pool n key never f s r e g) (omega (arith, met_at_end s r))
        | wrong j a ↦ rw (walk_damaged pool n key never f s j a) (omega arith)
        | node j b a ↦
            rw (walk_goes pool n key never f s j b a (lt-leb 16 b a.b<)) (omega (arith, met_rises f (below n j b (digit_of key b) s)))
      ]

  module _ (test : Test) where
    node_fewer : (f : ℕ) (s : Spot) (j b : ℕ) → Accepted pool n s.depth (word_at pool s.at) j b
        → let t = below n j b (digit_of key b) s in
        met_of (walk_from f pool n key test t) ≤ met_of (walk_from f pool n key never t)
        → (u : Bool) → test key (header_at pool n j) b ≡ u
        → met_of (walk_from (suc f) pool n key test s) ≤ met_of (walk_from (suc f) pool n key never s)
    node_fewer f s j b a on true e =
        rw (walk_stops pool n key test f s j b a e, walk_goes pool n key never f s j b a (lt-leb 16 b a.b<)) (met_rises f (below n j b (digit_of key b) s))
    node_fewer f s j b a on false e = rw (walk_goes pool n key test f s j b a e, walk_goes pool n key never f s j b a (lt-leb 16 b a.b<)) on

    pub stopped_fewer : (f : ℕ) (s : Spot) → met_of (walk_from f pool n key test s) ≤ met_of (walk_from f pool n key never s)
    unfolding walk_from
    stopped_fewer zero s = omega arith
    stopped_fewer (suc f) s =
        elim (met pool n s.depth (word_at pool s.at)) [
          | no_node r e i g ↦ rw (walk_ends pool n key test f s r e g, walk_ends pool n key never f s r e g) (omega arith)
          | wrong j a ↦ rw (walk_damaged pool n key test f s j a, walk_damaged pool n key never f s j a) (omega arith)
          | node j b a ↦ node_fewer f s j b a (stopped_fewer f (below n j b (digit_of key b) s)) (test key (header_at pool n j) b) refl
        ]
