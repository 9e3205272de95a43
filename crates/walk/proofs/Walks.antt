-- The walk, one turn at a time, whatever stops it: every walk comes to one end, and the definition's bound on the nodes is not seen.
-- Assumes nothing.
use mathlib.Core.Path.{◌≡◌, refl, sym, ◌∙◌}
use mathlib.Core.Bool.{Bool, true, false}
use mathlib.Core.List.{List}
use Prim.Native.Nat.{ℕ, zero, suc, ◌+◌, ◌≤◌}
use native.Mathlib.Omega.{arith}
use Rattle.digits.specs.Digits.{digit_of}
use Rattle.pool.specs.Places.{word_at, header_at}
use Rattle.pool.specs.Refs.{ref_of, Within}
use Rattle.pool.specs.declared.Ref.{Ref}
use Rattle.pool.specs.declared.Ref.TheVariants.{Empty, Leaf, Node, Bad}
use Rattle.walk.specs.declared.Spot.{Spot}
use Rattle.walk.specs.declared.End.{End}
use Rattle.walk.specs.declared.End.TheVariants.{Stopped, Damaged}
use Rattle.walk.specs.Faults.{bad_header}
use Rattle.walk.specs.Walks.{below, end_of, Test, walk_from}
use Rattle.walk.specs.Ends.{Accepted}
use Rattle.walk.proofs.Heads.{NoNode, Refused, no_node, wrong, node, met}

-- from s the walk comes to e, said without a bound
pub data Walks (pool : List ℕ) (n key : ℕ) (test : Test) : Spot → End → Type 0 where
  ends : {s : Spot} {e : End} (r : Ref) → ref_of n (word_at pool s.at) ≡ r → Within n r → NoNode r → e ≡ end_of s r → Walks pool n key test s e
  damaged : {s : Spot} {e : End} (j : ℕ) → Refused pool n s.depth (word_at pool s.at) j → e ≡ Damaged s.nodes (bad_header n j s.depth (header_at pool n j))
      → Walks pool n key test s e
  stops : {s : Spot} {e : End} (j b : ℕ) → Accepted pool n s.depth (word_at pool s.at) j b → test key (header_at pool n j) b ≡ true
      → e ≡ Stopped s j b → Walks pool n key test s e
  goes : {s : Spot} {e : End} (j b : ℕ) → Accepted pool n s.depth (word_at pool s.at) j b → test key (header_at pool n j) b ≡ false
      → Walks pool n key test (below n j b (digit_of key b) s) e → Walks pool n key test s e

module _ (pool : List ℕ) (n key : ℕ) (test : Test) where
  -- one turn of the definition
  pub walk_ends : (f : ℕ) (s : Spot) (r : Ref) → ref_of n (word_at pool s.at) ≡ r → NoNode r → walk_from (suc f) pool n key test s ≡ end_of s r
  unfolding walk_from
  walk_ends f s Empty e h = rw (e, walk_from)
  walk_ends f s (Leaf i) e h = rw (e, walk_from)
  walk_ends f s (Node j) e h = absurd h
  walk_ends f s Bad e h = rw (e, walk_from)

  pub walk_damaged : (f : ℕ) (s : Spot) (j : ℕ) → Refused pool n s.depth (word_at pool s.at) j → walk_from (suc f) pool n key test s
      ≡ Damaged s.nodes (bad_header n j s.depth (header_at pool n j))
  unfolding walk_from
  walk_damaged f s j a = rw (a.refers, a.head, walk_from)

  pub walk_stops : (f : ℕ) (s : Spot) (j b : ℕ) → Accepted pool n s.depth (word_at pool s.at) j b
      → test key (header_at pool n j) b ≡ true → walk_from (suc f) pool n key test s ≡ Stopped s j b
  unfolding walk_from
  walk_stops f s j b a l = rw (a.refers, a.head, l, walk_from)

  pub walk_goes : (f : ℕ) (s : Spot) (j b : ℕ) → Accepted pool n s.depth (word_at pool s.at) j b
      → test key (header_at pool n j) b ≡ false → walk_from (suc f) pool n key test s ≡ walk_from f pool n key test (below n j b (digit_of key b) s)
  unfolding walk_from
  walk_goes f s j b a l = rw (a.refers, a.head, l, walk_from)

  node_has_end : (f : ℕ) (s : Spot) (j b : ℕ) → Accepted pool n s.depth (word_at pool s.at) j b
      → Walks pool n key test (below n j b (digit_of key b) s) (walk_from f pool n key test (below n j b (digit_of key b) s))
      → (u : Bool) → test key (header_at pool n j) b ≡ u → Walks pool n key test s (walk_from (suc f) pool n key test s)
  node_has_end f s j b a on true l = stops j b a l (walk_stops f s j b a l)
  node_has_end f s j b a on false l = rw (walk_goes f s j b a l) (goes j b a l on)

  -- every walk comes to an end: with a bound that leaves one node for each digit that is left, the definition says which
  pub walk_has_end : (f : ℕ) (s : Spot) → s.depth ≤ 16 → 17 ≤ f + s.depth → Walks pool n key test s (walk_from f pool n key test s)
  walk_has_end zero s d h = absurd (omega arith)
  walk_has_end (suc f) s d h =
      elim (met pool n s.depth (word_at pool s.at)) [
        | no_node r e i g ↦ ends r e i g (walk_ends f s r e g)
        | wrong j a ↦ damaged j a (walk_damaged f s j a)
        | node j b a ↦
            node_has_end f s j b a (walk_has_end f (below n j b (digit_of key b) s) (omega (arith, a.b<)) (omega (arith, a.w≤b)))
            (test key (header_at pool n j) b) refl
      ]

  -- and to no other
  pub walk_one_end : {s : Spot} {e : End} → Walks pool n key test s e → (f : ℕ) → s.depth ≤ 16 → 17 ≤ f + s.depth → e ≡ walk_from f pool n key test s
  walk_one_end {s} w zero d h = absurd (omega arith)
  walk_one_end {s} (ends r e i h q) (suc f) d g = q ∙ sym (walk_ends f s r e h)
  walk_one_end {s} (damaged j a q) (suc f) d g = q ∙ sym (walk_damaged f s j a)
  walk_one_end {s} (stops j b a l q) (suc f) d g = q ∙ sym (walk_stops f s j b a l)
  walk_one_end {s} (goes j b a l w) (suc f) d g = walk_one_end {s = below n j b (digit_of key b) s} w f (omega (arith, a.b<)) (omega (arith, a.w≤b)) ∙ sym (walk_goes f s j b a l)

  -- so the bound is not seen
  pub walk_bound_unseen : (f g : ℕ) (s : Spot) → s.depth ≤ 16 → 17 ≤ f + s.depth → 17 ≤ g + s.depth
      → walk_from f pool n key test s ≡ walk_from g pool n key test s
  walk_bound_unseen f g s d h l = walk_one_end (walk_has_end f s d h) g d l

  -- past a node that does not stop it the walk is the same
  pub walk_on : (s : Spot) (j b : ℕ) → Accepted pool n s.depth (word_at pool s.at) j b → test key (header_at pool n j) b ≡ false
      → walk_from 17 pool n key test (below n j b (digit_of key b) s) ≡ walk_from 17 pool n key test s
  walk_on s j b a l = walk_bound_unseen 17 16 (below n j b (digit_of key b) s) (omega arith) (omega arith) (omega arith) ∙ sym (walk_goes 16 s j b a l)
