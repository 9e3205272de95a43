-- The lowest leaf below a reference, one turn at a time; the bound on the nodes met is not seen.
-- Assumes nothing.
use Rattle.std.specs.Prelude.{Err}
use mathlib.Core.Path.{◌≡◌, sym, ◌∙◌}
use mathlib.Core.List.{List}
use Prim.Native.Nat.{ℕ, zero, suc, ◌+◌, ◌≤◌, ◌<◌}
use native.Mathlib.Decide.{dec_lt}
use native.Mathlib.Omega.{arith}
use borrow.Author.Tests.{lt-ltb, le-ltb}
use Rattle.pool.specs.Places.{node_word, header_at, child_at, child_word}
use Rattle.pool.specs.Refs.{ref_of}
use Rattle.pool.specs.declared.Ref.{Ref}
use Rattle.pool.specs.declared.Ref.TheVariants.{Empty, Leaf, Node, Bad}
use Rattle.walk.specs.Faults.{bad_header, bad_form}
use Rattle.walk.specs.Walks.{lowest_child, lowest_end, lowest_from}
use Rattle.walk.specs.Ends.{Accepted}
use Rattle.walk.proofs.Heads.{NoNode, Refused, no_node, wrong, node, met}

module _ (pool : List ℕ) (n : ℕ) where
  -- one turn of the definition
  pub lowest_ends : (f w at r : ℕ) (x : Ref) → ref_of n r ≡ x → NoNode x → lowest_from (suc f) pool n w at r ≡ lowest_end pool at x
  unfolding lowest_from
  lowest_ends f w at r Empty e h = rw (e, lowest_from)
  lowest_ends f w at r (Leaf i) e h = rw (e, lowest_from)
  lowest_ends f w at r (Node j) e h = absurd h
  lowest_ends f w at r Bad e h = rw (e, lowest_from)

  pub lowest_damaged : (f w at r j : ℕ) → Refused pool n w r j → lowest_from (suc f) pool n w at r ≡ Err (bad_header n j w (header_at pool n j))
  unfolding lowest_from
  lowest_damaged f w at r j a = rw (a.refers, a.head, lowest_from)

  pub lowest_childless : (f w at r j b : ℕ) → Accepted pool n w r j b → 16 ≤ lowest_child pool n j
      → lowest_from (suc f) pool n w at r ≡ Err (bad_form (node_word n j))
  unfolding lowest_from
  lowest_childless f w at r j b a l = rw (a.refers, a.head, le-ltb (lowest_child pool n j) 16 l, lowest_from)

  pub lowest_goes : (f w at r j b : ℕ) → Accepted pool n w r j b → lowest_child pool n j < 16
      → lowest_from (suc f) pool n w at r ≡ lowest_from f pool n (b + 1) (child_word n j (lowest_child pool n j)) (child_at pool n j (lowest_child pool n j))
  unfolding lowest_from
  lowest_goes f w at r j b a l = rw (a.refers, a.head, lt-ltb (lowest_child pool n j) 16 l, lowest_from)

  -- with a bound that leaves one node for each digit that is left, the bound is not seen
  pub lowest_bound_unseen : (f g w at r : ℕ) → w ≤ 16 → 17 ≤ f + w → 17 ≤ g + w → lowest_from f pool n w at r ≡ lowest_from g pool n w at r
  lowest_bound_unseen zero g w at r d h l = absurd (omega arith)
  lowest_bound_unseen (suc f) zero w at r d h l = absurd (omega arith)
  lowest_bound_unseen (suc f) (suc g) w at r d h l =
      elim (met pool n w r) [
        | no_node x e i u ↦ lowest_ends f w at r x e u ∙ sym (lowest_ends g w at r x e u)
        | wrong j a ↦ lowest_damaged f w at r j a ∙ sym (lowest_damaged g w at r j a)
        | node j b a ↦
            elim (dec_lt (lowest_child pool n j) 16) [
              | yes u ↦
                  lowest_goes f w at r j b a u
                  ∙ lowest_bound_unseen f g (b + 1) (child_word n j (lowest_child pool n j)) (child_at pool n j (lowest_child pool n j)) (omega (arith, a.b<)) (omega (arith, a.w≤b))
                  (omega (arith, a.w≤b))
                  ∙ sym (lowest_goes g w at r j b a u)
              | no u ↦ lowest_childless f w at r j b a (omega arith) ∙ sym (lowest_childless g w at r j b a (omega arith))
            ]
      ]

  -- below a node that has a child the lowest leaf is the same
  pub lowest_on : (w at r j b : ℕ) → Accepted pool n w r j b → lowest_child pool n j < 16
      → lowest_from 17 pool n (b + 1) (child_word n j (lowest_child pool n j)) (child_at pool n j (lowest_child pool n j)) ≡ lowest_from 17 pool n w at r
  lowest_on w at r j b a l =
      lowest_bound_unseen 17 16 (b + 1) (child_word n j (lowest_child pool n j)) (child_at pool n j (lowest_child pool n j)) (omega arith) (omega arith) (omega arith) ∙ sym (lowest_goes 16 w at r j b a l)
