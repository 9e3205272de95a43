-- On a pool that holds a tree, a lookup answers what the tree has for the key, and counts the nodes on the key's way; a quick lookup answers the same.
-- Assumes nothing.
use Rattle.std.specs.Prelude.{Some, Option, None}
use mathlib.Core.Path.{◌≡◌, refl, sym, ap, ◌∙◌}
use mathlib.Core.List.{List}
use Prim.Native.Nat.{ℕ}
use native.Mathlib.Nat.{zero-add}
use native.Mathlib.Omega.{arith}
use borrow.Author.Tests.{eq-eqb, ne_eqb}
use lib.Dec.{eqb}
use lib.ListN.{length}
use Rattle.digits.specs.Choice.{pick}
use Rattle.pool.specs.Sizes.{capacity_of}
use Rattle.tree.specs.Tree.{Tree, empty, leaf, node, On, sub, dep, find}
use Rattle.tree.specs.Near.{way}
use Rattle.tree.specs.Shape
use Rattle.tree.proofs.Basics.{Same?, same, other, same?}
use Rattle.layout.specs.Layout.{Held, base, ref_at}
use Rattle.layout.proofs.Base.{SeesLeaf}
use Rattle.layout.proofs.Held.{sub_holds}
use Rattle.walk.specs.Walks.{root, unlike, walk_of, quick_walk}
use Rattle.walk.specs.declared.Spot.{Spot}
use Rattle.walk.specs.declared.End.{End}
use Rattle.walk.specs.declared.End.TheVariants.{AtLeaf, AtEmpty, Stopped, Damaged}
use Rattle.walk.proofs.Ends.{walk_whole}
use Rattle.held.specs.Ways.{dig, mem, spot_at, end_at}
use Rattle.held.proofs.Heads.{held_leaf}
use Rattle.held.proofs.Walks.{walk_held}
use Rattle.held.proofs.Quick.{stopped_absent}
use Rattle.held.proofs.Spots.{spot_nodes, way_on, way_finds, way_ends, NoNode}
use Rattle.finding.specs.Lookups.{Answer, answer, found_at, lookup_of, quick_at, quick_of, Finds}

-- ---- what it answers
-- the value that a key has, or that it has none, in a lookup's numbers, with m nodes passed
abbrev pub answered : Option ℕ → ℕ → Answer
answered (Some v) m = answer 0 v m
answered None m = answer 3 0 m

answered_finds : (o : Option ℕ) (m : ℕ) → Finds o (answered o m)
answered_finds (Some v) m = (refl, refl)
answered_finds None m = (refl, refl)

module _ (pool : List ℕ) (n : ℕ) (t : Tree ℕ) (fits : capacity_of pool ≡ Some n) (H : Held 16 n (mem pool) t) (k : ℕ) where
  -- what a walk finds that ends at s before the tree u
  end_answers : (s : Spot) (u : Tree ℕ) (w r : ℕ) → Shape.Holds (base 16 n) (mem pool) w r u → NoNode u
      → found_at pool k (end_at n s u) ≡ answered (find dig k u) s.nodes
  unfolding find
  end_answers s empty w r h o = refl
  end_answers s (leaf x k' v) w r h o = go (same? k k')
    where
      see : SeesLeaf n (mem pool) r x k' v
      see = held_leaf pool n w r x k' v h

      go : Same? k k' → found_at pool k (end_at n s (leaf x k' v)) ≡ answered (pick (eqb k k') (Some v) None) s.nodes
      go (same e q) = rw (q, see.key, see.value, eq-eqb k' k (sym e))
      go (other e q) = rw (q, see.key, ne_eqb k' k (λ z. e (sym z)))
  end_answers s (node x b s' kids) w r h o = absurd o

  pub lookup_answers : lookup_of pool k ≡ answered (find dig k t) (length (way dig 16 k t))
  unfolding lookup_of
  lookup_answers =
      let π : List ℕ = way dig 16 k t in
      let on : On π t = way_on 16 k t in
      rw fits
      (ap (found_at pool k) (walk_held pool n k 16 17 root (λ i. 0) t H.holds H.good (omega arith) (omega arith))
      ∙ end_answers (spot_at n root π t) (sub π t) (dep π 0 t) (mem pool (ref_at n 1 π t)) (sub_holds 16 n (mem pool) π 0 1 t on H.holds)
      (way_ends k 0 (λ i. 0) t H.good)
      ∙ ap (λ (o : Option ℕ). answered o (spot_at n root π t).nodes) (sym (way_finds 16 k t))
      ∙ ap (answered (find dig k t)) (spot_nodes n root π t on ∙ zero-add (length π)))

  -- a key that is held answers 0 and its value; one that is not, 3 and 0
  pub lookup_held : Finds (find dig k t) (lookup_of pool k)
  lookup_held = rw lookup_answers (answered_finds (find dig k t) (length (way dig 16 k t)))

  -- the quick lookup too: where it is not stopped it is lookup, and where it is the key is not held
  pub quick_held : Finds (find dig k t) (quick_of pool k)
  unfolding lookup_of quick_of
  quick_held = rw fits (go (quick_walk pool n k) refl)
    where
      as_lookup : (e : End) → e ≡ walk_of pool n k → Finds (find dig k t) (found_at pool k e)
      as_lookup e w = rw w (rw fits at lookup_held)

      go : (e : End) → quick_walk pool n k ≡ e → Finds (find dig k t) (quick_at pool k e)
      go (AtLeaf s i) q = as_lookup (AtLeaf s i) (walk_whole pool n k unlike (sym q) tt)
      go (AtEmpty s) q = as_lookup (AtEmpty s) (walk_whole pool n k unlike (sym q) tt)
      go (Stopped s j b) q = rw (stopped_absent pool n k 17 root (λ i. 0) t H.holds H.good (λ u. rw q at u)) (refl, refl)
      go (Damaged m f) q = as_lookup (Damaged m f) (walk_whole pool n k unlike (sym q) tt)

-- one row of a table has one number and one value
pub finds_same : (o : Option ℕ) (a b : Answer) → Finds o a → Finds o b → (a.number ≡ b.number) × (a.value ≡ b.value)
finds_same (Some v) a b p q = (p.0 ∙ sym q.0, p.1 ∙ sym q.1)
finds_same None a b p q = (p.0 ∙ sym q.0, p.1 ∙ sym q.1)
