-- Where a walk ends: inside the pool; stopped only before a node at or past `stop`, and else, whatever was to stop it, where the plain walk ends.
-- Assumes nothing.
use mathlib.Core.Path.{◌≡◌, refl, sym, ap, ◌∙◌}
use mathlib.Core.Logic.{◌⊎◌, inl, inr, ⊎_elim}
use mathlib.Core.List.{List}
use Prim.Native.Nat.{ℕ, ◌+◌, ◌-◌, ◌≤◌, ◌<◌}
use native.Mathlib.Omega.{arith}
use borrow.Author.Tests.{leb-true, leb-false, le-leb, lt-leb}
use Rattle.digits.specs.Digits.{digit_of}
use Rattle.digits.proofs.Digits.{digit_lt}
use Rattle.pool.specs.Sizes.{Sized}
use Rattle.pool.specs.Places.{word_at}
use Rattle.pool.specs.Refs.{ref_of, Within}
use Rattle.pool.specs.declared.Ref.{Ref}
use Rattle.pool.specs.declared.Ref.TheVariants.{Empty, Leaf, Node, Bad}
use Rattle.walk.specs.declared.Spot.{Spot}
use Rattle.walk.specs.declared.End.{End}
use Rattle.walk.specs.declared.End.TheVariants.{AtLeaf, AtEmpty, Stopped, Damaged}
use Rattle.walk.specs.Walks.{root, below, end_of, Test, past, never, walk_from, walk_to, walk_of}
use Rattle.walk.specs.Ends.{Accepted, Inside, Ends}
use Rattle.walk.proofs.Heads.{NoNode}
use Rattle.walk.proofs.Walks.{Walks, ends, damaged, stops, goes, walk_has_end, walk_one_end}

module _ {pool : List ℕ} {n : ℕ} (z : Sized pool n) (stop : ℕ) where
  pub root_inside : Inside pool n stop root
  root_inside =
      record {
        at≥ = omega arith;
        at< = omega arith;
        depth≤ = omega arith;
        depth≤stop = omega arith;
        nodes≤ = omega arith;
        began = λ e. refl;
        passed = λ e. absurd (e refl);
      }

  pub below_inside : {s : Spot} {j b c : ℕ} → Inside pool n stop s → Accepted pool n s.depth (word_at pool s.at) j b → b < stop → c < 16
      → Inside pool n stop (below n j b c s)
  below_inside {s} {j} {b} {c} i a l h =
      record {
        at≥ = omega arith;
        at< = omega arith;
        depth≤ = omega arith;
        depth≤stop = omega arith;
        nodes≤ = omega arith;
        began = λ e. absurd (omega arith);
        passed = λ e. record { b = b; c = c; accepted = a; over≥ = i.at≥; over< = i.at<; depth≡ = refl; c< = h; at≡ = refl };
      }

  at_end : {s : Spot} (r : Ref) → Inside pool n stop s → ref_of n (word_at pool s.at) ≡ r → Within n r → NoNode r → Ends pool n stop (end_of s r)
  at_end Empty i e w h = record { inside = i; refers = e; within = w }
  at_end (Leaf l) i e w h = record { inside = i; refers = e; within = w }
  at_end (Node j) i e w h = absurd h
  at_end Bad i e w h = omega arith

  walks_inside : {key : ℕ} {s : Spot} {e : End} → Walks pool n key (past stop) s e → Inside pool n stop s → Ends pool n stop e
  walks_inside (ends r e w h q) i = rw q (at_end r i e w h)
  walks_inside (damaged j a q) i = rw q (omega arith)
  walks_inside (stops j b a l q) i = rw q (record { inside = i; accepted = a; stop≤ = leb-true stop b l })
  walks_inside {key} (goes j b a l w) i = walks_inside w (below_inside i a (leb-false stop b l) (digit_lt 16 key b))

-- where a walk ends lies inside the pool
pub walk_inside : {pool : List ℕ} {n : ℕ} → Sized pool n → (key stop : ℕ) {e : End} → e ≡ walk_to pool n key stop → Ends pool n stop e
walk_inside {pool} {n} z key stop q = rw q (walks_inside z stop (walk_has_end pool n key (past stop) 17 root (omega arith) (omega arith)) (root_inside z stop))

-- ---- a walk that ends and is not stopped
abbrev pub Unstopped : End → Type 0
Unstopped (AtLeaf s i) = Unit {0}
Unstopped (AtEmpty s) = Unit {0}
Unstopped (Stopped s j b) = ⊥
Unstopped (Damaged m f) = Unit {0}

end_unstopped : (s : Spot) (r : Ref) → Unstopped (end_of s r)
end_unstopped s Empty = tt
end_unstopped s (Leaf i) = tt
end_unstopped s (Node j) = tt
end_unstopped s Bad = tt

module _ {pool : List ℕ} {n key : ℕ} where
  never_stops : {s : Spot} {e : End} → Walks pool n key never s e → Unstopped e
  never_stops {s} (ends r e w h q) = rw q (end_unstopped s r)
  never_stops (damaged j a q) = rw q tt
  never_stops (stops j b a l q) = absurd (omega (arith, leb-true 16 b l, a.b<))
  never_stops (goes j b a l w) = never_stops w

-- the plain walk does not stop
pub walk_unstopped : (pool : List ℕ) (n key : ℕ) → Unstopped (walk_of pool n key)
walk_unstopped pool n key = never_stops (walk_has_end pool n key never 17 root (omega arith) (omega arith))

module _ {pool : List ℕ} {n key : ℕ} {test : Test} where
  no_stop : {s : Spot} {e : End} → Walks pool n key test s e → Unstopped e → Walks pool n key never s e
  no_stop (ends r e w h q) u = ends r e w h q
  no_stop (damaged j a q) u = damaged j a q
  no_stop (stops j b a l q) u = absurd (rw q at u)
  no_stop (goes j b a l w) u = goes j b a (lt-leb 16 b a.b<) (no_stop w u)

-- where any other is not stopped, it ends where the plain one does
pub walk_whole : (pool : List ℕ) (n key : ℕ) (test : Test) {e : End} → e ≡ walk_from 17 pool n key test root → Unstopped e → e ≡ walk_of pool n key
walk_whole pool n key test {e} q u =
    let w : Walks pool n key test root e = rw q (walk_has_end pool n key test 17 root (omega arith) (omega arith)) in
    walk_one_end pool n key never (no_stop w u) 17 (omega arith) (omega arith)

-- ---- a walk that ended at a reference, before it came as deep as `stop`
abbrev pub spot_of : End → Spot
spot_of (AtLeaf s i) = s
spot_of (AtEmpty s) = s
spot_of (Stopped s j b) = s
spot_of (Damaged m f) = root

abbrev pub Arrived : End → Type 0
Arrived (AtLeaf s i) = Unit {0}
Arrived (AtEmpty s) = Unit {0}
Arrived (Stopped s j b) = ⊥
Arrived (Damaged m f) = ⊥

arrived_at : {s : Spot} (r : Ref) → Arrived (end_of s r) → spot_of (end_of s r) ≡ s
arrived_at Empty u = refl
arrived_at (Leaf i) u = refl
arrived_at (Node j) u = absurd u
arrived_at Bad u = absurd u

module _ {pool : List ℕ} {n key : ℕ} where
  ends_deeper : {test : Test} {s : Spot} {e : End} → Walks pool n key test s e → Arrived e → s.depth ≤ (spot_of e).depth
  ends_deeper (ends r e w h q) u = rw (q, arrived_at r (rw q at u)) (omega arith)
  ends_deeper (damaged j a q) u = absurd (rw q at u)
  ends_deeper (stops j b a l q) u = absurd (rw q at u)
  ends_deeper (goes j b a l w) u = omega (arith, ends_deeper w u, a.w≤b)

  not_stopped : {stop : ℕ} {s : Spot} {e : End} → Walks pool n key never s e → Arrived e → (spot_of e).depth ≤ stop → Walks pool n key (past stop) s e
  not_stopped (ends r e w h q) u d = ends r e w h q
  not_stopped (damaged j a q) u d = damaged j a q
  not_stopped (stops j b a l q) u d = absurd (rw q at u)
  not_stopped {stop} (goes j b a l w) u d = goes j b a (lt-leb stop b (omega (arith, ends_deeper w u))) (not_stopped w u d)

-- no node that it passed branches at `stop` or past it: the walk that is to stop there ends at the same reference
pub walk_same : (pool : List ℕ) (n key stop : ℕ) {e : End} → e ≡ walk_of pool n key → Arrived e → (spot_of e).depth ≤ stop → e ≡ walk_to pool n key stop
walk_same pool n key stop {e} q u d =
    let w : Walks pool n key never root e = rw q (walk_has_end pool n key never 17 root (omega arith) (omega arith)) in
    walk_one_end pool n key (past stop) (not_stopped w u d) 17 (omega arith) (omega arith)

-- ---- the last node of a walk that ended at an empty reference
abbrev IsEmpty : End → Type 0
IsEmpty (AtLeaf s i) = ⊥
IsEmpty (AtEmpty s) = Unit {0}
IsEmpty (Stopped s j b) = ⊥
IsEmpty (Damaged m f) = ⊥

is_empty : {e : End} {t : Spot} → e ≡ AtEmpty t → IsEmpty e
is_empty p = rw p tt

empty_end : {s t : Spot} (r : Ref) → end_of s r ≡ AtEmpty t → s ≡ t
empty_end Empty p = ap spot_of p
empty_end (Leaf i) p = absurd (is_empty p)
empty_end (Node j) p = absurd (is_empty p)
empty_end Bad p = absurd (is_empty p)

-- from s a walk that is to stop where the last node before t branches does stop there
pub record Last (pool : List ℕ) (n key : ℕ) (s t : Spot) : Type 0 where
  pub spot : Spot
  pub node : ℕ
  pub deeper : s.depth < t.depth
  pub stopped : Walks pool n key (past (t.depth - 1)) s (Stopped spot node (t.depth - 1))
  pub nodes≡ : spot.nodes + 1 ≡ t.nodes

module _ {pool : List ℕ} {n key : ℕ} {t : Spot} where
  last_before : {s : Spot} {j b : ℕ} → Accepted pool n s.depth (word_at pool s.at) j b → below n j b (digit_of key b) s ≡ t → Last pool n key s t
  last_before {s} {j} {b} a e =
      let d : b + 1 ≡ t.depth = ap (λ (u : Spot). u.depth) e in
      let f : t.depth - 1 ≡ b = omega arith in
      record {
        spot = s;
        node = j;
        deeper = omega (arith, a.w≤b);
        stopped = stops j b a (le-leb (t.depth - 1) b (omega arith)) (ap (Stopped s j) f);
        nodes≡ = ap (λ (u : Spot). u.nodes) e;
      }

  last_further : {s : Spot} {j b : ℕ} → Accepted pool n s.depth (word_at pool s.at) j b → Last pool n key (below n j b (digit_of key b) s) t
      → Last pool n key s t
  last_further {s} {j} {b} a l =
      record {
        spot = l.spot;
        node = l.node;
        deeper = omega (arith, l.deeper, a.w≤b);
        stopped = goes j b a (lt-leb (t.depth - 1) b (omega (arith, l.deeper))) l.stopped;
        nodes≡ = l.nodes≡;
      }

  last_node : {s : Spot} {e : End} → Walks pool n key never s e → e ≡ AtEmpty t → (s ≡ t) ⊎ Last pool n key s t
  last_node (ends r e w h q) p = inl (empty_end r (sym q ∙ p))
  last_node (damaged j a q) p = absurd (is_empty (sym q ∙ p))
  last_node (stops j b a l q) p = absurd (is_empty (sym q ∙ p))
  last_node {s} (goes j b a l w) p = inr (⊎_elim (last_before a) (last_further a) (last_node w p))

-- a walk that ended at an empty reference, past some node: one that is to stop where the last of them branches stops before it
pub record Stops (pool : List ℕ) (n key : ℕ) (t : Spot) : Type 0 where
  pub spot : Spot
  pub node : ℕ
  pub stopped : Stopped spot node (t.depth - 1) ≡ walk_to pool n key (t.depth - 1)
  pub nodes≡ : spot.nodes + 1 ≡ t.nodes

pub walk_last : (pool : List ℕ) (n key : ℕ) {t : Spot} → walk_of pool n key ≡ AtEmpty t → (t.nodes ≡ 0 → ⊥) → Stops pool n key t
walk_last pool n key {t} q h = go (last_node (walk_has_end pool n key never 17 root (omega arith) (omega arith)) q)
  where
    go : (root ≡ t) ⊎ Last pool n key root t → Stops pool n key t
    go (inl e) = absurd (h (ap (λ (u : Spot). u.nodes) (sym e)))
    go (inr l) = record {
      spot = l.spot;
      node = l.node;
      stopped = walk_one_end pool n key (past (t.depth - 1)) l.stopped 17 (omega arith) (omega arith);
      nodes≡ = l.nodes≡;
    }
