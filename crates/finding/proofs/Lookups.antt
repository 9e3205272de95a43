-- A lookup's loop, of either kind: where it stands, some walk along the key stands, and what it finds is what the walk finds.
-- Assumes nothing.
use Rattle.std.specs.Prelude.{None, Some}
use mathlib.Core.Path.{◌≡◌, refl, sym, ap, ◌∙◌}
use mathlib.Core.Bool.{Bool, true, false}
use mathlib.Core.Logic.{◌⊎◌, inl, inr}
use mathlib.Core.List.{List}
use Prim.Native.Nat.{ℕ, ◌+◌, ◌≤◌}
use native.Mathlib.Omega.{arith}
use borrow.Author.Tests.{lt-leb}
use Rattle.std.proofs.lemmas.Bool.{false≢true}
use Rattle.digits.specs.Choice.{pick}
use Rattle.digits.specs.Digits.{digit_of}
use Rattle.digits.specs.Headers.{differs}
use Rattle.pool.specs.Sizes.{capacity_of}
use Rattle.pool.specs.Places.{word_at, header_at, child_at}
use Rattle.pool.specs.Refs.{ref_of}
use Rattle.pool.specs.declared.Ref.{Ref}
use Rattle.pool.specs.declared.Ref.TheVariants.{Empty, Leaf, Node, Bad}
use Rattle.walk.specs.Faults.{bad_header}
use Rattle.walk.specs.Walks.{root, below, end_of, Test, never, unlike, walk_from}
use Rattle.walk.specs.Ends.{Accepted}
use Rattle.walk.specs.declared.Spot.{Spot}
use Rattle.walk.specs.declared.End.{End}
use Rattle.walk.specs.declared.End.TheVariants.{Stopped, Damaged}
use Rattle.walk.proofs.Heads.{NoNode, Refused}
use Rattle.walk.proofs.Walks.{walk_ends, walk_damaged, walk_stops, walk_on}
use Rattle.finding.specs.Lookups.{Answer, answer, found_end, found_at, found_in, lookup_of, quick_at, quick_in, quick_of}

-- ---- of the two kinds of lookup, the plain one and the quick
-- what stops the walk, what an end answers, and what the whole answers
abbrev pub test_of : Bool → Test
test_of quick = pick quick unlike never

abbrev pub answer_at : Bool → List ℕ → ℕ → End → Answer
answer_at quick pool key e = pick quick (quick_at pool key e) (found_at pool key e)

abbrev pub answer_of : Bool → List ℕ → ℕ → Answer
answer_of quick pool key = pick quick (quick_of pool key) (lookup_of pool key)

-- what the whole walk answers
abbrev pub walked : Bool → List ℕ → ℕ → ℕ → Answer
walked quick pool n key = answer_at quick pool key (walk_from 17 pool n key (test_of quick) root)

module _ (quick : Bool) (pool : List ℕ) (key : ℕ) where
  pub size_wrong : capacity_of pool ≡ None → answer 1 0 0 ≡ answer_of quick pool key
  unfolding lookup_of quick_of
  size_wrong e = rw e (go quick)
    where
      go : (q : Bool) → answer 1 0 0 ≡ pick q (answer 1 0 0) (answer 1 0 0)
      go true = refl
      go false = refl

  pub size_right : {n : ℕ} → capacity_of pool ≡ Some n → walked quick pool n key ≡ answer_of quick pool key
  unfolding lookup_of quick_of
  size_right {n} e = rw e (go quick)
    where
      go : (q : Bool) → walked q pool n key ≡ pick q (quick_in pool key (Some n)) (found_in pool key (Some n))
      go true = refl
      go false = refl

-- the walk along the key comes past so many nodes to the word x, at walk depth w
pub record Comes (pool : List ℕ) (n key : ℕ) (quick : Bool) (x w nodes : ℕ) : Type 0 where
  pub spot : Spot
  pub word : word_at pool spot.at ≡ x
  pub depth : spot.depth ≡ w
  pub passed : spot.nodes ≡ nodes
  pub nodes≤ : nodes ≤ w
  pub w≤ : w ≤ 16
  pub onward : walk_from 17 pool n key (test_of quick) spot ≡ walk_from 17 pool n key (test_of quick) root

module _ {pool : List ℕ} {n key : ℕ} {quick : Bool} where
  -- "It begins at the root reference with walk depth w = 0."
  pub comes_root : Comes pool n key quick (word_at pool 1) 0 0
  comes_root =
      record {
        spot = root;
        word = refl;
        depth = refl;
        passed = refl;
        nodes≤ = omega arith;
        w≤ = omega arith;
        onward = refl;
      }

  module _ {x w nodes : ℕ} (c : Comes pool n key quick x w nodes) where
    -- how the walk ends there
    ends_here : (r : Ref) → r ≡ ref_of n x → NoNode r → end_of c.spot r ≡ walk_from 17 pool n key (test_of quick) root
    ends_here r e h = sym (walk_ends pool n key (test_of quick) 16 c.spot r (rw c.word (sym e)) h) ∙ c.onward

    damaged_here : {j : ℕ} → Refused pool n w x j
        → Damaged nodes (bad_header n j w (header_at pool n j)) ≡ walk_from 17 pool n key (test_of quick) root
    damaged_here {j} g = rw (← c.passed, ← c.depth) (sym (walk_damaged pool n key (test_of quick) 16 c.spot j (rw (c.depth, c.word) g)) ∙ c.onward)

    stopped_here : {j b : ℕ} → Accepted pool n w x j b → test_of quick key (header_at pool n j) b ≡ true → Stopped c.spot j b ≡ walk_from 17 pool n key (test_of quick) root
    stopped_here {j} {b} a t = sym (walk_stops pool n key (test_of quick) 16 c.spot j b (rw (c.depth, c.word) a) t) ∙ c.onward

    -- past an accepted node, to the child chosen by its digit
    pub comes_below : {j b y d : ℕ} → Accepted pool n w x j b → test_of quick key (header_at pool n j) b ≡ false → d ≡ digit_of key b → y ≡ child_at pool n j d
        → Comes pool n key quick y (b + 1) (nodes + 1)
    comes_below {j} {b} {y} {d} a t e q =
        record {
          spot = below n j b (digit_of key b) c.spot;
          word = rw (q, e);
          depth = refl;
          passed = rw c.passed;
          nodes≤ = omega arith;
          w≤ = omega arith;
          onward = walk_on pool n key (test_of quick) c.spot j b (rw (c.depth, c.word) a) t ∙ c.onward;
        }

module _ (quick : Bool) {pool : List ℕ} {n key x w nodes : ℕ} (c : Comes pool n key quick x w nodes) where
  end_answer : (s : Spot) (r : Ref) → found_end pool key s.nodes r ≡ answer_at quick pool key (end_of s r)
  end_answer s r = go quick r
    where
      go : (q : Bool) (r : Ref) → found_end pool key s.nodes r ≡ answer_at q pool key (end_of s r)
      go true Empty = refl
      go true (Leaf i) = refl
      go true (Node j) = refl
      go true Bad = refl
      go false Empty = refl
      go false (Leaf i) = refl
      go false (Node j) = refl
      go false Bad = refl

  pub comes_end : (r : Ref) → r ≡ ref_of n x → NoNode r → found_end pool key nodes r ≡ walked quick pool n key
  comes_end r e h = rw (← c.passed) (end_answer c.spot r) ∙ ap (answer_at quick pool key) (ends_here c r e h)

  pub comes_damaged : {j : ℕ} → Refused pool n w x j → answer 2 0 nodes ≡ walked quick pool n key
  comes_damaged {j} g = go quick ∙ ap (answer_at quick pool key) (damaged_here c g)
    where
      go : (q : Bool) → answer 2 0 nodes ≡ answer_at q pool key (Damaged nodes (bad_header n j w (header_at pool n j)))
      go true = refl
      go false = refl

  -- "stops at the first that differs", where it is the quick one
  pub comes_unlike : {j b : ℕ} → Accepted pool n w x j b → quick ≡ true → differs (header_at pool n j) key ≡ true
      → answer 3 0 (nodes + 1) ≡ walked quick pool n key
  comes_unlike {j} {b} a e t = rw (← c.passed) (go quick e (ap (answer_at quick pool key) (stopped_here c a (stops quick e))))
    where
      stops : (q : Bool) → q ≡ true → test_of q key (header_at pool n j) b ≡ true
      stops true e = t
      stops false e = absurd (false≢true e)

      go : (q : Bool) → q ≡ true → answer_at q pool key (Stopped c.spot j b) ≡ walked q pool n key → answer 3 0 (c.spot.nodes + 1) ≡ walked q pool n key
      go true e z = z
      go false e z = absurd (false≢true e)

  -- and else nothing stops it
  pub comes_on : {j b y d : ℕ} → Accepted pool n w x j b → (quick ≡ false) ⊎ (differs (header_at pool n j) key ≡ false) → d ≡ digit_of key b
      → y ≡ child_at pool n j d → Comes pool n key quick y (b + 1) (nodes + 1)
  comes_on {j} {b} a t = comes_below c a (go quick t)
    where
      go : (q : Bool) → (q ≡ false) ⊎ (differs (header_at pool n j) key ≡ false) → test_of q key (header_at pool n j) b ≡ false
      go true (inl e) = absurd (false≢true (sym e))
      go true (inr e) = e
      go false e = lt-leb 16 b a.b<
