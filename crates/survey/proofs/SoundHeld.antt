-- A pool is sound just where it holds a tree: clause by clause the tree's places are sound, and what is reached from the root of a sound pool is a tree.
-- Rests on what is reached in a pool that holds a tree. Assumes nothing.
use Rattle.std.specs.Prelude.{Some}
use mathlib.Core.Path.{◌≡◌, refl, sym, ap, ◌∙◌, subst}
use mathlib.Core.List.{List}
use Prim.Native.Nat.{ℕ, zero, suc, ◌+◌, ◌-◌, ◌%◌, ◌^◌, ◌≤◌, ◌<◌}
use native.Mathlib.Omega.{arith}
use borrow.Author.Tests.{lt-ltb}
use Rattle.digits.specs.Headers.{depth_of, length_of, stored_in}
use Rattle.digits.proofs.Headers.{stored_cong}
use Rattle.pool.specs.Sizes.{capacity_of}
use Rattle.pool.specs.Places.{word_at, key_at, value_at, header_at, child_at, child_word}
use Rattle.pool.specs.Refs.{ref_of}
use Rattle.pool.specs.declared.Ref.{Ref}
use Rattle.pool.specs.declared.Ref.TheVariants.{Empty, Leaf, Node, Bad}
use Rattle.tree.specs.Tree.{Tree, empty, leaf, node, upd, Filled, Two, sub, dep, Stands, pre, Agree, Good}
use Rattle.tree.specs.Near.{filled, children}
use Rattle.tree.specs.Shape.{node_there, Holds}
use Rattle.tree.proofs.Basics.{upd_at}
use Rattle.tree.proofs.Places.{agree_down}
use Rattle.tree.proofs.Near.{two_of, of_two}
use Rattle.layout.specs.Layout.{head_view, ref_view, base, Held, ref_at}
use Rattle.layout.proofs.Held.{held}
use Rattle.walk.specs.Walks.{children_of, is_child}
use Rattle.held.specs.Ways.{dig, mem}
use Rattle.held.proofs.Heads.{held_zero}
use Rattle.held.proofs.Lowest.{tally_same}
use Rattle.survey.specs.Soundness.{at, depth, branch, Reached, root, Below, here, under, child, SoundNode, Sound, Straight}
use Rattle.survey.proofs.SoundTree.{choose, chosen}
use Rattle.survey.proofs.HeldReached.{KeyIn, key_agrees, one_place, NodeHeld, below_key, place_holds, place_good, place_means, place_slot, reached_place}

-- a sound pool's capacity is the one that it is measured to have
pub sound_capacity : (pool : List ℕ) (n : ℕ) (s : Sound pool) → capacity_of pool ≡ Some n → s.n ≡ n
sound_capacity pool n s e = let size = s.size in cc

module _ (pool : List ℕ) (n : ℕ) where
  -- a node's children are those of the trees that they hold
  kids_counted : (w j : ℕ) (kids : ℕ → Tree ℕ) → ((c : ℕ) → c < 16 → Holds (base 16 n) (mem pool) w (child_at pool n j c) (kids c))
      → children_of pool n j ≡ children kids
  kids_counted w j kids h = tally_same 16 (is_child pool n j) (λ c. filled (kids c)) (λ c l. held_zero pool n w (child_at pool n j c) (kids c) (h c l))

  -- ---- a pool that holds a tree is sound
  pub sound_node : (i w j : ℕ) (q : ℕ → ℕ) (t : Tree ℕ) → Holds (base 16 n) (mem pool) w (word_at pool i) t → Good dig 16 w q t → NodeHeld pool n w j t
      → SoundNode pool n i w j
  unfolding Good
  sound_node i w j q t h g N =
      let b : ℕ = branch pool n j in
      let (w≤b, b<, begins, goods, two) = subst (Good dig 16 w q) N.is g in
      let agrees : (k : ℕ) → Below pool n i k → Agree dig b (dig N.s) k
      = λ k B.
      key_agrees b (dig N.s) (node (n + j) b N.s N.kids) k (omega arith, b<, λ i l. refl, goods, two)
      (subst (KeyIn k) N.is (below_key pool n B w t h)) in
      record {
        deep = N.deep;
        high = omega (arith, N.high);
        two = omega (arith, kids_counted (b + 1) j N.kids N.below, of_two N.kids two);
        agree = λ k k' d B B' l. agrees k B d l ∙ sym (agrees k' B' d l);
        turn = λ c k l B.
            key_agrees (b + 1) (upd (dig N.s) b c) (N.kids c) k (goods c l) (below_key pool n B (b + 1) (N.kids c) (N.below c l)) b (omega arith)
            ∙ upd_at (dig N.s) b c;
        stored = λ k B.
            N.stored
            ∙ stored_cong 16 12 (depth pool n j) (length_of (header_at pool n j)) N.s k (λ i l. sym (agrees k B (depth pool n j + i) (omega arith)));
      }

  module _ (t : Tree ℕ) (size : capacity_of pool ≡ Some n) (H : Held 16 n (mem pool) t) where
    -- its capacity n can be seen
    unfoldable pub held_is_sound : Sound pool
    held_is_sound = record {
      n = n;
      size = size;
      good = λ i w R e. place_means pool n t H (reached_place pool n t H R) e;
      nodes = λ i w j R e.
          let P = reached_place pool n t H R in
          sound_node i w j (pre dig P.π (λ i. 0) t) (sub P.π t) (place_holds pool n t H P) (place_good pool n t H P) (place_means pool n t H P e);
      once = λ i i' w w' x R R' e e'.
          let P = reached_place pool n t H R in
          let P' = reached_place pool n t H R' in
          sym P.word
          ∙ ap (λ (π : List ℕ). ref_at n 1 π t)
          (one_place x t P.π P'.π (H.once x) P.on P'.on (place_slot pool n t H P e) (place_slot pool n t H P' e'))
          ∙ P'.word;
    }

    -- and straight where each node's depth is the walk depth of its place
    pub straight_if : ((π : List ℕ) (x b s : ℕ) (kids : ℕ → Tree ℕ) → Stands π (node x b s kids) t → depth_of (header_at pool n (x - n)) ≡ dep π 0 t)
        → Straight pool
    unfolding held_is_sound
    straight_if d = record {
      sound = held_is_sound;
      none_stale = λ j S.
          let P = reached_place pool n t H S.reached in
          let N = place_means pool n t H P S.node in
          let back : j ≡ n + j - n = omega arith in
          let e = d P.π (n + j) (branch pool n j) N.s N.kids (record { on = P.on; is = N.is }) in
          omega (arith, ap (λ (j : ℕ). depth_of (header_at pool n j)) back, P.met, S.above);
    }

  -- a sound node's header is shown with the stored digits of a key below
  node_shown : (r j k : ℕ) → ref_of n r ≡ Node j → branch pool n j < 16
      → header_at pool n j % 2 ^ 48 ≡ stored_in 16 12 (depth pool n j) (length_of (header_at pool n j)) k
      → (base 16 n).view (mem pool) r ≡ node_there (n + j) (depth pool n j) (branch pool n j) ((base 16 n).stored (depth pool n j) (branch pool n j) k)
  unfolding base ref_view head_view
  node_shown r j k e b< stored =
      let len : branch pool n j - depth pool n j ≡ length_of (header_at pool n j) = omega arith in
      rw (e, lt-ltb (length_of (header_at pool n j)) 16 (omega arith), lt-ltb (branch pool n j) 16 b<)
      (ap (node_there (n + j) (depth pool n j) (branch pool n j)) (stored ∙ ap (λ (l : ℕ). stored_in 16 12 (depth pool n j) l k) (sym len)))

-- ---- a sound pool holds a tree
module _ (pool : List ℕ) (s : Sound pool) where
  abbrev n : ℕ
  n = s.n

  -- the tree that the reference at word i, met at walk depth w, holds: good where all keys below agree, and with a key below where it is filled
  record Built (i w : ℕ) : Type 0 where
    t : Tree ℕ
    holds : Holds (base 16 n) (mem pool) w (word_at pool i) t
    good : (q : ℕ → ℕ) → ((k : ℕ) → Below pool n i k → Agree dig w q k) → Good dig 16 w q t
    key : Filled t → (k : ℕ) × Below pool n i k

  none_built : (i w : ℕ) → at pool n i ≡ Empty → Built i w
  unfolding Holds Good base ref_view
  none_built i w e = record { t = empty; holds = rw e; good = λ q a. tt; key = λ f. absurd f }

  leaf_built : (i w l : ℕ) → at pool n i ≡ Leaf l → Built i w
  unfolding Holds Good base ref_view
  leaf_built i w l e = record {
    t = leaf l (key_at pool l) (value_at pool l);
    holds = rw e;
    good = λ q a. a (key_at pool l) (here l e);
    key = λ f. (key_at pool l, here l e);
  }

  module _ (i w j : ℕ) (R : Reached pool n i w) (e : at pool n i ≡ Node j) (B : (c : ℕ) → c < 16 → Built (child_word n j c) (branch pool n j + 1)) where
    abbrev b : ℕ
    b = branch pool n j

    -- what is known of the node, and its children's trees
    S : SoundNode pool n i w j
    S = s.nodes i w j R e

    kids : ℕ → Tree ℕ
    kids = choose (λ c l. (B c l).t)

    kids_have : (P : ℕ → Tree ℕ → Type 0) → ((c : ℕ) (l : c < 16) → P c (B c l).t) → (c : ℕ) → c < 16 → P c (kids c)
    unfolding kids
    kids_have = chosen (λ c l. (B c l).t)

    kids_hold : (c : ℕ) → c < 16 → Holds (base 16 n) (mem pool) (b + 1) (child_at pool n j c) (kids c)
    kids_hold = kids_have (λ c t. Holds (base 16 n) (mem pool) (b + 1) (child_at pool n j c) t) (λ c l. (B c l).holds)

    two : Two kids
    two = two_of kids (omega (arith, kids_counted pool n (b + 1) j kids kids_hold, S.two))

    -- one of the two has a key below
    key_below : (k : ℕ) × Below pool n i k
    key_below =
        let (k, K) = kids_have (λ c t. Filled t → (k : ℕ) × Below pool n (child_word n j c) k) (λ c l. (B c l).key) two.c two.c< two.at_c in
        (k, under j two.c e two.c< K)

    node_built : Built i w
    unfolding Holds Good base
    node_built =
        let (k, K) = key_below in
        let back : n + j - n ≡ j = omega arith in
        record {
          t = node (n + j) b k kids;
          holds = (
            record {
              h = depth pool n j;
              low = S.deep;
              high = omega arith;
              there = node_shown pool n (word_at pool i) j k e (omega (arith, S.high)) (S.stored k K);
            },
            λ c l. rw back (kids_hold c l),
          );
          good = λ q a. (
            omega (arith, S.deep),
            omega (arith, S.high),
            a k K,
            kids_have (λ c t. Good dig 16 (b + 1) (upd (dig k) b c) t)
                (λ c l. (B c l).good (upd (dig k) b c) (λ k' K'. agree_down dig b c k k' (λ d o. S.agree k' k d (under j c e l K') K o) (S.turn c k' l K'))),
            two,
          );
          key = λ f. (k, K);
        }

  -- each node takes a digit at least, so there are no more than sixteen one below the other
  built : (f i w : ℕ) → Reached pool n i w → w ≤ 16 → 17 ≤ f + w → Built i w
  built zero i w R l fu = absurd (omega arith)
  built (suc f) i w R l fu = go (at pool n i) refl (built f)
    where
      go : (x : Ref) → at pool n i ≡ x → ((i w : ℕ) → Reached pool n i w → w ≤ 16 → 17 ≤ f + w → Built i w) → Built i w
      go Empty e ih = none_built i w e
      go (Leaf l) e ih = leaf_built i w l e
      go (Node j) e ih =
          let S = s.nodes i w j R e in
          node_built i w j R e (λ c l. ih (child_word n j c) (branch pool n j + 1) (child j c R e l) (omega (arith, S.high)) (omega (arith, S.deep)))
      go Bad e ih = absurd (s.good i w R e)

  pub sound_holds : (t : Tree ℕ) × Held 16 s.n (mem pool) t
  sound_holds =
      let T = built 17 1 0 root (omega arith) (omega arith) in
      (T.t, held 16 n (mem pool) T.t T.holds (T.good (λ i. 0) (λ k B i l. absurd (omega arith))))
