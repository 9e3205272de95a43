-- A stale header mended: what is stored, that the pool holds the tree as before, and that the header is straight then.
-- Rests on marks, and on the layout's law of headers. Assumes nothing.
use Rattle.std.specs.Prelude.{Ok, Some}
use mathlib.Core.Path.{◌≡◌, refl, sym, ap, ◌∙◌, subst}
use mathlib.Core.Bool.{Bool, true, false}
use mathlib.Core.Logic.{◌≢◌, ◌⊎◌, inl, inr}
use mathlib.Core.List.{List, [], ◌∷◌}
use Prim.Native.Nat.{ℕ, zero, suc, ◌+◌, ◌-◌, ◌*◌, ◌≤◌, ◌<◌}
use native.Mathlib.Omega.{arith}
use borrow.Author.Tests.{ltb-false, ne_eqb}
use lib.Dec.{ltb, eqb}
use lib.ListN.{length, get_or, set, replicate, length-replicate}
use lib.Seq.{get_or-set_same, get_or-set_other}
use Rattle.digits.specs.Loops.{scan}
use Rattle.digits.specs.Headers.{header_of, depth_of}
use Rattle.digits.proofs.Digits.{digit_lt}
use Rattle.digits.proofs.Headers.{depth_of_header}
use Rattle.pool.specs.Sizes.{bytes_of}
use Rattle.pool.specs.Places.{header_at, node_word, node_ref}
use Rattle.tree.specs.Tree.{Tree, empty, leaf, node, upd, sum, one, mult, On, here, down, sub, dep, Stands, pre, Good, GoodAt}
use Rattle.tree.specs.Near.{low}
use Rattle.tree.specs.Shape
use Rattle.tree.specs.Straight.{StraightBut}
use Rattle.tree.proofs.Basics.{Same?, same, other, same?, less?, one_is, one_at, one_off, sum_has, sum_some}
use Rattle.tree.proofs.Near.{low_agrees}
use Rattle.tree.proofs.Places.{plug_sub, sub_mult}
use Rattle.tree.proofs.Straight.{straight_sub, straight_plug}
use Rattle.layout.specs.Layout.{base, Held, ref_at}
use Rattle.layout.specs.Switches.{depths}
use Rattle.layout.proofs.Base.{Decoded, decoded}
use Rattle.layout.proofs.Held.{holds_at, good_at, leaf_slot}
use Rattle.layout.proofs.Changes.{kept}
use Rattle.layout.proofs.Headers.{reheaded}
use Rattle.layout.proofs.Stales.{depths_same, header_depth, header_others, node_straight}
use Rattle.walk.specs.Walks.{head_of, lowest_of}
use Rattle.walk.specs.Ends.{Accepted}
use Rattle.held.specs.Ways.{dig, mem}
use Rattle.held.proofs.Heads.{Headed, held_head, held_node}
use Rattle.held.proofs.Lowest.{low_held}
use Rattle.survey.proofs.TreeMarks.{marks_of, marks_off, marks_node}
use Rattle.survey.proofs.HeldSurvey.{zeros}
use Rattle.opening.specs.Openings.{depth_marked, stale, mend_of}

-- ---- where a reached slot stands
pub SlotIs : ℕ → Tree ℕ → Type 0
SlotIs x empty = ⊥
SlotIs x (leaf y k v) = x ≡ y
SlotIs x (node y b s kids) = x ≡ y

pub slot_placed : (x : ℕ) (t : Tree ℕ) → 0 < mult x t → (π : List ℕ) × On π t × SlotIs x (sub π t)
unfolding mult sub SlotIs
slot_placed x empty h = absurd (omega arith)
slot_placed x (leaf y k v) h = ([], here, one_is x y h)
slot_placed x (node y b s kids) h = go (λ c. slot_placed x (kids c)) (same? x y)
  where
    go : ((c : ℕ) → 0 < mult x (kids c) → (π : List ℕ) × On π (kids c) × SlotIs x (sub π (kids c))) → Same? x y
        → (π : List ℕ) × On π (node y b s kids) × SlotIs x (sub π (node y b s kids))
    go ih (same e p) = ([], here, e)
    go ih (other e p) =
        let (c, l, g) = sum_some 16 (λ c. mult x (kids c)) (omega (arith, one_off x y e)) in
        let (π, o, i) = ih c g in
        (c ∷ π, down {kids = kids} l o, i)

-- the first place at which a test is true
pub scan_first : (m i k : ℕ) (test : ℕ → Bool) → k ≤ i → i < k + m → ((j : ℕ) → k ≤ j → j < i → test j ≡ false) → test i ≡ true → scan m k test ≡ i
unfolding scan
scan_first zero i k test a b f t = absurd (omega arith)
scan_first (suc m) i k test a b f t = go (scan_first m i (k + 1) test) (same? k i)
  where
    go : (k + 1 ≤ i → i < k + 1 + m → ((j : ℕ) → k + 1 ≤ j → j < i → test j ≡ false) → test i ≡ true → scan m (k + 1) test ≡ i) → Same? k i
        → scan (suc m) k test ≡ i
    go ih (same e p) = rw (ap test e ∙ t, scan) e
    go ih (other e p) = rw (f k (omega arith) (omega arith), scan) (ih (omega arith) (omega arith) (λ j x y. f j (omega arith) y) t)

pub scan_nowhere : (m k : ℕ) (test : ℕ → Bool) → ((j : ℕ) → k ≤ j → j < k + m → test j ≡ false) → scan m k test ≡ k + m
unfolding scan
scan_nowhere zero k test f = omega arith
scan_nowhere (suc m) k test f =
    rw (f k (omega arith) (omega arith), scan) (scan_nowhere m (k + 1) test (λ j x y. f j (omega arith) (omega arith)) ∙ omega arith)

module _ (n : ℕ) (pos : 1 ≤ n) (cap : n ≤ 1024) (t : Tree ℕ) where
  -- the marks of the tree
  abbrev pub M : List ℕ
  M = marks_of 0 t (replicate (bytes_of n) 0)

  -- node j stands at a place of the tree
  pub record NodeAt (j : ℕ) : Type 0 where
    pub π : List ℕ
    pub b : ℕ
    pub s : ℕ
    pub kids : ℕ → Tree ℕ
    pub stands : Stands π (node (n + j) b s kids) t

  module _ (pool : List ℕ) (words : length pool + 15 ≡ 19 * n) (H : Held 16 n (mem pool) t) where
    pub marked_stands : (j : ℕ) → get_or M (n + j) 0 ≢ 0 → NodeAt j
    unfolding SlotIs
    marked_stands j h = go (less? 0 (mult (n + j) t))
      where
        at : (π : List ℕ) (u : Tree ℕ) → Stands π u t → SlotIs (n + j) u → NodeAt j
        at π empty p i = absurd i
        at π (leaf y k v) p i = absurd (omega (arith, leaf_slot 16 n (mem pool) t H π y k v p))
        at π (node y b s kids) p i =
            record { π = π; b = b; s = s; kids = kids; stands = record { on = p.on; is = p.is ∙ ap (λ x. node x b s kids) (sym i) } }

        go : (0 < mult (n + j) t) ⊎ (mult (n + j) t ≤ 0) → NodeAt j
        go (inl g) = let (π, o, i) = slot_placed (n + j) t g in at π (sub π t) (record { on = o; is = refl }) i
        go (inr g) = absurd (h (marks_off 0 (n + j) t (replicate (bytes_of n) 0) (omega arith) ∙ zeros (bytes_of n) (n + j)))

    module _ (j : ℕ) (jn : j + 1 < n) (S : NodeAt j) where
      abbrev w : ℕ
      w = dep S.π 0 t

      abbrev u : Tree ℕ
      u = node (n + j) S.b S.s S.kids

      abbrev r : ℕ
      r = mem pool (ref_at n 1 S.π t)

      back : n + j - n ≡ j
      back = omega arith

      pub mark_is : get_or M (n + j) 0 ≡ w + 1
      mark_is =
          marks_node 0 (n + j) S.b S.s S.kids S.π t (replicate (bytes_of n) 0) S.stands.on S.stands.is (H.once (n + j))
          (omega (arith, length-replicate {A = ℕ} (bytes_of n) 0))

      pub depth_is : depth_marked M n j ≡ w
      depth_is = omega (arith, mark_is)

      holds : Shape.Holds (base 16 n) (mem pool) w r u
      holds = holds_at 16 n (mem pool) t H S.π u S.stands

      good : GoodAt dig 16 S.π t u
      good = good_at 16 n (mem pool) t H S.π u S.stands

      accepted : Accepted pool n w r (n + j - n) S.b
      accepted = held_node pool n w r (n + j) S.b S.s S.kids holds

      ref_is : r ≡ node_ref j
      ref_is = (subst (Decoded n r) accepted.refers (decoded n r)).1 ∙ ap node_ref back

      head_is : head_of w (header_at pool n j) ≡ Some S.b
      head_is = ap (λ i. head_of w (header_at pool n i)) (sym back) ∙ accepted.head

      pub bounds : (w ≤ S.b) × (S.b < 16)
      bounds = (accepted.w≤b, accepted.b<)

      low_is : lowest_of pool n w 0 (node_ref j) ≡ Ok (low u)
      low_is =
          ap (lowest_of pool n w 0) (sym ref_is)
          ∙ low_held pool n 17 w 0 r (pre dig S.π (λ i. 0) t) u holds good tt (omega (arith, bounds)) (omega arith)

      abbrev pub header : ℕ
      header = header_of w (S.b - w) (low u)

      -- the store that mends it
      pub mend_is : mend_of pool n w j ≡ record { word = node_word n j; value = header } ∷ []
      mend_is = rw (head_is, low_is)

      inside : node_word n j < length pool
      inside = omega arith

      mem_set : (i : ℕ) → mem (set pool (node_word n j) header) i ≡ upd (mem pool) (node_word n j) header i
      mem_set i = go (same? i (node_word n j))
        where
          go : Same? i (node_word n j) → mem (set pool (node_word n j) header) i ≡ upd (mem pool) (node_word n j) header i
          go (same e p) = rw p (ap (λ x. get_or (set pool (node_word n j) header) x 0) e ∙ get_or-set_same pool (node_word n j) header 0 inside)
          go (other e p) = rw p (get_or-set_other pool (node_word n j) i header 0 e)

      -- it keeps the tree
      pub mend_held : Held 16 n (mem (set pool (node_word n j) header)) t
      unfolding Good
      mend_held =
          kept 16 n (upd (mem pool) (node_word n j) header) t
          (subst (λ i. Held 16 n (upd (mem pool) (node_word n i) header) t) back
          (reheaded 16 n (omega arith) (mem pool) t H S.π (n + j) S.b S.s S.kids S.stands w (low u) bounds.0
          (low_agrees dig (digit_lt 16) 16 S.b (dig S.s) u tt (omega arith, good.1, λ i l. refl, good.3, good.4)) (omega arith)))
          (mem (set pool (node_word n j) header)) (λ i o. mem_set i)

      -- the header is then straight
      pub mended_depth : depth_of header ≡ w
      mended_depth = depth_of_header 16 w (S.b - w) (low u) (omega (arith, bounds))

      -- and the other nodes are stale or not as before
      pub mend_straight : (but : ℕ → Type 0) → StraightBut (depths n (mem pool)) but 0 t
          → StraightBut (depths n (mem (set pool (node_word n j) header))) but 0 t
      unfolding mult
      mend_straight but g =
          subst (StraightBut (depths n m') but 0) (plug_sub S.π t S.stands.on)
          (straight_plug (depths n (mem pool)) (depths n m') but S.π 0 t (sub S.π t) S.stands.on g (λ x h. others x (outside x h))
          (rw S.stands.is
          (node_straight n (mem pool) m' but w w (n + j) S.b S.s S.kids said others alone
          (subst (StraightBut (depths n (mem pool)) but w) S.stands.is (straight_sub (depths n (mem pool)) but S.π 0 t S.stands.on g)))))
        where
          m' : Shape.Mem
          m' = mem (set pool (node_word n j) header)

          stored_is : (i : ℕ) → m' i ≡ upd (mem pool) (node_word n (n + j - n)) header i
          stored_is i = mem_set i ∙ ap (λ k. upd (mem pool) (node_word n k) header i) (sym back)

          same_depths : (x : ℕ) → depths n m' x ≡ depths n (upd (mem pool) (node_word n (n + j - n)) header) x
          same_depths x = depths_same n (upd (mem pool) (node_word n (n + j - n)) header) m' x (λ l. stored_is (node_word n (x - n)))

          said : depths n m' (n + j) ≡ w
          said = same_depths (n + j) ∙ header_depth n (mem pool) (n + j) header (omega arith) ∙ mended_depth

          others : (x : ℕ) → x ≢ n + j → depths n m' x ≡ depths n (mem pool) x
          others x e = same_depths x ∙ header_others n (mem pool) (n + j) header (omega arith) x e

          counted : (x : ℕ) → mult x (sub S.π t) ≡ one (eqb x (n + j)) + sum 16 (λ c. mult x (S.kids c))
          counted x = ap (mult x) S.stands.is

          alone : (c : ℕ) → c < 16 → mult (n + j) (S.kids c) ≡ 0
          alone c l =
              omega (
                arith,
                counted (n + j),
                one_at (n + j),
                H.once (n + j),
                sub_mult S.π t (n + j) S.stands.on,
                sum_has 16 (λ c. mult (n + j) (S.kids c)) c l,
              )

          outside : (x : ℕ) → mult x (sub S.π t) < mult x t → x ≢ n + j
          outside x h e = let q : mult (n + j) (sub S.π t) < mult (n + j) t = rw e at h in omega (arith, counted (n + j), one_at (n + j), H.once (n + j))

      -- a header that is not stale is straight
      pub fresh_depth : stale pool n M j ≡ false → depth_of (header_at pool n j) ≡ w
      fresh_depth e =
          let head : Headed pool n w r (n + j) S.b S.s = held_head pool n w r (n + j) S.b S.s S.kids holds in
          let d : depth_of (header_at pool n j) ≡ head.h = ap (λ i. depth_of (header_at pool n i)) (sym back) ∙ head.shown.depth in
          let f : ltb (depth_marked M n j) (depth_of (header_at pool n j)) ≡ false = rw (ne_eqb (get_or M (n + j) 0) 0 (λ z. omega (arith, mark_is))) at e in
          omega (arith, ltb-false (depth_marked M n j) (depth_of (header_at pool n j)) f, depth_is, head.low)
