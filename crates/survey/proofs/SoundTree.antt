-- A survey that stays sound has seen a tree: what is reached from the reference is held, and good below every way that leads to it.
-- Rests on what the layout's references show. Assumes nothing.
use Rattle.std.specs.Prelude.{None, Option, Some}
use mathlib.Core.Path.{◌≡◌, refl, sym, ap, ◌∙◌, subst}
use mathlib.Core.Bool.{Bool, true, false, not}
use mathlib.Core.Logic.{◌≢◌, ◌⊎◌, inl, inr, ⊎_elim}
use mathlib.Core.List.{List}
use Prim.Native.Nat.{ℕ, zero, suc, ◌+◌, ◌-◌, ◌%◌, ◌^◌, ◌≤◌, ◌<◌}
use native.Mathlib.Omega.{arith}
use borrow.Author.Tests.{ltb-false, lt-ltb, le-ltb, leb-true, eqb-true, eq-eqb, ne_eqb}
use lib.Dec.{eqb, leb, ltb}
use lib.ListN.{get_or, set, replicate}
use Rattle.digits.specs.Choice.{pick}
use Rattle.digits.specs.Loops.{upto}
use Rattle.digits.specs.Digits.{digit_of, first_diff}
use Rattle.digits.specs.Headers.{header_of, depth_of, length_of, stored_in}
use Rattle.digits.proofs.Digits.{first_diff_agree}
use Rattle.digits.proofs.Headers.{digits_of_header}
use Rattle.pool.specs.Sizes.{bytes_of}
use Rattle.pool.specs.Places.{word_at, key_at, value_at, header_at, child_at}
use Rattle.pool.specs.Refs.{ref_of, Within}
use Rattle.pool.specs.declared.Ref.{Ref}
use Rattle.pool.specs.declared.Ref.TheVariants.{Empty, Leaf, Node, Bad}
use Rattle.pool.proofs.Refs.{within}
use Rattle.tree.specs.Tree.{Tree, empty, leaf, node, upd, Filled, Two, Agree, Good}
use Rattle.tree.specs.Near.{filled}
use Rattle.tree.specs.Shape.{node_there, Holds}
use Rattle.tree.proofs.Basics.{Same?, same, other, same?, less?, last?, true_not_false}
use Rattle.tree.proofs.Places.{agree_down}
use Rattle.tree.proofs.Near.{filled_true, two_of}
use Rattle.layout.specs.Layout.{base, head_view, Held}
use Rattle.layout.proofs.Base.{Decoded, decoded, SeesNode, leaf_seen, node_seen, none_seen}
use Rattle.layout.proofs.Held.{held}
use Rattle.walk.specs.Walks.{head_of, children_of, is_child}
use Rattle.held.specs.Ways.{dig, mem}
use Rattle.held.proofs.Heads.{held_zero}
use Rattle.held.proofs.Lowest.{tally_same}
use Rattle.survey.specs.Surveys.{Census, Gather, Survey, survey, census, unsound, spoilt, leaf_met, join_of, Gathered, gathered, gather, kid_of}
use Rattle.survey.specs.Surveys.{head_judged, kids_of, closed, node_met, ref_met, survey_from, survey_of}

unsound_never : {A : Type 0} → ◌≡◌ {A = Bool} false true → A
unsound_never e = absurd (true_not_false e refl)

pub picked : {A : Type 0} (a b : A) (u : Bool) → u ≡ true → pick u a b ≡ a
picked a b true e = refl
picked a b false e = unsound_never e

-- nothing is good
pub good_filled : (w : ℕ) (q : ℕ → ℕ) (t : Tree ℕ) → (Filled t → Good dig 16 w q t) → Good dig 16 w q t
unfolding Good
good_filled w q empty f = tt
good_filled w q (leaf x k v) f = f tt
good_filled w q (node x b s kids) f = f tt

-- ---- what an accepted header says
pub record HeadSays (w word b : ℕ) : Type 0 where
  pub deep : w ≤ depth_of word
  pub short : length_of word < 16
  pub high : b < 16
  pub branch : depth_of word + length_of word ≡ b

pub head_says : (w word b : ℕ) → head_of w word ≡ Some b → HeadSays w word b
unfolding head_of
head_says w word b e = go (ltb (depth_of word) w) refl (ltb 15 (length_of word)) refl (ltb 15 (depth_of word + length_of word)) refl e
  where
    go : (x : Bool) → ltb (depth_of word) w ≡ x → (y : Bool) → ltb 15 (length_of word) ≡ y → (z : Bool) → ltb 15 (depth_of word + length_of word) ≡ z
        → pick {A = Option ℕ} x None (pick {A = Option ℕ} y None (pick {A = Option ℕ} z None (Some (depth_of word + length_of word)))) ≡ Some b
        → HeadSays w word b
    go true ex y ey z ez h = let o : ◌≡◌ {A = ℕ} 0 1 = cc in absurd (omega arith)
    go false ex true ey z ez h = let o : ◌≡◌ {A = ℕ} 0 1 = cc in absurd (omega arith)
    go false ex false ey true ez h = let o : ◌≡◌ {A = ℕ} 0 1 = cc in absurd (omega arith)
    go false ex false ey false ez h =
        let e : depth_of word + length_of word ≡ b = cc in
        record {
          deep = ltb-false (depth_of word) w ex;
          short = omega (arith, ltb-false 15 (length_of word) ey);
          high = omega (arith, ltb-false 15 (depth_of word + length_of word) ez);
          branch = e;
        }

-- ---- what a join that stays sound says
pub record JoinSays (b c : ℕ) (g : Gather) (s : Census) : Type 0 where
  pub sound : s.sound ≡ true
  pub digit : dig s.last b ≡ c
  pub begun : (join_of b c g s).some ≡ true
  pub last : (join_of b c g s).census.last ≡ s.last
  pub before : g.some ≡ true → ((join_of b c g s).first ≡ g.first) × (b ≤ first_diff g.first s.last)
  pub begins : g.some ≡ false → (join_of b c g s).first ≡ s.last

pub join_says : (b c : ℕ) (g : Gather) (s : Census) → (join_of b c g s).census.sound ≡ true → JoinSays b c g s
unfolding join_of
join_says b c g s e = go s.sound refl (eqb (digit_of s.last b) c) refl g.some refl (leb b (first_diff g.first s.last)) refl e
  where
    out : Bool → Bool → Bool → Bool → Gather
    out x y z u =
        pick x
        (pick y
        (pick z (pick u (gather s g.first true) (gather (unsound s) g.first true)) (gather s s.last true))
        (gather (unsound s) g.first true))
        (gather s g.first true)

    go : (x : Bool) → s.sound ≡ x → (y : Bool) → eqb (digit_of s.last b) c ≡ y → (z : Bool) → g.some ≡ z
        → (u : Bool) → leb b (first_diff g.first s.last) ≡ u → (out x y z u).census.sound ≡ true → JoinSays b c g s
    go false ex y ey z ez u eu h = unsound_never (sym ex ∙ h)
    go true ex false ey z ez u eu h = unsound_never h
    go true ex true ey true ez false eu h = unsound_never h
    go true ex true ey true ez true eu h = record {
      sound = ex;
      digit = eqb-true (digit_of s.last b) c ey;
      begun = rw (ex, ey, ez, eu);
      last = rw (ex, ey, ez, eu);
      before = λ p. (rw (ex, ey, ez, eu), leb-true b (first_diff g.first s.last) eu);
      begins = λ p. unsound_never (sym p ∙ ez);
    }
    go true ex true ey false ez u eu h = record {
      sound = ex;
      digit = eqb-true (digit_of s.last b) c ey;
      begun = rw (ex, ey, ez);
      last = rw (ex, ey, ez);
      before = λ p. unsound_never (sym ez ∙ p);
      begins = λ p. rw (ex, ey, ez);
    }

-- ---- what a header that is judged sound says
head_judged_lem : (word : ℕ) (g : Gather) → (head_judged word g).sound ≡ true
    → (header_of (depth_of word) (length_of word) g.first ≡ word) × (head_judged word g ≡ g.census)
unfolding head_judged
head_judged_lem word g h = go (same? (header_of (depth_of word) (length_of word) g.first) word)
  where
    go : Same? (header_of (depth_of word) (length_of word) g.first) word
        → (header_of (depth_of word) (length_of word) g.first ≡ word) × (head_judged word g ≡ g.census)
    go (same e p) = (e, rw p)
    go (other e p) = unsound_never (rw p at h)

-- a tree for each digit below sixteen, as a function
module _ (K : (c : ℕ) → c < 16 → Tree ℕ) where
  pub choose : ℕ → Tree ℕ
  choose c = go (less? c 16)
    where
      go : (c < 16) ⊎ (16 ≤ c) → Tree ℕ
      go (inl l) = K c l
      go (inr l) = empty

  pub chosen : (P : ℕ → Tree ℕ → Type 0) → ((c : ℕ) (l : c < 16) → P c (K c l)) → (c : ℕ) → c < 16 → P c (choose c)
  unfolding choose
  chosen P h c l = go (less? c 16)
    where
      go : (d : (c < 16) ⊎ (16 ≤ c)) → P c (elim d [ inl l ↦ K c l | inr l ↦ empty ])
      go (inl l) = h c l
      go (inr l') = absurd (omega arith)

module _ (pool : List ℕ) (n : ℕ) where
  -- what a survey that stays sound has seen at a reference met at walk depth w; the last key it met is one of the tree's
  pub record Seen (w r last : ℕ) : Type 0 where
    pub t : Tree ℕ
    pub holds : Holds (base 16 n) (mem pool) w r t
    pub fine : Filled t → (q : ℕ → ℕ) → Agree dig w q last → Good dig 16 w q t

  seen_none : (w r last : ℕ) → r ≡ 0 → Seen w r last
  unfolding Holds
  seen_none w r last e = record { t = empty; holds = rw e (none_seen 16 n (mem pool)); fine = λ f q a. absurd f }

  -- ---- the children of a node
  module _ (go : ℕ → ℕ → Survey → Survey) (was : (w r : ℕ) (v : Survey) → (go w r v).census.sound ≡ true → v.census.sound ≡ true)
      (sees : (w r : ℕ) (v : Survey) → (go w r v).census.sound ≡ true → Seen w r (go w r v).census.last) (j b : ℕ) (start : Gathered) where
    abbrev kid : ℕ → Gathered → Gathered
    kid = kid_of go pool n j b

    abbrev G : ℕ → Gathered
    G i = upto i kid start

    abbrev after : ℕ → Census
    after c = (go (b + 1) (child_at pool n j c) (survey (G c).marks (G c).sum.census)).census

    kid_was : (c : ℕ) (g : Gathered) → (kid c g).sum.census.sound ≡ true → g.sum.census.sound ≡ true
    kid_was c g h = case (same? (child_at pool n j c) 0)
      where
        case : Same? (child_at pool n j c) 0 → g.sum.census.sound ≡ true
        case (same e p) = rw p at h
        case (other e p) =
            let v = survey g.marks g.sum.census in
            was (b + 1) (child_at pool n j c) v (join_says b c g.sum (go (b + 1) (child_at pool n j c) v).census (rw p at h)).sound

    sound_before : (m i : ℕ) → i ≤ m → (G m).sum.census.sound ≡ true → (G i).sum.census.sound ≡ true
    unfolding upto
    sound_before zero i l h = let z : i ≡ 0 = omega arith in rw z h
    sound_before (suc m) i l h = case (λ k. sound_before m i k (kid_was m (G m) h)) (last? i (suc m) (omega arith))
      where
        case : (i ≤ m → (G i).sum.census.sound ≡ true) → (i ≡ suc m) ⊎ (i < suc m) → (G i).sum.census.sound ≡ true
        case ih (inl e) = rw e h
        case ih (inr k) = ih (omega arith)

    -- what the first i children have told: a key of the first, which the last key met agrees with before b, as do those of all others
    record ToldBy (i : ℕ) (g : Gather) : Type 0 where
      pub none : g.some ≡ false → (c : ℕ) → c < i → child_at pool n j c ≡ 0
      pub agree : g.some ≡ true → (c : ℕ) → c < i → child_at pool n j c ≢ 0 → Agree dig (b + 1) (upd (dig g.first) b c) (after c).last
      pub last : g.some ≡ true → Agree dig b (dig g.first) g.census.last

    abbrev Told : ℕ → Type 0
    Told i = ToldBy i (G i).sum

    -- a key that agrees with the first before b
    first_agrees : (f k : ℕ) → b ≤ first_diff f k → Agree dig b (dig f) k
    first_agrees f k h i l = sym (first_diff_agree f k 16 i (omega arith))

    module _ (i : ℕ) (ih : Told i) (sound : (G (suc i)).sum.census.sound ≡ true) where
      kid_none : child_at pool n j i ≡ 0 → Told (suc i)
      unfolding upto
      kid_none e =
          let same-g : G (suc i) ≡ G i = rw (eq-eqb (child_at pool n j i) 0 e) in
          subst (λ (g : Gathered). ToldBy (suc i) g.sum) (sym same-g) (record {
            none = λ p c l. ⊎_elim (λ z. ap (child_at pool n j) z ∙ e) (λ k. ih.none p c k) (last? c i l);
            agree = λ p c l z. ⊎_elim (λ y. absurd (z (ap (child_at pool n j) y ∙ e))) (λ k. ih.agree p c k z) (last? c i l);
            last = ih.last;
          })

      kid_some : child_at pool n j i ≢ 0 → Told (suc i)
      unfolding upto
      kid_some e = case (G i).sum.some refl
        where
          g_is : (G (suc i)).sum ≡ join_of b i (G i).sum (after i)
          g_is = rw (ne_eqb (child_at pool n j i) 0 e)

          J : JoinSays b i (G i).sum (after i)
          J = join_says b i (G i).sum (after i) (ap (λ (g : Gather). g.census.sound) (sym g_is) ∙ sound)

          -- a being the first key now
          begun : (a : ℕ) → (G (suc i)).sum.first ≡ a → Agree dig b (dig a) (after i).last
              → ((c : ℕ) → c < i → child_at pool n j c ≢ 0 → Agree dig (b + 1) (upd (dig a) b c) (after c).last) → Told (suc i)
          begun a first_is here older = record {
            none = λ p. unsound_never (sym p ∙ ap (λ (g : Gather). g.some) g_is ∙ J.begun);
            agree = λ p c l z. rw first_is (⊎_elim (λ y. rw y (agree_down dig b i a (after i).last here J.digit)) (λ k. older c k z) (last? c i l));
            last = λ p. rw (first_is, ap (λ (g : Gather). g.census.last) g_is ∙ J.last) here;
          }

          case : (u : Bool) → (G i).sum.some ≡ u → Told (suc i)
          case true u =
              begun (G i).sum.first (ap (λ (g : Gather). g.first) g_is ∙ (J.before u).0) (first_agrees (G i).sum.first (after i).last (J.before u).1)
              (ih.agree u)
          case false u = begun (after i).last (ap (λ (g : Gather). g.first) g_is ∙ J.begins u) (λ m o. refl) (λ c k z. absurd (z (ih.none u c k)))

    told : (i : ℕ) → start.sum.some ≡ false → i ≤ 16 → (G i).sum.census.sound ≡ true → Told i
    unfolding upto
    told zero s l h = record { none = λ p c k. absurd (omega arith); agree = λ p c k. absurd (omega arith); last = λ p. unsound_never (sym s ∙ p) }
    told (suc i) s l h = case (told i s (omega arith) (kid_was i (G i) h)) (same? (child_at pool n j i) 0)
      where
        case : Told i → Same? (child_at pool n j i) 0 → Told (suc i)
        case ih (same e p) = kid_none i ih h e
        case ih (other e p) = kid_some i ih h e

    -- each child's tree
    kid_seen : (G 16).sum.census.sound ≡ true → (c : ℕ) → c < 16 → Seen (b + 1) (child_at pool n j c) (after c).last
    unfolding upto
    kid_seen h c l = case (same? (child_at pool n j c) 0)
      where
        sound_c : (G (suc c)).sum.census.sound ≡ true
        sound_c = sound_before 16 (suc c) (omega arith) h

        case : Same? (child_at pool n j c) 0 → Seen (b + 1) (child_at pool n j c) (after c).last
        case (same e p) = seen_none (b + 1) (child_at pool n j c) (after c).last e
        case (other e p) =
            sees (b + 1) (child_at pool n j c) (survey (G c).marks (G c).sum.census)
            (join_says b c (G c).sum (after c) (rw p at sound_c)).sound

  -- ---- a node
  module _ (go : ℕ → ℕ → Survey → Survey) (was : (w r : ℕ) (v : Survey) → (go w r v).census.sound ≡ true → v.census.sound ≡ true)
      (sees : (w r : ℕ) (v : Survey) → (go w r v).census.sound ≡ true → Seen w r (go w r v).census.last) (w r j b : ℕ) (ref : ref_of n r ≡ Node j)
      (head : head_of w (header_at pool n j) ≡ Some b) (v : Survey) where
    abbrev word : ℕ
    word = header_at pool n j

    abbrev all : Gathered
    all = kids_of go pool n j b v

    abbrev start : Gathered
    start = gathered v.marks (gather v.census 0 false)

    -- a child that is there is good
    kid_is_good : (c last : ℕ) (S : Seen (b + 1) (child_at pool n j c) last) (q : ℕ → ℕ) → (child_at pool n j c ≢ 0 → Agree dig (b + 1) q last)
        → Good dig 16 (b + 1) q S.t
    kid_is_good c last S q a =
        let zero_is : not (eqb (child_at pool n j c) 0) ≡ filled S.t = held_zero pool n (b + 1) (child_at pool n j c) S.t S.holds in
        good_filled (b + 1) q S.t (λ f.
        S.fine f q (a (λ z. true_not_false (filled_true S.t f) (sym zero_is ∙ ap not (eq-eqb (child_at pool n j c) 0 z)))))

    -- a node of two children has begun
    begun_if : (u : Bool) → all.sum.some ≡ u → (kids : ℕ → Tree ℕ) → Two kids → ((c : ℕ) → c < 16 → is_child pool n j c ≡ filled (kids c))
        → (all.sum.some ≡ false → (c : ℕ) → c < 16 → child_at pool n j c ≡ 0) → all.sum.some ≡ true
    begun_if true e kids two same-kid none = e
    begun_if false e kids two same-kid none =
        absurd (true_not_false (filled_true (kids two.c) two.at_c)
        (sym (same-kid two.c two.c<) ∙ ap not (eq-eqb (child_at pool n j two.c) 0 (none e two.c two.c<))))

    back : n + j - n ≡ j
    back = omega arith

    kid_back : (kids : ℕ → Tree ℕ) (c : ℕ) → Holds (base 16 n) (mem pool) (b + 1) (child_at pool n j c) (kids c)
        → Holds (base 16 n) (mem pool) (b + 1) ((base 16 n).kid (mem pool) (n + j) c) (kids c)
    unfolding base
    kid_back kids c h = subst (λ (i : ℕ). Holds (base 16 n) (mem pool) (b + 1) (child_at pool n i c) (kids c)) (sym back) h

    -- the header shows the node
    node_shown : (first : ℕ) → HeadSays w word b → header_of (depth_of word) (length_of word) first ≡ word → j + 1 < n
        → SeesNode 16 n (mem pool) r (n + j) (depth_of word) b ((base 16 n).stored (depth_of word) b first)
    unfolding head_view base
    node_shown first says header j< =
        let len : length_of word ≡ b - depth_of word = omega (arith, says.branch) in
        let low : word % 2 ^ 48 ≡ stored_in 16 12 (depth_of word) (b - depth_of word) first
        = ap (λ x. x % 2 ^ 48) (sym header)
        ∙ digits_of_header 16 (depth_of word) (length_of word) first
        ∙ ap (λ l. stored_in 16 12 (depth_of word) l first) len in
        record {
          ref = ref ∙ ap Node (sym back);
          low = omega arith;
          high = omega arith;
          head =
              ap (λ (i : ℕ). head_view 16 (n + j) (header_at pool n i)) back
              ∙ rw (lt-ltb (length_of word) 16 says.short, lt-ltb (depth_of word + length_of word) 16 (omega (arith, says.branch, says.high)))
              (ap (λ (i : ℕ). node_there (n + j) (depth_of word) i (word % 2 ^ 48)) says.branch ∙ ap (node_there (n + j) (depth_of word) b) low);
        }

    pub node_sees : 2 ≤ children_of pool n j → (closed word all).census.sound ≡ true → Seen w r (closed word all).census.last
    unfolding Holds Good
    node_sees two h =
        let (header, judged-is) = head_judged_lem word all.sum h in
        let sound : all.sum.census.sound ≡ true = ap (λ (s : Census). s.sound) (sym judged-is) ∙ h in
        let says : HeadSays w word b = head_says w word b head in
        let T = told go was sees j b start 16 refl (omega arith) sound in
        let seen : (c : ℕ) → c < 16 → Seen (b + 1) (child_at pool n j c) (after go was sees j b start c).last = kid_seen go was sees j b start sound in
        let kids : ℕ → Tree ℕ = choose (λ c l. (seen c l).t) in
        let kid_holds : (c : ℕ) → c < 16 → Holds (base 16 n) (mem pool) (b + 1) (child_at pool n j c) (kids c)
        = chosen (λ c l. (seen c l).t) (λ c t. Holds (base 16 n) (mem pool) (b + 1) (child_at pool n j c) t) (λ c l. (seen c l).holds) in
        let kid-filled : (c : ℕ) → c < 16 → is_child pool n j c ≡ filled (kids c)
        = λ c l. held_zero pool n (b + 1) (child_at pool n j c) (kids c) (kid_holds c l) in
        let two-kids : Two kids = two_of kids (omega (arith, tally_same 16 (is_child pool n j) (λ c. filled (kids c)) kid-filled)) in
        let begun : all.sum.some ≡ true = begun_if all.sum.some refl kids two-kids kid-filled T.none in
        let first : ℕ = all.sum.first in
        let kid_good : (c : ℕ) → c < 16 → Good dig 16 (b + 1) (upd (dig first) b c) (kids c)
        = chosen (λ c l. (seen c l).t) (λ c t. Good dig 16 (b + 1) (upd (dig first) b c) t)
        (λ c l. kid_is_good c (after go was sees j b start c).last (seen c l) (upd (dig first) b c) (λ z. T.agree begun c l z)) in
        let j< : j + 1 < n = subst (Within n) ref (within n r) in
        record {
          t = node (n + j) b first kids;
          holds = (
            record {
              h = depth_of word;
              low = says.deep;
              high = omega (arith, says.branch);
              there = node_seen 16 n (mem pool) r (n + j) (depth_of word) b ((base 16 n).stored (depth_of word) b first) (node_shown first says header j<);
            },
            λ c l. kid_back kids c (kid_holds c l),
          );
          fine = λ f q a. (
            omega (arith, says.deep, says.branch),
            says.high,
            λ i l. sym (T.last begun i (omega (arith, says.deep, says.branch))) ∙ ap (λ (s : Census). dig s.last i) (sym judged-is) ∙ a i l,
            kid_good,
            two-kids,
          );
        }

  -- ---- a reference
  -- what a survey does with a node
  abbrev pub meeting : ℕ → ℕ → ℕ → Survey → Survey
  meeting zero w j = spoilt
  meeting (suc f) w j = node_met (survey_from f pool n) pool n w j (head_of w (header_at pool n j))

  survey_is : (f w r : ℕ) (v : Survey) → survey_from f pool n w r v ≡ pick v.census.sound (ref_met (meeting f w) pool n (ref_of n r) v) v
  unfolding survey_from
  survey_is zero w r v = refl
  survey_is (suc f) w r v = refl

  -- a survey that is sound was sound before
  pub survey_was : (f w r : ℕ) (v : Survey) → (survey_from f pool n w r v).census.sound ≡ true → v.census.sound ≡ true
  survey_was f w r v h = go v.census.sound refl (ap (λ (s : Survey). s.census.sound) (sym (survey_is f w r v)) ∙ h)
    where
      go : (u : Bool) → v.census.sound ≡ u → (pick u (ref_met (meeting f w) pool n (ref_of n r) v) v).census.sound ≡ true → v.census.sound ≡ true
      go true e h = e
      go false e h = h

  -- and goes by what the reference means
  pub survey_meets : (f w r : ℕ) (v : Survey) → v.census.sound ≡ true → survey_from f pool n w r v ≡ ref_met (meeting f w) pool n (ref_of n r) v
  survey_meets f w r v on = survey_is f w r v ∙ picked (ref_met (meeting f w) pool n (ref_of n r) v) v v.census.sound on

  leaf_sees : (w r i : ℕ) (v : Survey) → ref_of n r ≡ Leaf i → (leaf_met i (key_at pool i) v).census.sound ≡ true
      → Seen w r (leaf_met i (key_at pool i) v).census.last
  unfolding leaf_met Holds Good
  leaf_sees w r i v e h = go (same? (get_or v.marks i 0) 0)
    where
      go : Same? (get_or v.marks i 0) 0 → Seen w r (leaf_met i (key_at pool i) v).census.last
      go (same p q) =
          rw q (record {
            t = leaf i (key_at pool i) (value_at pool i);
            holds =
                leaf_seen 16 n (mem pool) r i (key_at pool i) (value_at pool i)
                (record { ref = e; within = subst (Within n) e (within n r); key = refl; value = refl });
            fine = λ f q a. a;
          })
      go (other p q) = unsound_never (rw q at h)

  -- what is met, with what a node comes to
  ref_sees : (w r : ℕ) (v : Survey) (meet : ℕ → Survey → Survey)
      → ((j : ℕ) → ref_of n r ≡ Node j → (meet j v).census.sound ≡ true → Seen w r (meet j v).census.last)
      → (x : Ref) → ref_of n r ≡ x → (ref_met meet pool n x v).census.sound ≡ true → Seen w r (ref_met meet pool n x v).census.last
  ref_sees w r v meet sees Empty e h = seen_none w r v.census.last (subst (Decoded n r) e (decoded n r))
  ref_sees w r v meet sees (Leaf i) e h = leaf_sees w r i v e h
  ref_sees w r v meet sees (Node j) e h = sees j e h
  ref_sees w r v meet sees Bad e h = unsound_never h

  node_met_lem : (go : ℕ → ℕ → Survey → Survey) → ((w r : ℕ) (v : Survey) → (go w r v).census.sound ≡ true → v.census.sound ≡ true)
      → ((w r : ℕ) (v : Survey) → (go w r v).census.sound ≡ true → Seen w r (go w r v).census.last) → (w r j : ℕ) (v : Survey) → ref_of n r ≡ Node j
      → (x : Option ℕ) → head_of w (header_at pool n j) ≡ x → (node_met go pool n w j x v).census.sound ≡ true → Seen w r (node_met go pool n w j x v).census.last
  node_met_lem go was sees w r j v ref None e h = unsound_never h
  node_met_lem go was sees w r j v ref (Some b) e h = at_count (less? (children_of pool n j) 2) (same? (get_or v.marks (n + j) 0) 0)
    where
      v₁ : Survey
      v₁ = survey (set v.marks (n + j) (w + 1)) v.census

      at_count : (children_of pool n j < 2) ⊎ (2 ≤ children_of pool n j) → Same? (get_or v.marks (n + j) 0) 0
          → Seen w r (node_met go pool n w j (Some b) v).census.last
      at_count (inl l) m = unsound_never (rw (lt-ltb (children_of pool n j) 2 l) at h)
      at_count (inr l) (other p q) = unsound_never (rw (le-ltb (children_of pool n j) 2 l, q) at h)
      at_count (inr l) (same p q) =
          rw (le-ltb (children_of pool n j) 2 l, q) (node_sees go was sees w r j b ref e v₁ l (rw (le-ltb (children_of pool n j) 2 l, q) at h))

  met : (f w r : ℕ) (v : Survey) → ((j : ℕ) → ref_of n r ≡ Node j → (meeting f w j v).census.sound ≡ true → Seen w r (meeting f w j v).census.last)
      → (survey_from f pool n w r v).census.sound ≡ true → Seen w r (survey_from f pool n w r v).census.last
  met f w r v sees h =
      let e : survey_from f pool n w r v ≡ ref_met (meeting f w) pool n (ref_of n r) v = survey_meets f w r v (survey_was f w r v h) in
      subst (λ (s : Survey). Seen w r s.census.last) (sym e)
      (ref_sees w r v (meeting f w) sees (ref_of n r) refl (ap (λ (s : Survey). s.census.sound) (sym e) ∙ h))

  -- a survey that stays sound has seen a tree
  pub survey_sees : (f w r : ℕ) (v : Survey) → (survey_from f pool n w r v).census.sound ≡ true → Seen w r (survey_from f pool n w r v).census.last
  survey_sees zero w r v h = met zero w r v (λ j e z. unsound_never z) h
  survey_sees (suc f) w r v h =
      met (suc f) w r v (λ j e z. node_met_lem (survey_from f pool n) (survey_was f) (survey_sees f) w r j v e (head_of w (header_at pool n j)) refl z) h

  -- a pool whose survey is sound holds a tree
  pub sound_held : (survey_of pool n).census.sound ≡ true → (t : Tree ℕ) × Held 16 n (mem pool) t
  unfolding survey_of
  sound_held h =
      let S = survey_sees 17 0 (word_at pool 1) (survey (replicate (bytes_of n) 0) (census 0 true)) h in
      (S.t, held 16 n (mem pool) S.t S.holds (good_filled 0 (λ i. 0) S.t (λ f. S.fine f (λ i. 0) (λ i l. absurd (omega arith)))))
