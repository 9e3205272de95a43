-- A pool that holds a tree is surveyed as sound, and the marks are the tree's. Rests on what references come to, and on marks.
-- Assumes nothing.
use Rattle.std.specs.Prelude.{Some}
use mathlib.Core.Path.{◌≡◌, refl, sym, ap, ◌∙◌, subst}
use mathlib.Core.Bool.{Bool, true, false, not}
use mathlib.Core.Logic.{◌⊎◌, inl, inr}
use mathlib.Core.List.{List}
use Prim.Native.Nat.{ℕ, zero, suc, ◌+◌, ◌-◌, ◌*◌, ◌%◌, ◌^◌, ◌≤◌, ◌<◌}
use native.Mathlib.Omega.{arith}
use borrow.Author.Tests.{le-ltb, le-leb, eq-eqb}
use lib.Dec.{eqb}
use lib.ListN.{get_or, set, replicate}
use lib.Seq.{get_or-set_other}
use Rattle.digits.specs.Loops.{upto}
use Rattle.digits.specs.Digits.{digit_of, first_diff}
use Rattle.digits.specs.Headers.{header_in, header_of, depth_of, length_of, stored_in}
use Rattle.digits.proofs.Digits.{first_diff_differ}
use Rattle.digits.proofs.Headers.{header_cong}
use Rattle.pool.specs.Sizes.{bytes_of}
use Rattle.pool.specs.Places.{word_at, header_at, child_at}
use Rattle.pool.specs.Refs.{ref_of}
use Rattle.pool.specs.declared.Ref.{Ref}
use Rattle.tree.specs.Tree.{Tree, empty, leaf, node, upd, one, mult, Filled, Agree, Good}
use Rattle.tree.specs.Near.{filled}
use Rattle.tree.specs.Shape.{Holds}
use Rattle.tree.proofs.Basics.{Same?, same, other, same?, less?, last?, true_not_false, upd_at, upd_off, one_at, sum_has, sum_two}
use Rattle.tree.proofs.Near.{filled_is, not_filled, of_two}
use Rattle.layout.specs.Layout.{base, Held}
use Rattle.walk.specs.Walks.{children_of}
use Rattle.held.specs.Ways.{dig, mem}
use Rattle.held.proofs.Heads.{Shown, Headed, held_empty, held_leaf, held_head, held_node, held_slot, held_child, held_zero}
use Rattle.held.proofs.Lowest.{children_held}
use Rattle.survey.specs.Surveys.{Census, Gather, Survey, survey, census, leaf_met, join_of, Gathered, gathered, gather, kid_of, head_judged, closed}
use Rattle.survey.specs.Surveys.{node_met, ref_met, survey_from, survey_of}
use Rattle.survey.proofs.SoundTree.{meeting, survey_meets}
use Rattle.survey.proofs.TreeMarks.{marks_of, marks_off, upto_off}

-- two keys that agree before b do not differ before b
agree_diff : (b a k s : ℕ) → b ≤ 16 → Agree dig b (dig s) a → Agree dig b (dig s) k → b ≤ first_diff a k
agree_diff b a k s l x y = go (less? (first_diff a k) b)
  where
    go : (first_diff a k < b) ⊎ (b ≤ first_diff a k) → b ≤ first_diff a k
    go (inl h) = absurd (first_diff_differ a k 16 (omega arith) (x (first_diff a k) h ∙ sym (y (first_diff a k) h)))
    go (inr h) = h

-- the words of a header, joined
word_is : (word : ℕ) → depth_of word * 2 ^ 56 + length_of word * 2 ^ 48 + word % 2 ^ 48 ≡ word
word_is word = omega arith

-- a header that shows a node is the one that each of its keys has
header_is : (h b s first word : ℕ) → Shown h b (stored_in 16 12 h (b - h) s) word → Agree dig b (dig s) first
    → header_of (depth_of word) (length_of word) first ≡ word
unfolding header_in
header_is h b s first word e a =
    let len : length_of word ≡ b - h = omega (arith, e.depth, e.branch) in
    let stored : stored_in 16 12 (depth_of word) (length_of word) s ≡ word % 2 ^ 48
    = ap (λ d. stored_in 16 12 d (length_of word) s) e.depth ∙ ap (λ l. stored_in 16 12 h l s) len ∙ sym e.digits in
    header_cong 16 (depth_of word) (length_of word) first s (λ i l. a (depth_of word + i) (omega (arith, e.branch)))
    ∙ ap (λ y. depth_of word * 2 ^ 56 + length_of word * 2 ^ 48 + y) stored
    ∙ word_is word

pub zeros : (i x : ℕ) → get_or {A = ℕ} (replicate i 0) x 0 ≡ 0
zeros zero x = refl
zeros (suc i) zero = refl
zeros (suc i) (suc x) = zeros i x

module _ (pool : List ℕ) (n : ℕ) where
  -- a sound survey meets what the reference means
  meets : (w r : ℕ) (v : Survey) (f : ℕ) → v.census.sound ≡ true → {x : Ref} → ref_of n r ≡ x
      → survey_from f pool n w r v ≡ ref_met (meeting pool n f w) pool n x v
  meets w r v f on e = survey_meets pool n f w r v on ∙ ap (λ (y : Ref). ref_met (meeting pool n f w) pool n y v) e

  -- a survey of a tree t at walk depth w, whose keys begin as q: sound, with the tree's marks, and a key of the tree the last
  pub record Fits (w : ℕ) (q : ℕ → ℕ) (t : Tree ℕ) (v v' : Survey) : Type 0 where
    pub sound : v'.census.sound ≡ true
    pub marks : v'.marks ≡ marks_of w t v.marks
    pub last : Filled t → Agree dig w q v'.census.last

  -- none of the tree's slots has a mark
  abbrev pub Fresh : List ℕ → Tree ℕ → Type 0
  Fresh m t = (x : ℕ) → 0 < mult x t → get_or m x 0 ≡ 0

  -- what a visitor must do for each subtree
  abbrev Surveys : (ℕ → ℕ → Survey → Survey) → ℕ → Type 0
  Surveys go least =
      (w r : ℕ) (q : ℕ → ℕ) (t : Tree ℕ) (v : Survey) → least ≤ w → w ≤ 16 → Holds (base 16 n) (mem pool) w r t → Good dig 16 w q t → v.census.sound ≡ true
      → Fresh v.marks t → ((x : ℕ) → mult x t ≤ 1) → Fits w q t v (go w r v)

  join_fits : (b c : ℕ) (g : Gather) (s : Census) (k : ℕ) → b < 16 → s.sound ≡ true → Agree dig (b + 1) (upd (dig k) b c) s.last
      → (g.some ≡ true → Agree dig b (dig k) g.first)
      → ((join_of b c g s).census ≡ s) × ((join_of b c g s).some ≡ true) × Agree dig b (dig k) (join_of b c g s).first
  unfolding join_of
  join_fits b c g s k bl on a f =
      let d : digit_of s.last b ≡ c = a b (omega arith) ∙ upd_at (dig k) b c in
      let before : Agree dig b (dig k) s.last = λ i l. a i (omega arith) ∙ upd_off (dig k) b c i (λ z. omega arith) in
      go d before g.some refl
    where
      go : digit_of s.last b ≡ c → Agree dig b (dig k) s.last → (u : Bool) → g.some ≡ u
          → ((join_of b c g s).census ≡ s) × ((join_of b c g s).some ≡ true) × Agree dig b (dig k) (join_of b c g s).first
      go d before true e =
          let agree : b ≤ first_diff g.first s.last = agree_diff b g.first s.last k (omega arith) (f e) before in
          rw (on, eq-eqb (digit_of s.last b) c d, e, le-leb b (first_diff g.first s.last) agree) (refl, refl, f e)
      go d before false e = rw (on, eq-eqb (digit_of s.last b) c d, e) (refl, refl, before)

  -- ---- the children of a node
  module _ (go : ℕ → ℕ → Survey → Survey) (w r x b s : ℕ) (q : ℕ → ℕ) (kids : ℕ → Tree ℕ) (holds : Holds (base 16 n) (mem pool) w r (node x b s kids))
      (bl : b < 16) (goods : (c : ℕ) → c < 16 → Good dig 16 (b + 1) (upd (dig s) b c) (kids c)) (once : (y : ℕ) → mult y (node x b s kids) ≤ 1)
      (fits : Surveys go (b + 1)) (v : Survey) (fresh : Fresh v.marks (node x b s kids)) (on : v.census.sound ≡ true) where
    abbrev start : Gathered
    start = gathered (set v.marks x (w + 1)) (gather v.census 0 false)

    abbrev G : ℕ → Gathered
    G i = upto i (kid_of go pool n (x - n) b) start

    record KidsFit (i : ℕ) (g : Gathered) : Type 0 where
      pub sound : g.sum.census.sound ≡ true
      pub marks : g.marks ≡ upto i (λ c. marks_of (b + 1) (kids c)) (set v.marks x (w + 1))
      pub first : g.sum.some ≡ true → Agree dig b (dig s) g.sum.first
      pub last : g.sum.some ≡ true → Agree dig b (dig s) g.sum.census.last
      pub begun : (c : ℕ) → c < i → Filled (kids c) → g.sum.some ≡ true

    -- a slot of child i has no mark before it is its turn
    kid_fresh : (i : ℕ) → i < 16 → (y : ℕ) → 0 < mult y (kids i) → get_or (upto i (λ c. marks_of (b + 1) (kids c)) (set v.marks x (w + 1))) y 0 ≡ 0
    unfolding mult
    kid_fresh i l y h =
        upto_off i y (λ c. marks_of (b + 1) (kids c)) (set v.marks x (w + 1))
        (λ c k m. marks_off (b + 1) y (kids c) m (omega (arith, once y, sum_two 16 (λ c. mult y (kids c)) c i (omega arith) l (λ z. omega arith))))
        ∙ get_or-set_other v.marks x y (w + 1) 0 (λ z. omega (arith, once y, one_at y, ap (λ (i : ℕ). one (eqb y i)) z, sum_has 16 (λ c. mult y (kids c)) i l))
        ∙ fresh y (omega (arith, sum_has 16 (λ c. mult y (kids c)) i l))

    kid_step : (i : ℕ) → i < 16 → KidsFit i (G i) → KidsFit (suc i) (G (suc i))
    unfolding upto marks_of mult
    kid_step i l ih = case (same? (child_at pool n (x - n) i) 0)
      where
        kid_holds : Holds (base 16 n) (mem pool) (b + 1) (child_at pool n (x - n) i) (kids i)
        kid_holds = held_child pool n w r x b s kids i holds l

        is_filled : not (eqb (child_at pool n (x - n) i) 0) ≡ filled (kids i)
        is_filled = held_zero pool n (b + 1) (child_at pool n (x - n) i) (kids i) kid_holds

        vᵢ : Survey
        vᵢ = survey (G i).marks (G i).sum.census

        v' : Survey
        v' = go (b + 1) (child_at pool n (x - n) i) vᵢ

        case : Same? (child_at pool n (x - n) i) 0 → KidsFit (suc i) (G (suc i))
        case (same e p) =
            let gone : kids i ≡ empty = not_filled (kids i) (sym is_filled ∙ ap not p) in
            let g_is : G (suc i) ≡ G i = rw p in
            subst (KidsFit (suc i)) (sym g_is) (record {
              sound = ih.sound;
              marks = ih.marks ∙ ap (λ (t : Tree ℕ). marks_of (b + 1) t (upto i (λ c. marks_of (b + 1) (kids c)) (set v.marks x (w + 1)))) (sym gone);
              first = ih.first;
              last = ih.last;
              begun = λ c k f. ⊎_begun c f gone (last? c i k);
            })
          where
            ⊎_begun : (c : ℕ) → Filled (kids c) → kids i ≡ empty → (c ≡ i) ⊎ (c < i) → (G i).sum.some ≡ true
            ⊎_begun c f gone (inl z) = absurd (subst (λ (t : Tree ℕ). Filled t) (ap kids z ∙ gone) f)
            ⊎_begun c f gone (inr k) = ih.begun c k f
        case (other e p) =
            let full : Filled (kids i) = filled_is (kids i) (sym is_filled ∙ ap not p) in
            let F = fits (b + 1) (child_at pool n (x - n) i) (upd (dig s) b i) (kids i) vᵢ (omega arith) (omega arith) kid_holds (goods i l) ih.sound
            (λ y h. ap (λ (m : List ℕ). get_or m y 0) ih.marks ∙ kid_fresh i l y h) (λ y. omega (arith, once y, sum_has 16 (λ c. mult y (kids c)) i l)) in
            let J = join_fits b i (G i).sum v'.census s bl F.sound (F.last full) ih.first in
            let g_is : G (suc i) ≡ gathered v'.marks (join_of b i (G i).sum v'.census) = rw p in
            subst (KidsFit (suc i)) (sym g_is) (record {
              sound = ap (λ (s : Census). s.sound) J.0 ∙ F.sound;
              marks = F.marks ∙ ap (marks_of (b + 1) (kids i)) ih.marks;
              first = λ z. J.2;
              last = λ z. rw J.0 (λ k o. F.last full k (omega arith) ∙ upd_off (dig s) b i k (λ y. omega arith));
              begun = λ c k f. J.1;
            })

    kids_fit : (i : ℕ) → i ≤ 16 → KidsFit i (G i)
    unfolding upto
    kids_fit zero l = record {
      sound = on;
      marks = refl;
      first = λ z. absurd (true_not_false z refl);
      last = λ z. absurd (true_not_false z refl);
      begun = λ c k. absurd (omega arith);
    }
    kids_fit (suc i) l = kid_step i (omega arith) (kids_fit i (omega arith))

    -- the node's header is its keys', and the survey goes on
    pub closed_fits : Good dig 16 w q (node x b s kids) → Fits w q (node x b s kids) v (closed (header_at pool n (x - n)) (G 16))
    unfolding Good marks_of head_judged
    closed_fits g =
        let K : KidsFit 16 (G 16) = kids_fit 16 (omega arith) in
        let word : ℕ = header_at pool n (x - n) in
        let first : ℕ = (G 16).sum.first in
        let begun : (G 16).sum.some ≡ true = K.begun g.4.c g.4.c< g.4.at_c in
        let head : Headed pool n w r x b s = held_head pool n w r x b s kids holds in
        let c-is : head_judged word (G 16).sum ≡ (G 16).sum.census
        = rw (eq-eqb (header_of (depth_of word) (length_of word) first) word (header_is head.h b s first word head.shown (K.first begun))) in
        record {
          sound = ap (λ (s : Census). s.sound) c-is ∙ K.sound;
          marks = K.marks;
          last = λ f i l. ap (λ (s : Census). dig s.last i) c-is ∙ K.last begun i (omega (arith, g.0)) ∙ g.2 i l;
        }

  -- ---- a node, a leaf, a reference
  node_fits : (go : ℕ → ℕ → Survey → Survey) (w r x b s : ℕ) (q : ℕ → ℕ) (kids : ℕ → Tree ℕ) (v : Survey) → Holds (base 16 n) (mem pool) w r (node x b s kids)
      → Good dig 16 w q (node x b s kids) → ((y : ℕ) → mult y (node x b s kids) ≤ 1) → Surveys go (b + 1) → Fresh v.marks (node x b s kids)
      → v.census.sound ≡ true
      → Fits w q (node x b s kids) v (node_met go pool n w (x - n) (Some b) v)
  unfolding Good mult
  node_fits go w r x b s q kids v h g once fits fresh on =
      let back : n + (x - n) ≡ x = omega (arith, held_slot pool n w r x b s kids h) in
      let free : get_or v.marks x 0 ≡ 0 = fresh x (omega (arith, one_at x)) in
      let two : 2 ≤ children_of pool n (x - n) = omega (arith, children_held pool n w r x b s kids h, of_two kids g.4) in
      rw (le-ltb (children_of pool n (x - n)) 2 two, back, eq-eqb (get_or v.marks x 0) 0 free)
      (closed_fits go w r x b s q kids h g.1 g.3 once fits v fresh on g)

  leaf_fits : (w x k v₀ : ℕ) (q : ℕ → ℕ) (v : Survey) → Good dig 16 w q (leaf x k v₀) → Fresh v.marks (leaf x k v₀)
      → Fits w q (leaf x k v₀) v (leaf_met x k v)
  unfolding Good mult leaf_met marks_of
  leaf_fits w x k v₀ q v g fresh =
      rw (eq-eqb (get_or v.marks x 0) 0 (fresh x (omega (arith, one_at x)))) (record { sound = refl; marks = refl; last = λ f. g })

  pub survey_fits : (f : ℕ) → Surveys (survey_from f pool n) (17 - f)
  unfolding survey_from marks_of Good
  survey_fits zero w r q t v a b h g on fresh once = absurd (omega arith)
  survey_fits (suc f) w r q empty v a b h g on fresh once =
      let e : survey_from (suc f) pool n w r v ≡ v = meets w r v (suc f) on (held_empty pool n w r h).1 in
      subst (Fits w q empty v) (sym e) (record { sound = on; marks = refl; last = λ z. absurd z })
  survey_fits (suc f) w r q (leaf x k v₀) v a b h g on fresh once =
      let see = held_leaf pool n w r x k v₀ h in
      subst (Fits w q (leaf x k v₀) v) (sym (meets w r v (suc f) on see.ref ∙ ap (λ (i : ℕ). leaf_met x i v) see.key)) (leaf_fits w x k v₀ q v g fresh)
  survey_fits (suc f) w r q (node x b' s kids) v a b h g on fresh once =
      let A = held_node pool n w r x b' s kids h in
      subst (Fits w q (node x b' s kids) v) (sym (meets w r v (suc f) on A.refers ∙ ap (λ y. node_met (survey_from f pool n) pool n w (x - n) y v) A.head))
      (node_fits (survey_from f pool n) w r x b' s q kids v h g once
      (λ w' r' q' t' v' l. survey_fits f w' r' q' t' v' (omega (arith, g.0))) fresh on)

  -- a pool that holds a tree is sound, and its marks are the tree's
  pub held_sound : (t : Tree ℕ) → Held 16 n (mem pool) t
      → ((survey_of pool n).census.sound ≡ true) × ((survey_of pool n).marks ≡ marks_of 0 t (replicate (bytes_of n) 0))
  unfolding survey_of
  held_sound t H =
      let v : Survey = survey (replicate (bytes_of n) 0) (census 0 true) in
      let F = survey_fits 17 0 (word_at pool 1) (λ i. 0) t v (omega arith) (omega arith) H.holds H.good refl (λ x h. zeros (bytes_of n) x) H.once in
      (F.sound, F.marks)
