-- Puts that make a node: the split of a leaf and the split of a node.
-- Rests on what every put has in common, on the laws of headers and on the split tree. Assumes nothing.
use mathlib.Core.Path.{◌≡◌, refl, sym, ap, ◌∙◌, subst}
use mathlib.Core.Logic.{◌≢◌, inl, inr}
use Prim.Native.Nat.{ℕ, suc, ◌+◌, ◌-◌, ◌≤◌, ◌<◌}
use mathlib.Core.List.{List, [], ◌∷◌, ◌++◌}
use native.Mathlib.Omega.{arith}
use Rattle.digits.specs.Digits.{digit_in}
use Rattle.digits.specs.Headers.{stored_in, header_in, depth_of}
use Rattle.digits.proofs.Digits.{digit_lt}
use Rattle.digits.proofs.Headers.{depth_of_header}
use Rattle.pool.specs.Places.{leaf_word, node_word, child_word, leaf_ref, node_ref}
use Rattle.pool.specs.declared.Ref.TheVariants.{Node}
use Rattle.tree.specs.Tree.{Tree, leaf, node, upd, mult, On, sub, dep, pre, Stands, Agree, Leads, Good, GoodAt}
use Rattle.tree.specs.Shape.{leaf_there, Mem, Holds}
use Rattle.tree.specs.Straight.{StraightBut}
use Rattle.tree.specs.Stores.{Store, run, block, tab, Part}
use Rattle.tree.proofs.Basics.{upd_at, upd_off, one_at, sum_has}
use Rattle.tree.proofs.Places.{sub_mult}
use Rattle.tree.proofs.Near.{Past}
use Rattle.tree.proofs.Stores.{Words, words_part, words_more, words_append, words_block, run_off, run_append, block_off, block_first, block_at, length_tab, tab_at, part_all, part_nil, part_append}
use Rattle.tree.proofs.Straight.{straight_more, straight_sub}
use Rattle.tree.proofs.Put.{past_filled, past_good, split_tree, split_holds, split_straight, split_filled, split_good, split_adds}
use Rattle.layout.specs.Layout.{own, head_view, base, Held, ref_at}
use Rattle.layout.specs.Operations.{leaf_stores, split_children, node_stores, target_store, splitting, splitting_leaf, splitting_node}
use Rattle.layout.specs.Switches.{depths, NoneStale, OneStale, Puts}
use Rattle.layout.proofs.Base.{ref_node, SeesNode, node_seen, none_seen, own_leaf, own_node, own_slot}
use Rattle.layout.proofs.Held.{sub_holds, holds_at, good_at, node_slot}
use Rattle.layout.proofs.Changes.{ref_owner}
use Rattle.layout.proofs.Headers.{header_view, header_at, header_kept}
use Rattle.layout.proofs.Stales.{depth_there, Apart, stores_straight, header_depth, header_others, node_straight}
use Rattle.layout.proofs.Puts.{Fresh, Aside, fresh_kept, fresh_apart, leaf_fresh, leaf_made, puts}

module _ (D N : ℕ) (m : Mem) (t : Tree ℕ) (H : Held D N m t) (d : D ≤ 256) (cap : N ≤ 1024)
    (k v z : ℕ) (zn : z < N) (zf : mult z t ≡ 0) (j : ℕ) (jn : j + 1 < N) (jf : mult (N + j) t ≡ 0)
    (π : List ℕ) (on : On π t) (leads : Leads (digit_in D) π t k)
    (k₂ f : ℕ) (fD : f < D) (deep : dep π 0 t ≤ f) (before : (i : ℕ) → i < f → digit_in D k i ≡ digit_in D k₂ i)
    (differ : digit_in D k f ≢ digit_in D k₂ f) where
  -- the walk depth and the reference of the place, and the two digits
  abbrev w : ℕ
  w = dep π 0 t

  abbrev q : ℕ
  q = ref_at N 1 π t

  abbrev a : ℕ
  a = digit_in D k f

  abbrev c : ℕ
  c = digit_in D k₂ f

  -- ---- the stores to the new leaf and the new node
  abbrev children : ℕ → ℕ
  children = split_children D f k k₂ z (m q)

  abbrev words : List ℕ
  words = header_in D w (f - w) k ∷ tab 16 children

  abbrev first : List Store
  first = leaf_stores z k v ++ node_stores D N w f k k₂ z j (m q)

  first_fresh : Words (Fresh N t) first
  first_fresh =
      words_append (Fresh N t) (leaf_stores z k v) (block (node_word N j) words) (leaf_fresh D N m t H cap k v z zn zf)
      (words_block (Fresh N t) (node_word N j) words (λ i x y.
      let e : own N i ≡ N + j = own_node N j i x (omega (arith, length_tab 16 children)) in
      rw e (omega arith, jf)))

  first_kept : (τ : List Store) → Part first τ → Held D N (run τ m) t
  first_kept τ p = fresh_kept D N m t H first τ first_fresh p

  -- the reference is not among their words
  q_kept : run first m q ≡ m q
  q_kept =
      run_off first m q
      (words_more (Fresh N t) (λ o. q ≢ o) first (λ o h e. ref_owner D N m t H π on (own N o) h.0 (omega (arith, h.1)) (ap (own N) e)) first_fresh)

  -- what they leave
  node_after : (i : ℕ) → run first m i ≡ run (block (node_word N j) words) (run (leaf_stores z k v) m) i
  node_after i = ap (λ m'. m' i) (run_append (leaf_stores z k v) (block (node_word N j) words) m)

  at_leaf : (i : ℕ) → i < node_word N j → run first m i ≡ run (leaf_stores z k v) m i
  at_leaf i h = node_after i ∙ block_off (node_word N j) words (run (leaf_stores z k v) m) i (λ o x y e. omega arith)

  at_header : run first m (node_word N j) ≡ header_in D w (f - w) k
  at_header = node_after (node_word N j) ∙ block_first (node_word N j) (header_in D w (f - w) k) (tab 16 children) (run (leaf_stores z k v) m)

  at_child : (i : ℕ) → i < 16 → run first m (child_word N j i) ≡ children i
  at_child i l =
      let e : child_word N j i ≡ node_word N j + suc i = omega arith in
      node_after (child_word N j i)
      ∙ ap (run (block (node_word N j) words) (run (leaf_stores z k v) m)) e
      ∙ block_at (node_word N j) words (run (leaf_stores z k v) m) (suc i) (omega (arith, length_tab 16 children))
      ∙ tab_at 16 children i l

  -- ---- the split of what stands at the place, `target` being the stores that ready it for its new walk depth
  module _ (past : Past (digit_in D) f k₂ (sub π t)) (target : List Store)
      (keeps : (m' : Mem) → Held D N m' t → (τ : List Store) → Part target τ → Held D N (run τ m') t)
      (readies : (m' : Mem) → Held D N m' t → Holds (base D N) (run target m') (f + 1) (m' q) (sub π t))
      (below : Words (λ i. 0 < mult (own N i) (sub π t)) target)
      (y : ℕ) (spares : Words (Apart N (λ x. x ≡ y) t) target)
      (straightens : (m' : Mem) → StraightBut (depths N m') (λ x. ⊥) w (sub π t) → StraightBut (depths N (run target m')) (λ x. ⊥) (f + 1) (sub π t)) where
    abbrev m₁ : Mem
    m₁ = run (first ++ target) m

    abbrev new : Tree ℕ
    new = split_tree (digit_in D) (N + j) f z k v c (sub π t)

    cut : (τ : List Store) → Part (first ++ target) τ → Held D N (run τ m) t
    cut τ p =
        let (τ₁, τ₂, p₁, p₂, e) = part_append first target τ p in
        rw (e, run_append τ₁ τ₂ m) (keeps (run τ₁ m) (first_kept τ₁ p₁) τ₂ p₂)

    -- what the first stores left is there still
    left : (i : ℕ) → mult (own N i) t ≡ 0 → m₁ i ≡ run first m i
    left i h =
        ap (λ m'. m' i) (run_append first target m)
        ∙ run_off target (run first m) i
        (words_more (λ i. 0 < mult (own N i) (sub π t)) (λ o. i ≢ o) target
        (λ o p e. omega (arith, ap (λ i. mult (own N i) t) e, sub_mult π t (own N o) on)) below)

    leaf_word_lem : (i : ℕ) → leaf_word z ≤ i → i < leaf_word z + 2 → m₁ i ≡ run (leaf_stores z k v) m i
    leaf_word_lem i x y = left i (ap (λ x. mult x t) (own_leaf N z i zn x y) ∙ zf) ∙ at_leaf i (omega arith)

    node_word_lem : (i : ℕ) → node_word N j ≤ i → i < node_word N j + 17 → m₁ i ≡ run first m i
    node_word_lem i x y = left i (ap (λ x. mult x t) (own_node N j i x y) ∙ jf)

    new_leaf : (base D N).view m₁ (leaf_ref z) ≡ leaf_there z k v
    new_leaf =
        leaf_made D N m t H cap k v z zn zf m₁
        (leaf_word_lem (leaf_word z) (omega arith) (omega arith) ∙ block_first (leaf_word z) k (v ∷ []) m)
        (leaf_word_lem (leaf_word z + 1) (omega arith) (omega arith) ∙ block_at (leaf_word z) (k ∷ v ∷ []) m 1 (omega arith))

    back : N + j - N ≡ j
    back = omega arith

    new_node : SeesNode D N m₁ (node_ref j) (N + j) w f (stored_in D 12 w (f - w) k)
    new_node = record {
      ref = ref_node N j jn cap ∙ ap Node (sym back);
      low = omega arith;
      high = omega arith;
      head =
          ap (λ i. head_view D (N + j) (m₁ (node_word N i))) back
          ∙ ap (head_view D (N + j)) (node_word_lem (node_word N j) (omega arith) (omega arith) ∙ at_header)
          ∙ header_view D (N + j) w f k d deep fD;
    }

    new_child : (i : ℕ) → i < 16 → m₁ (child_word N (N + j - N) i) ≡ children i
    new_child i l = ap (λ o. m₁ (child_word N o i)) back ∙ node_word_lem (child_word N j i) (omega arith) (omega arith) ∙ at_child i l

    old_target : Holds (base D N) m₁ (f + 1) (m q) (sub π t)
    old_target =
        rw (run_append first target m)
        (subst (λ r. Holds (base D N) (run target (run first m)) (f + 1) r (sub π t)) q_kept (readies (run first m) (first_kept first (part_all first))))

    new_holds : Holds (base D N) m₁ w (node_ref j) new
    unfolding base
    new_holds =
        split_holds (digit_in D) (digit_lt D) (N + j) f z k v c (digit_lt D k₂ f) differ (sub π t) (base D N) m₁ w (node_ref j)
        (record { h = w; low = omega arith; high = deep; there = node_seen D N m₁ (node_ref j) (N + j) w f (stored_in D 12 w (f - w) k) new_node })
        (ap ((base D N).view m₁) (new_child a (digit_lt D k f) ∙ upd_at (upd (λ i. 0) c (m q)) a (leaf_ref z)) ∙ new_leaf)
        (subst (λ r. Holds (base D N) m₁ (f + 1) r (sub π t))
        (sym (new_child c (digit_lt D k₂ f) ∙ upd_off (upd (λ i. 0) c (m q)) a (leaf_ref z) c (λ e. differ (sym e)) ∙ upd_at (λ i. 0) c (m q))) old_target)
        (λ i l x y. ap ((base D N).view m₁) (new_child i l ∙ upd_off (upd (λ i. 0) c (m q)) a (leaf_ref z) i x ∙ upd_off (λ i. 0) c (m q) i y) ∙ none_seen D N m₁)

    target_good : Good (digit_in D) D (f + 1) (upd (digit_in D k) f c) (sub π t)
    target_good =
        past_good (digit_in D) D w f k k₂ (pre (digit_in D) π (λ i. 0) t) (sub π t)
        (good_at D N m t H π (sub π t) (record { on = on; is = refl })) past (λ i h. sym (before i h))

    new_good : GoodAt (digit_in D) D π t new
    new_good =
        split_good (digit_in D) (digit_lt D) (N + j) f z k v c (digit_lt D k₂ f) differ (sub π t) D w (pre (digit_in D) π (λ i. 0) t) deep fD leads
        (past_filled (digit_in D) f k₂ (sub π t) past) target_good

    -- till the switch the target alone is stale; then none is
    aside : Words (Aside N t π) (first ++ target)
    aside =
        words_append (Aside N t π) first target (words_more (Fresh N t) (Aside N t π) first (λ i f. inl f) first_fresh)
        (words_more (λ i. 0 < mult (own N i) (sub π t)) (Aside N t π) target (λ i h. inr h) below)

    first_apart : (but : ℕ → Type 0) → Words (Apart N but t) first
    first_apart but = words_more (Fresh N t) (Apart N but t) first (fresh_apart D N m t H but) first_fresh

    cut_stale : NoneStale N m t → (τ : List Store) → Part (first ++ target) τ → OneStale N (run τ m) t
    cut_stale g τ p = record {
      slot = y;
      straight =
          stores_straight N m (λ x. x ≡ y) 0 t τ
          (words_part (Apart N (λ x. x ≡ y) t) (first ++ target) τ p (words_append (Apart N (λ x. x ≡ y) t) first target (first_apart (λ x. x ≡ y)) spares))
          (straight_more (depths N m) (λ x. ⊥) (λ x. x ≡ y) 0 t (λ x o. absurd o) g);
    }

    new_straight : NoneStale N m t → StraightBut (depths N m₁) (λ x. ⊥) w new
    new_straight g =
        split_straight (digit_in D) (digit_lt D) (N + j) f z k v c (digit_lt D k₂ f) differ (sub π t) (depths N m₁) (λ x. ⊥) w
        (depth_there N m₁ (N + j) (omega arith) ∙ ap (λ i. depth_of (m₁ (node_word N i))) back
        ∙ ap depth_of (node_word_lem (node_word N j) (omega arith) (omega arith) ∙ at_header) ∙ depth_of_header D w (f - w) k (omega arith))
        (rw (run_append first target m)
        (straightens (run first m) (straight_sub (depths N (run first m)) (λ x. ⊥) π 0 t on (stores_straight N m (λ x. ⊥) 0 t first (first_apart (λ x. ⊥)) g))))

    splits : Puts D N m t k v (splitting D N w f k v k₂ z j q (m q) target) (z ∷ (N + j) ∷ [])
    splits =
        puts D N m t H k v (z ∷ (N + j) ∷ []) π (node_ref j) new (first ++ target) on leads (zf, (jf, tt)) cut new_holds
        (split_filled (digit_in D) (digit_lt D) (N + j) f z k v c (digit_lt D k₂ f) differ (sub π t)) new_good
        (split_adds (digit_in D) (digit_lt D) (N + j) f z k v c (digit_lt D k₂ f) differ (sub π t) D target_good)
        aside cut_stale new_straight

  -- of a leaf, which is held at every walk depth
  pub puts_split_leaf : (x v₂ : ℕ) → sub π t ≡ leaf x k₂ v₂
      → Puts D N m t k v (splitting_leaf D N (dep π 0 t) f k v k₂ z j (ref_at N 1 π t) (m (ref_at N 1 π t))) (z ∷ (N + j) ∷ [])
  unfolding run Holds Words StraightBut
  puts_split_leaf x v₂ is =
      splits (rw is refl) []
      (λ m' H' τ p. rw (part_nil τ p) H')
      (λ m' H'. rw is (holds_at D N m' t H' π (leaf x k₂ v₂) (record { on = on; is = is })))
      tt 0 tt (λ m' g. rw is tt)

  -- of a node, whose own header comes before the switch: the node is stale till then
  pub puts_split_node : (x b s : ℕ) (kids : ℕ → Tree ℕ) → sub π t ≡ node x b s kids → f < b → Agree (digit_in D) b (digit_in D s) k₂
      → Puts D N m t k v (splitting_node D N (dep π 0 t) f k v k₂ z j (ref_at N 1 π t) (m (ref_at N 1 π t)) (x - N) b) (z ∷ (N + j) ∷ [])
  unfolding run Words mult Good
  puts_split_node x b s kids is fb agree =
      let p : Stands π (node x b s kids) t = record { on = on; is = is } in
      let low : N ≤ x = (node_slot D N m t H π x b s kids p).0 in
      let high : b < D = (good_at D N m t H π (node x b s kids) p).1 in
      let own_x : own N (node_word N (x - N)) ≡ x = own_slot N x (node_word N (x - N)) low (omega arith) (omega arith) in
      let length : b - f - 1 ≡ b - (f + 1) = omega arith in
      splits (rw is (fb, agree)) (target_store D N f k₂ (x - N) b ∷ [])
      (λ m' H' τ o. header_kept D N d m' t H' π x b s kids p (f + 1) k₂ (omega arith) agree (omega arith) τ (rw length at o))
      (λ m' H'.
      rw length
      (header_at D N d m' t H' π x b s kids p (f + 1) k₂ (omega arith) agree (f + 1) (m' q) (omega arith) (sub_holds D N m' π 0 1 t on H'.holds)))
      (rw own_x (omega (arith, ap (mult x) is, one_at x)), tt)
      x ((λ y l h n e. n (omega arith)), tt)
      (λ m' g.
      let header : ℕ = header_in D (f + 1) (b - f - 1) k₂ in
      rw is
      (node_straight N m' (upd m' (node_word N (x - N)) header) (λ x. ⊥) w (f + 1) x b s kids
      (header_depth N m' x header low ∙ depth_of_header D (f + 1) (b - f - 1) k₂ (omega (arith, high))) (header_others N m' x header low)
      (λ i l. omega (arith, H.once x, sub_mult π t x on, ap (mult x) is, one_at x, sum_has 16 (λ i. mult x (kids i)) i l))
      (rw is at g)))
