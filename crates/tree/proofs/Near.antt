-- Children, the lowest leaf, and the place that a put finds. Rests on the digits of places. Assumes nothing.
use Rattle.std.specs.Prelude.{Option, None, Some}
use mathlib.Core.Path.{◌≡◌, refl, sym, ap, ◌∙◌, subst}
use mathlib.Core.Logic.{◌≢◌, ◌⊎◌, inl, inr}
use Prim.Native.Nat.{ℕ, zero, suc, ◌+◌, ◌≤◌, ◌<◌}
use mathlib.Core.Bool.{Bool, true, false}
use mathlib.Core.List.{List, [], ◌∷◌}
use native.Mathlib.Omega.{arith}
use native.Mathlib.Nat.{eq-or-lt_of_le}
use lib.Dec.{ltb}
use borrow.Author.Tests.{ltb-true, ltb-false, lt-ltb, eq-eqb}
use Rattle.digits.specs.Choice.{pick}
use Rattle.digits.specs.Loops.{scan}
use Rattle.tree.specs.Tree.{Tree, empty, leaf, node, upd, sum, one, Filled, Two, On, here, down, sub, dep, Stands, pre, Agree, Leads, find, Good, GoodAt}
use Rattle.tree.specs.Near.{filled, children, low, near, way}
use Rattle.tree.proofs.Basics.{Same?, same, other, same?, upd_at, upd_off, upd_case, true_not_false, one_le, sum_two, sum_upd, sum_less, sum_some, tally_sum}
use Rattle.tree.proofs.Places.{plug_sub, agree_up, find_there, good_sub}

-- ---- children
-- a scan that must succeed
pub scan_finds : (n i : ℕ) (f : ℕ → Bool) (c : ℕ) → i ≤ c → c < i + n → f c ≡ true → (scan n i f < i + n) × (f (scan n i f) ≡ true)
unfolding scan
scan_finds zero i f c a b e = absurd (omega arith)
scan_finds (suc n) i f c a b e = go (scan_finds n (i + 1) f c) (f i) refl
  where
    go : (i + 1 ≤ c → c < i + 1 + n → f c ≡ true → (scan n (i + 1) f < i + 1 + n) × (f (scan n (i + 1) f) ≡ true)) → (t : Bool) → f i ≡ t
        → (scan (suc n) i f < i + suc n) × (f (scan (suc n) i f) ≡ true)
    go ih true q = rw (q, scan) (omega arith, q)
    go ih false q =
        let ne : c ≢ i = λ z. true_not_false e (ap f z ∙ q) in
        let (x, y) = ih (omega arith) (omega arith) e in
        rw (q, scan) (omega arith, y)

-- a scan looks at the test alone
pub scan_same : (n i : ℕ) (f g : ℕ → Bool) → ((c : ℕ) → i ≤ c → c < i + n → f c ≡ g c) → scan n i f ≡ scan n i g
unfolding scan
scan_same zero i f g e = refl
scan_same (suc n) i f g e = go (scan_same n (i + 1) f g (λ c h l. e c (omega arith) (omega arith))) (g i) refl
  where
    go : scan n (i + 1) f ≡ scan n (i + 1) g → (t : Bool) → g i ≡ t → scan (suc n) i f ≡ scan (suc n) i g
    go ih true p = let q : f i ≡ true = e i (omega arith) (omega arith) ∙ p in rw (p, q, scan)
    go ih false p = let q : f i ≡ false = e i (omega arith) (omega arith) ∙ p in rw (p, q, scan) ih

module _ {A : Type 0} where
  pub filled_true : (t : Tree A) → Filled t → filled t ≡ true
  filled_true empty f = absurd f
  filled_true (leaf x k v) f = refl
  filled_true (node x b s kids) f = refl

  pub filled_is : (t : Tree A) → filled t ≡ true → Filled t
  filled_is empty e = absurd (true_not_false e refl)
  filled_is (leaf x k v) e = tt
  filled_is (node x b s kids) e = tt

  pub not_filled : (t : Tree A) → filled t ≡ false → t ≡ empty
  not_filled empty e = refl
  not_filled (leaf x k v) e = absurd (true_not_false refl e)
  not_filled (node x b s kids) e = absurd (true_not_false refl e)

  -- the lowest child of a node that has two
  pub lowest : (kids : ℕ → Tree A) → Two kids → (scan 16 0 (λ c. filled (kids c)) < 16) × (filled (kids (scan 16 0 (λ c. filled (kids c)))) ≡ true)
  lowest kids g =
      let (x, y) = scan_finds 16 0 (λ c. filled (kids c)) g.c (omega arith) (omega (arith, g.c<)) (filled_true (kids g.c) g.at_c) in
      (omega arith, y)

  -- ---- children counted
  counts : (ℕ → Tree A) → ℕ → ℕ
  counts kids c = one (filled (kids c))

  children_sum : (kids : ℕ → Tree A) → children kids ≡ sum 16 (counts kids)
  unfolding counts
  children_sum kids = tally_sum 16 (λ c. filled (kids c))

  counts_is : (kids : ℕ → Tree A) (c : ℕ) → 0 < counts kids c → Filled (kids c)
  unfolding counts
  counts_is kids c h = go (filled (kids c)) refl
    where
      go : (t : Bool) → filled (kids c) ≡ t → Filled (kids c)
      go true e = filled_is (kids c) e
      go false e = absurd (omega (arith, ap one e))

  is_counted : (kids : ℕ → Tree A) (c : ℕ) → Filled (kids c) → counts kids c ≡ 1
  unfolding counts
  is_counted kids c f = ap one (filled_true (kids c) f)

  counts_le : (kids : ℕ → Tree A) (c : ℕ) → counts kids c ≤ 1
  unfolding counts
  counts_le kids c = one_le (filled (kids c))

  pub two_of : (kids : ℕ → Tree A) → 2 ≤ children kids → Two kids
  two_of kids h = go (sum_some 16 (counts kids) (omega (arith, children_sum kids)))
    where
      more : (c d : ℕ) → 0 < upd (counts kids) c 0 d → (c ≢ d) × (0 < counts kids d)
      more c d = upd_case (λ d x. 0 < x → (c ≢ d) × (0 < counts kids d)) (counts kids) c 0 d (λ z. absurd (omega arith)) (λ n z. (λ e. n (sym e), z))

      go : (c : ℕ) × (c < 16) × (0 < counts kids c) → Two kids
      go (c, lc, p) =
          let (d, ld, q) = sum_some 16 (upd (counts kids) c 0) (omega (arith, children_sum kids, sum_less 16 (counts kids) c lc, counts_le kids c)) in
          record { c = c; d = d; c< = lc; d< = ld; apart = (more c d q).0; at_c = counts_is kids c p; at_d = counts_is kids d (more c d q).1 }

  pub of_two : (kids : ℕ → Tree A) → Two kids → 2 ≤ children kids
  of_two kids g =
      omega (
        arith,
        children_sum kids,
        sum_two 16 (counts kids) g.c g.d g.c< g.d< g.apart,
        is_counted kids g.c g.at_c,
        is_counted kids g.d g.at_d,
      )

  -- a node of three keeps two
  pub two_left : (kids : ℕ → Tree A) (c : ℕ) → c < 16 → 3 ≤ children kids → Two (upd kids c empty)
  unfolding counts
  two_left kids c l h =
      two_of (upd kids c empty) (omega (
        arith,
        children_sum kids,
        children_sum (upd kids c empty),
        counts_le kids c,
        sum_upd 16 (counts (upd kids c empty)) (counts kids) c l (λ i n. ap (λ t. one (filled t)) (upd_off kids c empty i n)),
      ))

  -- a node of two has no third
  pub no_third : (kids : ℕ → Tree A) (c o : ℕ) → children kids ≡ 2 → c < 16 → o < 16 → c ≢ o → Filled (kids c) → Filled (kids o)
      → (d : ℕ) → d < 16 → d ≢ c → d ≢ o → kids d ≡ empty
  unfolding counts
  no_third kids c o e lc lo apart fc fo d ld p q = go (filled (kids d)) refl
    where
      f : ℕ → ℕ
      f = counts kids

      go : (t : Bool) → filled (kids d) ≡ t → kids d ≡ empty
      go false z = not_filled (kids d) z
      go true z =
          absurd (omega (
            arith,
            children_sum kids,
            sum_less 16 f c lc,
            sum_two 16 (upd f c 0) o d lo ld (λ y. q (sym y)),
            upd_off f c 0 o (λ y. apart (sym y)),
            upd_off f c 0 d p,
            is_counted kids c fc,
            is_counted kids o fo,
            ap one z,
          ))

module _ (dig : ℕ → ℕ → ℕ) {A : Type 0} where
  -- what a put finds at its place: something to split, whose keys begin as k₂ past digit f and which does not branch before
  abbrev pub Past : ℕ → ℕ → Tree A → Type 0
  Past f k₂ empty = ⊥
  Past f k₂ (leaf x k v) = k ≡ k₂
  Past f k₂ (node x b s kids) = (f < b) × Agree dig b (dig s) k₂

  -- or a node that branches at f, whose keys begin as k and which has no child at k's digit
  abbrev pub Gap : ℕ → ℕ → Tree A → Type 0
  Gap f k empty = ⊥
  Gap f k (leaf x k' v) = ⊥
  Gap f k (node x b s kids) = (b ≡ f) × Agree dig f (dig s) k × (kids (dig k f) ≡ empty)

  pub record Placed (k k₂ f w : ℕ) (q : ℕ → ℕ) (t : Tree A) (π : List ℕ) : Type 0 where
    pub on : On π t
    pub deep : dep π w t ≤ f
    pub digits : Agree dig (dep π w t) (pre dig π q t) k
    pub target : Past f k₂ (sub π t) ⊎ Gap f k (sub π t)

  module _ (dl : (k i : ℕ) → dig k i < 16) (D : ℕ) where
    -- ---- the lowest leaf, and the nearest
    pub low_agrees : (w : ℕ) (q : ℕ → ℕ) (t : Tree A) → Filled t → Good dig D w q t → Agree dig w q (low t)
    unfolding low Good
    low_agrees w q empty f g = absurd f
    low_agrees w q (leaf x k v) f g = g
    low_agrees w q (node x b s kids) f g =
        let d : ℕ = scan 16 0 (λ c. filled (kids c)) in
        let (l, e) = lowest kids g.4 in
        agree_up dig w b d s q (low (kids d)) g.0 g.2 (low_agrees (b + 1) (upd (dig s) b d) (kids d) (filled_is (kids d) e) (g.3 d l))

    -- the key of a node's lowest leaf leads to one of its children
    low_node_lem : (w : ℕ) (q : ℕ → ℕ) (x b s : ℕ) (kids : ℕ → Tree A) → Good dig D w q (node x b s kids) → filled (kids (dig (low (node x b s kids)) b)) ≡ true
    unfolding low Good
    low_node_lem w q x b s kids g =
        let d : ℕ = scan 16 0 (λ c. filled (kids c)) in
        let (l, e) = lowest kids g.4 in
        let z : dig (low (kids d)) b ≡ d
        = low_agrees (b + 1) (upd (dig s) b d) (kids d) (filled_is (kids d) e) (g.3 d l) b (omega arith) ∙ upd_at (dig s) b d in
        ap (λ c. filled (kids c)) z ∙ e

    pub near_agrees : (w : ℕ) (q : ℕ → ℕ) (t : Tree A) (k : ℕ) → Filled t → Good dig D w q t → Agree dig w q (near dig k t)
    unfolding near Good
    near_agrees w q empty k f g = absurd f
    near_agrees w q (leaf x k' v) k f g = g
    near_agrees w q (node x b s kids) k f g =
        go (near_agrees (b + 1) (upd (dig s) b (dig k b)) (kids (dig k b)) k) (filled (kids (dig k b))) refl
      where
        go : (Filled (kids (dig k b)) → Good dig D (b + 1) (upd (dig s) b (dig k b)) (kids (dig k b))
            → Agree dig (b + 1) (upd (dig s) b (dig k b)) (near dig k (kids (dig k b))))
            → (t : Bool) → filled (kids (dig k b)) ≡ t → Agree dig w q (pick t (near dig k (kids (dig k b))) (low (node x b s kids)))
        go ih true e = agree_up dig w b (dig k b) s q (near dig k (kids (dig k b))) g.0 g.2 (ih (filled_is (kids (dig k b)) e) (g.3 (dig k b) (dl k b)))
        go ih false e = low_agrees w q (node x b s kids) tt g

    -- ---- the place of a key: a leaf of the tree is found, and what is found stands at the end of its key's way
    pub stands_found : (x k : ℕ) (v : A) (π : List ℕ) (t : Tree A) → Good dig D 0 (λ i. 0) t → Stands π (leaf x k v) t → find dig k t ≡ Some v
    unfolding find Good
    stands_found x k v π t g p =
        let leads : Leads dig π t k = subst (GoodAt dig D π t) p.is (good_sub dig D π 0 (λ i. 0) t p.on g) in
        ap (find dig k) (sym (plug_sub π t p.on))
        ∙ find_there dig D π 0 (λ i. 0) t (sub π t) k p.on g leads
        ∙ rw (p.is, eq-eqb k k refl)

    pub found_stands : (w : ℕ) (q : ℕ → ℕ) (t : Tree A) (k : ℕ) (v : A) → Good dig D w q t → find dig k t ≡ Some v
        → (x : ℕ) × Stands (way dig D k t) (leaf x k v) t
    unfolding find Good way sub
    found_stands w q empty k v g e = let z : ◌≡◌ {A = ℕ} 0 1 = cc in absurd (omega arith)
    found_stands w q (leaf x k' v') k v g e = go (same? k k')
      where
        go : Same? k k' → (y : ℕ) × Stands [] (leaf y k v) (leaf x k' v')
        go (same p z) = let y : Some v' ≡ Some v = rw z at e in (x, record { on = here; is = cc })
        go (other p z) = let y : ◌≡◌ {A = Option A} None (Some v) = rw z at e in let o : ◌≡◌ {A = ℕ} 0 1 = cc in absurd (omega arith)
    found_stands w q (node x b s kids) k v g e =
        let (y, p) = found_stands (b + 1) (upd (dig s) b (dig k b)) (kids (dig k b)) k v (g.3 (dig k b) (dl k b)) e in
        (y, rw (lt-ltb b D g.1) (record { on = down {kids = kids} (dl k b) p.on; is = p.is }))

    -- ---- the place of a put: its way leads to it
    pub placed : (w : ℕ) (q : ℕ → ℕ) (t : Tree A) (k f : ℕ) → Filled t → Good dig D w q t → w ≤ f → ((i : ℕ) → i < f → dig k i ≡ dig (near dig k t) i)
        → dig k f ≢ dig (near dig k t) f → Placed k (near dig k t) f w q t (way dig f k t)
    unfolding near way Good dep pre sub
    placed w q empty k f fl g l sm d = absurd fl
    placed w q (leaf x k' v) k f fl g l sm d = record {
      on = here;
      deep = l;
      digits = λ i h. sm i (omega arith) ∙ g i h;
      target = inl refl;
    }
    placed w q (node x b s kids) k f fl g l sm d =
        go (placed (b + 1) (upd (dig s) b (dig k b)) (kids (dig k b)) k f) (ltb b f) refl (filled (kids (dig k b))) refl sm d
        (near_agrees b (dig s) (node x b s kids) k tt (omega arith, g.1, λ i h. refl, g.3, g.4))
      where
        c : ℕ
        c = dig k b

        ks : Bool → ℕ
        ks t = pick t (near dig k (kids c)) (low (node x b s kids))

        kid_good : Good dig D (b + 1) (upd (dig s) b c) (kids c)
        kid_good = g.3 c (dl k b)

        target_here : (t : Bool) → filled (kids c) ≡ t → ((i : ℕ) → i < f → dig k i ≡ dig (ks t) i) → dig k f ≢ dig (ks t) f → Agree dig b (dig s) (ks t)
            → (f ≡ b) ⊎ (f < b) → Past f (ks t) (node x b s kids) ⊎ Gap f k (node x b s kids)
        target_here t e sm d ag (inr h) = inl (h, ag)
        target_here true e sm d ag (inl h) =
            let z : dig (near dig k (kids c)) b ≡ c
            = near_agrees (b + 1) (upd (dig s) b c) (kids c) k (filled_is (kids c) e) kid_good b (omega arith) ∙ upd_at (dig s) b c in
            absurd (d (rw h (sym z)))
        target_here false e sm d ag (inl h) = inr (sym h, λ i l. sm i l ∙ ag i (omega arith), rw h (not_filled (kids c) e))

        go : (Filled (kids c) → Good dig D (b + 1) (upd (dig s) b c) (kids c) → b + 1 ≤ f → ((i : ℕ) → i < f → dig k i ≡ dig (near dig k (kids c)) i)
            → dig k f ≢ dig (near dig k (kids c)) f → Placed k (near dig k (kids c)) f (b + 1) (upd (dig s) b c) (kids c) (way dig f k (kids c)))
            → (u : Bool) → ltb b f ≡ u → (t : Bool) → filled (kids c) ≡ t → ((i : ℕ) → i < f → dig k i ≡ dig (ks t) i) → dig k f ≢ dig (ks t) f
            → Agree dig b (dig s) (ks t)
            → Placed k (ks t) f w q (node x b s kids) (pick u (c ∷ way dig f k (kids c)) [])
        go ih true u true e sm d ag =
            let p : Placed k (near dig k (kids c)) f (b + 1) (upd (dig s) b c) (kids c) (way dig f k (kids c))
            = ih (filled_is (kids c) e) kid_good (omega (arith, ltb-true b f u)) sm d in
            record { on = down {kids = kids} (dl k b) p.on; deep = p.deep; digits = p.digits; target = p.target }
        go ih true u false e sm d ag =
            absurd (true_not_false (ap (λ i. filled (kids i)) (sm b (ltb-true b f u)) ∙ low_node_lem w q x b s kids g) e)
        go ih false u t e sm d ag =
            record {
              on = here;
              deep = l;
              digits = λ i h. sm i (omega arith) ∙ ag i (omega arith) ∙ g.2 i h;
              target = target_here t e sm d ag (eq-or-lt_of_le (ltb-false b f u));
            }
