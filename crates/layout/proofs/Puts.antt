-- Puts that make no node: the value of a held key, and a leaf in an empty place. And what every put that switches a reference has in common.
-- Rests on the laws of one store. Assumes nothing.
use mathlib.Core.Path.{◌≡◌, refl, sym, ap, ◌∙◌, subst}
use mathlib.Core.Logic.{◌≢◌, ◌⊎◌, inl, inr}
use Prim.Native.Nat.{ℕ, ◌+◌, ◌-◌, ◌*◌, ◌≤◌, ◌<◌}
use mathlib.Core.List.{List, [], ◌∷◌, ◌++◌}
use native.Mathlib.Omega.{arith}
use Rattle.digits.specs.Digits.{digit_in}
use Rattle.digits.proofs.Digits.{digit_lt}
use Rattle.pool.specs.Places.{leaf_word, node_word, child_word, leaf_ref}
use Rattle.tree.specs.Tree.{Tree, empty, leaf, node, upd, one, mult, Filled, On, here, sub, plug, dep, Stands, Agree, Leads, Good, GoodAt}
use Rattle.tree.specs.Changes.{occurs, Adds}
use Rattle.tree.specs.Shape.{leaf_there, Mem, Holds}
use Rattle.tree.specs.Straight.{StraightBut}
use Rattle.tree.specs.Stores.{Store, run, Part}
use Rattle.tree.proofs.Basics.{Same?, same, other, same?, less?, upd_at, upd_off, one_at}
use Rattle.tree.proofs.Places.{Child, child, agree_down, good_plug}
use Rattle.tree.proofs.Stores.{Words, words_part, words_more, words_block, run_off, run_append, block_first, block_at, part_all, part_nil}
use Rattle.tree.proofs.Straight.{straight_same, straight_plug}
use Rattle.tree.proofs.Put.{adds_below, value_adds, leaf_adds}
use Rattle.layout.specs.Layout.{own, base, Held, ref_at}
use Rattle.layout.specs.Operations.{store, leaf_stores, replacing, growing}
use Rattle.layout.specs.Switches.{depths, NoneStale, OneStale, Puts}
use Rattle.layout.proofs.Base.{ref_leaf, SeesLeaf, sees, leaf_seen, own_root, own_leaf, own_slot}
use Rattle.layout.proofs.Held.{held, ref_child, good_at, leaf_slot}
use Rattle.layout.proofs.Changes.{kept, amended, switched}
use Rattle.layout.proofs.Stales.{depths_same, none_one, Apart, stores_straight, ref_depths}

-- slots that a tree does not reach
abbrev pub Free : Tree ℕ → List ℕ → Type 0
Free t [] = Unit {0}
Free t (x ∷ l) = (mult x t ≡ 0) × Free t l

free_occurs : (t : Tree ℕ) (l : List ℕ) (x : ℕ) → Free t l → 0 < occurs x l → mult x t ≡ 0
unfolding occurs
free_occurs t [] x f h = absurd (omega arith)
free_occurs t (y ∷ l) x f h = go (same? x y) (free_occurs t l x f.1)
  where
    go : Same? x y → (0 < occurs x l → mult x t ≡ 0) → mult x t ≡ 0
    go (same e p) ih = rw e f.0
    go (other n p) ih = ih (omega (arith, ap one p))

-- a word of such a slot
abbrev pub Fresh : ℕ → Tree ℕ → ℕ → Type 0
Fresh N t i = (own N i < 2 * N) × (mult (own N i) t ≡ 0)

-- or of a slot below a place
abbrev pub Aside : ℕ → Tree ℕ → List ℕ → ℕ → Type 0
Aside N t π i = Fresh N t i ⊎ (0 < mult (own N i) (sub π t))

module _ (D N : ℕ) (m : Mem) (t : Tree ℕ) (H : Held D N m t) where
  -- ---- whichever stores to such words are made, the tree is as it was
  pub fresh_kept : (σ τ : List Store) → Words (Fresh N t) σ → Part σ τ → Held D N (run τ m) t
  fresh_kept σ τ w p =
      kept D N m t H (run τ m) (λ i h. run_off τ m i (words_more (Fresh N t) (λ o. i ≢ o) τ (λ o f. apart i h o f) (words_part (Fresh N t) σ τ p w)))
    where
      apart : (i : ℕ) → (i ≡ 1) ⊎ (0 < mult (own N i) t) → (o : ℕ) → Fresh N t o → i ≢ o
      apart i (inl e) o f z = omega (arith, own_root N, ap (own N) (sym z ∙ e), f.0)
      apart i (inr h) o f z = omega (arith, f.1, ap (λ i. mult (own N i) t) z)

  -- nor is a header of it other than it was
  pub fresh_apart : (but : ℕ → Type 0) (i : ℕ) → Fresh N t i → Apart N but t i
  fresh_apart but i f x l h n e =
      let o : own N i ≡ x = ap (own N) (sym e) ∙ own_slot N x (node_word N (x - N)) l (omega arith) (omega arith) in
      omega (arith, f.1, ap (λ y. mult y t) o)

  -- ---- the reference of a place switched to u, which has been made ready
  module _ (π : List ℕ) (r : ℕ) (u : Tree ℕ) (σ : List Store) (on : On π t) (aside : Words (Aside N t π) σ) (g : NoneStale N m t)
      (ready : StraightBut (depths N (run σ m)) (λ x. ⊥) (dep π 0 t) u) where
    -- no header outside the place changes
    outside : (x : ℕ) → mult x (sub π t) < mult x t → depths N (upd (run σ m) (ref_at N 1 π t) r) x ≡ depths N m x
    outside x h =
        ref_depths D N (run σ m) t π on r x
        ∙ depths_same N m (run σ m) x (λ l. run_off σ m (node_word N (x - N)) (words_more (Aside N t π) (λ i. node_word N (x - N) ≢ i) σ (λ i. apart l i) aside))
      where
        apart : N ≤ x → (i : ℕ) → Aside N t π i → node_word N (x - N) ≢ i
        apart l i (inl f) e = fresh_apart (λ x. ⊥) i f x l (omega arith) (λ z. z) e
        apart l i (inr f) e =
            let o : own N i ≡ x = ap (own N) (sym e) ∙ own_slot N x (node_word N (x - N)) l (omega arith) (omega arith) in
            omega (arith, H.once x, ap (λ y. mult y (sub π t)) o)

    pub switched_straight : NoneStale N (upd (run σ m) (ref_at N 1 π t) r) (plug π t u)
    switched_straight =
        straight_plug (depths N m) (depths N (upd (run σ m) (ref_at N 1 π t) r)) (λ x. ⊥) π 0 t u on g outside
        (straight_same (depths N (run σ m)) (depths N (upd (run σ m) (ref_at N 1 π t) r)) (λ x. ⊥) (dep π 0 t) u
        (λ x h n. ref_depths D N (run σ m) t π on r x) ready)

  pub puts : (k v : ℕ) (taken : List ℕ) (π : List ℕ) (r : ℕ) (u : Tree ℕ) (σ : List Store) → On π t → Leads (digit_in D) π t k → Free t taken
      → ((τ : List Store) → Part σ τ → Held D N (run τ m) t)
      → Holds (base D N) (run σ m) (dep π 0 t) r u → Filled u → GoodAt (digit_in D) D π t u → Adds (digit_in D) k v taken (sub π t) u
      → Words (Aside N t π) σ → (NoneStale N m t → (τ : List Store) → Part σ τ → OneStale N (run τ m) t)
      → (NoneStale N m t → StraightBut (depths N (run σ m)) (λ x. ⊥) (dep π 0 t) u)
      → Puts D N m t k v (record { first = σ; last = store (ref_at N 1 π t) r }) taken
  unfolding run
  puts k v taken π r u σ on leads free before ready filled good adds aside stale straight = record {
    before = before;
    after = plug π t u;
    since = λ τ p.
        rw (part_nil τ p, run_append σ (store (ref_at N 1 π t) r ∷ []) m)
        (held D N (upd (run σ m) (ref_at N 1 π t) r) (plug π t u)
        (switched D N (run σ m) t (before σ (part_all σ)) r u π on ready apart)
        (good_plug (digit_in D) D π 0 (λ i. 0) t u on H.good filled good));
    becomes = adds_below (digit_in D) D k v taken π t u on H.good leads adds;
    stales = λ g. record { before = stale g; since = λ τ p. rw (part_nil τ p) (none_one N _ (plug π t u) (whole g)); whole = whole g };
  }
    where
      whole : NoneStale N m t → NoneStale N (run (σ ++ store (ref_at N 1 π t) r ∷ []) m) (plug π t u)
      whole g = rw (run_append σ (store (ref_at N 1 π t) r ∷ []) m) (switched_straight π r u σ on aside g (straight g))

      -- a slot of u is new, or was at the place
      apart : (x : ℕ) → 0 < mult x u → mult x t ≤ mult x (sub π t)
      apart x h = go (less? 0 (occurs x taken))
        where
          go : (0 < occurs x taken) ⊎ (occurs x taken ≤ 0) → mult x t ≤ mult x (sub π t)
          go (inl o) = omega (arith, free_occurs t taken x free o)
          go (inr o) = omega (arith, adds.slots x, H.once x)

  -- ---- the value of a held key
  pub puts_value : (k v x v₀ : ℕ) (π : List ℕ) → Stands π (leaf x k v₀) t → Puts D N m t k v (replacing x v) []
  unfolding run mult Good Holds StraightBut
  puts_value k v x v₀ π p =
      let i : ℕ = leaf_word x + 1 in
      let own-i : own N i ≡ x = own_leaf N x i (leaf_slot D N m t H π x k v₀ p) (omega arith) (omega arith) in
      let leads : Leads (digit_in D) π t k = good_at D N m t H π (leaf x k v₀) p in
      record {
        before = λ τ q. rw (part_nil τ q) H;
        after = plug π t (leaf x k v);
        since = λ τ q.
            rw (part_nil τ q)
            (held D N (upd m i v) (plug π t (leaf x k v))
            (amended D N m t H π p.on i v (leaf x k v) (rw own-i (omega (arith, ap (mult x) p.is, one_at x)))
            (λ r g. value_changed r (subst (Holds (base D N) m (dep π 0 t) r) p.is g)))
            (good_plug (digit_in D) D π 0 (λ i. 0) t (leaf x k v) p.on H.good tt leads));
        becomes =
            adds_below (digit_in D) D k v [] π t (leaf x k v) p.on H.good leads
            (subst (λ u. Adds (digit_in D) k v [] u (leaf x k v)) (sym p.is) (value_adds (digit_in D) x k v v₀));
        stales = λ g. record {
          before = λ τ q. rw (part_nil τ q) (none_one N m t g);
          since = λ τ q. rw (part_nil τ q) (none_one N (upd m i v) (plug π t (leaf x k v)) (value_straight g));
          whole = value_straight g;
        };
      }
    where
      -- a value is no header
      value_straight : NoneStale N m t → NoneStale N (upd m (leaf_word x + 1) v) (plug π t (leaf x k v))
      value_straight g =
          straight_plug (depths N m) (depths N (upd m (leaf_word x + 1) v)) (λ x. ⊥) π 0 t (leaf x k v) p.on g
          (λ y h. depths_same N m (upd m (leaf_word x + 1) v) y
          (λ l. upd_off m (leaf_word x + 1) v (node_word N (y - N)) (λ e. omega (arith, leaf_slot D N m t H π x k v₀ p))))
          tt

      value_changed : (r : ℕ) → (base D N).view m r ≡ leaf_there x k v₀ → (base D N).view (upd m (leaf_word x + 1) v) r ≡ leaf_there x k v
      value_changed r e =
          let s : SeesLeaf N m r x k v₀ = sees D N m r (leaf_there x k v₀) e in
          leaf_seen D N (upd m (leaf_word x + 1) v) r x k v (record {
            ref = s.ref;
            within = s.within;
            key = upd_off m (leaf_word x + 1) v (leaf_word x) (λ z. omega arith) ∙ s.key;
            value = upd_at m (leaf_word x + 1) v;
          })

  -- ---- a new leaf
  module _ (cap : N ≤ 1024) (k v z : ℕ) (zn : z < N) (zf : mult z t ≡ 0) where
    pub leaf_fresh : Words (Fresh N t) (leaf_stores z k v)
    leaf_fresh = words_block (Fresh N t) (leaf_word z) (k ∷ v ∷ []) (λ i a b. let e : own N i ≡ z = own_leaf N z i zn a b in rw e (omega arith, zf))

    pub leaf_made : (m' : Mem) → m' (leaf_word z) ≡ k → m' (leaf_word z + 1) ≡ v → (base D N).view m' (leaf_ref z) ≡ leaf_there z k v
    leaf_made m' a b = leaf_seen D N m' (leaf_ref z) z k v (record { ref = ref_leaf N z zn cap; within = zn; key = a; value = b })

    -- in an empty place
    pub puts_leaf : (π : List ℕ) → Stands π empty t → Leads (digit_in D) π t k
        → Puts D N m t k v (growing z k v (ref_at N 1 π t)) (z ∷ [])
    unfolding Good Holds StraightBut
    puts_leaf π p leads =
        puts k v (z ∷ []) π (leaf_ref z) (leaf z k v) (leaf_stores z k v) p.on leads (zf, tt)
        (λ τ q. fresh_kept (leaf_stores z k v) τ leaf_fresh q)
        (leaf_made (run (leaf_stores z k v) m) (block_first (leaf_word z) k (v ∷ []) m) (block_at (leaf_word z) (k ∷ v ∷ []) m 1 (omega arith)))
        tt leads
        (subst (λ u. Adds (digit_in D) k v (z ∷ []) u (leaf z k v)) (sym p.is) (leaf_adds (digit_in D) z k v))
        (words_more (Fresh N t) (Aside N t π) (leaf_stores z k v) (λ i f. inl f) leaf_fresh)
        (λ g τ q. none_one N (run τ m) t (stores_straight N m (λ x. ⊥) 0 t τ
        (words_more (Fresh N t) (Apart N (λ x. ⊥) t) τ (fresh_apart (λ x. ⊥)) (words_part (Fresh N t) (leaf_stores z k v) τ q leaf_fresh)) g))
        (λ g. tt)

    -- which is the root
    pub puts_root : t ≡ empty → Puts D N m t k v (growing z k v 1) (z ∷ [])
    unfolding ref_at sub dep
    puts_root e = puts_leaf [] (record { on = here; is = e }) (λ i h. absurd (omega arith))

    -- or the child, at k's digit, of a node whose keys begin as k
    pub puts_child : (ρ : List ℕ) (x b s : ℕ) (kids : ℕ → Tree ℕ) → Stands ρ (node x b s kids) t → Agree (digit_in D) b (digit_in D s) k
        → kids (digit_in D k b) ≡ empty → Puts D N m t k v (growing z k v (child_word N (x - N) (digit_in D k b))) (z ∷ [])
    puts_child ρ x b s kids p agree e =
        let c : ℕ = digit_in D k b in
        let C : Child (digit_in D) ρ c x b s kids t = child (digit_in D) ρ c x b s kids t (digit_lt D k b) p in
        subst (λ i. Puts D N m t k v (growing z k v i) (z ∷ [])) (ref_child D N ρ c x b s kids t p)
        (puts_leaf (ρ ++ c ∷ []) (record { on = C.stands.on; is = C.stands.is ∙ e })
        (rw (C.dep_is 0, C.pre_is (λ i. 0)) (agree_down (digit_in D) b c s k agree refl)))
