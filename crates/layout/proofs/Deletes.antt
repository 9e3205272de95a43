-- Deletes of whatever stands at a place: the root, the child of a node of three or more, the child of a node of two; and of a key.
-- Rests on the laws of one store, on those of headers and on the trees that a delete makes. Assumes nothing.
use mathlib.Core.Path.{◌≡◌, refl, ap, ◌∙◌, subst}
use mathlib.Core.Logic.{◌≢◌, ◌⊎◌, inl, inr}
use Prim.Native.Nat.{ℕ, ◌+◌, ◌-◌, ◌≤◌, ◌<◌}
use mathlib.Core.List.{List, [], ◌∷◌, ◌++◌}
use native.Mathlib.Omega.{arith}
use Rattle.digits.specs.Digits.{digit_in}
use Rattle.digits.specs.Headers.{header_in}
use Rattle.digits.proofs.Digits.{digit_lt}
use Rattle.digits.proofs.Headers.{depth_of_header}
use Rattle.pool.specs.Places.{node_word, child_word}
use Rattle.tree.specs.Tree.{Tree, empty, leaf, node, upd, mult, Filled, On, here, sub, plug, dep, Stands, Agree, Good, GoodAt}
use Rattle.tree.specs.Shape.{Mem, Holds}
use Rattle.tree.specs.Straight.{StraightBut}
use Rattle.tree.specs.Near.{children}
use Rattle.tree.specs.Stores.{Store, run, Part}
use Rattle.tree.proofs.Basics.{one_at, sum_has}
use Rattle.tree.proofs.Places.{plug_stands, plug_dep, sub_mult, Child, child}
use Rattle.tree.proofs.Stores.{Words, part_nil, part_one}
use Rattle.tree.proofs.Frame.{held_earlier}
use Rattle.tree.proofs.Straight.{straight_more, straight_same, straight_sub, straight_root, straight_plug}
use Rattle.tree.proofs.Delete.{empty_clears, child_dropped_good, bypass_good, bypass_clears, leaf_removed}
use Rattle.layout.specs.Layout.{base, Held, ref_at}
use Rattle.layout.specs.Operations.{store, header_store, Deleting, emptying, bypassing, lifting}
use Rattle.layout.specs.Switches.{depths, NoneStale, OneStale, Drops, Deletes}
use Rattle.layout.proofs.Base.{none_seen}
use Rattle.layout.proofs.Held.{held, ref_child, holds_at, good_at, node_slot}
use Rattle.layout.proofs.Changes.{switched}
use Rattle.layout.proofs.Headers.{header_kept}
use Rattle.layout.proofs.Stales.{none_one, ref_depths, header_depth, header_others, node_straight}
use Rattle.layout.proofs.Puts.{switched_straight}

module _ (D N : ℕ) (m : Mem) (t : Tree ℕ) (H : Held D N m t) where
  -- ---- the reference of the place becomes 0
  drops : (π : List ℕ) → On π t → Good (digit_in D) D 0 (λ i. 0) (plug π t empty) → Drops D N m t π (emptying (ref_at N 1 π t)) []
  unfolding run mult Holds StraightBut Words
  drops π on good = record {
    before = λ τ p. rw (part_nil τ p) H;
    after = plug π t empty;
    since = λ τ p.
        rw (part_nil τ p)
        (held D N (upd m (ref_at N 1 π t) 0) (plug π t empty) (switched D N m t H 0 empty π on (none_seen D N m) (λ x h. absurd (omega arith))) good);
    becomes = empty_clears (digit_in D) (digit_lt D) D t H.good π on;
    stales = λ g. record {
      before = λ τ p. rw (part_nil τ p) (none_one N m t g);
      since = λ τ p. rw (part_nil τ p) (none_one N (upd m (ref_at N 1 π t) 0) (plug π t empty) (switched_straight D N m t H π 0 empty [] on tt g tt));
      whole = switched_straight D N m t H π 0 empty [] on tt g tt;
    };
  }

  -- which is the root
  pub drops_root : Drops D N m t [] (emptying 1) []
  unfolding ref_at plug Good
  drops_root = drops [] here tt

  module _ (ρ : List ℕ) (x b s : ℕ) (kids : ℕ → Tree ℕ) (p : Stands ρ (node x b s kids) t) (c : ℕ) (lc : c < 16) where
    -- or the child of a node of three or more
    pub drops_child : 3 ≤ children kids → Drops D N m t (ρ ++ c ∷ []) (emptying (child_word N (x - N) c)) []
    drops_child h =
        subst (λ i. Drops D N m t (ρ ++ c ∷ []) (emptying i) []) (ref_child D N ρ c x b s kids t p)
        (drops (ρ ++ c ∷ []) (child (digit_in D) ρ c x b s kids t lc p).stands.on
        (child_dropped_good (digit_in D) (digit_lt D) D t H.good ρ x b s kids p c lc h))

    -- ---- the reference of a node of two takes the other child
    module _ (o : ℕ) (lo : o < 16) (apart : c ≢ o) (two : children kids ≡ 2) (fc : Filled (kids c)) (fo : Filled (kids o)) where
      abbrev left : Tree ℕ
      left = plug ρ t (kids o)

      abbrev switch : Store
      switch = store (ref_at N 1 ρ t) (m (child_word N (x - N) o))

      good : GoodAt (digit_in D) D ρ t (node x b s kids)
      good = good_at D N m t H ρ (node x b s kids) p

      -- met at the walk depth of its node, it is held all the same
      left_held : Held D N (run (switch ∷ []) m) left
      unfolding run base Holds Good mult
      left_held =
          held D N (upd m (ref_at N 1 ρ t) (m (child_word N (x - N) o))) left
          (switched D N m t H (m (child_word N (x - N) o)) (kids o) ρ p.on
          (held_earlier (base D N) m (dep ρ 0 t) (b + 1) (m (child_word N (x - N) o)) (kids o) (omega (arith, good.0))
          ((holds_at D N m t H ρ (node x b s kids) p).1 o lo))
          (λ y h. omega (arith, H.once y, ap (mult y) p.is, sum_has 16 (λ d. mult y (kids d)) o lo)))
          (bypass_good (digit_in D) (digit_lt D) D t H.good ρ x b s kids p c o lc lo apart two fc fo)

      -- rest: what follows the switch
      bypasses : (rest : List Store) → ((m' : Mem) → Held D N m' left → (τ : List Store) → Part rest τ → Held D N (run τ m') left)
          → (NoneStale N m t → (τ : List Store) → Part rest τ → OneStale N (run (switch ∷ τ) m) left)
          → (NoneStale N m t → NoneStale N (run (switch ∷ rest) m) left)
          → Drops D N m t (ρ ++ c ∷ []) (record { first = switch; rest = rest }) (x ∷ [])
      unfolding run
      bypasses rest keeps stale straight = record {
        before = λ τ q. rw (part_nil τ q) H;
        after = left;
        since = λ τ q. keeps (run (switch ∷ []) m) left_held τ q;
        becomes = bypass_clears (digit_in D) (digit_lt D) D t H.good ρ x b s kids p c o lc lo apart two fc fo;
        stales = λ g. record { before = λ τ q. rw (part_nil τ q) (none_one N m t g); since = stale g; whole = straight g };
      }

      -- which is a leaf
      pub drops_bypass : (y k v : ℕ) → kids o ≡ leaf y k v
          → Drops D N m t (ρ ++ c ∷ []) (bypassing (ref_at N 1 ρ t) (m (child_word N (x - N) o))) (x ∷ [])
      unfolding run StraightBut Words
      drops_bypass y k v e =
          bypasses [] (λ m' H' τ q. rw (part_nil τ q) H')
          (λ g τ q. rw (part_nil τ q) (none_one N (upd m (ref_at N 1 ρ t) (m (child_word N (x - N) o))) left (straight g))) straight
        where
          straight : NoneStale N m t → NoneStale N (upd m (ref_at N 1 ρ t) (m (child_word N (x - N) o))) left
          straight g = switched_straight D N m t H ρ (m (child_word N (x - N) o)) (kids o) [] p.on tt g (rw e tt)

      -- or a node, whose header comes after the switch: the node is stale till then
      module _ (d : D ≤ 256) (y b' s₂ : ℕ) (kids' : ℕ → Tree ℕ) (s' : ℕ) (e : kids o ≡ node y b' s₂ kids')
          (agree : Agree (digit_in D) b' (digit_in D s₂) s') where
        C : Child (digit_in D) ρ o x b s kids t
        C = child (digit_in D) ρ o x b s kids t lo p

        there : Stands (ρ ++ o ∷ []) (node y b' s₂ kids') t
        there = record { on = C.stands.on; is = C.stands.is ∙ e }

        slot : N ≤ y
        slot = (node_slot D N m t H (ρ ++ o ∷ []) y b' s₂ kids' there).0

        high : b' < D
        unfolding Good
        high = (subst (Good (digit_in D) D (b + 1) (upd (digit_in D s) b o)) e (good.3 o lo)).1

        abbrev r : ℕ
        r = m (child_word N (x - N) o)

        abbrev m₁ : Mem
        m₁ = upd m (ref_at N 1 ρ t) r

        abbrev header : ℕ
        header = header_in D (dep ρ 0 t) (b' - dep ρ 0 t) s'

        abbrev m₂ : Mem
        m₂ = upd m₁ (node_word N (y - N)) header

        count : (c : ℕ) → c < 16 → mult y (kids' c) ≡ 0
        unfolding mult
        count c l =
            omega (arith, H.once y, sub_mult (ρ ++ o ∷ []) t y there.on, ap (mult y) there.is, one_at y, sum_has 16 (λ i. mult y (kids' i)) c l)

        others : (z : ℕ) → z ≢ y → depths N m₂ z ≡ depths N m z
        others z n = header_others N m₁ y header slot z n ∙ ref_depths D N m t ρ p.on r z

        outside : (z : ℕ) → mult z (sub ρ t) < mult z t → z ≢ y
        unfolding mult
        outside z h q =
            let k : mult y (sub ρ t) < mult y t = rw q at h in
            omega (arith, H.once y, ap (mult y) p.is, sum_has 16 (λ d. mult y (kids d)) o lo, ap (mult y) e, one_at y)

        module _ (g : NoneStale N m t) where
          child_straight : StraightBut (depths N m) (λ z. ⊥) (b + 1) (node y b' s₂ kids')
          child_straight = rw (C.dep_is 0, there.is) at (straight_sub (depths N m) (λ z. ⊥) (ρ ++ o ∷ []) 0 t there.on g)

          switched_one : StraightBut (depths N m₁) (λ z. z ≡ y) 0 left
          switched_one =
              straight_plug (depths N m) (depths N m₁) (λ z. z ≡ y) ρ 0 t (kids o) p.on
              (straight_more (depths N m) (λ z. ⊥) (λ z. z ≡ y) 0 t (λ z o. absurd o) g) (λ z h. ref_depths D N m t ρ p.on r z)
              (rw e (straight_root (depths N m₁) (λ z. z ≡ y) (b + 1) (dep ρ 0 t) y b' s₂ kids' refl
              (straight_same (depths N m) (depths N m₁) (λ z. z ≡ y) (b + 1) (node y b' s₂ kids') (λ z h n. ref_depths D N m t ρ p.on r z)
              (straight_more (depths N m) (λ z. ⊥) (λ z. z ≡ y) (b + 1) (node y b' s₂ kids') (λ z o. absurd o) child_straight))))

          straight : NoneStale N m₂ left
          straight =
              straight_plug (depths N m) (depths N m₂) (λ z. ⊥) ρ 0 t (kids o) p.on g (λ z h. others z (outside z h))
              (rw e (node_straight N m m₂ (λ z. ⊥) (b + 1) (dep ρ 0 t) y b' s₂ kids'
              (header_depth N m₁ y header slot ∙ depth_of_header D (dep ρ 0 t) (b' - dep ρ 0 t) s' (omega (arith, high))) others count child_straight))

        go : NoneStale N m t → (τ : List Store) → (τ ≡ []) ⊎ (τ ≡ header_store D N (y - N) (dep ρ 0 t) b' s' ∷ []) → OneStale N (run (switch ∷ τ) m) left
        unfolding run
        go g τ (inl z) = rw z (record { slot = y; straight = switched_one g })
        go g τ (inr z) = rw z (none_one N m₂ left (straight g))

        pub drops_bypass_node : Drops D N m t (ρ ++ c ∷ []) (lifting D N (ref_at N 1 ρ t) (m (child_word N (x - N) o)) (y - N) (dep ρ 0 t) b' s') (x ∷ [])
        unfolding Good run
        drops_bypass_node =
            let below : b + 1 ≤ b' = (subst (Good (digit_in D) D (b + 1) (upd (digit_in D s) b o)) e (good.3 o lo)).0 in
            let stands : Stands ρ (kids o) left = plug_stands ρ t (kids o) p.on in
            bypasses (header_store D N (y - N) (dep ρ 0 t) b' s' ∷ [])
            (λ m' H'.
            header_kept D N d m' left H' ρ y b' s₂ kids' (record { on = stands.on; is = stands.is ∙ e }) (dep ρ 0 t) s' (omega (arith, good.0)) agree
            (omega (arith, plug_dep ρ 0 t (kids o) p.on)))
            (λ g τ q. go g τ (part_one (header_store D N (y - N) (dep ρ 0 t) b' s') τ q))
            straight

  -- ---- a leaf dropped is its key deleted
  pub deletes : (π : List ℕ) (o : Deleting) (over : List ℕ) (x k v : ℕ) → Stands π (leaf x k v) t → Drops D N m t π o over → Deletes D N m t k o (x ∷ over)
  deletes π o over x k v p e = record {
    before = e.before;
    after = e.after;
    since = e.since;
    becomes = leaf_removed (digit_in D) (digit_lt D) D t H.good π over e.after x k v p e.becomes;
    stales = e.stales;
  }
