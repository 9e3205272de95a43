-- On a pool that holds a tree, with a map that marks just its slots, the stores of a put do to the tree what a put means: whichever of all but the
-- last are made, the tree is as before; after the last it has the new value. A put is refused only for room.
-- Rests on the layout's puts, on the walk in a held pool and on room. Assumes nothing.
use Rattle.std.specs.Prelude.{Ok, Some, None}
use mathlib.Core.Path.{◌≡◌, refl, sym, ap, ◌∙◌, subst}
use mathlib.Core.Bool.{Bool, true, false}
use mathlib.Core.Logic.{◌≢◌, ◌⊎◌, inl, inr}
use mathlib.Core.List.{List, [], ◌∷◌, ◌++◌}
use Prim.Native.Nat.{ℕ, ◌+◌, ◌-◌, ◌^◌, ◌≤◌, ◌<◌}
use native.Mathlib.Omega.{arith}
use borrow.Author.Tests.{lt-ltb, le-ltb, eq-eqb, ne_eqb}
use lib.ListN.{length}
use Rattle.digits.specs.Digits.{first_diff}
use Rattle.digits.specs.Loops.{scan}
use Rattle.digits.proofs.Digits.{digit_lt, first_diff_le, first_diff_agree, first_diff_differ, first_diff_same}
use Rattle.pool.specs.Sizes.{bytes_of, capacity_of}
use Rattle.pool.specs.Places.{word_at, key_at, node_word, leaf_word, child_word, leaf_ref}
use Rattle.tree.specs.Tree.{Tree, empty, leaf, node, mult, leaves, upd, Filled, sub, dep, pre, Stands, Agree, find, Good, GoodAt}
use Rattle.tree.specs.Near.{filled, low, near, way}
use Rattle.tree.specs.Stores.{block}
use Rattle.tree.specs.Shape
use Rattle.tree.proofs.Basics.{Same?, same, other, same?, less?}
use Rattle.tree.proofs.Places.{child}
use Rattle.tree.proofs.Near.{Past, Gap, Placed, placed, lowest, filled_is, not_filled, stands_found}
use Rattle.tree.proofs.Stores.{Words, words_append, words_block}
use Rattle.layout.specs.Layout.{Held, base, ref_at}
use Rattle.layout.specs.Operations.{store, Putting, put_stores, leaf_stores, replacing, growing}
use Rattle.layout.specs.Switches.{Puts}
use Rattle.layout.proofs.Held.{holds_at, good_at}
use Rattle.layout.proofs.Puts.{puts_value, puts_root, puts_child}
use Rattle.layout.proofs.Splits.{puts_split_leaf, puts_split_node}
use Rattle.walk.specs.Walks.{root, below, lowest_of}
use Rattle.walk.specs.declared.Spot.{Spot}
use Rattle.plan.specs.Plans.{Decided, decided, refused}
use Rattle.plan.specs.Effects.{takes, frees}
use Rattle.plan.specs.declared.Effect.{Effect}
use Rattle.plan.specs.declared.Effect.TheVariants.{Nothing, TakesLeaf, TakesBoth}
use Rattle.held.specs.Ways.{dig, mem, spot_at, end_at}
use Rattle.held.specs.Maps.{Marked}
use Rattle.held.proofs.Heads.{held_leaf, held_node}
use Rattle.held.proofs.Walks.{walk_held}
use Rattle.held.proofs.Lowest.{low_held}
use Rattle.held.proofs.Spots.{spot_word, spot_depth, spot_below, way_on, way_finds, way_ends, NoNode}
use Rattle.held.proofs.Nearest.{way_more, near_leaf, near_empty, low_apart, LastNode}
use Rattle.rules.specs.declared.Cleft.{Cleft}
use Rattle.rules.specs.declared.Target.{Target}
use Rattle.rules.specs.declared.Target.TheVariants.{ALeaf, ANode}
use Rattle.rules.specs.Puts.{free_leaf, free_node, grow_of, target_header, cleaving, split_of, cleft_at}
use Rattle.rules.specs.Puts.{placed_at, beside_of, leaf_put, empty_put, put_at, put_plan}
use Rattle.rules.proofs.Splits.{split_all}
use Rattle.rules.proofs.HeldRoom.{leaf_free, node_free, node_room, leaf_fewer, all_held}

-- a tree in which a key's walk comes to a leaf is not empty
way_filled : (k x k' v' : ℕ) (t : Tree ℕ) → sub (way dig 16 k t) t ≡ leaf x k' v' → Filled t
unfolding sub way
way_filled k x k' v' empty e = let o : ◌≡◌ {A = ℕ} 0 1 = cc in omega arith
way_filled k x k' v' (leaf x₁ k₁ v₁) e = tt
way_filled k x k' v' (node y b s kids) e = tt

-- what the plan of a put of v for k is: a refusal for room where the key is new and all n places are held, or stores that put it
pub data PutIs (pool : List ℕ) (n : ℕ) (t : Tree ℕ) (k v : ℕ) (d : Decided) : Type 0 where
  full : d ≡ refused 4 → find dig k t ≡ None → leaves t ≡ n → PutIs pool n t k v d
  does : (o : Putting) (e : Effect) → d ≡ decided (put_stores o) e → Puts 16 n (mem pool) t k v o (takes e) → frees e ≡ []
      → (find dig k t ≡ None → leaves t < n) → Words (λ w. 0 < w) (put_stores o) → PutIs pool n t k v d

-- the word of a reference is not word 0
pub ref_above : (n i : ℕ) (π : List ℕ) (t : Tree ℕ) → 0 < i → 0 < ref_at n i π t
unfolding ref_at
ref_above n i [] t h = h
ref_above n i (c ∷ π) empty h = h
ref_above n i (c ∷ π) (leaf x k v) h = h
ref_above n i (c ∷ π) (node x b s kids) h = ref_above n (child_word n (x - n) c) π (kids c) (omega arith)

-- nor are the words of leaves and nodes
block_above : (a : ℕ) (vs : List ℕ) → 0 < a → Words (λ w. 0 < w) (block a vs)
block_above a vs h = words_block (λ w. 0 < w) a vs (λ i b c. omega arith)

-- the lowest key of what stands at a place of a tree whose keys are 64-bit numbers is one
low_named : (t : Tree ℕ) → Good dig 16 0 (λ i. 0) t → ((k v : ℕ) → find dig k t ≡ Some v → k < 2 ^ 64) → (u : Tree ℕ) (π : List ℕ) (w : ℕ) (q : ℕ → ℕ)
    → Stands π u t → Good dig 16 w q u → Filled u → low u < 2 ^ 64
unfolding Good low
low_named t g names empty π w q p h f = absurd f
low_named t g names (leaf x k v) π w q p h f = names k v (stands_found dig (digit_lt 16) 16 x k v π t g p)
low_named t g names (node x b s kids) π w q p h f =
    let d : ℕ = scan 16 0 (λ c. filled (kids c)) in
    let (ld, fd) = lowest kids h.4 in
    low_named t g names (kids d) (π ++ d ∷ []) (b + 1) (upd (dig s) b d) (child dig π d x b s kids t ld p).stands (h.3 d ld) (filled_is (kids d) fd)

module _ (pool bytes : List ℕ) (n : ℕ) (pos : 1 ≤ n) (cap : n ≤ 1024) (t : Tree ℕ) (H : Held 16 n (mem pool) t) (M : Marked n bytes t) (k v : ℕ)
    (names : (k v : ℕ) → find dig k t ≡ Some v → k < 2 ^ 64) (fits : k < 2 ^ 64) where
  -- the lowest free leaf and node
  abbrev z : ℕ
  z = free_leaf bytes n

  abbrev y : ℕ
  y = free_node bytes n

  -- ---- a new leaf, where one may be put below the reference at a word
  grow_is : (at : ℕ) → 0 < at → find dig k t ≡ None
      → ((z : ℕ) → z < n → mult z t ≡ 0 → Puts 16 n (mem pool) t k v (growing z k v at) (z ∷ []))
      → PutIs pool n t k v (grow_of bytes n k v at)
  unfolding Words
  grow_is at above new law = go (less? z n)
    where
      go : (z < n) ⊎ (n ≤ z) → PutIs pool n t k v (grow_of bytes n k v at)
      go (inl l) =
          does (growing z k v at) (TakesLeaf z) (rw (lt-ltb z n l)) (law z l (leaf_free pool bytes n t pos H M l)) refl
          (λ e. leaf_fewer pool bytes n t pos H M l)
          (words_append (λ w. 0 < w) (leaf_stores z k v) (store at (leaf_ref z) ∷ []) (block_above (leaf_word z) (k ∷ v ∷ []) (omega arith)) (above, tt))
      go (inr l) = full (rw (le-ltb z n l)) new (all_held pool bytes n t pos H M l)

  -- ---- a key that is not found, beside the nearest
  module _ (new : find dig k t ≡ None) (fl : Filled t) (apart : k ≢ near dig k t) (near_fits : near dig k t < 2 ^ 64) where
    abbrev k₂ : ℕ
    k₂ = near dig k t

    abbrev f : ℕ
    f = first_diff k k₂

    abbrev π : List ℕ
    π = way dig f k t

    abbrev spot : Spot
    spot = spot_at n root π t

    -- the keys differ in a digit
    f< : f < 16
    f< = go (less? f 16)
      where
        go : (f < 16) ⊎ (16 ≤ f) → f < 16
        go (inl l) = l
        go (inr l) = absurd (apart (first_diff_same 16 k k₂ fits near_fits (omega (arith, first_diff_le k k₂ 16))))

    place : Placed dig k k₂ f 0 (λ i. 0) t π
    place = placed dig (digit_lt 16) 16 0 (λ i. 0) t k f fl H.good (omega arith) (first_diff_agree k k₂ 16) (first_diff_differ k k₂ 16 f<)

    -- ---- a split
    cleft : Cleft
    cleft = record { at = ref_at n 1 π t; depth = dep π 0 t; old = word_at pool (ref_at n 1 π t); near = k₂; diff = f }

    cleft_is : cleft_at pool k₂ f spot ≡ cleft
    unfolding cleft
    cleft_is = rw (spot_word n root π t place.on, spot_depth n root π t place.on)

    -- none of a split's stores is to word 0
    header_above : (target : Target) → Words (λ w. 0 < w) (target_header n cleft target)
    unfolding Words
    header_above ALeaf = tt
    header_above (ANode j b) = (omega arith, tt)

    split_above : (z j : ℕ) (target : Target) → Words (λ w. 0 < w) (put_stores (cleaving n cleft z j k v target))
    unfolding cleft Words
    split_above z j target =
        split_all (λ w. 0 < w) n cleft z j k v (omega arith) (omega arith) (block_above (node_word n j) _ (omega arith))
        (ref_above n 1 π t (omega arith)) target (header_above target)

    split_is : (target : Target)
        → ((z j : ℕ) → z < n → mult z t ≡ 0 → j + 1 < n → mult (n + j) t ≡ 0
        → Puts 16 n (mem pool) t k v (cleaving n cleft z j k v target) (z ∷ (n + j) ∷ []))
        → PutIs pool n t k v (split_of bytes n (cleft_at pool k₂ f spot) k v target)
    split_is target law = rw cleft_is (go (less? z n))
      where
        go : (z < n) ⊎ (n ≤ z) → PutIs pool n t k v (split_of bytes n cleft k v target)
        go (inl l) =
            let room : y < bytes_of n = node_room pool bytes n t pos H M (leaf_fewer pool bytes n t pos H M l) fl in
            let (low, free) = node_free pool bytes n t pos H M room in
            let back : n + (y - n) ≡ y = omega arith in
            let o : Putting = cleaving n cleft z (y - n) k v target in
            does o (TakesBoth z y) (rw (lt-ltb z n l, lt-ltb y (bytes_of n) room))
            (subst (λ x. Puts 16 n (mem pool) t k v o (z ∷ x ∷ [])) back
            (law z (y - n) l (leaf_free pool bytes n t pos H M l) (omega arith) (rw back free)))
            refl (λ e. leaf_fewer pool bytes n t pos H M l) (split_above z (y - n) target)
        go (inr l) = full (rw (le-ltb z n l)) new (all_held pool bytes n t pos H M l)

    split_leaf_is : (x v₂ : ℕ) → sub π t ≡ leaf x k₂ v₂ → PutIs pool n t k v (split_of bytes n (cleft_at pool k₂ f spot) k v ALeaf)
    unfolding cleft
    split_leaf_is x v₂ is =
        split_is ALeaf (λ z j zn zf jn jf.
        puts_split_leaf 16 n (mem pool) t H (omega arith) cap k v z zn zf j jn jf π place.on place.digits k₂ f f< place.deep
        (first_diff_agree k k₂ 16) (first_diff_differ k k₂ 16 f<) x v₂ is)

    split_node_is : (x b s : ℕ) (kids : ℕ → Tree ℕ) → sub π t ≡ node x b s kids → f < b → Agree dig b (dig s) k₂
        → PutIs pool n t k v (split_of bytes n (cleft_at pool k₂ f spot) k v (ANode (x - n) b))
    unfolding cleft
    split_node_is x b s kids is fb agree =
        split_is (ANode (x - n) b) (λ z j zn zf jn jf.
        puts_split_node 16 n (mem pool) t H (omega arith) cap k v z zn zf j jn jf π place.on place.digits k₂ f f< place.deep
        (first_diff_agree k k₂ 16) (first_diff_differ k k₂ 16 f<) x b s kids is fb agree)

    -- ---- a gap is the empty child at which the walk ends
    gap_way : (x b s : ℕ) (kids : ℕ → Tree ℕ) → sub π t ≡ node x b s kids → b ≡ f → kids (dig k b) ≡ empty → way dig 16 k t ≡ π ++ dig k b ∷ []
    unfolding way
    gap_way x b s kids is bf gone =
        way_more f k 0 (λ i. 0) t H.good
        ∙ ap (λ u. π ++ way dig 16 k u) is
        ∙ rw (lt-ltb b 16 (omega (arith, f<))) (ap (λ u. π ++ dig k b ∷ way dig 16 k u) gone)

    -- `last` and `gap` say where the walk ended
    module _ (last gap : ℕ) (ended : (x b s : ℕ) (kids : ℕ → Tree ℕ) → Stands π (node x b s kids) t → kids (dig k b) ≡ empty
        → way dig 16 k t ≡ π ++ dig k b ∷ [] → (spot.nodes + 1 ≡ last) × (child_word n (x - n) (dig k b) ≡ gap)) where
      end_is : (u : Tree ℕ) → sub π t ≡ u → Past dig f k₂ u ⊎ Gap dig f k u → PutIs pool n t k v (placed_at pool bytes n k v k₂ f last gap (end_at n spot u))
      end_is empty is (inl p) = absurd p
      end_is empty is (inr p) = absurd p
      end_is (leaf x k' v') is (inl p) = split_leaf_is x v' (is ∙ ap (λ i. leaf x i v') p)
      end_is (leaf x k' v') is (inr p) = absurd p
      end_is (node x b s kids) is (inl (fb, agree)) = rw (ne_eqb b f (λ z. omega arith)) (split_node_is x b s kids is fb agree)
      end_is (node x b s kids) is (inr (bf, agree, gone)) =
          let none_there : kids (dig k b) ≡ empty = ap (λ i. kids (dig k i)) bf ∙ gone in
          let p : Stands π (node x b s kids) t = record { on = place.on; is = is } in
          let (nodes-is, word_is) = ended x b s kids p none_there (gap_way x b s kids is bf none_there) in
          rw (eq-eqb b f bf, eq-eqb (spot.nodes + 1) last nodes-is, ← word_is)
          (grow_is (child_word n (x - n) (dig k b)) (omega arith) new
          (λ z zn zf. puts_child 16 n (mem pool) t H cap k v z zn zf π x b s kids p (rw bf agree) none_there))

      beside_is : PutIs pool n t k v (beside_of pool bytes n k v last gap k₂)
      beside_is =
          rw (ne_eqb f 16 (λ z. omega (arith, f<)), walk_held pool n k f 17 root (λ i. 0) t H.holds H.good (omega arith) (omega arith))
          (end_is (sub π t) refl place.target)

  -- ---- the whole plan, by where the walk ends
  abbrev all : List ℕ
  all = way dig 16 k t

  abbrev end : Spot
  end = spot_at n root all t

  at_leaf : (x k' v' : ℕ) → sub all t ≡ leaf x k' v' → PutIs pool n t k v (leaf_put pool bytes n k v x)
  unfolding find Words
  at_leaf x k' v' is = go (same? k' k)
    where
      stands : Stands all (leaf x k' v') t
      stands = record { on = way_on 16 k t; is = is }

      key : key_at pool x ≡ k'
      key = (held_leaf pool n (dep all 0 t) (mem pool (ref_at n 1 all t)) x k' v' (holds_at 16 n (mem pool) t H all (leaf x k' v') stands)).key

      nearest : near dig k t ≡ k'
      nearest = near_leaf k 0 x k' v' (λ i. 0) t H.good is

      finds : find dig k t ≡ find dig k (leaf x k' v')
      finds = way_finds 16 k t ∙ ap (find dig k) is

      go : Same? k' k → PutIs pool n t k v (leaf_put pool bytes n k v x)
      go (same p q) =
          rw (eq-eqb (key_at pool x) k (key ∙ p))
          (does (replacing x v) Nothing refl
          (puts_value 16 n (mem pool) t H k v x v' all (record { on = stands.on; is = is ∙ ap (λ i. leaf x i v') p })) refl
          (λ new. let o : Some v' ≡ None = sym (finds ∙ rw (eq-eqb k k' (sym p))) ∙ new in let z : ◌≡◌ {A = ℕ} 0 1 = cc in absurd (omega arith)) (omega arith, tt))
      go (other p q) =
          rw (ne_eqb (key_at pool x) k (λ z. p (sym key ∙ z)), key ∙ sym nearest)
          (beside_is (finds ∙ rw (ne_eqb k k' (λ z. p (sym z)))) (way_filled k x k' v' t is) (λ z. p (sym (z ∙ nearest)))
          (subst (λ i. i < 2 ^ 64) (sym nearest) (names k' v' (stands_found dig (digit_lt 16) 16 x k' v' all t H.good stands))) 0 0
          (λ j b s kids p gone w. absurd (no_gap j b s kids p gone w)))
        where
          no_gap : (j b s : ℕ) (kids : ℕ → Tree ℕ) {ρ : List ℕ} → Stands ρ (node j b s kids) t → kids (dig k b) ≡ empty → all ≡ ρ ++ dig k b ∷ [] → ⊥
          no_gap j b s kids {ρ} p gone w =
              let e : sub (ρ ++ dig k b ∷ []) t ≡ kids (dig k b) = (child dig ρ (dig k b) j b s kids t (digit_lt 16 k b) p).stands.is in
              let z : empty ≡ leaf x k' v' = sym (ap (λ π. sub π t) w ∙ e ∙ gone) ∙ is in
              let o : ◌≡◌ {A = ℕ} 0 1 = cc in
              omega arith

  at_root : t ≡ empty → find dig k t ≡ None → PutIs pool n t k v (empty_put pool bytes n k v end)
  unfolding way spot_at
  at_root e new =
      let w : all ≡ [] = ap (way dig 16 k) e in
      rw w (grow_is 1 (omega arith) new (λ z zn zf. puts_root 16 n (mem pool) t H cap k v z zn zf e))

  below_last_lem : Filled t → LastNode k t → find dig k t ≡ None → PutIs pool n t k v (empty_put pool bytes n k v end)
  below_last_lem fl L new =
      rw (
        ne_eqb end.nodes 0 (λ z. omega (arith, ap (λ (s : Spot). s.nodes) end_is)),
        ap (λ (s : Spot). s.above) end_is ∙ spot_depth n root L.ρ t L.on,
        ap (λ (s : Spot). s.over) end_is ∙ spot_word n root L.ρ t L.on,
        lowest_is,
      )
      (beside_is new fl apart near_fits end.nodes end.at
      (λ x b s kids p gone way_is. let e = ends x b s kids p way_is in (ap (λ (s : Spot). s.nodes) (sym e), ap (λ (s : Spot). s.at) (sym e))))
    where
      w : ℕ
      w = dep L.ρ 0 t

      r : ℕ
      r = mem pool (ref_at n 1 L.ρ t)

      last : Tree ℕ
      last = node L.x L.b L.s L.kids

      stands : Stands L.ρ last t
      stands = record { on = L.on; is = L.sub_is }

      holds : Shape.Holds (base 16 n) (mem pool) w r last
      holds = holds_at 16 n (mem pool) t H L.ρ last stands

      good : GoodAt dig 16 L.ρ t last
      good = good_at 16 n (mem pool) t H L.ρ last stands

      -- where the walk ends, from its last node
      ends : (x b s : ℕ) (kids : ℕ → Tree ℕ) {ρ : List ℕ} → Stands ρ (node x b s kids) t → all ≡ ρ ++ dig k b ∷ []
          → end ≡ below n (x - n) b (dig k b) (spot_at n root ρ t)
      ends x b s kids {ρ} p way_is = ap (λ π. spot_at n root π t) way_is ∙ spot_below n root ρ (dig k b) x b s kids t p.on p.is

      end_is : end ≡ below n (L.x - n) L.b (dig k L.b) (spot_at n root L.ρ t)
      end_is = ends L.x L.b L.s L.kids stands L.way_is

      shallow : w ≤ 16
      shallow = let a = held_node pool n w r L.x L.b L.s L.kids holds in omega (arith, a.w≤b, a.b<)

      lowest_is : lowest_of pool n w (ref_at n 1 L.ρ t) r ≡ Ok (near dig k t)
      lowest_is = low_held pool n 17 w (ref_at n 1 L.ρ t) r (pre dig L.ρ (λ i. 0) t) last holds good tt shallow (omega arith) ∙ ap Ok (sym L.near_is)

      apart : k ≢ near dig k t
      apart e = low_apart k w (pre dig L.ρ (λ i. 0) t) L.x L.b L.s L.kids good L.none (e ∙ L.near_is)

      near_fits : near dig k t < 2 ^ 64
      near_fits = rw L.near_is (low_named t H.good names last L.ρ w (pre dig L.ρ (λ i. 0) t) stands good tt)

  at_empty : sub all t ≡ empty → PutIs pool n t k v (empty_put pool bytes n k v end)
  unfolding find
  at_empty e = go (filled t) refl
    where
      new : find dig k t ≡ None
      new = way_finds 16 k t ∙ ap (find dig k) e

      go : (u : Bool) → filled t ≡ u → PutIs pool n t k v (empty_put pool bytes n k v end)
      go false u = at_root (not_filled t u) new
      go true u = below_last_lem (filled_is t u) (near_empty k 0 (λ i. 0) t H.good (filled_is t u) e) new

  -- a put that is not of file number 0
  pub put_is : v ≢ 0 → capacity_of pool ≡ Some n → PutIs pool n t k v (put_plan pool bytes k v)
  unfolding put_plan
  put_is some-file cap-is =
      rw (
        cap-is,
        eq-eqb (length bytes) (bytes_of n) M.size,
        ne_eqb v 0 some-file,
        walk_held pool n k 16 17 root (λ i. 0) t H.holds H.good (omega arith) (omega arith),
      )
      (go (sub all t) refl (way_ends k 0 (λ i. 0) t H.good))
    where
      go : (u : Tree ℕ) → sub all t ≡ u → NoNode u → PutIs pool n t k v (put_at pool bytes n k v (end_at n end u))
      go empty e h = at_empty e
      go (leaf x k' v') e h = at_leaf x k' v' e
      go (node x b s kids) e h = absurd h

-- a put of file number 0 is retired, whatever the pool holds
pub put_retired : (pool bytes : List ℕ) (n k : ℕ) → capacity_of pool ≡ Some n → length bytes ≡ bytes_of n → put_plan pool bytes k 0 ≡ refused 7
unfolding put_plan
put_retired pool bytes n k cap-is size = rw (cap-is, eq-eqb (length bytes) (bytes_of n) size)
