-- A put's number and its cause, in a pool of n leaves with its map.
-- Assumes nothing.
use Rattle.std.specs.Prelude.{Option, None, Some}
use mathlib.Core.Path.{◌≡◌, refl, sym, ap, ◌∙◌}
use mathlib.Core.Bool.{Bool, true, false}
use mathlib.Core.Logic.{◌≢◌, ◌⊎◌, inl, inr}
use mathlib.Core.List.{List}
use Prim.Native.Nat.{ℕ, ◌+◌, ◌<◌}
use native.Mathlib.Decide.{dec_lt}
use native.Mathlib.Omega.{arith}
use borrow.Author.Tests.{ltb-true, ltb-false, eq-eqb, ne_eqb}
use lib.Dec.{ltb}
use Rattle.digits.specs.Digits.{first_diff}
use Rattle.digits.proofs.Digits.{first_diff_le}
use Rattle.pool.specs.Sizes.{bytes_of}
use Rattle.pool.specs.Places.{key_at}
use Rattle.pool.specs.declared.Ref.{Ref}
use Rattle.pool.specs.declared.Ref.TheVariants.{Empty, Leaf, Node}
use Rattle.tree.proofs.Basics.{Same?, same, other, same?, true_not_false}
use Rattle.walk.specs.Walks.{walk_of}
use Rattle.walk.specs.declared.Spot.{Spot}
use Rattle.walk.specs.declared.End.TheVariants.{AtLeaf}
use Rattle.rules.specs.declared.Cleft.{Cleft}
use Rattle.rules.specs.declared.Target.{Target}
use Rattle.rules.specs.declared.Target.TheVariants.{ALeaf, ANode}
use Rattle.rules.specs.Puts.{free_leaf, free_node, grow_of, split_of, cleft_at, beside_of, put_at}
use Rattle.rules.proofs.LowestFree.{free_found, free_none}
use Rattle.finding.specs.Lookups.{Answer, answer}
use Rattle.survey.specs.Soundness.{at, branch}
use Rattle.demands.specs.Ways.{Accepted, chosen, Way, root, past, Lowest, Lookup, Differs, Place, Taken, NoRoom, Put}
use Rattle.demands.proofs.Ways.{same_node, spot, spot_is, way_depth, one_way, ends, breaks, stops, comes_to, comes_to_damage, lowest_is, lowest_some}
use Rattle.demands.proofs.Ways.{First, first_empty, first_leaf, first_broken, first_node, first}
use Rattle.demands.proofs.LookupCauses.{lookup_some}

neither : (◌≡◌ {A = ℕ} 3 2) ⊎ (◌≡◌ {A = ℕ} 3 0) → ⊥
neither (inl e) = omega arith
neither (inr e) = omega arith

empty_node : {x : Ref} {j : ℕ} → x ≡ Empty → x ≡ Node j → ⊥
empty_node p q = let o : ◌≡◌ {A = ℕ} 0 1 = cc in omega arith

module _ (pool : List ℕ) (n : ℕ) (bytes : List ℕ) where
  -- ---- room: 0, or 4 where there is none
  data Roomed (needed : Bool) : ℕ → Type 0 where
    full : NoRoom pool n bytes needed → Roomed needed 4
    free : (NoRoom pool n bytes needed → ⊥) → Roomed needed 0

  free_leaf_lem : free_leaf bytes n < n → Taken pool n bytes 0 n → ⊥
  free_leaf_lem l t =
      let (a, z) = free_found bytes 0 n l in
      t (free_leaf bytes n) a l z

  grow_roomed : (k v at : ℕ) → Roomed false (grow_of bytes n k v at).number
  grow_roomed k v at = go (ltb (free_leaf bytes n) n) refl
    where
      lacks : free_leaf bytes n < n → NoRoom pool n bytes false → ⊥
      lacks l (inl t) = free_leaf_lem l t
      lacks l (inr (e, t)) = true_not_false e refl

      go : (t : Bool) → ltb (free_leaf bytes n) n ≡ t → Roomed false (grow_of bytes n k v at).number
      go true e = rw e (free (lacks (ltb-true (free_leaf bytes n) n e)))
      go false e = rw e (full (inl (free_none bytes 0 n (ltb-false (free_leaf bytes n) n e))))

  split_roomed : (s : Cleft) (k v : ℕ) (target : Target) → Roomed true (split_of bytes n s k v target).number
  split_roomed s k v target = go (ltb (free_leaf bytes n) n) refl (ltb (free_node bytes n) (bytes_of n)) refl
    where
      lacks : free_leaf bytes n < n → free_node bytes n < bytes_of n → NoRoom pool n bytes true → ⊥
      lacks l h (inl t) = free_leaf_lem l t
      lacks l h (inr (e, t)) =
          let (a, z) = free_found bytes n (bytes_of n) h in
          t (free_node bytes n) a h z

      go : (t : Bool) → ltb (free_leaf bytes n) n ≡ t → (u : Bool) → ltb (free_node bytes n) (bytes_of n) ≡ u → Roomed true (split_of bytes n s k v target).number
      go true e true f = rw (e, f) (free (lacks (ltb-true (free_leaf bytes n) n e) (ltb-true (free_node bytes n) (bytes_of n) f)))
      go true e false f = rw (e, f) (full (inr (refl, free_none bytes n (bytes_of n) (ltb-false (free_node bytes n) (bytes_of n) f))))
      go false e u f = rw e (full (inl (free_none bytes 0 n (ltb-false (free_leaf bytes n) n e))))

  roomed_full : {t : Bool} {x : ℕ} → Roomed t x → NoRoom pool n bytes t → x ≡ 4
  roomed_full (full r) h = refl
  roomed_full (free r) h = absurd (r h)

  roomed_free : {t : Bool} {x : ℕ} → Roomed t x → (NoRoom pool n bytes t → ⊥) → x ≡ 0
  roomed_free (full r) h = absurd (h r)
  roomed_free (free r) h = refl

  roomed_fits : {t : Bool} {x : ℕ} → Roomed t x → x ≢ 2
  roomed_fits (full r) e = omega arith
  roomed_fits (free r) e = omega arith

  module _ (key v : ℕ) where
    -- ---- the key beside which a new one goes
    -- the walk ended at a leaf, or at an empty child of the last of so many nodes
    data Last (nodes : ℕ) : Type 0 where
      at_leaf : {s : Spot} {l : ℕ} → walk_of pool n key ≡ AtLeaf s l → nodes ≡ 0 → Last nodes
      at_child : {i w m j : ℕ} → Way pool n key i w m → Accepted pool n i w j → at pool n (chosen pool n key j) ≡ Empty → nodes ≡ m + 1 → Last nodes

    -- a put whose key differs at f goes beside a key k2, the leaf's or the lowest
    record Besides (f : ℕ) : Type 0 where
      k2 : ℕ
      last : ℕ
      gap : ℕ
      first≡ : first_diff key k2 ≡ f
      ended : Last last
      is : put_at pool bytes n key v (walk_of pool n key) ≡ beside_of pool bytes n key v last gap k2

    besides : {f : ℕ} → Differs pool n key f → Besides f
    besides (Differs.leaf {l = l} W e h) =
        let q = comes_to pool n W (Leaf l) e tt in
        record { k2 = key_at pool l; last = 0; gap = 0; first≡ = refl; ended = at_leaf q refl; is = rw (q, ne_eqb (key_at pool l) key h) }
    besides (Differs.last {j = j} {k2 = k2} W a e L) =
        let s = spot_is pool n W in
        record {
          k2 = k2;
          last = (spot pool n W).nodes + 1;
          gap = chosen pool n key j;
          first≡ = refl;
          ended = at_child W a e (ap (λ (x : ℕ). x + 1) s.2);
          is = rw (
            comes_to pool n (past W a) Empty e tt,
            ne_eqb ((spot pool n W).nodes + 1) 0 (λ z. omega arith),
            s.0,
            s.1,
            lowest_is pool n (way_depth pool n W) L,
          );
        }

    -- ---- where a new key goes
    place_roomed : {t : Bool} → Place pool n key t → Roomed t (put_at pool bytes n key v (walk_of pool n key)).number
    place_roomed (Place.root e) = rw (comes_to pool n {key = key} root Empty e tt) (grow_roomed key v 1)
    place_roomed (Place.child {f} {j = j} D W a q e) =
        let S = besides D in
        rw (
          S.is,
          S.first≡,
          ne_eqb f 16 (λ z. omega (arith, a.high)),
          stops pool n f W (omega (arith, a.deep)) a (omega arith),
          eq-eqb (branch pool n j) f q,
          eq-eqb ((spot pool n W).nodes + 1) S.last (last_is S.ended),
        )
        (grow_roomed key v S.gap)
      where
        last_is : {last : ℕ} → Last last → (spot pool n W).nodes + 1 ≡ last
        last_is (at_leaf p z) = let o : ◌≡◌ {A = ℕ} 0 1 = cc (comes_to pool n (past W a) Empty e tt) in absurd (omega arith)
        last_is (at_child W' a' e' z) =
            let o : spot pool n (past W a) ≡ spot pool n (past W' a')
            = cc (comes_to pool n (past W a) Empty e tt, comes_to pool n (past W' a') Empty e' tt) in
            ap (λ (s : Spot). s.nodes) o ∙ ap (λ (x : ℕ). x + 1) (spot_is pool n W').2 ∙ sym z
    place_roomed (Place.node {f} {j = j} D W a h l) =
        let S = besides D in
        rw (S.is, S.first≡, ne_eqb f 16 (λ z. omega (arith, a.high)), stops pool n f W h a (omega arith), ne_eqb (branch pool n j) f (λ z. omega arith))
        (split_roomed (cleft_at pool S.k2 f (spot pool n W)) key v (ANode j (branch pool n j)))
    place_roomed (Place.leaf {f} {l = l} D W e h g) =
        let S = besides D in
        rw (S.is, S.first≡, ne_eqb f 16 (λ z. omega arith), ends pool n f W h (Leaf l) e tt)
        (split_roomed (cleft_at pool S.k2 f (spot pool n W)) key v ALeaf)

    -- there is a place, or it is damage
    data Placing : Type 0 where
      goes : {t : Bool} → Place pool n key t → Placing
      damage : (put_at pool bytes n key v (walk_of pool n key)).number ≡ 2 → Placing

    place? : {f : ℕ} → Differs pool n key f → Placing
    place? {f} D = judge (same? f 16)
      where
        S : Besides f
        S = besides D

        go : f ≢ 16 → First pool n key f → Placing
        go z (first_empty W h e) = damage (rw (S.is, S.first≡, ne_eqb f 16 z, ends pool n f W h Empty e tt))
        go z (first_leaf W h e) = goes (Place.leaf D W e h (omega (arith, S.first≡, first_diff_le key S.k2 16)))
        go z (first_broken W h b) = damage (rw (S.is, S.first≡, ne_eqb f 16 z, breaks pool n f W h b))
        go z (first_node {j = j} W h a l) =
            elim (dec_lt f (branch pool n j)) [
              | yes g ↦ goes (Place.node D W a h g)
              | no g ↦ last? (omega arith) (same? ((spot pool n W).nodes + 1) S.last)
            ]
          where
            child_empty : {last : ℕ} → Last last → (spot pool n W).nodes + 1 ≡ last → at pool n (chosen pool n key j) ≡ Empty
            child_empty (at_leaf p q) e = absurd (omega arith)
            child_empty (at_child W' a' e' q) e =
                let o = (one_way pool n W W' (omega (arith, (spot_is pool n W).2))).0 in
                ap (λ (x : ℕ). at pool n (chosen pool n key x)) (same_node pool n o a.node a'.node) ∙ e'

            last? : branch pool n j ≡ f → Same? ((spot pool n W).nodes + 1) S.last → Placing
            last? q (same e _) = goes (Place.child D W a q (child_empty S.ended e))
            last? q (other e r) = damage (rw (S.is, S.first≡, ne_eqb f 16 z, stops pool n f W h a l, eq-eqb (branch pool n j) f q, r))

        judge : Same? f 16 → Placing
        judge (same e q) = damage (rw (S.is, S.first≡, q))
        judge (other z q) = go z (first pool n key f)

    -- ---- every cause leads to its number
    walk_is : (a : Answer) → Lookup pool n key a → (a.number ≡ 2) ⊎ (a.number ≡ 0) → (put_at pool bytes n key v (walk_of pool n key)).number ≡ a.number
    walk_is a (Lookup.damage W b) h = rw (comes_to_damage pool n W b)
    walk_is a (Lookup.empty W e) h = absurd (neither h)
    walk_is a (Lookup.other W e q) h = absurd (neither h)
    walk_is a (Lookup.found {l = l} W e q) h = rw (comes_to pool n W (Leaf l) e tt, eq-eqb (key_at pool l) key q)

    pub put_is : (x : ℕ) → Put pool n bytes key x → (put_at pool bytes n key v (walk_of pool n key)).number ≡ x
    put_is x (Put.walk {m} L) = walk_is (answer 2 0 m) L (inl refl)
    put_is x (Put.lowest {j = j} W a e L) =
        let s = spot_is pool n W in
        rw (
          comes_to pool n (past W a) Empty e tt,
          ne_eqb ((spot pool n W).nodes + 1) 0 (λ z. omega arith),
          s.0,
          s.1,
          lowest_is pool n (way_depth pool n W) L,
        )
    put_is x (Put.no_place D h) = go (place? D)
      where
        go : Placing → (put_at pool bytes n key v (walk_of pool n key)).number ≡ 2
        go (goes {t} p) = absurd (h t p)
        go (damage e) = e
    put_is x (Put.full p r) = roomed_full (place_roomed p) r
    put_is x (Put.placed p r) = roomed_free (place_roomed p) r
    put_is x (Put.held {v = u} {m = m} L) = walk_is (answer 0 u m) L (inr refl)

    -- and every put has a cause
    placed_some : {t : Bool} → Place pool n key t → (x : ℕ) × Put pool n bytes key x
    placed_some {t} p = go (place_roomed p)
      where
        go : {x : ℕ} → Roomed t x → (x : ℕ) × Put pool n bytes key x
        go (full r) = (4, Put.full p r)
        go (free r) = (0, Put.placed p r)

    differs_some : {f : ℕ} → Differs pool n key f → (x : ℕ) × Put pool n bytes key x
    differs_some D = go (place? D)
      where
        go : Placing → (x : ℕ) × Put pool n bytes key x
        go (goes p) = placed_some p
        go (damage e) = (2, Put.no_place D (λ t p. roomed_fits (place_roomed p) e))

    pub put_some : (x : ℕ) × Put pool n bytes key x
    put_some = let (a, L) = lookup_some pool n key in go L
      where
        below_last_lem : {i w m j : ℕ} → Way pool n key i w m → Accepted pool n i w j → at pool n (chosen pool n key j) ≡ Empty
            → (r : Option ℕ) × Lowest pool n i w r → (x : ℕ) × Put pool n bytes key x
        below_last_lem W a e (None, L) = (2, Put.lowest W a e L)
        below_last_lem W a e (Some k2, L) = differs_some (Differs.last W a e L)

        at_empty : {i w m : ℕ} → Way pool n key i w m → at pool n i ≡ Empty → (x : ℕ) × Put pool n bytes key x
        at_empty root e = placed_some (Place.root e)
        at_empty (past {i} {w} W a) e = below_last_lem W a e (lowest_some pool n i w (way_depth pool n W) (λ z. empty_node z a.node))

        go : {a : Answer} → Lookup pool n key a → (x : ℕ) × Put pool n bytes key x
        go (Lookup.damage W b) = (2, Put.walk (Lookup.damage W b))
        go (Lookup.empty W e) = at_empty W e
        go (Lookup.other W e q) = differs_some (Differs.leaf W e q)
        go (Lookup.found W e q) = (0, Put.held (Lookup.found W e q))
