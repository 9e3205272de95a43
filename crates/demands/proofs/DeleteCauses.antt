-- A delete's number and its cause, in a pool of n leaves.
-- Assumes nothing.
use Rattle.std.specs.Prelude.{Option, None, Some}
use mathlib.Core.Path.{◌≡◌, refl, sym, ap, ◌∙◌}
use mathlib.Core.Bool.{Bool, true, false}
use mathlib.Core.Logic.{◌≢◌}
use mathlib.Core.List.{List}
use Prim.Native.Nat.{ℕ, ◌+◌, ◌≤◌, ◌<◌}
use native.Mathlib.Decide.{dec_lt}
use native.Mathlib.Omega.{arith}
use borrow.Author.Tests.{lt-ltb, le-ltb, eq-eqb, ne_eqb}
use lib.Dec.{eqb}
use Rattle.digits.specs.Choice.{pick}
use Rattle.digits.specs.Digits.{digit_of}
use Rattle.digits.specs.Loops.{scan, tally}
use Rattle.digits.proofs.Digits.{digit_lt}
use Rattle.digits.proofs.Loops.{tally_none, tally_some}
use Rattle.pool.specs.Places.{key_at, child_at, child_word}
use Rattle.pool.specs.Refs.{ref_of}
use Rattle.pool.specs.declared.Ref.TheVariants.{Empty, Leaf}
use Rattle.tree.proofs.Basics.{Same?, same, other, same?}
use Rattle.tree.proofs.Near.{scan_finds, scan_same}
use Rattle.layout.proofs.Base as layout
use Rattle.walk.specs.Walks.{below, walk_of, is_child, children_of, other_child}
use Rattle.walk.specs.declared.Spot.{Spot}
use Rattle.walk.proofs.Nodes.{is_child_lem, other_child_there, other_child_off}
use Rattle.listing.proofs.Loops.{scan_passes}
use Rattle.walk.specs.declared.Fault.{Fault}
use Rattle.plan.specs.declared.Effect.{Effect}
use Rattle.plan.specs.declared.Effect.TheVariants.{FreesLeaf}
use Rattle.rules.specs.Deletes.{lift_of, merge_with, unlink_of, delete_at}
use Rattle.finding.specs.Lookups.{Answer, answer}
use Rattle.survey.specs.Soundness.{at, branch}
use Rattle.survey.proofs.Loops.{tally_flip}
use Rattle.demands.specs.Ways.{chosen, Way, root, past, Lowest, Lookup, Parent, parent, Other, Delete}
use Rattle.demands.proofs.Ways.{accepted, broken_case, spot, comes_to, comes_to_damage, child_means, told, fault_below, lowest_is, lowest_some}
use Rattle.demands.proofs.LookupCauses.{lookup_some}

-- ---- counts of places
-- a test that fails at one place x, and is another test elsewhere
abbrev but : ℕ → (ℕ → Bool) → ℕ → Bool
but x test d = pick (eqb d x) false (test d)

module _ (test : ℕ → Bool) (x : ℕ) where
  but_off : (d : ℕ) → d ≢ x → but x test d ≡ test d
  but_off d h = rw (ne_eqb d x h)

  but_one_less : (n : ℕ) → x < n → test x ≡ true → tally n test ≡ tally n (but x test) + 1
  but_one_less n l e = tally_flip (but x test) test n x l (rw (eq-eqb x x refl)) e (λ i h q. but_off i q)

-- where one place passes no other does
only_one : (n : ℕ) (test : ℕ → Bool) → tally n test ≡ 1 → (c d : ℕ) → c < n → d < n → test c ≡ true → test d ≡ true → c ≡ d
only_one n test z c d lc ld p q = go (same? d c)
  where
    go : Same? d c → c ≡ d
    go (same e _) = sym e
    go (other e _) = absurd (tally_some (but c test) n d ld (but_off test c d e ∙ q) (omega (arith, but_one_less test c n lc p)))

-- a reference to a leaf is not 0
leaf_there : (n r : ℕ) {l : ℕ} → ref_of n r ≡ Leaf l → r ≢ 0
leaf_there n r e z =
    let q = rw z at e in
    let o : ◌≡◌ {A = ℕ} 0 1 = cc (layout.ref_empty n) in
    omega arith

module _ (pool : List ℕ) (n key : ℕ) where
  -- ---- the other child of node j
  module _ (j : ℕ) where
    abbrev own : ℕ
    own = digit_of key (branch pool n j)

    abbrev others : ℕ → Bool
    others = but own (is_child pool n j)

    other_scan : other_child pool n j (chosen pool n key j) ≡ scan 16 0 others
    other_scan = scan_same 16 0 _ others (λ d a l. go d (same? d own))
      where
        go : (d : ℕ) → Same? d own → pick (eqb (child_word n j d) (chosen pool n key j)) false (is_child pool n j d) ≡ others d
        go d (same p q) = rw (q, eq-eqb (child_word n j d) (chosen pool n key j) (omega arith))
        go d (other p q) = rw (q, ne_eqb (child_word n j d) (chosen pool n key j) (λ z. p (omega arith)))

    module _ (own_child : child_at pool n j own ≢ 0) where
      own_counts : is_child pool n j own ≡ true
      own_counts = is_child_lem pool n j own refl own_child

      pub some_child : children_of pool n j ≢ 0
      some_child = tally_some (is_child pool n j) 16 own (digit_lt 16 key (branch pool n j)) own_counts

      module _ (two : children_of pool n j ≡ 2) where
        one_other : tally 16 others ≡ 1
        one_other = omega (arith, but_one_less (is_child pool n j) own 16 (digit_lt 16 key (branch pool n j)) own_counts)

        pub other_is : {c : ℕ} → Other pool n key j c → other_child pool n j (chosen pool n key j) ≡ c
        other_is {c} O =
            let p : others c ≡ true = but_off (is_child pool n j) own c O.off ∙ is_child_lem pool n j c refl O.child in
            let (l, q) = scan_finds 16 0 others c (omega arith) (omega (arith, O.place)) p in
            other_scan ∙ only_one 16 others one_other (scan 16 0 others) c (omega arith) O.place q p

        pub other_some : (c : ℕ) × Other pool n key j c
        other_some =
            elim (dec_lt (other_child pool n j (chosen pool n key j)) 16) [
              | yes l ↦ (
                other_child pool n j (chosen pool n key j),
                record {
                  place = l;
                  child = other_child_there pool n j (chosen pool n key j) l;
                  off = λ e. other_child_off pool n j (chosen pool n key j) l (ap (child_word n j) e);
                },
              )
              | no g ↦
                  let far : 16 ≤ scan 16 0 others = omega (arith, other_scan) in
                  absurd (omega (arith, one_other, tally_none others 16 (λ d l. scan_passes others 16 0 d (omega arith) (omega arith))))
            ]

  -- ---- what a delete does with a found key: leaf l below node j
  number_of : Option ℕ → ℕ
  number_of None = 2
  number_of (Some k) = 0

  -- the other child is bypassed or lifted unless its lowest way meets damage
  merge_is : (s : Spot) (o : Effect) (c j : ℕ) {r : Option ℕ} → s.depth ≤ 16 → Lowest pool n (child_word n j c) s.depth r
      → (merge_with pool n s o (child_word n j c) (child_at pool n j c)).number ≡ number_of r
  unfolding number_of
  merge_is s o c j h (Lowest.leaf e) = rw e
  merge_is s o c j h (Lowest.broken b) = broken_case pool n b (λ e. rw e) (λ x R. rw (R.refers, R.head))
  merge_is s o c j h (Lowest.childless a z) =
      let A = accepted pool n a in
      rw (A.refers, A.head, lowest_is pool n h (Lowest.childless a z))
  merge_is s o c j {r} h (Lowest.under {j = x} a C L) =
      let A = accepted pool n a in
      rw (A.refers, A.head, lowest_is pool n h (Lowest.under a C L)) (go x r (fault_below pool n (Lowest.under a C L)))
    where
      go : (x : ℕ) (r : Option ℕ) (f : Fault) → (lift_of n s o (child_at pool n j c) x (branch pool n x) (told pool n r f)).number ≡ number_of r
      go x None f = refl
      go x (Some k) f = refl

  -- every cause leads to its number
  missed_is : (a : Answer) → Lookup pool n key a → a.number ≢ 0 → (delete_at pool n key (walk_of pool n key)).number ≡ a.number
  missed_is a (Lookup.damage W b) h = rw (comes_to_damage pool n W b)
  missed_is a (Lookup.empty W e) h = rw (comes_to pool n W Empty e tt)
  missed_is a (Lookup.other {l = l} W e q) h = rw (comes_to pool n W (Leaf l) e tt, ne_eqb (key_at pool l) key q)
  missed_is a (Lookup.found W e q) h = absurd (h refl)

  -- a found key below node j is unlinked from it
  record Unlinks (j : ℕ) : Type 0 where
    above : Spot
    leaf : ℕ
    is : delete_at pool n key (walk_of pool n key) ≡ unlink_of pool n (below n j (branch pool n j) (own j) above) (FreesLeaf leaf)
    high : branch pool n j ≤ 15
    own_child : child_at pool n j (own j) ≢ 0

  unlinks : {j : ℕ} → Parent pool n key j → Unlinks j
  unlinks (parent {j = j} {l = l} W a e q) =
      record {
        above = spot pool n W;
        leaf = l;
        is = rw (
          comes_to pool n (past W a) (Leaf l) e tt,
          eq-eqb (key_at pool l) key q,
          ne_eqb ((spot pool n W).nodes + 1) 0 (λ z. omega arith),
        );
        high = a.high;
        own_child = leaf_there n (child_at pool n j (own j)) e;
      }

  two_is : {j c : ℕ} {r : Option ℕ} → Unlinks j → children_of pool n j ≡ 2 → Other pool n key j c → Lowest pool n (child_word n j c) (branch pool n j + 1) r
      → (delete_at pool n key (walk_of pool n key)).number ≡ number_of r
  two_is {j} {c} U z O L =
      rw (U.is, z, other_is j U.own_child z O, lt-ltb c 16 O.place)
      (merge_is (below n j (branch pool n j) (own j) U.above) (FreesLeaf U.leaf) c j (omega (arith, U.high)) L)

  pub delete_is : (x : ℕ) → Delete pool n key x → (delete_at pool n key (walk_of pool n key)).number ≡ x
  unfolding number_of
  delete_is x (Delete.missed {m = m} L h) = missed_is (answer x 0 m) L h
  delete_is x (Delete.root {l} e q) = rw (comes_to pool n {key = key} root (Leaf l) e tt, eq-eqb (key_at pool l) key q)
  delete_is x (Delete.three {j} P h) =
      rw ((unlinks P).is, le-ltb (children_of pool n j) 2 (omega arith), lt-ltb 2 (children_of pool n j) h)
  delete_is x (Delete.two P z O L) = two_is (unlinks P) z O L
  delete_is x (Delete.damaged P z O L) = two_is (unlinks P) z O L
  delete_is x (Delete.one {j} P z) = rw ((unlinks P).is, z)

  -- and every delete has a cause
  below_node : {j : ℕ} → Parent pool n key j → Unlinks j → (x : ℕ) × Delete pool n key x
  below_node {j} P U =
      elim (dec_lt 2 (children_of pool n j)) [
        | yes h ↦ (0, Delete.three P h)
        | no g ↦ elim (dec_lt 1 (children_of pool n j)) [
          | yes h ↦ beside (omega arith)
          | no h ↦ (2, Delete.one P (omega (arith, some_child j U.own_child)))
        ]
      ]
    where
      beside : children_of pool n j ≡ 2 → (x : ℕ) × Delete pool n key x
      beside z =
          let (c, O) = other_some j U.own_child z in
          go O (lowest_some pool n (child_word n j c) (branch pool n j + 1) (omega (arith, U.high)) (child_means pool n j c O.child))
        where
          go : {c : ℕ} → Other pool n key j c → (r : Option ℕ) × Lowest pool n (child_word n j c) (branch pool n j + 1) r → (x : ℕ) × Delete pool n key x
          go O (None, L) = (2, Delete.damaged P z O L)
          go O (Some k2, L) = (0, Delete.two P z O L)

  pub delete_some : (x : ℕ) × Delete pool n key x
  delete_some = let (a, L) = lookup_some pool n key in go L
    where
      held : {i w m l : ℕ} → Way pool n key i w m → at pool n i ≡ Leaf l → key_at pool l ≡ key → (x : ℕ) × Delete pool n key x
      held root e q = (0, Delete.root e q)
      held (past W a) e q = let P = parent W a e q in below_node P (unlinks P)

      go : {a : Answer} → Lookup pool n key a → (x : ℕ) × Delete pool n key x
      go (Lookup.damage W b) = (2, Delete.missed (Lookup.damage W b) (λ z. omega arith))
      go (Lookup.empty W e) = (3, Delete.missed (Lookup.empty W e) (λ z. omega arith))
      go (Lookup.other W e q) = (3, Delete.missed (Lookup.other W e q) (λ z. omega arith))
      go (Lookup.found W e q) = held W e q
