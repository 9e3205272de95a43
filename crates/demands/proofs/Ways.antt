-- The ways of specs/Ways and the definitions that compute them: where a way leads the definition comes to, and every way leads somewhere.
-- Assumes nothing.
use Rattle.std.specs.Prelude.{Result, Err, Ok, Some, Option, None}
use mathlib.Core.Path.{◌≡◌, refl, sym, ap, ◌∙◌}
use mathlib.Core.Bool.{true, false}
use mathlib.Core.Logic.{◌≢◌, ◌⊎◌, inl, inr}
use mathlib.Core.List.{List}
use Prim.Native.Nat.{ℕ, zero, suc, ◌+◌, ◌-◌, ◌*◌, ◌≤◌, ◌<◌}
use native.Mathlib.Decide.{dec_lt}
use native.Mathlib.Omega.{arith}
use borrow.Author.Tests.{lt-ltb, le-ltb, lt-leb, le-leb, eq-eqb, eqb-true, not-false}
use lib.Dec.{eqb}
use lib.ListN.{length, get_or}
use Rattle.digits.specs.Digits.{digit_of}
use Rattle.digits.specs.Headers.{length_of}
use Rattle.digits.proofs.Loops.{tally_none, tally_some}
use Rattle.pool.specs.Sizes.{size_of, capacity_of, Sized}
use Rattle.pool.specs.Places.{word_at, header_at, child_at, node_word, child_word}
use Rattle.pool.specs.Refs.{Within}
use Rattle.pool.specs.declared.Ref.{Ref}
use Rattle.pool.specs.declared.Ref.TheVariants.{Empty, Leaf, Node, Bad}
use Rattle.pool.proofs.Sizes.{size_fits}
use Rattle.pool.proofs.Refs.{within}
use Rattle.tree.proofs.Near.{scan_finds}
use Rattle.walk.specs.Faults.{out_of_range, bad_header, bad_form}
use Rattle.walk.specs.Walks.{head_of, below, end_of, Test, walk_from, walk_to, walk_of, children_of, lowest_child, is_child, lowest_of}
use Rattle.walk.specs.Walks as walk
use Rattle.walk.specs.Ends as walk_end
use Rattle.walk.specs.declared.Spot.{Spot}
use Rattle.walk.specs.declared.End.TheVariants.{Stopped, Damaged}
use Rattle.walk.specs.declared.Fault.{Fault}
use Rattle.walk.proofs.Heads.{NoNode, Refused, too_deep}
use Rattle.walk.proofs.Loops.{scan_true}
use Rattle.walk.proofs.Nodes.{is_child_lem, lowest_child_there}
use Rattle.walk.proofs.Walks.{walk_ends, walk_damaged, walk_stops, walk_on}
use Rattle.walk.proofs.LowestLeaf.{lowest_ends, lowest_damaged, lowest_childless, lowest_on}
use Rattle.listing.proofs.Loops.{scan_passes}
use Rattle.survey.specs.Soundness.{at, depth, branch}
use Rattle.survey.proofs.Turns.{ref_empty}
use Rattle.writing.proofs.Wholes.{size_same}
use Rattle.demands.specs.Causes.{Fits}
use Rattle.demands.specs.Ways.{Broken, bad, low, long, far, Accepted, chosen, Way, root, past, LowestChild, Lowest}

-- ---- sizes
pub sized_holds : {pool : List ℕ} {n : ℕ} → Sized pool n → size_of (length pool) n ≡ Some n
unfolding size_of
sized_holds {pool} {n} z =
    rw (le-ltb n 1 z.some, le-ltb 1024 n z.most, eq-eqb (length pool) (19 * n - 15) (omega (arith, z.some, z.words)))

pub fits_holds : {pool : List ℕ} {n : ℕ} → Fits pool n → capacity_of pool ≡ Some n
unfolding capacity_of
fits_holds (z, e) = rw e (sized_holds z)

pub holds_fits : {pool : List ℕ} {n : ℕ} → capacity_of pool ≡ Some n → Fits pool n
unfolding capacity_of
holds_fits {pool} {n} e = (rw e at (size_fits pool (get_or pool 0 0)), sym (size_same (length pool) (get_or pool 0 0) n (sym e)))

module _ (pool : List ℕ) (n : ℕ) where
  -- ---- what a reference that is met comes to
  pub data Kind (i w : ℕ) : Type 0 where
    empty : at pool n i ≡ Empty → Kind i w
    leaf : (l : ℕ) → at pool n i ≡ Leaf l → Kind i w
    broken : Broken pool n i w → Kind i w
    node : (j : ℕ) → Accepted pool n i w j → Kind i w

  pub kind : (i w : ℕ) → Kind i w
  kind i w = go (at pool n i) refl
    where
      go : (x : Ref) → at pool n i ≡ x → Kind i w
      go Empty e = empty e
      go (Leaf l) e = leaf l e
      go (Node j) e =
          elim (dec_lt (depth pool n j) w) [
            | yes h ↦ broken (low e h)
            | no g ↦ elim (dec_lt 15 (branch pool n j)) [
              | yes h ↦ broken (far e h)
              | no h ↦ node j (record { node = e; deep = omega arith; high = omega arith })
            ]
          ]
      go Bad e = broken (bad e)

  -- the header of an accepted node is accepted by the definition
  pub accepted : {i w j : ℕ} → Accepted pool n i w j → walk_end.Accepted pool n w (word_at pool i) j (branch pool n j)
  unfolding head_of
  accepted {i} {w} {j} a =
      let l : Within n (Node j) = rw a.node at (within n (word_at pool i)) in
      record {
        refers = a.node;
        j< = l;
        head = rw (
          le-ltb (depth pool n j) w a.deep,
          le-ltb 15 (length_of (header_at pool n j)) (omega (arith, a.high)),
          le-ltb 15 (branch pool n j) a.high,
        );
        w≤b = omega (arith, a.deep);
        b< = omega (arith, a.high);
      }

  -- damage is a reference out of range, or a header that the definition refuses
  pub broken_case : {P : Type 0} {i w : ℕ} → Broken pool n i w → (at pool n i ≡ Bad → P) → ((j : ℕ) → Refused pool n w (word_at pool i) j → P) → P
  unfolding head_of
  broken_case (bad e) f g = f e
  broken_case {w = w} (low {j} e h) f g = g j (record { refers = e; head = rw (lt-ltb (depth pool n j) w h) })
  broken_case {w = w} (long {j} e h) f g = g j (record { refers = e; head = too_deep w (header_at pool n j) (omega arith) })
  broken_case {w = w} (far {j} e h) f g = g j (record { refers = e; head = too_deep w (header_at pool n j) h })

  -- the word and the reason of damage at word i, met at walk depth w
  abbrev pub fault_of : ℕ → ℕ → Ref → Fault
  fault_of i w Empty = bad_form i
  fault_of i w (Leaf l) = bad_form i
  fault_of i w (Node j) = bad_header n j w (header_at pool n j)
  fault_of i w Bad = out_of_range i

  abbrev pub fault_at : ℕ → ℕ → Fault
  fault_at i w = fault_of i w (at pool n i)

  pub same_node : {i i' j j' : ℕ} → i ≡ i' → at pool n i ≡ Node j → at pool n i' ≡ Node j' → j ≡ j'
  same_node {i} {i'} e p q = let r : at pool n i ≡ at pool n i' = ap (at pool n) e in cc

  -- ---- the walk
  module _ {key : ℕ} where
    -- where a way stands, as the definition has it
    abbrev pub spot : {i w m : ℕ} → Way pool n key i w m → Spot
    spot root = walk.root
    spot (past {j = j} W a) = below n j (branch pool n j) (digit_of key (branch pool n j)) (spot W)

    pub spot_is : {i w m : ℕ} (W : Way pool n key i w m) → ((spot W).at ≡ i) × ((spot W).depth ≡ w) × ((spot W).nodes ≡ m)
    spot_is root = (refl, refl, refl)
    spot_is (past W a) = (refl, refl, ap (λ (m : ℕ). m + 1) (spot_is W).2)

    pub way_depth : {i w m : ℕ} → Way pool n key i w m → w ≤ 16
    way_depth root = omega arith
    way_depth (past W a) = omega (arith, a.high)

    -- past as many nodes there is one way only
    pub one_way : {i w m i' w' m' : ℕ} → Way pool n key i w m → Way pool n key i' w' m' → m ≡ m' → (i ≡ i') × (w ≡ w')
    one_way root root e = (refl, refl)
    one_way root (past W' a') e = absurd (omega arith)
    one_way (past W a) root e = absurd (omega arith)
    one_way (past {j = j} W a) (past {j = j'} W' a') e =
        let q : j ≡ j' = same_node (one_way W W' (omega arith)).0 a.node a'.node in
        (ap (chosen pool n key) q, ap (λ (x : ℕ). branch pool n x + 1) q)

    -- every node before a reference that is met at walk depth w branches below w, so the first node with b >= f is the one with w <= f <= b
    pub earlier_below : {i w m j i' w' m' : ℕ} → Way pool n key i w m → Accepted pool n i w j → Way pool n key i' w' m' → m < m' → branch pool n j < w'
    earlier_below W a root h = absurd (omega arith)
    earlier_below {m = m} {j = j} W a (past {m = m'} {j = j'} W' a') h =
        elim (dec_lt m m') [
          | yes l ↦ omega (arith, earlier_below W a W' l, a'.deep)
          | no g ↦ omega (arith, ap (branch pool n) (same_node (one_way W W' (omega arith)).0 a.node a'.node))
        ]

    module _ (test : Test) where
      -- no node before the end of a way stops a walk with this test
      abbrev pub Passes : {i w m : ℕ} → Way pool n key i w m → Type 0
      Passes root = Unit {0}
      Passes (past {j = j} W a) = Passes W × (test key (header_at pool n j) (branch pool n j) ≡ false)

      -- so the walk comes along it
      comes : {i w m : ℕ} (W : Way pool n key i w m) → Passes W → walk_from 17 pool n key test walk.root ≡ walk_from 17 pool n key test (spot W)
      comes root p = refl
      comes (past {i} {w} {m} {j} W a) p =
          let s = spot_is W in
          let A : walk_end.Accepted pool n (spot W).depth (word_at pool (spot W).at) j (branch pool n j) = rw (s.0, s.1) (accepted a) in
          comes W p.0 ∙ sym (walk_on pool n key test (spot W) j (branch pool n j) A p.1)

      module _ {i w m : ℕ} (W : Way pool n key i w m) (p : Passes W) where
        -- and ends, or stops, where the way does
        pub passes_ends : (x : Ref) → at pool n i ≡ x → NoNode x → walk_from 17 pool n key test walk.root ≡ end_of (spot W) x
        passes_ends x e g =
            let s = spot_is W in
            comes W p ∙ walk_ends pool n key test 16 (spot W) x (rw s.0 e) g

        pub passes_breaks : Broken pool n i w → walk_from 17 pool n key test walk.root ≡ Damaged m (fault_at i w)
        passes_breaks b =
            let s = spot_is W in
            broken_case b (λ e. passes_ends Bad e tt ∙ rw (s.0, s.2, e))
            (λ j r. comes W p ∙ walk_damaged pool n key test 16 (spot W) j (rw (s.0, s.1) r) ∙ rw (s.1, s.2, r.refers))

        pub passes_stops : {j : ℕ} → Accepted pool n i w j → test key (header_at pool n j) (branch pool n j) ≡ true
            → walk_from 17 pool n key test walk.root ≡ Stopped (spot W) j (branch pool n j)
        passes_stops {j} a l =
            let s = spot_is W in
            comes W p ∙ walk_stops pool n key test 16 (spot W) j (branch pool n j) (rw (s.0, s.1) (accepted a)) l

    module _ (stop : ℕ) where
      -- of a walk that stops at `stop` or past it: every way that lies before
      passes_before : {i w m : ℕ} (W : Way pool n key i w m) → w ≤ stop → Passes (walk.past stop) W
      passes_before root h = tt
      passes_before (past {j = j} W a) h = (passes_before W (omega (arith, a.deep)), lt-leb stop (branch pool n j) (omega arith))

      module _ {i w m : ℕ} (W : Way pool n key i w m) (h : w ≤ stop) where
        pub ends : (x : Ref) → at pool n i ≡ x → NoNode x → walk_to pool n key stop ≡ end_of (spot W) x
        ends = passes_ends (walk.past stop) W (passes_before W h)

        pub breaks : Broken pool n i w → walk_to pool n key stop ≡ Damaged m (fault_at i w)
        breaks = passes_breaks (walk.past stop) W (passes_before W h)

        pub stops : {j : ℕ} → Accepted pool n i w j → stop ≤ branch pool n j → walk_to pool n key stop ≡ Stopped (spot W) j (branch pool n j)
        stops {j} a l = passes_stops (walk.past stop) W (passes_before W h) a (le-leb stop (branch pool n j) l)

    -- the plain walk
    module _ {i w m : ℕ} (W : Way pool n key i w m) where
      pub comes_to : (x : Ref) → at pool n i ≡ x → NoNode x → walk_of pool n key ≡ end_of (spot W) x
      comes_to = ends 16 W (way_depth W)

      pub comes_to_damage : Broken pool n i w → walk_of pool n key ≡ Damaged m (fault_at i w)
      comes_to_damage = breaks 16 W (way_depth W)

  -- every walk comes to an end, or to the first node that branches at `stop` or past it
  pub data First (key stop : ℕ) : Type 0 where
    first_empty : {i w m : ℕ} → Way pool n key i w m → w ≤ stop → at pool n i ≡ Empty → First key stop
    first_leaf : {i w m l : ℕ} → Way pool n key i w m → w ≤ stop → at pool n i ≡ Leaf l → First key stop
    first_broken : {i w m : ℕ} → Way pool n key i w m → w ≤ stop → Broken pool n i w → First key stop
    first_node : {i w m j : ℕ} → Way pool n key i w m → w ≤ stop → Accepted pool n i w j → stop ≤ branch pool n j → First key stop

  pub first : (key stop : ℕ) → First key stop
  first key stop = go 17 root (omega arith) (omega arith)
    where
      go : (f : ℕ) {i w m : ℕ} → Way pool n key i w m → w ≤ stop → 17 ≤ f + w → First key stop
      go zero W h l = absurd (omega (arith, way_depth W))
      go (suc f) {i} {w} W h l =
          elim (kind i w) [
            | empty e ↦ first_empty W h e
            | leaf x e ↦ first_leaf W h e
            | broken b ↦ first_broken W h b
            | node j a ↦ elim (dec_lt (branch pool n j) stop) [
              | yes q ↦ go f (past W a) (omega arith) (omega (arith, a.deep))
              | no q ↦ first_node W h a (omega arith)
            ]
          ]

  -- ---- the lowest leaf
  module _ (j : ℕ) where
    no_child_there : (c : ℕ) → is_child pool n j c ≡ false → child_at pool n j c ≡ 0
    no_child_there c e = eqb-true (child_at pool n j c) 0 (not-false (eqb (child_at pool n j c) 0) e)

    pub child_means : (c : ℕ) → child_at pool n j c ≢ 0 → at pool n (child_word n j c) ≢ Empty
    child_means c h e = h (ref_empty pool n 0 (child_at pool n j c) pool refl e)

    lowest_child_is : {c : ℕ} → LowestChild pool n j c → lowest_child pool n j ≡ c
    lowest_child_is {c} C = go (dec_lt (lowest_child pool n j) c) (dec_lt c (lowest_child pool n j))
      where
        found : lowest_child pool n j < 16
        found = (scan_finds 16 0 (is_child pool n j) c (omega arith) (omega (arith, C.place)) (is_child_lem pool n j c refl C.child)).0

        go : Dec (lowest_child pool n j < c) → Dec (c < lowest_child pool n j) → lowest_child pool n j ≡ c
        go (yes l) d = absurd (lowest_child_there pool n j found (C.before (lowest_child pool n j) l))
        go (no g) (yes l) = absurd (C.child (no_child_there c (scan_passes (is_child pool n j) 16 0 c (omega arith) l)))
        go (no g) (no h) = omega arith

    -- a node has a lowest child, or it is childless
    pub child? : ((c : ℕ) × LowestChild pool n j c) ⊎ (children_of pool n j ≡ 0)
    child? =
        elim (dec_lt (lowest_child pool n j) 16) [
          | yes l ↦ inl (
            lowest_child pool n j,
            record {
              place = l;
              child = lowest_child_there pool n j l;
              before = λ d h. no_child_there d (scan_passes (is_child pool n j) 16 0 d (omega arith) h);
            },
          )
          | no g ↦ inr (tally_none (is_child pool n j) 16 (λ d h. scan_passes (is_child pool n j) 16 0 d (omega arith) (omega arith)))
        ]

    childless_none : children_of pool n j ≡ 0 → 16 ≤ lowest_child pool n j
    childless_none z =
        elim (dec_lt (lowest_child pool n j) 16) [
          | yes l ↦ absurd (tally_some (is_child pool n j) 16 (lowest_child pool n j) l (scan_true (is_child pool n j) 16 0 l) z)
          | no g ↦ omega arith
        ]

  -- what the definition calls what a way down comes to
  abbrev pub told : Option ℕ → Fault → Result ℕ Fault
  told None f = Err f
  told (Some k) f = Ok k

  -- the word and the reason where it comes to damage
  pub fault_below : {i w : ℕ} {r : Option ℕ} → Lowest pool n i w r → Fault
  fault_below {i} (Lowest.leaf e) = bad_form i
  fault_below {i} {w} (Lowest.broken b) = fault_at i w
  fault_below (Lowest.childless {j = j} a z) = bad_form (node_word n j)
  fault_below (Lowest.under a C L) = fault_below L

  pub lowest_is : {i w : ℕ} {r : Option ℕ} → w ≤ 16 → (L : Lowest pool n i w r) → lowest_of pool n w i (word_at pool i) ≡ told r (fault_below L)
  unfolding fault_below
  lowest_is {i} {w} h (Lowest.leaf {l = l} e) = lowest_ends pool n 16 w i (word_at pool i) (Leaf l) e tt
  lowest_is {i} {w} h (Lowest.broken b) =
      broken_case b (λ e. lowest_ends pool n 16 w i (word_at pool i) Bad e tt ∙ rw e) (λ j r. lowest_damaged pool n 16 w i (word_at pool i) j r ∙ rw r.refers)
  lowest_is {i} {w} h (Lowest.childless {j = j} a z) =
      lowest_childless pool n 16 w i (word_at pool i) j (branch pool n j) (accepted a) (childless_none j z)
  lowest_is {i} {w} {r} h (Lowest.under {j = j} {c = c} a C L) =
      let e = lowest_child_is j C in
      sym (lowest_on pool n w i (word_at pool i) j (branch pool n j) (accepted a) (omega (arith, e, C.place)))
      ∙ rw e (lowest_is (omega (arith, a.high)) L)

  -- every reference but an empty one leads down to a leaf or to damage
  pub lowest_some : (i w : ℕ) → w ≤ 16 → at pool n i ≢ Empty → (r : Option ℕ) × Lowest pool n i w r
  lowest_some i w h e = go 17 i w h (omega arith) e
    where
      go : (f i w : ℕ) → w ≤ 16 → 17 ≤ f + w → at pool n i ≢ Empty → (r : Option ℕ) × Lowest pool n i w r
      go zero i w h l e = absurd (omega arith)
      go (suc f) i w h l e =
          elim (kind i w) [
            | empty q ↦ absurd (e q)
            | leaf x q ↦ (_, Lowest.leaf q)
            | broken b ↦ (_, Lowest.broken b)
            | node j a ↦ elim (child? j) [
              | inl (c, C) ↦
                  let (r, L) = go f (child_word n j c) (branch pool n j + 1) (omega (arith, a.high)) (omega (arith, a.deep)) (child_means j c C.child) in
                  (r, Lowest.under a C L)
              | inr z ↦ (_, Lowest.childless a z)
            ]
          ]
