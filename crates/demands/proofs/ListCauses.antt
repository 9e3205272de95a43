-- A listing's answer and its cause, in a pool of n leaves.
-- Assumes nothing.
use Rattle.std.specs.Prelude.{Some, Option, None}
use mathlib.Core.Path.{◌≡◌, refl, sym, ap, ◌∙◌}
use mathlib.Core.Bool.{Bool, true, false}
use mathlib.Core.Logic.{◌≢◌, inl, inr}
use mathlib.Core.List.{List, [], ◌∷◌, ◌++◌, map}
use Prim.Native.Nat.{ℕ, zero, suc, ◌+◌, ◌≤◌, ◌<◌}
use native.Mathlib.Decide.{dec_lt, dec_le}
use native.Mathlib.Omega.{arith}
use borrow.Author.Tests.{leb-true, lt-ltb, le-ltb, le-leb, lt-leb, eq-eqb, ne_eqb}
use lib.Dec.{eqb, leb}
use lib.ListN.{length, length-set}
use Rattle.digits.specs.Choice.{pick}
use Rattle.digits.specs.Loops.{upto}
use Rattle.pool.specs.Places.{word_at, key_at, value_at, child_at, child_word}
use Rattle.tree.proofs.Basics.{Same?, same, other, same?}
use Rattle.walk.specs.Walks.{children_of}
use Rattle.listing.specs.Listings.{Visit, state, visit, spoilt, leaf_of, visit_from, Told, listed, judged, list_in}
use Rattle.listing.proofs.Visits.{visit_over, visit_on, visit_node}
use Rattle.survey.specs.Soundness.{branch}
use Rattle.demands.specs.Ways.{in_turn, Meets, fitting, GoesOn, Visited, Listing}
use Rattle.demands.proofs.Ways.{empty, leaf, broken, node, kind, accepted, broken_case}

module _ (pool : List ℕ) (n from : ℕ) where
  -- ---- a visit that meets one thing after the other
  meet : Option ℕ → Visit → Visit
  meet None v = pick (eqb v.state.phase 0) (spoilt v) v
  meet (Some l) v = pick (eqb v.state.phase 0) (leaf_of n from (key_at pool l) (value_at pool l) v) v

  meets : List (Option ℕ) → Visit → Visit
  meets [] v = v
  meets (x ∷ items) v = meets items (meet x v)

  damage_met : {v : Visit} → v.state.phase ≡ 0 → spoilt v ≡ meet None v
  unfolding meet
  damage_met {v} h = rw (eq-eqb v.state.phase 0 h)

  meet_over : (x : Option ℕ) {v : Visit} → v.state.phase ≢ 0 → meet x v ≡ v
  unfolding meet
  meet_over None {v} h = rw (ne_eqb v.state.phase 0 h)
  meet_over (Some l) {v} h = rw (ne_eqb v.state.phase 0 h)

  meets_over : (items : List (Option ℕ)) {v : Visit} → v.state.phase ≢ 0 → meets items v ≡ v
  unfolding meets
  meets_over [] h = refl
  meets_over (x ∷ items) {v} h = ap (meets items) (meet_over x h) ∙ meets_over items h

  meets_append : (xs ys : List (Option ℕ)) (v : Visit) → meets (xs ++ ys) v ≡ meets ys (meets xs v)
  unfolding meets
  meets_append [] ys v = refl
  meets_append (x ∷ xs) ys v = meets_append xs ys (meet x v)

  -- a visit that goes on, or one that is over
  any_phase : (items : List (Option ℕ)) (w r : ℕ) → ((v : Visit) → v.state.phase ≡ 0 → visit_from 17 pool n from w r v ≡ meets items v)
      → (v : Visit) → visit_from 17 pool n from w r v ≡ meets items v
  any_phase items w r f v = go (same? v.state.phase 0)
    where
      go : Same? v.state.phase 0 → visit_from 17 pool n from w r v ≡ meets items v
      go (same e _) = f v e
      go (other h _) = visit_over pool n from 17 w r h ∙ sym (meets_over items h)

  kids_meet : (items : ℕ → List (Option ℕ)) (f : ℕ → Visit → Visit) → ((c : ℕ) → c < 16 → (v : Visit) → f c v ≡ meets (items c) v)
      → (c : ℕ) → c ≤ 16 → (v : Visit) → upto c f v ≡ meets (in_turn c items) v
  unfolding upto in_turn meets
  kids_meet items f h zero l v = refl
  kids_meet items f h (suc c) l v =
      h c (omega arith) (upto c f v) ∙ ap (meets (items c)) (kids_meet items f h c (omega arith) v) ∙ sym (meets_append (in_turn c items) (items c) v)

  -- a visit meets what the relation says
  visit_meets : {i w : ℕ} {items : List (Option ℕ)} → Meets pool n i w items → (v : Visit) → v.state.phase ≡ 0
      → visit_from 17 pool n from w (word_at pool i) v ≡ meets items v
  unfolding meets meet
  visit_meets {i} {w} (Meets.empty e) v h = visit_on pool n from 17 w (word_at pool i) v h refl e
  visit_meets {i} {w} (Meets.leaf e) v h = visit_on pool n from 17 w (word_at pool i) v h refl e ∙ rw (eq-eqb v.state.phase 0 h)
  visit_meets {i} {w} (Meets.broken b) v h =
      broken_case pool n b (λ e. visit_on pool n from 17 w (word_at pool i) v h refl e ∙ damage_met h)
      (λ j R. visit_node pool n from 17 w (word_at pool i) v (omega arith) h refl R.refers ∙ rw R.head (damage_met h))
  visit_meets {i} {w} (Meets.childless {j = j} a z) v h =
      visit_node pool n from 17 w (word_at pool i) v (omega arith) h refl a.node ∙ rw ((accepted pool n a).head, z) (damage_met h)
  visit_meets {i} {w} (Meets.node {j = j} items a z k) v h =
      visit_node pool n from 17 w (word_at pool i) v (omega arith) h refl a.node
      ∙ rw ((accepted pool n a).head, ne_eqb (children_of pool n j) 0 z)
      (kids_meet items (λ c. visit_from 17 pool n from (branch pool n j + 1) (child_at pool n j c))
      (λ c l. any_phase (items c) (branch pool n j + 1) (child_at pool n j c) (λ u e. visit_meets (k c l) u e)) 16 (omega arith) v)

  -- every visit meets something
  meets_some : (i w : ℕ) → w ≤ 16 → (items : List (Option ℕ)) × Meets pool n i w items
  meets_some i w h = go 17 i w h (omega arith)
    where
      go : (f i w : ℕ) → w ≤ 16 → 17 ≤ f + w → (items : List (Option ℕ)) × Meets pool n i w items
      go zero i w h l = absurd (omega arith)
      go (suc f) i w h l =
          elim (kind pool n i w) [
            | empty e ↦ (_, Meets.empty e)
            | leaf x e ↦ (_, Meets.leaf e)
            | broken b ↦ (_, Meets.broken b)
            | node j a ↦
                let kid : (c : ℕ) → (items : List (Option ℕ)) × Meets pool n (child_word n j c) (branch pool n j + 1) items
                = λ c. go f (child_word n j c) (branch pool n j + 1) (omega (arith, a.high)) (omega (arith, a.deep)) in
                elim (same? (children_of pool n j) 0) [
                  | same z q ↦ (_, Meets.childless a z)
                  | other z q ↦ (_, Meets.node (λ c. (kid c).0) a z (λ c x. (kid c).1))
                ]
          ]

  -- ---- the leaves that are met before the visit ends
  module _ (room : ℕ) where
    -- the visit goes on, after so many leaves of which so many were handed out
    record Going (v : Visit) (m c : ℕ) : Type 0 where
      phase≡ : v.state.phase ≡ 0
      met≡ : v.state.met ≡ m
      count≡ : v.state.count ≡ c
      room≡ : length v.keys ≡ room

    -- one leaf more
    leaf_met_lem : (l : ℕ) {v : Visit} {m c : ℕ} → Going v m c → m < n → c + pick (leb from (key_at pool l)) 1 0 ≤ room
        → Going (meet (Some l) v) (m + 1) (c + pick (leb from (key_at pool l)) 1 0)
    unfolding meet leaf_of
    leaf_met_lem l {v} {m} {c} G h r = go (dec_lt (key_at pool l) from)
      where
        few : leb n v.state.met ≡ false
        few = lt-leb n v.state.met (omega (arith, G.met≡))

        on : eqb v.state.phase 0 ≡ true
        on = eq-eqb v.state.phase 0 G.phase≡

        go : Dec (key_at pool l < from) → Going (meet (Some l) v) (m + 1) (c + pick (leb from (key_at pool l)) 1 0)
        go (yes g) = rw (on, few, lt-ltb (key_at pool l) from g, lt-leb from (key_at pool l) g)
            (record { phase≡ = refl; met≡ = omega (arith, G.met≡); count≡ = omega (arith, G.count≡); room≡ = G.room≡ })
        go (no g) =
            let q : leb from (key_at pool l) ≡ true = le-leb from (key_at pool l) (omega arith) in
            let s = rw q at r in
            rw (on, few, le-ltb (key_at pool l) from (omega arith), q, lt-leb (length v.keys) v.state.count (omega (arith, G.room≡, G.count≡)))
            (record { phase≡ = refl; met≡ = omega (arith, G.met≡); count≡ = omega (arith, G.count≡); room≡ = simp length-set G.room≡ })

    counted : {v : Visit} {m m' c c' : ℕ} → Going v m c → m ≡ m' → c ≡ c' → Going v m' c'
    counted G p q = record { phase≡ = G.phase≡; met≡ = G.met≡ ∙ p; count≡ = G.count≡ ∙ q; room≡ = G.room≡ }

    leaves_met : (ls : List ℕ) {v : Visit} {m c : ℕ} → Going v m c → m + length ls ≤ n → c + fitting pool from ls ≤ room
        → Going (meets (map Some ls) v) (m + length ls) (c + fitting pool from ls)
    unfolding meets fitting
    leaves_met [] {v} {m} {c} G h r = counted G (omega arith) (omega arith)
    leaves_met (l ∷ ls) {v} {m} {c} G h r =
        counted (leaves_met ls (leaf_met_lem l G (omega arith) (omega arith)) (omega arith) (omega arith)) (omega arith) (omega arith)

    -- ---- what the answer is
    going_answer : {v : Visit} {m c : ℕ} → Going v m c → (judged v).answer ≡ listed 0 c false
    unfolding judged
    going_answer {v} G = rw (G.phase≡, G.count≡)

    damaged_answer : (v : Visit) → v.state.phase ≡ 2 → (judged v).answer ≡ listed 2 0 false
    unfolding judged
    damaged_answer v e = rw e

    further_answer : (v : Visit) → v.state.phase ≡ 1 → v.state.count ≡ room → (judged v).answer ≡ listed 0 room true
    unfolding judged
    further_answer v e q = rw (e, q)

    module _ (v : Visit) (start : Going v 0 0) where
      abbrev whole : Visit
      whole = visit_from 17 pool n from 0 (word_at pool 1) v

      gone : (ls : List ℕ) → GoesOn pool n from room ls → Going (meets (map Some ls) v) (length ls) (fitting pool from ls)
      gone ls g = counted (leaves_met ls start (omega (arith, g.few)) (omega (arith, g.fit))) (omega arith) (omega arith)

      -- a visit that is over with what it meets after the leaves ls
      ended : (ls : List ℕ) (x : Option ℕ) (rest : List (Option ℕ)) (u : Visit) → Meets pool n 1 0 (map Some ls ++ x ∷ rest)
          → meet x (meets (map Some ls) v) ≡ u → u.state.phase ≢ 0 → whole ≡ u
      unfolding meets
      ended ls x rest u M e h =
          visit_meets M v start.phase≡ ∙ meets_append (map Some ls) (x ∷ rest) v ∙ ap (meets rest) e ∙ meets_over rest h

      visited_is : (a : Told) → Visited pool n from room a → (judged whole).answer ≡ a
      unfolding meet leaf_of
      visited_is a (Visited.all ls M g) = rw (visit_meets M v start.phase≡) (going_answer (gone ls g))
      visited_is a (Visited.further ls l rest M g q f k) =
          let G = gone ls g in
          let u = meets (map Some ls) v in
          rw (ended ls (Some l) rest (visit u.keys u.values (state u.state.count (u.state.met + 1) 1)) M
          (rw (
            G.phase≡,
            lt-leb n u.state.met (omega (arith, G.met≡)),
            le-ltb (key_at pool l) from k,
            le-leb (length u.keys) u.state.count (omega (arith, G.room≡, G.count≡)),
          )) (λ z. omega arith))
          (further_answer _ refl (G.count≡ ∙ f))
      visited_is a (Visited.damage ls rest M g) =
          let G = gone ls g in
          let u = meets (map Some ls) v in
          rw (ended ls None rest (spoilt u) M (rw G.phase≡) (λ z. omega arith)) (damaged_answer (spoilt u) refl)
      visited_is a (Visited.more ls l rest M g q) =
          let G = gone ls g in
          let u = meets (map Some ls) v in
          rw (ended ls (Some l) rest (spoilt u) M (rw (G.phase≡, le-leb n u.state.met (omega (arith, G.met≡)))) (λ z. omega arith))
          (damaged_answer (spoilt u) refl)

    -- ---- every visit ends in one of these ways
    -- where m leaves were met and c handed out before
    data Ends (m c : ℕ) : List (Option ℕ) → Type 0 where
      in_all : (ls : List ℕ) → m + length ls ≤ n → c + fitting pool from ls ≤ room → Ends m c (map Some ls)
      in_further : (ls : List ℕ) (l : ℕ) (rest : List (Option ℕ)) → m + length ls < n → c + fitting pool from ls ≡ room → from ≤ key_at pool l
          → Ends m c (map Some ls ++ Some l ∷ rest)
      in_damage : (ls : List ℕ) (rest : List (Option ℕ)) → m + length ls ≤ n → c + fitting pool from ls ≤ room → Ends m c (map Some ls ++ None ∷ rest)
      in_more : (ls : List ℕ) (l : ℕ) (rest : List (Option ℕ)) → m + length ls ≡ n → c + fitting pool from ls ≤ room
          → Ends m c (map Some ls ++ Some l ∷ rest)

    ends_later : (l : ℕ) {m c : ℕ} {items : List (Option ℕ)} → Ends (m + 1) (c + pick (leb from (key_at pool l)) 1 0) items → Ends m c (Some l ∷ items)
    unfolding fitting
    ends_later l (in_all ls h r) = in_all (l ∷ ls) (omega arith) (omega arith)
    ends_later l (in_further ls k rest h r q) = in_further (l ∷ ls) k rest (omega arith) (omega arith) q
    ends_later l (in_damage ls rest h r) = in_damage (l ∷ ls) rest (omega arith) (omega arith)
    ends_later l (in_more ls k rest h r) = in_more (l ∷ ls) k rest (omega arith) (omega arith)

    ends_some : (items : List (Option ℕ)) (m c : ℕ) → m ≤ n → c ≤ room → Ends m c items
    unfolding fitting
    ends_some [] m c h r = in_all [] (omega arith) (omega arith)
    ends_some (None ∷ items) m c h r = in_damage [] items (omega arith) (omega arith)
    ends_some (Some l ∷ items) m c h r =
        elim (dec_lt m n) [
          | yes g ↦ elim (dec_le (c + pick (leb from (key_at pool l)) 1 0) room) [
            | yes q ↦ ends_later l (ends_some items (m + 1) (c + pick (leb from (key_at pool l)) 1 0) (omega arith) q)
            | no q ↦ let (k, e) = full c r (key_at pool l) (omega arith) in in_further [] l items (omega arith) (omega arith) k
          ]
          | no g ↦ in_more [] l items (omega arith) (omega arith)
        ]
      where
        full : (c : ℕ) → c ≤ room → (key : ℕ) → room < c + pick (leb from key) 1 0 → (from ≤ key) × (c ≡ room)
        full c r key q = go (leb from key) refl q
          where
            go : (t : Bool) → leb from key ≡ t → room < c + pick t 1 0 → (from ≤ key) × (c ≡ room)
            go true e q = (leb-true from key e, omega arith)
            go false e q = absurd (omega arith)

    visited_some : (a : Told) × Visited pool n from room a
    visited_some = let (items, M) = meets_some 1 0 (omega arith) in go (ends_some items 0 0 (omega arith) (omega arith)) M
      where
        on : (ls : List ℕ) → 0 + length ls ≤ n → 0 + fitting pool from ls ≤ room → GoesOn pool n from room ls
        on ls h r = record { few = omega arith; fit = omega arith }

        go : {items : List (Option ℕ)} → Ends 0 0 items → Meets pool n 1 0 items → (a : Told) × Visited pool n from room a
        go (in_all ls h r) M = (_, Visited.all ls M (on ls h r))
        go (in_further ls l rest h r k) M = (_, Visited.further ls l rest M (on ls (omega arith) (omega arith)) (omega arith) (omega arith) k)
        go (in_damage ls rest h r) M = (_, Visited.damage ls rest M (on ls h r))
        go (in_more ls l rest h r) M = (_, Visited.more ls l rest M (on ls (omega arith) r) (omega arith))

module _ (pool : List ℕ) (n from : ℕ) (ks vs : List ℕ) where
  pub list_is : (a : Told) → Listing pool n from (length ks) (length vs) a → (list_in pool from ks vs (Some n)).answer ≡ a
  list_is a (Listing.buffers (inl z)) = rw (eq-eqb (length ks) 0 z)
  list_is a (Listing.buffers (inr h)) = go (same? (length ks) 0)
    where
      go : Same? (length ks) 0 → (list_in pool from ks vs (Some n)).answer ≡ listed 6 0 false
      go (same _ q) = rw q
      go (other _ q) = rw (q, ne_eqb (length ks) (length vs) h)
  list_is a (Listing.visited h e D) =
      rw (ne_eqb (length ks) 0 h, eq-eqb (length ks) (length vs) e)
      (visited_is pool n from (length ks) (visit ks vs (state 0 0 0)) (record { phase≡ = refl; met≡ = refl; count≡ = refl; room≡ = refl }) a D)

  pub list_some : (a : Told) × Listing pool n from (length ks) (length vs) a
  list_some = go (same? (length ks) 0) (same? (length ks) (length vs))
    where
      go : Same? (length ks) 0 → Same? (length ks) (length vs) → (a : Told) × Listing pool n from (length ks) (length vs) a
      go (same z _) s = (_, Listing.buffers (inl z))
      go (other z _) (other h _) = (_, Listing.buffers (inr h))
      go (other z _) (same e _) = let (a, D) = visited_some pool n from (length ks) in (a, Listing.visited z e D)
