-- In every state that demand 3 reaches at most one header is stale; where there is a map none is.
-- Assumes nothing.
use Rattle.std.specs.Prelude.{None, Option, Some}
use mathlib.Core.Path.{◌≡◌, refl, sym, ap, ◌∙◌, subst}
use mathlib.Core.Bool.{Bool}
use mathlib.Core.List.{List, ◌∷◌, ◌++◌}
use Prim.Native.Nat.{ℕ, ◌+◌, ◌-◌, ◌<◌}
use native.Mathlib.Omega.{arith}
use lib.ListN.{length}
use Rattle.pool.specs.Sizes.{size_of, capacity_of, bytes_of, Measured}
use Rattle.pool.specs.Places.{word_at, node_word}
use Rattle.pool.specs.Refs.{ref_of}
use Rattle.pool.specs.declared.Ref.TheVariants.{Empty, Node}
use Rattle.pool.proofs.Sizes.{size_fits}
use Rattle.tree.specs.Tree.{Tree}
use Rattle.tree.specs.Straight.{StraightBut}
use Rattle.tree.specs.Stores.{Store, run, Part, made as kept}
use Rattle.tree.proofs.Stores.{Words, words_part, part_all}
use Rattle.tree.proofs.Basics.{Same?, same, other, same?}
use Rattle.tree.proofs.Straight.{straight_same}
use Rattle.layout.specs.Layout.{Held}
use Rattle.layout.specs.Switches.{depths, NoneStale, OneStale}
use Rattle.layout.proofs.Stales.{depths_same}
use Rattle.plan.specs.Plans.{made, Decided}
use Rattle.plan.proofs.Laws.{made_run}
use Rattle.held.specs.Ways.{mem}
use Rattle.survey.specs.Soundness.{at, Reached, root, child, Stale, Straight}
use Rattle.survey.proofs.SoundHeld.{sound_capacity}
use Rattle.survey.proofs.Stales.{none_stale, one_stale, straight_tree}
use Rattle.writing.specs.Calls.{Left, format_of, format_in}
use Rattle.opening.specs.Openings.{open_of, open_steps}
use Rattle.opening.proofs.HeldOpens.{steps_pool, steps_stale}
use Rattle.demands.specs.Tables.{Table}
use Rattle.demands.specs.Demand3.{Generation, Op, planned, AtMostOneStale}
use Rattle.demands.specs.Demand3.{Reach, fresh, existing, done, stepped, refused, cut, lost, reopening, opened}
use Rattle.demands.proofs.States.{State, fits, stored}
use Rattle.demands.proofs.Operations.{part_first, part_both, Turns, turns, cut_case}
use Rattle.demands.proofs.Cuts.{Loosely, cuts_loosely}
use Rattle.demands.proofs.Operations.{whole_number, by_plan_whole, whole_done, whole_refused}
use Rattle.demands.proofs.Opening.{opens}
use Rattle.demands.proofs.Demand3.{root_blank, open_state, stores_some, reach_state, promised}

-- no node is stale but one at most
abbrev Only : ℕ → List ℕ → Type 0
Only n pool = (y : ℕ) × ((j : ℕ) → Stale pool n j → j ≡ y)

-- which nodes of a state may be stale: node y at most, and none where there is a map
record Stales (n : ℕ) (pool : List ℕ) (map : Option (List ℕ)) : Type 0 where
  y : ℕ
  only : (j : ℕ) → Stale pool n j → j ≡ y
  none_there : (bytes : List ℕ) → map ≡ Some bytes → (j : ℕ) → Stale pool n j → ⊥

all_fresh : (n : ℕ) (pool : List ℕ) (map : Option (List ℕ)) → ((j : ℕ) → Stale pool n j → ⊥) → Stales n pool map
all_fresh n pool map e = record { y = 0; only = λ j S. absurd (e j S); none_there = λ bytes q. e }

unmapped : {n : ℕ} {pool : List ℕ} → Only n pool → Stales n pool None
unmapped o = record { y = o.0; only = o.1; none_there = λ bytes e. let z : ◌≡◌ {A = ℕ} 0 1 = cc in absurd (omega arith) }

-- ---- a pool whose root is empty has no node
root_empty : (n : ℕ) (pool : List ℕ) → word_at pool 1 ≡ 0 → (j : ℕ) → Stale pool n j → ⊥
unfolding ref_of
root_empty n pool z j S = go S.reached S.node
  where
    go : {i w j : ℕ} → Reached pool n i w → at pool n i ≡ Node j → ⊥
    go {j = j} root e =
        let q : Empty ≡ Node j = rw z at e in
        let o : ◌≡◌ {A = ℕ} 0 1 = cc in
        omega arith
    go (child j' c R e' l) e = go R e'

format_root : (n : ℕ) (pool map : List ℕ) → (format_of pool map n).number ≡ 0 → word_at (format_of pool map n).pool 1 ≡ 0
unfolding format_of
format_root n pool map z = go (size_of (length pool) n) (size_fits pool n) z
  where
    go : (s : Option ℕ) → Measured pool s → (format_in pool map s).number ≡ 0 → word_at (format_in pool map s).pool 1 ≡ 0
    go (Some m) sized z = mapped (same? (length map) (bytes_of m))
      where
        mapped : Same? (length map) (bytes_of m) → word_at (format_in pool map (Some m)).pool 1 ≡ 0
        mapped (same e q) = rw q (root_blank m pool (omega (arith, sized.words, sized.some)))
        mapped (other e q) = absurd (omega (arith, rw q at z))
    go None sized z = absurd (omega (arith, z))

-- ---- a pool that an opening has left
straight_none : (n : ℕ) (pool : List ℕ) → capacity_of pool ≡ Some n → Straight pool → (j : ℕ) → Stale pool n j → ⊥
straight_none n pool size X j S = X.none_stale j (subst (λ (m : ℕ). Stale pool m j) (sym (sound_capacity pool n X.sound size)) S)

-- ---- puts and deletes
module _ {n : ℕ} {pool bytes : List ℕ} {T : Table} (S : State n pool (Some bytes) T) (clean : (j : ℕ) → Stale pool n j → ⊥) where
  -- the tree is straight
  straight : NoneStale n (mem pool) S.t
  straight = straight_tree pool n (λ x. ⊥) clean S.t S.holds.held

  -- headers after stores
  made_straight : (τ : List Store) → Words (λ w. w < length pool) τ → (but : ℕ → Type 0) (t : Tree ℕ)
      → StraightBut (depths n (run τ (mem pool))) but 0 t → StraightBut (depths n (mem (made τ pool))) but 0 t
  made_straight τ inside but t =
      straight_same (depths n (run τ (mem pool))) (depths n (mem (made τ pool))) but 0 t
      (λ x h o. depths_same n (run τ (mem pool)) (mem (made τ pool)) x (λ l. made_run τ pool inside (node_word n (x - n))))

  module _ (o : Op) (z : (planned o pool bytes).number ≡ 0) where
    abbrev U : Turns o n pool S.t T (planned o pool bytes)
    U = turns S o z

    abbrev all : List Store
    all = U.before ++ U.switch ∷ U.rest

    -- when all is stored no node is stale
    made_none : (j : ℕ) → Stale (made (planned o pool bytes).stores pool) n j → ⊥
    made_none =
        rw (ap (λ (d : Decided). d.stores) U.plan)
        (none_stale (made all pool) n U.switches.after
        (stored S all U.inside U.above U.switches.after (U.switches.since U.rest (part_all U.rest))).held
        (made_straight all U.inside (λ x. ⊥) U.switches.after (U.switches.stales straight).whole))

    -- when some of it is, one at most
    some_only : (τ : List Store) (t : Tree ℕ) → Part all τ → Held 16 n (run τ (mem pool)) t → OneStale n (run τ (mem pool)) t → Only n (made τ pool)
    some_only τ t p H O =
        let inside = words_part (λ w. w < length pool) all τ p U.inside in
        let above = words_part (λ w. 0 < w) all τ p U.above in
        let O' : OneStale n (mem (made τ pool)) t = record { slot = O.slot; straight = made_straight τ inside (λ x. x ≡ O.slot) t O.straight } in
        (O.slot - n, λ j X. omega (arith, one_stale (made τ pool) n t (stored S τ inside above t H).held O' j X))

  cut_only : (o : Op) (z : (planned o pool bytes).number ≡ 0) {τ : List Store} {b : Bool} → Loosely o (planned o pool bytes).stores τ b → Only n (made τ pool)
  cut_only =
      cut_case S (λ o τ b. Only n (made τ pool))
      (λ o z τ p.
      let W = turns S o z in
      some_only o z τ S.t (part_first W.before (W.switch ∷ W.rest) τ p) (W.switches.before τ p) ((W.switches.stales straight).before τ p))
      (λ o z τ p.
      let W = turns S o z in
      some_only o z (W.before ++ W.switch ∷ τ) W.switches.after (part_both W.before (W.switch ∷ W.rest) (W.switch ∷ τ) (kept p))
      (W.switches.since τ p) ((W.switches.stales straight).since τ p))

-- ---- every state that is reached
module _ (g : Generation) where
  reach_stales : {n : ℕ} {pool : List ℕ} {map : Option (List ℕ)} {T : Table} → Reach Straight g n pool map T → Stales n pool map
  reach_stales {n = n} (fresh pool map z) = all_fresh n _ _ (root_empty n (format_of pool map n).pool (format_root n pool map z))
  reach_stales {n = n} (existing {pool = pool} s e b ok r) =
      all_fresh n _ _ (straight_none n pool (s.size ∙ ap Some e) b)
  reach_stales {n = n} (done {pool = pool} {map = map} o w r z) =
      let S = reach_state g r in
      let p : (planned o pool map).number ≡ 0 = sym (whole_number S o) ∙ z in
      all_fresh n _ _ (rw (whole_done S o p) (made_none S ((reach_stales r).none_there map refl) o p))
  reach_stales {n = n} (stepped {pool = pool} {map = map} o r z) =
      let S = reach_state g r in
      all_fresh n _ _
      (subst (λ (l : Left). (j : ℕ) → Stale l.pool n j → ⊥) (sym (by_plan_whole S g o ∙ whole_done S o z))
      (made_none S ((reach_stales r).none_there map refl) o z))
  reach_stales {n = n} (refused {map = map} o w r z) =
      let S = reach_state g r in
      all_fresh n _ _ (rw (whole_refused S o (λ p. z (whole_number S o ∙ p))) ((reach_stales r).none_there map refl))
  reach_stales (cut {pool = pool} {map = map} o τ b r z c) =
      let S = reach_state g r in
      unmapped (cut_only S ((reach_stales r).none_there map refl) o z (cuts_loosely g o (planned o pool map).stores τ b (stores_some S o z) c))
  reach_stales (lost r) = let X = reach_stales r in unmapped (X.y, X.only)
  reach_stales {n = n} (reopening {pool = pool} k r) =
      let S = reach_state g r in
      let X = reach_stales r in
      let O : OneStale n (mem pool) S.t = record {
        slot = n + X.y;
        straight = straight_tree pool n (λ x. x ≡ n + X.y) (λ j e. ap (λ (i : ℕ). n + i) (X.only j e)) S.t S.holds.held;
      } in
      let O' = steps_stale n S.pos S.cap S.t k pool S.holds O in
      let P = steps_pool n S.pos S.cap S.t k pool S.holds in
      unmapped (O'.slot - n, λ j e. omega (arith, one_stale (open_steps k pool) n S.t P.held O' j e))
  reach_stales {n = n} (opened {pool = pool} bytes u r e) =
      let S = reach_state g r in
      let done-there : (open_of pool bytes).answer.number ≡ 0 = (promised S).opens bytes e in
      all_fresh n _ _ (straight_none n (open_of pool bytes).pool (fits (open_state S bytes e)) (opens.restores pool bytes done-there).after)

  pub at_most_one : AtMostOneStale g
  at_most_one n pool map T r j j' e e' = let X = reach_stales r in X.only j e ∙ sym (X.only j' e')
