-- What a put or a delete does to a state, done, refused or cut.
-- Assumes nothing.
use Rattle.std.specs.Prelude.{Option, Some, None}
use mathlib.Core.Path.{◌≡◌, refl, sym, ap, ◌∙◌, subst}
use mathlib.Core.Bool.{Bool, true, false}
use mathlib.Core.Logic.{◌≢◌, inl, inr}
use mathlib.Core.List.{List, [], ◌∷◌, ◌++◌}
use Prim.Native.Nat.{ℕ, ◌+◌, ◌-◌, ◌<◌}
use native.Mathlib.Omega.{arith}
use borrow.Author.Tests.{eq-eqb, ne_eqb}
use lib.ListN.{length, take, length-append}
use lib.Seq.{take-append-le, take_all}
use Rattle.digits.specs.Choice.{pick}
use Rattle.pool.specs.Sizes.{bytes_of}
use Rattle.tree.specs.Tree.{Tree, mult, find}
use Rattle.tree.specs.Changes.{occurs, Adds, Removes}
use Rattle.tree.specs.Stores.{Store, run, Part, done, made as kept, lost}
use Rattle.tree.proofs.Basics.{Same?, same, other, same?}
use Rattle.tree.proofs.Stores.{Words, words_part, part_all, part_none}
use Rattle.layout.specs.Layout.{Held}
use Rattle.layout.specs.Switches.{Switches}
use Rattle.plan.specs.Plans.{made, Decided, decided, refused}
use Rattle.finishing.specs.Finishes.{finish_of}
use Rattle.plan.specs.Effects.{takes, frees, Inside}
use Rattle.plan.specs.declared.Effect.{Effect}
use Rattle.held.specs.Ways.{dig, mem}
use Rattle.held.specs.Maps.{Marked}
use Rattle.listing.specs.Rows.{Word}
use Rattle.rules.specs.Puts.{put_plan}
use Rattle.rules.specs.Deletes.{delete_plan}
use Rattle.writing.specs.Calls.{Left, whole_of, put_of, delete_of}
use Rattle.rules.proofs.Fits.{put_inside, put_named, delete_inside, delete_named}
use Rattle.rules.proofs.HeldPuts.{PutIs, full, does, put_is, put_retired}
use Rattle.rules.proofs.HeldDeletes.{DeleteIs, absent, does as deletes, delete_is}
use Rattle.demands.specs.Tables.{Table, given, without, Names}
use Rattle.demands.specs.ByPlan.{Known}
use Rattle.demands.specs.Demand3.{Generation, ADR, EADR, number_of, Op, put, delete, planned, whole, by_plan, effect}
use Rattle.demands.proofs.Cuts.{Loosely, put_before, put_whole, delete_before, delete_since}
use Rattle.demands.proofs.ByPlan.{put_carried, delete_carried}
use Rattle.demands.proofs.States.{State, fits, tree_names, stored, finish_marks}

-- ---- parts
pub part_first : (σ ρ τ : List Store) → Part σ τ → Part (σ ++ ρ) τ
part_first σ ρ τ done = part_none ρ
part_first σ ρ τ (kept {σ = σ'} {τ = τ'} p) = kept (part_first σ' ρ τ' p)
part_first σ ρ τ (lost {σ = σ'} {τ = τ'} p) = lost (part_first σ' ρ τ p)

pub part_both : (σ ρ τ : List Store) → Part ρ τ → Part (σ ++ ρ) (σ ++ τ)
part_both [] ρ τ p = p
part_both (s ∷ σ) ρ τ p = kept (part_both σ ρ τ p)

-- all but the last
but_last : (σ : List Store) (s : Store) → take (length (σ ++ s ∷ []) - 1) (σ ++ s ∷ []) ≡ σ
but_last σ s =
    let e : length (σ ++ s ∷ []) - 1 ≡ length σ = omega (arith, length-append σ (s ∷ [])) in
    rw e (take-append-le (length σ) σ (s ∷ []) (omega arith) ∙ take_all (length σ) σ (omega arith))

-- ---- what an operation does to a table
pub effect_names : (o : Op) (T : Table) → Names T → Names (effect o T)
effect_names (put k v h) T ok k' v' e = go (same? k' k)
  where
    go : Same? k' k → Word k'
    go (same i q) = rw i h
    go (other i q) = ok k' v' (rw q at e)
effect_names (delete k h) T ok k' v' e = go (same? k' k)
  where
    go : Same? k' k → Word k'
    go (same i q) = rw i h
    go (other i q) = ok k' v' (rw q at e)

module _ (T : Table) (t t' : Tree ℕ) (is : (k : ℕ) → T k ≡ find dig k t) (k : ℕ) where
  adds_given : (v : ℕ) (taken : List ℕ) → Adds dig k v taken t t' → (k' : ℕ) → given k v T k' ≡ find dig k' t'
  adds_given v taken A k' = go (same? k' k)
    where
      go : Same? k' k → given k v T k' ≡ find dig k' t'
      go (same i q) = rw (q, i) (sym A.found)
      go (other i q) = rw q (is k' ∙ sym (A.others k' i))

  removes_without : (freed : List ℕ) → Removes dig k freed t t' → (k' : ℕ) → without k T k' ≡ find dig k' t'
  removes_without freed R k' = go (same? k' k)
    where
      go : Same? k' k → without k T k' ≡ find dig k' t'
      go (same i q) = rw (q, i) (sym R.gone)
      go (other i q) = rw q (is k' ∙ sym (R.others k' i))

-- ---- what its plan does to a state
-- a put switches at its last store, a delete at its first
abbrev From : Op → List Store → List Store → Type 0
From (put k v h) σ ρ = ρ ≡ []
From (delete k h) σ ρ = σ ≡ []

-- the tree becomes the changed table, with the slots that the effect takes and without those that it frees
abbrev Becomes : Tree ℕ → Table → Effect → Tree ℕ → Type 0
Becomes t T' e t' = ((k : ℕ) → T' k ≡ find dig k t') × ((x : ℕ) → mult x t' + occurs x (frees e) ≡ mult x t + occurs x (takes e))

pub record Turns (o : Op) (n : ℕ) (pool : List ℕ) (t : Tree ℕ) (T : Table) (d : Decided) : Type 0 where
  pub before : List Store
  pub switch : Store
  pub rest : List Store
  pub marks : Effect
  pub plan : d ≡ decided (before ++ switch ∷ rest) marks
  pub from : From o before rest
  pub switches : Switches 16 n (mem pool) before switch rest t (Becomes t (effect o T) marks)
  pub inside : Words (λ w. w < length pool) (before ++ switch ∷ rest)
  pub above : Words (λ w. 0 < w) (before ++ switch ∷ rest)
  pub named : Inside marks (bytes_of n)

known_number : (g : Generation) → Known (number_of g)
known_number ADR = inl refl
known_number EADR = inr refl

module _ {n : ℕ} {pool bytes : List ℕ} {T : Table} (S : State n pool (Some bytes) T) where
  abbrev t : Tree ℕ
  t = S.t

  M : Marked n bytes t
  M = S.marks bytes refl

  pub put_is_here : (k v : ℕ) → Word k → v ≢ 0 → PutIs pool n t k v (put_plan pool bytes k v)
  put_is_here k v h some-file = put_is pool bytes n S.pos S.cap t S.holds.held M k v (tree_names S) h some-file (fits S)

  pub put_retired_here : (k : ℕ) → put_plan pool bytes k 0 ≡ refused 7
  put_retired_here k = put_retired pool bytes n k (fits S) M.size

  pub delete_is_here : (k : ℕ) → DeleteIs pool n t k (delete_plan pool k)
  delete_is_here k = delete_is pool n t S.holds.held k (fits S)

  -- a plan that is not refused turns the state
  pub turns : (o : Op) → (planned o pool bytes).number ≡ 0 → Turns o n pool t T (planned o pool bytes)
  unfolding occurs
  turns (put k v h) z = by_file (same? v 0)
    where
      go : PutIs pool n t k v (put_plan pool bytes k v) → Turns (put k v h) n pool t T (put_plan pool bytes k v)
      go (full e new all) = let q : ◌≡◌ {A = ℕ} 4 0 = sym (ap (λ (d : Decided). d.number) e) ∙ z in absurd (omega arith)
      go (does o e p W frees-none room above) = record {
        before = o.first;
        switch = o.last;
        rest = [];
        marks = e;
        plan = p;
        from = refl;
        switches = record {
          before = W.before;
          after = W.after;
          since = W.since;
          becomes = (adds_given T t W.after S.table k v (takes e) W.becomes, λ x. omega (arith, W.becomes.slots x, ap (occurs x) frees-none));
          stales = W.stales;
        };
        inside = subst (λ (d : Decided). Words (λ w. w < length pool) d.stores) p (put_inside pool bytes k v);
        above = above;
        named = subst (λ (d : Decided). Inside d.effect (bytes_of n)) p (rw M.size at (put_named pool bytes k v));
      }

      by_file : Same? v 0 → Turns (put k v h) n pool t T (put_plan pool bytes k v)
      by_file (same e q) =
          let r : ◌≡◌ {A = ℕ} 7 0 = sym (ap (λ (d : Decided). d.number) (put_retired_here k)) ∙ ap (λ (x : ℕ). (put_plan pool bytes k x).number) (sym e) ∙ z in
          absurd (omega arith)
      by_file (other e q) = go (put_is_here k v h e)
  turns (delete k h) z = go (delete_is_here k)
    where
      go : DeleteIs pool n t k (delete_plan pool k) → Turns (delete k h) n pool t T (delete_plan pool k)
      go (absent e gone) = let q : ◌≡◌ {A = ℕ} 3 0 = sym (ap (λ (d : Decided). d.number) e) ∙ z in absurd (omega arith)
      go (deletes o e v p W Takes-none found above) = record {
        before = [];
        switch = o.first;
        rest = o.rest;
        marks = e;
        plan = p;
        from = refl;
        switches = record {
          before = W.before;
          after = W.after;
          since = W.since;
          becomes = (removes_without T t W.after S.table k (frees e) W.becomes, λ x. omega (arith, W.becomes.slots x, ap (occurs x) Takes-none));
          stales = W.stales;
        };
        inside = subst (λ (d : Decided). Words (λ w. w < length pool) d.stores) p (delete_inside pool k);
        above = above;
        named = subst (λ (d : Decided). Inside d.effect (bytes_of n)) p (delete_named pool k (fits S));
      }

  -- ---- a whole call
  pub whole_is : (o : Op) → whole o pool bytes ≡ whole_of (planned o pool bytes) pool bytes
  unfolding put_of delete_of
  whole_is (put k v h) = refl
  whole_is (delete k h) = rw (fits S, eq-eqb (length bytes) (bytes_of n) M.size)

  abbrev whole_made : (d : Decided) → Left
  whole_made d = record { done = record { number = 0; stores = length d.stores }; pool = made d.stores pool; map = (finish_of d.effect bytes).left }

  pub whole_number : (o : Op) → (whole o pool bytes).done.number ≡ (planned o pool bytes).number
  whole_number o = ap (λ (l : Left). l.done.number) (whole_is o) ∙ go (same? (planned o pool bytes).number 0)
    where
      go : Same? (planned o pool bytes).number 0 → (whole_of (planned o pool bytes) pool bytes).done.number ≡ (planned o pool bytes).number
      go (same e q) = rw q (sym e)
      go (other e q) = rw q

  pub whole_done : (o : Op) → (planned o pool bytes).number ≡ 0 → whole o pool bytes ≡ whole_made (planned o pool bytes)
  whole_done o z = whole_is o ∙ rw (eq-eqb (planned o pool bytes).number 0 z)

  pub whole_refused : (o : Op) → ((planned o pool bytes).number ≡ 0 → ⊥)
      → whole o pool bytes ≡ record { done = record { number = (planned o pool bytes).number; stores = 0 }; pool = pool; map = bytes }
  whole_refused o z = whole_is o ∙ rw (ne_eqb (planned o pool bytes).number 0 z)

  -- the same by its plan
  pub by_plan_whole : (g : Generation) (o : Op) → by_plan g o pool bytes ≡ whole o pool bytes
  by_plan_whole g (put k v h) = put_carried (number_of g) (known_number g) pool bytes k v
  by_plan_whole g (delete k h) =
      delete_carried pool bytes k (λ m e. M.size ∙ ap bytes_of (holds_same (sym (fits S) ∙ e))) (number_of g) (known_number g)
    where
      holds_same : {i j : ℕ} → ◌≡◌ {A = Option ℕ} (Some i) (Some j) → i ≡ j
      holds_same e = cc

  -- all stores made and the map finished: the changed table
  made_state : (o : Op) → (planned o pool bytes).number ≡ 0
      → State n (made (planned o pool bytes).stores pool) (Some (finish_of (planned o pool bytes).effect bytes).left) (effect o T)
  made_state o z = rw U.plan (record {
    pos = S.pos;
    cap = S.cap;
    t = U.switches.after;
    holds = stored S (U.before ++ U.switch ∷ U.rest) U.inside U.above U.switches.after (U.switches.since U.rest (part_all U.rest));
    table = U.switches.becomes.0;
    names = effect_names o T S.names;
    marks = λ b e. subst (λ (m : List ℕ). Marked n m U.switches.after) (some_is e)
        (finish_marks n bytes U.marks t U.switches.after M S.holds.held.once U.switches.becomes.1 U.named);
  })
    where
      U : Turns o n pool t T (planned o pool bytes)
      U = turns o z

      some_is : {x y : List ℕ} → Some x ≡ Some y → x ≡ y
      some_is e = cc

  pub done_state : (o : Op) → (whole o pool bytes).done.number ≡ 0 → State n (whole o pool bytes).pool (Some (whole o pool bytes).map) (effect o T)
  done_state o z =
      let p : (planned o pool bytes).number ≡ 0 = sym (whole_number o) ∙ z in
      rw (whole_done o p) (made_state o p)

  pub stepped_state : (g : Generation) (o : Op) → (planned o pool bytes).number ≡ 0
      → State n (by_plan g o pool bytes).pool (Some (by_plan g o pool bytes).map) (effect o T)
  stepped_state g o p =
      subst (λ (l : Left). State n l.pool (Some l.map) (effect o T)) (sym (by_plan_whole g o)) (done_state o (whole_number o ∙ p))

  pub refused_state : (o : Op) → ((whole o pool bytes).done.number ≡ 0 → ⊥) → State n (whole o pool bytes).pool (Some (whole o pool bytes).map) T
  refused_state o z = rw (whole_refused o (λ p. z (whole_number o ∙ p))) S

  -- ---- a cut one
  module _ (o : Op) (z : (planned o pool bytes).number ≡ 0) where
    abbrev U : Turns o n pool t T (planned o pool bytes)
    U = turns o z

    -- some of the stores, which leave a tree that is a table
    cut_holds : (τ : List Store) (t' : Tree ℕ) (T' : Table) → Part (U.before ++ U.switch ∷ U.rest) τ → Held 16 n (run τ (mem pool)) t'
        → ((k : ℕ) → T' k ≡ find dig k t') → Names T'
        → State n (made τ pool) None T'
    cut_holds τ t' T' p H is ok = record {
      pos = S.pos;
      cap = S.cap;
      t = t';
      holds = stored S τ (words_part (λ w. w < length pool) (U.before ++ U.switch ∷ U.rest) τ p U.inside)
          (words_part (λ w. 0 < w) (U.before ++ U.switch ∷ U.rest) τ p U.above) t' H;
      table = is;
      names = ok;
      marks = λ b e. let q : ◌≡◌ {A = ℕ} 0 1 = cc in absurd (omega arith);
    }

    -- before the switch the table is as it was, whichever of the stores are made
    cut_before : (τ : List Store) → Part U.before τ → State n (made τ pool) None T
    cut_before τ p = cut_holds τ t T (part_first U.before (U.switch ∷ U.rest) τ p) (U.switches.before τ p) S.table S.names

    -- from the switch on it is the changed one, whichever of the stores after it are made
    cut_since : (τ : List Store) → Part U.rest τ → State n (made (U.before ++ U.switch ∷ τ) pool) None (effect o T)
    cut_since τ p =
        cut_holds (U.before ++ U.switch ∷ τ) U.switches.after (effect o T)
        (part_both U.before (U.switch ∷ U.rest) (U.switch ∷ τ) (kept p)) (U.switches.since τ p)
        U.switches.becomes.0 (effect_names o T S.names)

    stores_are_lem : (planned o pool bytes).stores ≡ U.before ++ U.switch ∷ U.rest
    stores_are_lem = ap (λ (d : Decided). d.stores) U.plan

  -- a cut is before the switch, or since
  pub cut_case : (P : Op → List Store → Bool → Type 0)
      → ((o : Op) (z : (planned o pool bytes).number ≡ 0) (τ : List Store) → Part (turns o z).before τ → P o τ false)
      → ((o : Op) (z : (planned o pool bytes).number ≡ 0) (τ : List Store) → Part (turns o z).rest τ
      → P o ((turns o z).before ++ (turns o z).switch ∷ τ) true)
      → (o : Op) (z : (planned o pool bytes).number ≡ 0) {τ : List Store} {b : Bool} → Loosely o (planned o pool bytes).stores τ b → P o τ b
  cut_case P before since o z {τ = τ} {b = b} c = go o z (planned o pool bytes).stores τ b (turns o z).from (stores_are_lem o z) c
    where
      go : (o : Op) (z : (planned o pool bytes).number ≡ 0) (σ τ : List Store) (b : Bool) → From o (U o z).before (U o z).rest
          → σ ≡ (U o z).before ++ (U o z).switch ∷ (U o z).rest → Loosely o σ τ b → P o τ b
      go (put k v h) z σ τ b f e (put_before p) =
          let all : σ ≡ (U (put k v h) z).before ++ (U (put k v h) z).switch ∷ [] =
          e ∙ ap (λ (l : List Store). (U (put k v h) z).before ++ (U (put k v h) z).switch ∷ l) f in
          before (put k v h) z τ
          (subst (λ (l : List Store). Part l τ)
          (ap (λ (l : List Store). take (length l - 1) l) all ∙ but_last (U (put k v h) z).before (U (put k v h) z).switch) p)
      go (put k v h) z σ τ b f e put_whole =
          subst (λ (l : List Store). P (put k v h) l true) (sym e) (since (put k v h) z (U (put k v h) z).rest (part_all (U (put k v h) z).rest))
      go (delete k h) z σ τ b f e delete_before = before (delete k h) z [] (part_none (U (delete k h) z).before)
      go (delete k h) z σ τ b f e (delete_since {s = s} {σ = ρ} {τ = τ'} p) =
          let all : s ∷ ρ ≡ (U (delete k h) z).switch ∷ (U (delete k h) z).rest =
          e ∙ ap (λ (l : List Store). l ++ (U (delete k h) z).switch ∷ (U (delete k h) z).rest) f in
          let a : s ≡ (U (delete k h) z).switch = cc in
          let r : ρ ≡ (U (delete k h) z).rest = cc in
          subst (λ (l : List Store). P (delete k h) l true)
          (ap (λ (l : List Store). l ++ (U (delete k h) z).switch ∷ τ') f ∙ ap (λ (x : Store). x ∷ τ') (sym a))
          (since (delete k h) z τ' (subst (λ (l : List Store). Part l τ') r p))

  pub cut_state : (o : Op) (z : (planned o pool bytes).number ≡ 0) {τ : List Store} {b : Bool} → Loosely o (planned o pool bytes).stores τ b
      → State n (made τ pool) None (pick b (effect o T) T)
  cut_state o z c = cut_case (λ o τ b. State n (made τ pool) None (pick b (effect o T) T)) cut_before cut_since o z c
