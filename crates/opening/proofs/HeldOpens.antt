-- Opening a pool that holds a tree: each store of the planning call keeps the tree; open makes just these in turn until there is none, and then the
-- pool is straight and the map marks just the tree's slots.
-- Assumes nothing.
use Rattle.std.specs.Prelude.{Some}
use mathlib.Core.Path.{◌≡◌, refl, sym, ap, ◌∙◌, subst}
use mathlib.Core.Bool.{Bool, true, false, not}
use mathlib.Core.Logic.{◌≢◌, ◌⊎◌, inl, inr}
use mathlib.Core.List.{List, [], ◌∷◌, map}
use Prim.Native.Nat.{ℕ, zero, suc, ◌+◌, ◌-◌, ◌*◌, ◌≤◌, ◌<◌}
use native.Mathlib.Numerals.{add-one}
use native.Mathlib.Omega.{arith}
use borrow.Author.Tests.{lt-ltb, le-ltb, eq-eqb, ne_eqb}
use lib.Dec.{eqb}
use lib.ListN.{length, get_or, set, replicate, length-set, length-replicate, length-map, get_or-map}
use lib.Seq.{get_or-set_same, get_or-set_other}
use Rattle.digits.specs.Loops.{upto}
use Rattle.digits.specs.Headers.{depth_of}
use Rattle.pool.specs.Sizes.{size_of, capacity_of, bytes_of}
use Rattle.pool.specs.Places.{word_at, header_at, node_word}
use Rattle.tree.specs.Tree.{Tree, one, mult, leaves, dep}
use Rattle.tree.specs.Stores.{Store}
use Rattle.tree.proofs.Basics.{Same?, same, other, same?, less?, last?, true_not_false, sum_same, tally_sum}
use Rattle.layout.specs.Layout.{Held}
use Rattle.layout.specs.Switches.{OneStale}
use Rattle.layout.proofs.Room.{leaves_counted}
use Rattle.walk.proofs.Loops.{scan_true}
use Rattle.plan.specs.Plans.{made, decided}
use Rattle.plan.specs.declared.Effect.TheVariants.{Nothing}
use Rattle.held.specs.Ways.{mem}
use Rattle.held.specs.Maps.{Marked}
use Rattle.survey.proofs.TreeMarks.{marks_off, marks_on, marks_length}
use Rattle.survey.proofs.HeldSurvey.{held_sound, zeros}
use Rattle.opening.specs.Openings.{depth_marked, stale, mend_of, first_stale, mend_first, open_plan, open_steps}
use Rattle.opening.specs.Openings.{Mended, mend_node, mended, reached, keys_of, opened, open_of}
use Rattle.opening.proofs.HeldMends.{M, NodeAt, scan_first, scan_nowhere, marked_stands, header, mend_is, mend_held, mended_depth, mend_straight, fresh_depth, depth_is}

-- steps of opening are made one after the other
steps_snoc : (k : ℕ) (pool : List ℕ) → open_steps (suc k) pool ≡ made (open_plan (open_steps k pool)).stores (open_steps k pool)
unfolding open_steps
steps_snoc zero pool = refl
steps_snoc (suc k) pool = steps_snoc k (made (open_plan pool).stores pool)

module _ (n : ℕ) (pos : 1 ≤ n) (cap : n ≤ 1024) (t : Tree ℕ) where
  abbrev marks : List ℕ
  marks = M n pos cap t

  -- a pool of n leaves that holds t
  pub record Pool (pool : List ℕ) : Type 0 where
    pub size : length pool + 15 ≡ 19 * n
    pub first : word_at pool 0 ≡ n
    pub held : Held 16 n (mem pool) t

  module _ (pool : List ℕ) (P : Pool pool) where
    pub capacity_is : capacity_of pool ≡ Some n
    unfolding capacity_of size_of
    capacity_is = rw (P.first, le-ltb n 1 pos, le-ltb 1024 n cap, eq-eqb (length pool) (19 * n - 15) (omega (arith, P.size)))

    pub plan_is : open_plan pool ≡ decided (mend_first pool n marks) Nothing
    unfolding open_plan
    plan_is = let S = held_sound pool n t P.held in rw (capacity_is, S.0, S.1)

    stale_stands : (j : ℕ) → stale pool n marks j ≡ true → NodeAt n pos cap t j
    stale_stands j e = marked_stands n pos cap t pool P.size P.held j (λ z. true_not_false (rw (eq-eqb (get_or marks (n + j) 0) 0 z) at e) refl)

    -- the store that mends a stale node
    module _ (j : ℕ) (jn : j + 1 < n) (S : NodeAt n pos cap t j) where
      abbrev word : ℕ
      word = header n pos cap t pool P.size P.held j jn S

      pub mends_one : mend_of pool n (depth_marked marks n j) j ≡ record { word = node_word n j; value = word } ∷ []
      mends_one = rw (depth_is n pos cap t pool P.size P.held j jn S) (mend_is n pos cap t pool P.size P.held j jn S)

      made_is : made (mend_of pool n (depth_marked marks n j) j) pool ≡ set pool (node_word n j) word
      unfolding made
      made_is = ap (λ (σ : List Store). made σ pool) mends_one

      set_pool : Pool (set pool (node_word n j) word)
      set_pool = record {
        size = omega (arith, length-set pool (node_word n j) word, P.size);
        first = get_or-set_other pool (node_word n j) 0 word 0 (λ z. omega arith) ∙ P.first;
        held = mend_held n pos cap t pool P.size P.held j jn S;
      }

      pub mended_pool : Pool (made (mend_of pool n (depth_marked marks n j) j) pool)
      mended_pool = subst Pool (sym made_is) set_pool

    -- ---- one store of the planning call
    -- it keeps the tree
    pub step_pool : Pool (made (open_plan pool).stores pool)
    unfolding made
    step_pool = rw plan_is (go (less? (first_stale pool n marks) (n - 1)))
      where
        go : (first_stale pool n marks < n - 1) ⊎ (n - 1 ≤ first_stale pool n marks) → Pool (made (mend_first pool n marks) pool)
        go (inl l) =
            rw (lt-ltb (first_stale pool n marks) (n - 1) l)
            (mended_pool (first_stale pool n marks) (omega arith)
            (stale_stands (first_stale pool n marks) (scan_true (stale pool n marks) (n - 1) 0 (omega arith))))
        go (inr l) = rw (le-ltb (first_stale pool n marks) (n - 1) l) P

    -- and leaves no further node stale
    pub step_stale : OneStale n (mem pool) t → OneStale n (mem (made (open_plan pool).stores pool)) t
    unfolding made
    step_stale O = rw plan_is (go (less? (first_stale pool n marks) (n - 1)))
      where
        go : (first_stale pool n marks < n - 1) ⊎ (n - 1 ≤ first_stale pool n marks) → OneStale n (mem (made (mend_first pool n marks) pool)) t
        go (inl l) =
            let j : ℕ = first_stale pool n marks in
            let S : NodeAt n pos cap t j = stale_stands j (scan_true (stale pool n marks) (n - 1) 0 (omega arith)) in
            rw (lt-ltb j (n - 1) l, made_is j (omega arith) S)
            (record { slot = O.slot; straight = mend_straight n pos cap t pool P.size P.held j (omega arith) S (λ x. x ≡ O.slot) O.straight })
        go (inr l) = rw (le-ltb (first_stale pool n marks) (n - 1) l) O

    -- a node whose header says its walk depth is not stale
    straight_fresh : (j : ℕ) → j + 1 < n → ((S : NodeAt n pos cap t j) → depth_of (header_at pool n j) ≡ dep S.π 0 t) → stale pool n marks j ≡ false
    straight_fresh j jn h = go (same? (get_or marks (n + j) 0) 0)
      where
        go : Same? (get_or marks (n + j) 0) 0 → stale pool n marks j ≡ false
        go (same e p) = rw p
        go (other e p) =
            let S = marked_stands n pos cap t pool P.size P.held j e in
            rw p (le-ltb (depth_marked marks n j) (depth_of (header_at pool n j)) (omega (arith, h S, depth_is n pos cap t pool P.size P.held j jn S)))

  -- ---- all of them, in turn
  module _ (p : List ℕ) (P : Pool p) where
    -- what is true once the stale headers among the first i nodes are mended
    pub record SoFar (i : ℕ) (v : Mended) : Type 0 where
      pub pool : Pool v.pool
      pub straight : (j : ℕ) → j < i → j + 1 < n → (S : NodeAt n pos cap t j) → depth_of (header_at v.pool n j) ≡ dep S.π 0 t
      pub kept : (y : ℕ) → ((j : ℕ) → j < i → y ≢ node_word n j) → word_at v.pool y ≡ word_at p y
      pub steps : open_steps v.headers p ≡ v.pool
      pub each : (k : ℕ) → k < v.headers → length (open_plan (open_steps k p)).stores ≡ 1
      pub few : v.headers ≤ i

    module _ (i : ℕ) (in-pool : i + 1 < n) (v : Mended) (ih : SoFar i v) where
      not_stale : stale v.pool n marks i ≡ false → SoFar (suc i) (mend_node n marks i v)
      not_stale e = rw e (record {
        pool = ih.pool;
        straight = λ j l jn S. up j jn S (last? j i l);
        kept = λ y h. ih.kept y (λ j l. h j (omega arith));
        steps = ih.steps;
        each = ih.each;
        few = omega (arith, ih.few);
      })
        where
          up : (j : ℕ) → j + 1 < n → (S : NodeAt n pos cap t j) → (j ≡ i) ⊎ (j < i) → depth_of (header_at v.pool n j) ≡ dep S.π 0 t
          up j jn S (inl z) = fresh_depth n pos cap t v.pool ih.pool.size ih.pool.held j jn S (ap (stale v.pool n marks) z ∙ e)
          up j jn S (inr l) = ih.straight j l jn S

      -- the planning call on the pool so far answers the store for node i
      first_is : stale v.pool n marks i ≡ true → first_stale v.pool n marks ≡ i
      first_is e =
          scan_first (n - 1) i 0 (stale v.pool n marks) (omega arith) (omega arith)
          (λ j a l. straight_fresh v.pool ih.pool j (omega arith) (ih.straight j l (omega arith))) e

      planned : stale v.pool n marks i ≡ true → (open_plan v.pool).stores ≡ mend_of v.pool n (depth_marked marks n i) i
      planned e = rw (plan_is v.pool ih.pool, first_is e, lt-ltb i (n - 1) (omega arith))

      is_stale : stale v.pool n marks i ≡ true → SoFar (suc i) (mend_node n marks i v)
      unfolding open_steps
      is_stale e = rw e (record {
        pool = mended_pool v.pool ih.pool i in-pool Sᵢ;
        straight = λ j l jn S. up j jn S (last? j i l);
        kept = λ y h.
            ap (λ (l : List ℕ). word_at l y) set_is
            ∙ get_or-set_other v.pool (node_word n i) y new 0 (h i (omega arith)) ∙ ih.kept y (λ j l. h j (omega arith));
        steps =
            ap (λ (k : ℕ). open_steps k p) (one_more_lem ∙ add-one v.headers) ∙ steps_snoc v.headers p
            ∙ rw ih.steps (ap (λ (σ : List Store). made σ v.pool) (planned e));
        each = λ k l. one_each k (last? k v.headers (omega (arith, one_more_lem)));
        few = omega (arith, ih.few, one_more_lem);
      })
        where
          Sᵢ : NodeAt n pos cap t i
          Sᵢ = stale_stands v.pool ih.pool i e

          new : ℕ
          new = header n pos cap t v.pool ih.pool.size ih.pool.held i in-pool Sᵢ

          set_is : made (mend_of v.pool n (depth_marked marks n i) i) v.pool ≡ set v.pool (node_word n i) new
          set_is = made_is v.pool ih.pool i in-pool Sᵢ

          one_more_lem : v.headers + length (mend_of v.pool n (depth_marked marks n i) i) ≡ v.headers + 1
          one_more_lem = ap (λ (σ : List Store). v.headers + length σ) (mends_one v.pool ih.pool i in-pool Sᵢ)

          one_each : (k : ℕ) → (k ≡ v.headers) ⊎ (k < v.headers) → length (open_plan (open_steps k p)).stores ≡ 1
          one_each k (inl z) = rw (z, ih.steps, planned e) (ap length (mends_one v.pool ih.pool i in-pool Sᵢ))
          one_each k (inr l) = ih.each k l

          up : (j : ℕ) → j + 1 < n → (S : NodeAt n pos cap t j) → (j ≡ i) ⊎ (j < i)
              → depth_of (header_at (made (mend_of v.pool n (depth_marked marks n i) i) v.pool) n j) ≡ dep S.π 0 t
          up j jn S (inl z) =
              ap (λ (l : List ℕ). depth_of (word_at l (node_word n j))) set_is
              ∙ ap (λ (x : ℕ). depth_of (word_at (set v.pool (node_word n i) new) (node_word n x))) z
              ∙ ap depth_of (get_or-set_same v.pool (node_word n i) new 0 (omega (arith, ih.pool.size)))
              ∙ mended_depth n pos cap t v.pool ih.pool.size ih.pool.held i in-pool Sᵢ
              ∙ sym (depth_is n pos cap t v.pool ih.pool.size ih.pool.held i in-pool Sᵢ) ∙ ap (depth_marked marks n) (sym z)
              ∙ depth_is n pos cap t v.pool ih.pool.size ih.pool.held j jn S
          up j jn S (inr l) =
              ap (λ (l : List ℕ). depth_of (word_at l (node_word n j))) set_is
              ∙ ap depth_of (get_or-set_other v.pool (node_word n i) (node_word n j) new 0 (λ z. omega arith)) ∙ ih.straight j l jn S

      pub next : SoFar (suc i) (mend_node n marks i v)
      next = go (stale v.pool n marks i) refl
        where
          go : (u : Bool) → stale v.pool n marks i ≡ u → SoFar (suc i) (mend_node n marks i v)
          go true e = is_stale e
          go false e = not_stale e

    pub so_far : (i : ℕ) → i ≤ n - 1 → SoFar i (mended n marks i p)
    unfolding upto open_steps
    so_far zero l = record {
      pool = P;
      straight = λ j k. absurd (omega arith);
      kept = λ y h. refl;
      steps = refl;
      each = λ k h. absurd (omega arith);
      few = omega arith;
    }
    so_far (suc i) l = next i (omega arith) (mended n marks i p) (so_far i (omega arith))

    abbrev pub end : Mended
    end = mended n marks (n - 1) p

    pub all_mended : SoFar (n - 1) end
    all_mended = so_far (n - 1) (omega arith)

    -- then the planning call answers a plan of none
    pub none_left : (open_plan end.pool).stores ≡ []
    none_left =
        rw (plan_is end.pool all_mended.pool, nowhere, le-ltb (n - 1) (n - 1) (omega arith))
      where
        nowhere : first_stale end.pool n marks ≡ n - 1
        nowhere =
            scan_nowhere (n - 1) 0 (stale end.pool n marks)
            (λ j a l. straight_fresh end.pool all_mended.pool j (omega arith) (all_mended.straight j (omega arith) (omega arith))) ∙ omega arith

    -- ---- what open leaves
    -- the map marks just the tree's slots
    pub reached_marked : Marked n (map reached marks) t
    reached_marked = record {
      size = length-map marks reached ∙ marks_length 0 t (replicate (bytes_of n) 0) ∙ length-replicate {A = ℕ} (bytes_of n) 0;
      free = λ x l e. free_slot x l e (less? 0 (mult x t));
      taken = λ x l e. byte_is x ∙ ap reached (marks_off 0 x t (replicate (bytes_of n) 0) e ∙ zeros (bytes_of n) x);
    }
      where
        byte_is : (x : ℕ) → word_at (map reached marks) x ≡ reached (get_or marks x 0)
        byte_is x = get_or-map reached marks x 0

        free_slot : (x : ℕ) → x < bytes_of n → word_at (map reached marks) x ≡ 0 → (0 < mult x t) ⊎ (mult x t ≤ 0) → mult x t ≡ 0
        free_slot x l e (inl h) =
            let on : get_or marks x 0 ≢ 0 = marks_on 0 x t (replicate (bytes_of n) 0) h (P.held.once x) (omega (arith, length-replicate {A = ℕ} (bytes_of n) 0)) in
            let z : ◌≡◌ {A = ℕ} 1 0 = sym (rw (ne_eqb (get_or marks x 0) 0 on) at (byte_is x)) ∙ e in
            absurd (omega arith)
        free_slot x l e (inr h) = omega arith

    -- as many keys as the tree has leaves
    pub keys_are : keys_of n marks ≡ leaves t
    keys_are =
        tally_sum n (λ i. not (eqb (get_or marks i 0) 0))
        ∙ sum_same n (λ i. one (not (eqb (get_or marks i 0) 0))) (λ i. mult i t) (λ i l. slot i l (less? 0 (mult i t)))
        ∙ leaves_counted 16 n (mem p) t P.held
      where
        slot : (i : ℕ) → i < n → (0 < mult i t) ⊎ (mult i t ≤ 0) → one (not (eqb (get_or marks i 0) 0)) ≡ mult i t
        slot i l (inl h) =
            rw (ne_eqb (get_or marks i 0) 0
            (marks_on 0 i t (replicate (bytes_of n) 0) h (P.held.once i) (omega (arith, length-replicate {A = ℕ} (bytes_of n) 0))))
            (omega (arith, P.held.once i))
        slot i l (inr h) = rw (eq-eqb (get_or marks i 0) 0 (marks_off 0 i t (replicate (bytes_of n) 0) (omega arith) ∙ zeros (bytes_of n) i)) (omega arith)

    pub open_is : (bytes : List ℕ) → length bytes ≡ bytes_of n
        → open_of p bytes ≡ record { answer = opened 0 (leaves t) end.headers; pool = end.pool; map = map reached marks }
    unfolding open_of
    open_is bytes e =
        let S = held_sound p n t P.held in
        rw (capacity_is p P, eq-eqb (length bytes) (bytes_of n) e, S.0, S.1, keys_are)

  -- opening's first stores keep the tree, however many are made
  pub steps_pool : (k : ℕ) (pool : List ℕ) → Pool pool → Pool (open_steps k pool)
  unfolding open_steps
  steps_pool zero pool P = P
  steps_pool (suc k) pool P = steps_pool k (made (open_plan pool).stores pool) (step_pool pool P)

  -- nor do they leave a further node stale
  pub steps_stale : (k : ℕ) (pool : List ℕ) → Pool pool → OneStale n (mem pool) t → OneStale n (mem (open_steps k pool)) t
  unfolding open_steps
  steps_stale zero pool P O = O
  steps_stale (suc k) pool P O = steps_stale k (made (open_plan pool).stores pool) (step_pool pool P) (step_stale pool P O)
