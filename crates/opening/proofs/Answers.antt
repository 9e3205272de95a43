-- What an opening answers and leaves, and what its planning call answers, for every run of words there is.
-- Assumes nothing.
use Rattle.std.specs.Prelude.{None, Option, Some}
use mathlib.Core.Path.{◌≡◌, refl, sym, ◌∙◌}
use mathlib.Core.Bool.{Bool, true, false}
use mathlib.Core.List.{List, []}
use Prim.Native.Nat.{ℕ, zero, suc, ◌+◌, ◌-◌, ◌≤◌, ◌<◌}
use native.Mathlib.Omega.{arith}
use borrow.Author.Tests.{eqb-true, ltb-true}
use lib.Dec.{eqb, ltb}
use lib.ListN.{length, get_or, replicate, length-replicate, length-map}
use Rattle.digits.specs.Choice.{pick}
use Rattle.digits.specs.Loops.{upto}
use Rattle.tree.specs.Stores.{Store}
use Rattle.tree.proofs.Stores.{Words}
use Rattle.pool.specs.Sizes.{Sized, capacity_of, bytes_of}
use Rattle.pool.proofs.Sizes.{size_fits}
use Rattle.plan.specs.Plans.{Decided}
use Rattle.plan.specs.declared.Effect.TheVariants.{Nothing}
use Rattle.plan.proofs.Laws.{length_made}
use Rattle.survey.specs.Surveys.{survey_of}
use Rattle.survey.proofs.Loops.{pick_both}
use Rattle.opening.specs.Openings.{depth_marked, stale, mend_of, first_stale, mend_first, open_in, open_plan, Mended, mend_node, mended, reached, opened, Left, left, restored, left_in, open_of}
use Rattle.opening.proofs.Openings.{at_most_one_store, mend_inside, bytes_flat, few_keys}
use Rattle.opening.proofs.Marks.{survey_length}

-- a run that has a capacity fits it
sized : (pool : List ℕ) {n : ℕ} → capacity_of pool ≡ Some n → Sized pool n
unfolding capacity_of
sized pool e = rw e at (size_fits pool (get_or pool 0 0))

holds_same : {k n : ℕ} → ◌≡◌ {A = Option ℕ} (Some k) (Some n) → k ≡ n
holds_same e = cc

-- ---- the planning call
-- a decision of at most one store, inside the pool, that does nothing to the map
pub record Modest (pool : List ℕ) (d : Decided) : Type 0 where
  pub number≤ : d.number ≤ 2
  pub one : length d.stores ≤ 1
  pub inside : Words (λ w. w < length pool) d.stores
  pub effect : d.effect ≡ Nothing

module _ (pool : List ℕ) where
  first_inside : (n : ℕ) → Sized pool n → (marks : List ℕ) → Words (λ x. x < length pool) (mend_first pool n marks)
  unfolding Words
  first_inside n z marks = go (ltb (first_stale pool n marks) (n - 1)) refl
    where
      go : (t : Bool) → ltb (first_stale pool n marks) (n - 1) ≡ t
          → Words (λ x. x < length pool) (pick t (mend_of pool n (depth_marked marks n (first_stale pool n marks)) (first_stale pool n marks)) [])
      go true e = mend_inside pool n _ _ (omega (arith, ltb-true (first_stale pool n marks) (n - 1) e))
      go false e = tt

  first_few : (n : ℕ) (marks : List ℕ) → length (mend_first pool n marks) ≤ 1
  first_few n marks =
      pick_both (λ (σ : List Store). length σ ≤ 1) (ltb (first_stale pool n marks) (n - 1))
      (at_most_one_store pool n (depth_marked marks n (first_stale pool n marks)) (first_stale pool n marks)) (omega arith)

  pub plan_modest : Modest pool (open_plan pool)
  unfolding open_plan Words
  plan_modest = go (capacity_of pool) refl
    where
      go : (x : Option ℕ) → capacity_of pool ≡ x → Modest pool (open_in pool x)
      go (Some n) e =
          pick_both (Modest pool) (survey_of pool n).census.sound
          (record { number≤ = omega arith; one = first_few n (survey_of pool n).marks; inside = first_inside n (sized pool e) (survey_of pool n).marks; effect = refl })
          (record { number≤ = omega arith; one = omega arith; inside = tt; effect = refl })
      go None e = record { number≤ = omega arith; one = omega arith; inside = tt; effect = refl }

-- ---- the headers mended
module _ (n : ℕ) (marks pool : List ℕ) where
  node_length : (j : ℕ) (v : Mended) → length (mend_node n marks j v).pool ≡ length v.pool
  node_length j v =
      pick_both (λ (u : Mended). length u.pool ≡ length v.pool) (stale v.pool n marks j)
      (length_made (mend_of v.pool n (depth_marked marks n j) j) v.pool) refl

  node_few : (j : ℕ) (v : Mended) → (mend_node n marks j v).headers ≤ v.headers + 1
  node_few j v =
      pick_both (λ (u : Mended). u.headers ≤ v.headers + 1) (stale v.pool n marks j)
      (omega (arith, at_most_one_store v.pool n (depth_marked marks n j) j)) (omega arith)

  pub mended_length : (i : ℕ) → length (mended n marks i pool).pool ≡ length pool
  unfolding upto
  mended_length zero = refl
  mended_length (suc i) = node_length i (mended n marks i pool) ∙ mended_length i

  -- at most one for each node
  pub mended_few : (i : ℕ) → (mended n marks i pool).headers ≤ i
  unfolding upto
  mended_few zero = omega arith
  mended_few (suc i) = omega (arith, node_few i (mended n marks i pool), mended_few i)

-- ---- the whole call
-- the pool and the map judged: the map has the pool's length, and whether all is sound
pub record Judged (pool bytes : List ℕ) (n : ℕ) (sound : Bool) : Type 0 where
  pub size : capacity_of pool ≡ Some n
  pub long : length bytes ≡ bytes_of n
  pub judged : (survey_of pool n).census.sound ≡ sound

-- what an opening leaves
pub data Leaves (pool bytes : List ℕ) : Left → Type 0 where
  size : Leaves pool bytes (left (opened 1 0 0) pool bytes)
  damage : (n : ℕ) → Judged pool bytes n false → Leaves pool bytes (left (opened 2 0 0) pool (replicate (length bytes) 0))
  done : (n : ℕ) → Judged pool bytes n true → Leaves pool bytes (restored n (survey_of pool n).marks pool)

module _ (pool bytes : List ℕ) where
  pub open_leaves : Leaves pool bytes (open_of pool bytes)
  unfolding open_of
  open_leaves = go (capacity_of pool) refl
    where
      at : (n : ℕ) → capacity_of pool ≡ Some n → (t : Bool) → eqb (length bytes) (bytes_of n) ≡ t → (s : Bool) → (survey_of pool n).census.sound ≡ s
          → Leaves pool bytes (pick t (pick s (restored n (survey_of pool n).marks pool) (left (opened 2 0 0) pool (replicate (length bytes) 0)))
          (left (opened 1 0 0) pool bytes))
      at n e true f true g = done n (record { size = e; long = eqb-true (length bytes) (bytes_of n) f; judged = g })
      at n e true f false g = damage n (record { size = e; long = eqb-true (length bytes) (bytes_of n) f; judged = g })
      at n e false f s g = size

      go : (x : Option ℕ) → capacity_of pool ≡ x → Leaves pool bytes (left_in pool bytes x)
      go (Some n) e = at n e (eqb (length bytes) (bytes_of n)) refl (survey_of pool n).census.sound refl
      go None e = size

  pub open_number : (open_of pool bytes).answer.number ≤ 2
  open_number = go open_leaves
    where
      go : {x : Left} → Leaves pool bytes x → x.answer.number ≤ 2
      go size = omega arith
      go (damage n j) = omega arith
      go (done n j) = omega arith

  -- "1 | size .. | everything unchanged"
  pub open_size : (open_of pool bytes).answer.number ≡ 1 → open_of pool bytes ≡ left (opened 1 0 0) pool bytes
  open_size = go open_leaves
    where
      go : {x : Left} → Leaves pool bytes x → x.answer.number ≡ 1 → x ≡ left (opened 1 0 0) pool bytes
      go size e = refl
      go (damage n j) e = absurd (omega arith)
      go (done n j) e = absurd (omega arith)

  -- "2 | damage met | pool unchanged; open: map all 0"
  pub open_damage : (open_of pool bytes).answer.number ≡ 2 → open_of pool bytes ≡ left (opened 2 0 0) pool (replicate (length bytes) 0)
  open_damage = go open_leaves
    where
      go : {x : Left} → Leaves pool bytes x → x.answer.number ≡ 2 → x ≡ left (opened 2 0 0) pool (replicate (length bytes) 0)
      go size e = absurd (omega arith)
      go (damage n j) e = refl
      go (done n j) e = absurd (omega arith)

  -- pool and map stay as long as they were
  pub open_length : length (open_of pool bytes).pool ≡ length pool
  open_length = go open_leaves
    where
      go : {x : Left} → Leaves pool bytes x → length x.pool ≡ length pool
      go size = refl
      go (damage n j) = refl
      go (done n j) = mended_length n (survey_of pool n).marks pool (n - 1)

  pub open_map_length : length (open_of pool bytes).map ≡ length bytes
  open_map_length = go open_leaves
    where
      go : {x : Left} → Leaves pool bytes x → length x.map ≡ length bytes
      go size = refl
      go (damage n j) = length-replicate (length bytes) 0
      go (done n j) = length-map (survey_of pool n).marks reached ∙ survey_length pool n ∙ sym j.long

  -- "we write 0 and 1"
  pub open_bytes : (open_of pool bytes).answer.number ≡ 0 → (i : ℕ) → get_or (open_of pool bytes).map i 0 ≤ 1
  open_bytes = go open_leaves
    where
      go : {x : Left} → Leaves pool bytes x → x.answer.number ≡ 0 → (i : ℕ) → get_or x.map i 0 ≤ 1
      go size e i = absurd (omega arith)
      go (damage n j) e i = absurd (omega arith)
      go (done n j) e i = bytes_flat (survey_of pool n).marks i

  -- no more keys than leaves, and no more headers than nodes
  pub open_counts : (n : ℕ) → capacity_of pool ≡ Some n → ((open_of pool bytes).answer.keys ≤ n) × ((open_of pool bytes).answer.headers ≤ n - 1)
  open_counts n e = go open_leaves
    where
      go : {x : Left} → Leaves pool bytes x → (x.answer.keys ≤ n) × (x.answer.headers ≤ n - 1)
      go size = (omega arith, omega arith)
      go (damage k j) = (omega arith, omega arith)
      go (done k j) =
          let q : k ≡ n = holds_same (sym j.size ∙ e) in
          rw q (few_keys (survey_of pool n).marks n, mended_few n (survey_of pool n).marks pool (n - 1))
