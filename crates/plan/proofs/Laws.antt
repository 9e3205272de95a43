-- Laws of stores and plans: what stores leave, and what the loop, a step and a run do.
-- Assumes nothing.
use mathlib.Core.Path.{◌≡◌, refl, sym, ap, ◌∙◌}
use mathlib.Core.Logic.{◌≢◌, ◌⊎◌, inl, inr, ⊎_elim}
use mathlib.Core.Bool.{Bool, true, false}
use mathlib.Core.List.{List, [], ◌∷◌, ◌++◌, map}
use Prim.Native.Nat.{ℕ, zero, suc, ◌+◌, ◌-◌, ◌≤◌, ◌<◌, min}
use native.Mathlib.Nat.{zero-add, add-zero, le_of_suc-le-suc, not-suc-le-zero}
use native.Mathlib.Numerals.{add-one}
use native.Mathlib.Omega.{arith}
use borrow.Author.Tests.{lt-ltb, le-ltb, le-leb, lt-leb}
use lib.Dec.{eqb, ltb}
use lib.ListN.{length, get_or, set, take, replicate, length-set, length-append, length-take, length-replicate, length-map, get_or-map, get_or-eq_default}
use lib.Seq.{lt-length-set, take_all, take-suc, take-append-add, get_or-set_same, get_or-set_other}
use Rattle.std.proofs.lemmas.List.{take-replicate}
use Rattle.std.specs.Prelude.{Result, Ok, Err}
use Rattle.std.specs.Result.{is_err}
use Rattle.refusals.specs.declared.Refusal.{Refusal}
use Rattle.refusals.specs.declared.Refusal.TheVariants.{Size, Damage, Absent, Full, Outside, Buffers, Retired}
use Rattle.refusals.specs.Refusals.{number_of, number_in}
use Rattle.digits.specs.Choice.{pick}
use Rattle.tree.specs.Tree.{upd}
use Rattle.tree.specs.Shape.{Mem}
use Rattle.tree.specs.Stores.{Store, run}
use Rattle.tree.proofs.Basics.{Same?, same, other, same?, upd_case}
use Rattle.tree.proofs.Stores.{Words, words_more}
use Rattle.plan.specs.declared.Plan.{Plan}
use Rattle.plan.specs.declared.Effect.{Effect}
use Rattle.plan.specs.declared.Generation.{Generation}
use Rattle.plan.specs.declared.Generation.TheVariants.{Adr, Eadr}
use Rattle.plan.specs.Plans.{made, padded, plan_of, Decided, refused, adr, eadr, generation_number, generation_of, decided_for, After, after, store_of, step_of, stores_in, Ran, ran, one_more, makes_of, stores_of, run_of}

-- ---- the stores of a list
pub made_append : (σ τ : List Store) (l : List ℕ) → made (σ ++ τ) l ≡ made τ (made σ l)
unfolding made
made_append [] τ l = refl
made_append (s ∷ σ) τ l = made_append σ τ (set l s.word s.value)

pub length_made : (σ : List Store) (l : List ℕ) → length (made σ l) ≡ length l
unfolding made
length_made [] l = refl
length_made (s ∷ σ) l = length_made σ (set l s.word s.value) ∙ length-set l s.word s.value

-- a word that no store names keeps its value
pub made_off : (σ : List Store) (l : List ℕ) (i : ℕ) → Words (λ w. i ≢ w) σ → get_or (made σ l) i 0 ≡ get_or l i 0
unfolding made Words
made_off [] l i off = refl
made_off (s ∷ σ) l i off = made_off σ (set l s.word s.value) i off.1 ∙ get_or-set_other l s.word i s.value 0 off.0

-- words that agree with a memory agree with it after the same stores
pub made_same : (σ : List Store) (l : List ℕ) (m : Mem) → Words (λ w. w < length l) σ → ((i : ℕ) → get_or l i 0 ≡ m i) → (i : ℕ) → get_or (made σ l) i 0 ≡ run σ m i
unfolding made run Words
made_same [] l m inside eq i = eq i
made_same (s ∷ σ) l m inside eq i =
    let l' = set l s.word s.value in
    made_same σ l' (upd m s.word s.value)
    (words_more (λ w. w < length l) (λ w. w < length l') σ (λ w h. lt-length-set l s.word s.value h) inside.1)
    (λ j. upd_case (λ d x. get_or l' d 0 ≡ x) m s.word s.value j (get_or-set_same l s.word s.value 0 inside.0)
    (λ n. get_or-set_other l s.word j s.value 0 n ∙ eq j))
    i

pub made_run : (σ : List Store) (l : List ℕ) → Words (λ w. w < length l) σ → (i : ℕ) → get_or (made σ l) i 0 ≡ run σ (λ j. get_or l j 0) i
made_run σ l inside = made_same σ l (λ j. get_or l j 0) inside (λ i. refl)

-- ---- the places of a plan
-- a place that a plan does not use
abbrev pub unused : Store
unused = record { word = 0; value = 0 }

repeated_at : (n m i d : ℕ) → get_or (take n (replicate m d)) i d ≡ d
repeated_at zero m i d = refl
repeated_at (suc n) zero i d = refl
repeated_at (suc n) (suc m) zero d = refl
repeated_at (suc n) (suc m) (suc i) d = repeated_at n m i d

padded_at : (n m : ℕ) (l : List ℕ) (i d : ℕ) → length l ≤ n → get_or (take n (l ++ replicate m d)) i d ≡ get_or l i d
padded_at n m [] i d few = repeated_at n m i d
padded_at zero m (x ∷ l) i d few = absurd (not-suc-le-zero few)
padded_at (suc n) m (x ∷ l) zero d few = refl
padded_at (suc n) m (x ∷ l) (suc i) d few = padded_at n m l i d (le_of_suc-le-suc few)

-- 21 of them
pub plan_places : (group : ℕ → ℕ) (σ : List Store) (e : Effect) → (length (plan_of group σ e).words ≡ 21) × (length (plan_of group σ e).values ≡ 21)
plan_places group σ e = (places (map (λ s. s.word) σ), places (map (λ s. s.value) σ))
  where
    places : (l : List ℕ) → length (take 21 (l ++ replicate 21 0)) ≡ 21
    places l = simp (length-take, length-append) (omega (arith, length-replicate {A = ℕ} 21 0))

-- what is laid out, and then places that are 0
pub padded_laid : (f : Store → ℕ) (σ : List Store) → length σ ≤ 21 → padded (map f σ) ≡ map f σ ++ replicate (21 - length σ) 0
padded_laid f σ few =
    let n : length (map f σ) + (21 - length σ) ≡ 21 = omega (arith, length-map σ f) in
    let t : take (21 - length σ) (replicate 21 0) ≡ replicate (21 - length σ) 0 = take-replicate (21 - length σ) 21 0 (omega arith) in
    rw n at (take-append-add (map f σ) (replicate 21 0) (21 - length σ)) ∙ ap (λ (l : List ℕ). map f σ ++ l) t

-- what the word of every store has, the word of store i has
pub words_at : (P : ℕ → Type 0) (σ : List Store) (i : ℕ) → i < length σ → Words P σ → P (get_or σ i unused).word
unfolding Words
words_at P [] i h all = absurd (not-suc-le-zero h)
words_at P (s ∷ σ) zero h all = all.0
words_at P (s ∷ σ) (suc i) h all = words_at P σ i (le_of_suc-le-suc h) all.1

-- one store more
pub made_next : (σ : List Store) (i : ℕ) (l : List ℕ) → i < length σ
    → made (take (i + 1) σ) l ≡ set (made (take i σ) l) (get_or σ i unused).word (get_or σ i unused).value
unfolding made
made_next σ i l h = rw (add-one i, take-suc σ i unused h, made_append (take i σ) (get_or σ i unused ∷ []) l)

-- ---- two lists as stores
-- lists that begin with the words and the values of stores hold these stores first
pub stores_first : (σ : List Store) (ws vs : List ℕ)
    → take (length σ) (stores_in (map (λ (s : Store). s.word) σ ++ ws) (map (λ (s : Store). s.value) σ ++ vs)) ≡ σ
unfolding stores_in
stores_first [] ws vs = refl
stores_first (s ∷ σ) ws vs = ap (λ (τ : List Store). s ∷ τ) (stores_first σ ws vs)

-- ---- answers
-- 0 where it is no refusal, and never where it is one
pub number_done : {A : Type 0} (r : Result A Refusal) → is_err r ≡ false → number_in r ≡ 0
number_done (Ok a) e = refl
number_done (Err r) e = cc

number_above : (r : Refusal) → 0 < number_of r
number_above Size = omega arith
number_above Damage = omega arith
number_above Absent = omega arith
number_above Full = omega arith
number_above Outside = omega arith
number_above Buffers = omega arith
number_above Retired = omega arith

pub number_refused : {A : Type 0} (r : Result A Refusal) → is_err r ≡ true → number_in r ≢ 0
number_refused (Ok a) e = cc
number_refused (Err r) e = λ z. let h = number_above r in omega arith

-- ---- stores one after the other
-- a store is made, or refused and leaves the words as they were
store_either : (w v : ℕ) (l : List ℕ) → (store_of w v l ≡ after 0 (set l w v)) ⊎ (store_of w v l ≡ after 5 l)
store_either w v l = go (ltb w (length l))
  where
    go : (b : Bool) → (pick b (after 0 (set l w v)) (after 5 l) ≡ after 0 (set l w v)) ⊎ (pick b (after 0 (set l w v)) (after 5 l) ≡ after 5 l)
    go true = inl refl
    go false = inr refl

-- the stores after the first, by what that gave
abbrev gone_on : ℕ → List Store → List ℕ → After → Ran
gone_on n σ l a = elim (eqb a.number 0) [ true ↦ one_more (makes_of n σ a.left) | false ↦ ran 0 l ]

makes_suc : (n : ℕ) (s : Store) (σ : List Store) (l : List ℕ) {a : After} → store_of s.word s.value l ≡ a → makes_of (suc n) (s ∷ σ) l ≡ gone_on n σ l a
unfolding makes_of
makes_suc n s σ l e = ap (gone_on n σ l) e

store_inside : (w v : ℕ) (l : List ℕ) → w < length l → store_of w v l ≡ after 0 (set l w v)
store_inside w v l h = rw (lt-ltb w (length l) h)

-- where every word is inside, the first n are made
pub makes_made : (n : ℕ) (σ : List Store) (l : List ℕ) → Words (λ w. w < length l) σ → makes_of n σ l ≡ ran (min n (length σ)) (made (take n σ) l)
unfolding makes_of made Words
makes_made zero σ l inside = let a : min 0 (length σ) ≡ 0 = omega arith in rw a
makes_made (suc n) [] l inside = let a : min (suc n) 0 ≡ 0 = omega arith in rw a
makes_made (suc n) (s ∷ σ) l inside =
    let l' = set l s.word s.value in
    let a : min (suc n) (suc (length σ)) ≡ min n (length σ) + 1 = omega arith in
    let r = makes_made n σ l' (words_more (λ w. w < length l) (λ w. w < length l') σ (λ w h. lt-length-set l s.word s.value h) inside.1) in
    makes_suc n s σ l (store_inside s.word s.value l inside.0) ∙ rw a (ap one_more r)

-- so many as there are, or more: all
pub makes_all : (n : ℕ) (σ : List Store) (l : List ℕ) → length σ ≤ n → Words (λ w. w < length l) σ → makes_of n σ l ≡ ran (length σ) (made σ l)
makes_all n σ l h inside =
    let a : min n (length σ) ≡ length σ = omega arith in
    rw (a, take_all n σ h) at (makes_made n σ l inside)

-- at most n of the first k
pub makes_take : (n k : ℕ) (σ : List Store) (l : List ℕ) → makes_of n (take k σ) l ≡ makes_of (min n k) σ l
unfolding makes_of
makes_take zero k σ l = let a : min 0 k ≡ 0 = omega arith in rw a
makes_take (suc n) zero σ l = let a : min (suc n) 0 ≡ 0 = omega arith in rw a
makes_take (suc n) (suc k) [] l = let a : min (suc n) (suc k) ≡ suc (min n k) = omega arith in rw a
makes_take (suc n) (suc k) (s ∷ σ) l =
    let a : min (suc n) (suc k) ≡ suc (min n k) = omega arith in
    rw a (go (eqb (store_of s.word s.value l).number 0) (makes_take n k σ (store_of s.word s.value l).left))
  where
    go : {x y : Ran} (t : Bool) → x ≡ y → ◌≡◌ {A = Ran} (elim t [ true ↦ one_more x | false ↦ ran 0 l ]) (elim t [ true ↦ one_more y | false ↦ ran 0 l ])
    go true e = ap one_more e
    go false e = refl

-- ---- the loop's turns
-- what is left to do of two lists as stores, where k were made before: n of them
abbrev pub makes_from : ℕ → ℕ → List ℕ → List ℕ → List ℕ → Ran
makes_from k n ws vs l = let r : Ran = makes_of n (stores_in ws vs) l in ran (k + r.steps) r.left

pub makes_begun : (n : ℕ) (ws vs l : List ℕ) → makes_from 0 n ws vs l ≡ makes_of n (stores_in ws vs) l
makes_begun n ws vs l = let r : Ran = makes_of n (stores_in ws vs) l in ap (λ (k : ℕ). ran k r.left) (zero-add r.steps)

-- nothing is left
pub makes_none : (k n : ℕ) (ws vs l : List ℕ) → (0 < n → (length ws ≡ 0) ⊎ (length vs ≡ 0)) → makes_from k n ws vs l ≡ ran k l
unfolding makes_of stores_in
makes_none k zero ws vs l h = ap (λ (j : ℕ). ran j l) (add-zero k)
makes_none k (suc n) [] vs l h = ap (λ (j : ℕ). ran j l) (add-zero k)
makes_none k (suc n) (w ∷ ws) [] l h = ap (λ (j : ℕ). ran j l) (add-zero k)
makes_none k (suc n) (w ∷ ws) (v ∷ vs) l h = absurd (⊎_elim (λ e. omega (arith, e)) (λ e. omega (arith, e)) (h (omega arith)))

module _ (k n' : ℕ) (l : List ℕ) {n w v j : ℕ} {ws vs ws' vs' m : List ℕ} (words : ws ≡ w ∷ ws') (values : vs ≡ v ∷ vs') (fewer : n' + 1 ≡ n) (gave : after j m ≡ store_of w v l) where
  turned : {a : After} → store_of w v l ≡ a → makes_from k n ws vs l ≡ let r : Ran = gone_on n' (stores_in ws' vs') l a in ran (k + r.steps) r.left
  unfolding stores_in
  turned e =
      rw (words, values, ← fewer, add-one n')
      (ap (λ (r : Ran). ran (k + r.steps) r.left) (makes_suc n' (record { word = w; value = v }) (stores_in ws' vs') l e))

  -- a store that was made leaves those after it
  pub makes_next : j ≡ 0 → makes_from k n ws vs l ≡ makes_from (k + 1) n' ws' vs' m
  makes_next z =
      let r : Ran = makes_of n' (stores_in ws' vs') m in
      let o : k + (r.steps + 1) ≡ k + 1 + r.steps = omega arith in
      turned (sym gave ∙ ap (λ (j : ℕ). after j m) z) ∙ ap (λ (j : ℕ). ran j r.left) o

  -- a refused store is the last
  pub makes_end : j ≢ 0 → makes_from k n ws vs l ≡ ran k m
  makes_end z =
      ⊎_elim (λ s. absurd (z (ap (λ (x : After). x.number) (gave ∙ s))))
      (λ s. turned s ∙ rw (add-zero k) (ap (λ (x : After). ran k x.left) (sym (gave ∙ s)))) (store_either w v l)

-- ---- a step and a run of a plan of at most 21 stores
module _ (group : ℕ → ℕ) (σ : List Store) (e : Effect) (few : length σ ≤ 21) where
  place_at : (f : Store → ℕ) (i : ℕ) → get_or (take 21 (map f σ ++ replicate 21 (f unused))) i (f unused) ≡ f (get_or σ i unused)
  place_at f i = padded_at 21 21 (map f σ) i (f unused) (rw (length-map σ f) few) ∙ get_or-map f σ i unused

  -- place i of the plan holds store i; unused places 0
  pub plan_word : (i : ℕ) → get_or (plan_of group σ e).words i 0 ≡ (get_or σ i unused).word
  plan_word i = place_at (λ s. s.word) i

  pub plan_value : (i : ℕ) → get_or (plan_of group σ e).values i 0 ≡ (get_or σ i unused).value
  plan_value i = place_at (λ s. s.value) i

  -- "unused places 0"
  pub plan_unused : (i : ℕ) → length σ ≤ i → (get_or (plan_of group σ e).words i 0 ≡ 0) × (get_or (plan_of group σ e).values i 0 ≡ 0)
  plan_unused i h =
      let u = get_or-eq_default σ unused h in
      (plan_word i ∙ ap (λ (s : Store). s.word) u, plan_value i ∙ ap (λ (s : Store). s.value) u)

  -- a step at or past the count is refused
  pub step_past : (i : ℕ) (pool : List ℕ) → length σ ≤ i → step_of (plan_of group σ e) i pool ≡ after 5 pool
  unfolding step_of
  step_past i pool h = rw (le-ltb 21 (length σ) few, le-leb (length σ) i h)

  -- a step makes its store
  pub step_made : (pool : List ℕ) → Words (λ w. w < length pool) σ → (i : ℕ) → i < length σ
      → step_of (plan_of group σ e) i pool ≡ after 0 (set pool (get_or σ i unused).word (get_or σ i unused).value)
  unfolding step_of
  step_made pool inside i h =
      rw (
        le-ltb 21 (length σ) few,
        lt-leb (length σ) i h,
        plan_word i,
        plan_value i,
        lt-ltb (get_or σ i unused).word (length pool)
            (words_at (λ w. w < length pool) σ i h inside),
      )

  module _ (pool : List ℕ) (inside : Words (λ w. w < length pool) σ) where
    -- after the stores before it, a step makes the next
    pub step_after : (i : ℕ) → i < length σ → step_of (plan_of group σ e) i (made (take i σ) pool) ≡ after 0 (made (take (i + 1) σ) pool)
    step_after i h =
        let l = made (take i σ) pool in
        step_made l (words_more (λ w. w < length pool) (λ w. w < length l) σ (λ w b. omega (arith, length_made (take i σ) pool)) inside) i h
        ∙ ap (after 0) (sym (made_next σ i pool h))

  -- its steps make its stores
  pub plan_stores : stores_of (plan_of group σ e) ≡ σ
  plan_stores =
      rw (le-ltb 21 (length σ) few, padded_laid (λ s. s.word) σ few, padded_laid (λ s. s.value) σ few)
      (stores_first σ (replicate (21 - length σ) 0) (replicate (21 - length σ) 0))

  module _ (pool : List ℕ) (inside : Words (λ w. w < length pool) σ) where
    -- a run makes the stores in their order, and says how many
    pub run_made : (n : ℕ) → run_of n (plan_of group σ e) pool ≡ ran (min n (length σ)) (made (take n σ) pool)
    run_made n = rw plan_stores (makes_made n σ pool inside)

    -- a run of as many steps as there are stores, or more, makes them all
    pub run_whole : (n : ℕ) → length σ ≤ n → run_of n (plan_of group σ e) pool ≡ ran (length σ) (made σ pool)
    run_whole n h = rw plan_stores (makes_all n σ pool h inside)

-- ---- a run of any plan
module _ (p : Plan) (most : ℕ) (pool : List ℕ) where
  pub run_over : 21 < p.count → ran 0 pool ≡ run_of most p pool
  unfolding makes_of
  run_over h = rw (lt-ltb 21 p.count h) (go most)
    where
      go : (n : ℕ) → ran 0 pool ≡ makes_of n [] pool
      go zero = refl
      go (suc n) = refl

  pub run_makes : p.count ≤ 21 → makes_of (min most p.count) (stores_in p.words p.values) pool ≡ run_of most p pool
  run_makes h = rw (le-ltb 21 p.count h) (sym (makes_take most p.count (stores_in p.words p.values) pool))

-- ---- generations
-- 1 before all else where there is no such generation; else what is decided stays
module _ (g : ℕ) (d : Decided) where
  pub unknown_refuses : {r : Refusal} → Err r ≡ generation_of g → refused (number_of r) ≡ decided_for g d
  unknown_refuses {r} = go (same? g adr) (same? g eadr)
    where
      go : Same? g adr → Same? g eadr → Err r ≡ generation_of g → refused (number_of r) ≡ decided_for g d
      go (same p q) t = rw q (λ e. cc)
      go (other n q) (same p t) = rw (q, t) (λ e. cc)
      go (other n q) (other m t) = rw (q, t) (λ e. let f : r ≡ Size = cc in rw f)

  pub known_keeps : {x : Generation} → Ok x ≡ generation_of g → (d ≡ decided_for g d) × (generation_number x ≡ g)
  known_keeps {x} = go (same? g adr) (same? g eadr)
    where
      go : Same? g adr → Same? g eadr → Ok x ≡ generation_of g → (d ≡ decided_for g d) × (generation_number x ≡ g)
      go (same p q) t = rw q (λ e. let f : x ≡ Adr = cc in (refl, rw f (sym p)))
      go (other n q) (same p t) = rw (q, t) (λ e. let f : x ≡ Eadr = cc in (refl, rw f (sym p)))
      go (other n q) (other m t) = rw (q, t) (λ e. cc)
