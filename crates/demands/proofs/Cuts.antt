-- Rules of cuts: cuts in order lie within cuts by groups, and these within the loose ones, of which the laws of operations speak.
-- Assumes nothing.
use mathlib.Core.Path.{◌≡◌, refl, sym, ap, ◌∙◌, subst}
use mathlib.Core.Bool.{Bool, true, false}
use mathlib.Core.Logic.{◌⊎◌, inl, inr}
use mathlib.Core.List.{List, [], ◌∷◌, ◌++◌, append-nil}
use Prim.Native.Nat.{ℕ, zero, suc, ◌+◌, ◌-◌, ◌≤◌, ◌<◌}
use native.Mathlib.Nat.{zero-add}
use native.Mathlib.Omega.{arith}
use borrow.Author.Tests.{eq-eqb, ne_eqb, lt-ltb}
use lib.Dec.{eqb}
use lib.ListN.{length, take, drop, take-append-drop}
use lib.Seq.{take-take}
use Rattle.tree.specs.Stores.{Store, Part, done, made as kept, lost}
use Rattle.tree.proofs.Basics.{less?}
use Rattle.tree.proofs.Stores.{part_all, part_none, part_take, part_nil, part_one}
use Rattle.listing.specs.Rows.{Word}
use Rattle.plan.specs.Plans.{all_but_last, the_switch}
use Rattle.demands.specs.Demand3.{Generation, ADR, EADR, cuts_of, Op, put, delete, first_group, counts, InGroups, in_first, in_second, InOrder, first, Within}

-- Only the store that counts keeps its place: of a put any of all stores but the last have arrived, or all; of a delete none, or the first and any of those
-- after it.
pub data Loosely : Op → List Store → List Store → Bool → Type 0 where
  put_before : {k v : ℕ} {h : Word k} {σ τ : List Store} → Part (take (length σ - 1) σ) τ → Loosely (put k v h) σ τ false
  put_whole : {k v : ℕ} {h : Word k} {σ : List Store} → Loosely (put k v h) σ σ true
  delete_before : {k : ℕ} {h : Word k} {σ : List Store} → Loosely (delete k h) σ [] false
  delete_since : {k : ℕ} {h : Word k} {s : Store} {σ τ : List Store} → Part σ τ → Loosely (delete k h) (s ∷ σ) (s ∷ τ) true

-- ---- lists of stores
part_length : (σ τ : List Store) → Part σ τ → length τ ≤ length σ
part_length σ τ done = omega arith
part_length σ τ (kept {σ = σ'} {τ = τ'} p) = omega (arith, part_length σ' τ' p)
part_length σ τ (lost {σ = σ'} {τ = τ'} p) = omega (arith, part_length σ' τ' p)

take_on : (f i : ℕ) (σ : List Store) → take (f + i) σ ≡ take f σ ++ take i (drop f σ)
take_on zero i σ = ap (λ (j : ℕ). take j σ) (zero-add i)
take_on (suc f) i [] = take_none (suc f + i) ∙ sym (take_none i)
  where
    take_none : (j : ℕ) → ◌≡◌ {A = List Store} (take j []) []
    take_none zero = refl
    take_none (suc j) = refl
take_on (suc f) i (s ∷ σ) = let e : suc f + i ≡ suc (f + i) = omega arith in rw e (ap (λ (l : List Store). s ∷ l) (take_on f i σ))

length_take_le : (n : ℕ) (σ : List Store) → n ≤ length σ → length (take n σ) ≡ n
length_take_le zero σ h = refl
length_take_le (suc n) [] h = absurd (omega arith)
length_take_le (suc n) (s ∷ σ) h = ap suc (length_take_le n σ (omega arith))

drop_last : (n : ℕ) (σ : List Store) → n + 1 ≡ length σ → (s : Store) × (drop n σ ≡ s ∷ [])
drop_last zero [] h = absurd (omega arith)
drop_last zero (s ∷ []) h = (s, refl)
drop_last zero (s ∷ s' ∷ σ) h = absurd (omega arith)
drop_last (suc n) [] h = absurd (omega arith)
drop_last (suc n) (s ∷ σ) h = drop_last n σ (omega arith)

-- ---- cuts in order are cuts by groups
module _ (o : Op) (σ : List Store) (n : ℕ) (few : n ≤ length σ) where
  abbrev f : ℕ
  f = first_group o (length σ)

  up_to : (n < f) ⊎ (f ≤ n) → InGroups o σ (take n σ) (counts o (length (take n σ)) (length σ))
  up_to (inl h) = in_first (subst (λ (l : List Store). Part (take f σ) l) (take-take n f σ (omega arith)) (part_take n (take f σ)))
  up_to (inr h) =
      let e : n ≡ f + (n - f) = omega arith in
      subst (λ (l : List Store). InGroups o σ l (counts o (length l) (length σ))) (sym (ap (λ (j : ℕ). take j σ) e ∙ take_on f (n - f) σ))
      (in_second (part_take (n - f) (drop f σ)))

pub in_order_groups : Within InOrder InGroups
in_order_groups o σ τ b (first n few) =
    subst (λ (i : ℕ). InGroups o σ (take n σ) (counts o i (length σ))) (length_take_le n σ few) (up_to o σ n few (less? n (first_group o (length σ))))

-- ---- cuts by groups are loose ones
module _ (k v : ℕ) (h : Word k) where
  all_of : (σ τ : List Store) → τ ≡ σ → Loosely (put k v h) σ τ (eqb (length τ) (length σ))
  all_of σ τ e = subst (λ (l : List Store). Loosely (put k v h) σ l (eqb (length l) (length σ))) (sym e) (rw (eq-eqb (length σ) (length σ) refl) put_whole)

  -- a put of one store: none, or it
  put_one : (s : Store) (τ : List Store) → (τ ≡ []) ⊎ (τ ≡ s ∷ []) → Loosely (put k v h) (s ∷ []) τ (eqb (length τ) 1)
  put_one s τ (inl z) = rw z (put_before done)
  put_one s τ (inr z) = all_of (s ∷ []) τ z

  -- of more: some of all but the last
  module _ (f : ℕ) (σ : List Store) (e : f + 1 ≡ length σ) where
    put_some : (τ : List Store) → Part (take f σ) τ → Loosely (put k v h) σ τ (eqb (length τ) (length σ))
    put_some τ p =
        let few : length τ ≤ f = omega (arith, part_length (take f σ) τ p, length_take_le f σ (omega arith)) in
        let f-is : f ≡ length σ - 1 = omega arith in
        rw (ne_eqb (length τ) (length σ) (λ z. omega arith)) (put_before (subst (λ (i : ℕ). Part (take i σ) τ) f-is p))

    -- or these, and the last or not
    put_last : (ρ : List Store) → Part (drop f σ) ρ → Loosely (put k v h) σ (take f σ ++ ρ) (eqb (length (take f σ ++ ρ)) (length σ))
    put_last ρ p = let (s, q) = drop_last f σ e in go s q (part_one s ρ (subst (λ (l : List Store). Part l ρ) q p))
      where
        go : (s : Store) → drop f σ ≡ s ∷ [] → (ρ ≡ []) ⊎ (ρ ≡ s ∷ []) → Loosely (put k v h) σ (take f σ ++ ρ) (eqb (length (take f σ ++ ρ)) (length σ))
        go s q (inl z) =
            subst (λ (l : List Store). Loosely (put k v h) σ l (eqb (length l) (length σ)))
            (sym (append-nil (take f σ)) ∙ ap (λ (l : List Store). take f σ ++ l) (sym z))
            (put_some (take f σ) (part_all (take f σ)))
        go s q (inr z) = all_of σ (take f σ ++ ρ) (ap (λ (l : List Store). take f σ ++ l) (z ∙ sym q) ∙ take-append-drop f σ)

  bound : (σ : List Store) → 0 < length σ → (all_but_last (length σ) + 1 ≡ length σ) ⊎ ((s : Store) × (σ ≡ s ∷ []))
  bound [] many = absurd (omega arith)
  bound (s ∷ []) many = inr (s, refl)
  bound (s ∷ s' ∷ σ) many = inl (rw (lt-ltb 1 (length (s ∷ s' ∷ σ)) (omega arith)) (omega arith))

  -- the first group, and then these
  abbrev begun : List Store → List Store → List Store
  begun ρ l = take (all_but_last (length l)) l ++ ρ

  put_loosely : (σ τ : List Store) (b : Bool) → 0 < length σ → InGroups (put k v h) σ τ b → Loosely (put k v h) σ τ b
  put_loosely σ τ b many (in_first p) = go (bound σ many)
    where
      go : (all_but_last (length σ) + 1 ≡ length σ) ⊎ ((s : Store) × (σ ≡ s ∷ [])) → Loosely (put k v h) σ τ (eqb (length τ) (length σ))
      go (inl e) = put_some (all_but_last (length σ)) σ e τ p
      go (inr (s, q)) =
          subst (λ (l : List Store). Loosely (put k v h) l τ (eqb (length τ) (length l))) (sym q)
          (put_one s τ (part_one s τ (subst (λ (l : List Store). Part (take (all_but_last (length l)) l) τ) q p)))
  put_loosely σ τ b many (in_second {τ = ρ} p) = go (bound σ many)
    where
      go : (all_but_last (length σ) + 1 ≡ length σ) ⊎ ((s : Store) × (σ ≡ s ∷ [])) → Loosely (put k v h) σ (begun ρ σ) (eqb (length (begun ρ σ)) (length σ))
      go (inl e) = put_last (all_but_last (length σ)) σ e ρ p
      go (inr (s, q)) =
          let none : ρ ≡ [] = part_nil ρ (subst (λ (l : List Store). Part (drop (all_but_last (length l)) l) ρ) q p) in
          subst (λ (l : List Store). Loosely (put k v h) l (begun ρ l) (eqb (length (begun ρ l)) (length l))) (sym q)
          (put_one s (s ∷ ρ) (inr (ap (λ (l : List Store). s ∷ l) none)))

module _ (k : ℕ) (h : Word k) (s : Store) (σ : List Store) where
  switch_first : (n : ℕ) → the_switch (suc n) ≡ 1
  switch_first zero = refl
  switch_first (suc n) = rw (lt-ltb 1 (suc (suc n)) (omega arith))

  -- none, or the first
  delete_first : (τ : List Store) → (τ ≡ []) ⊎ (τ ≡ s ∷ []) → Loosely (delete k h) (s ∷ σ) τ (counts (delete k h) (length τ) (length (s ∷ σ)))
  delete_first τ (inl z) = rw z delete_before
  delete_first τ (inr z) = rw z (delete_since (part_none σ))

  delete_loosely : (τ : List Store) (b : Bool) → InGroups (delete k h) (s ∷ σ) τ b → Loosely (delete k h) (s ∷ σ) τ b
  delete_loosely τ b (in_first p) = delete_first τ (part_one s τ (subst (λ (i : ℕ). Part (take i (s ∷ σ)) τ) (switch_first (length σ)) p))
  delete_loosely τ b (in_second {τ = ρ} p) =
      subst (λ (i : ℕ). Loosely (delete k h) (s ∷ σ) (take i (s ∷ σ) ++ ρ) (counts (delete k h) (length (take i (s ∷ σ) ++ ρ)) (length (s ∷ σ))))
      (sym (switch_first (length σ))) (delete_since (subst (λ (i : ℕ). Part (drop i (s ∷ σ)) ρ) (switch_first (length σ)) p))

groups_loosely : (o : Op) (σ τ : List Store) (b : Bool) → 0 < length σ → InGroups o σ τ b → Loosely o σ τ b
groups_loosely (put k v h) σ τ b many c = put_loosely k v h σ τ b many c
groups_loosely (delete k h) [] τ b many c = absurd (omega arith)
groups_loosely (delete k h) (s ∷ σ) τ b many c = delete_loosely k h s σ τ b c

-- so are a generation's
pub cuts_loosely : (g : Generation) (o : Op) (σ τ : List Store) (b : Bool) → 0 < length σ → cuts_of g o σ τ b → Loosely o σ τ b
cuts_loosely ADR o σ τ b many c = groups_loosely o σ τ b many c
cuts_loosely EADR o σ τ b many c = groups_loosely o σ τ b many (in_order_groups o σ τ b c)
