-- Tests that carry their proof, updates, and sums. Rests on arithmetic alone. Assumes nothing.
use mathlib.Core.Path.{◌≡◌, refl, sym, ap, ◌∙◌}
use mathlib.Core.Logic.{◌≢◌, ◌⊎◌, inl, inr}
use Prim.Native.Nat.{ℕ, zero, suc, ◌+◌, ◌≤◌, ◌<◌}
use mathlib.Core.Bool.{Bool, true, false}
use native.Mathlib.Omega.{arith}
use native.Mathlib.Nat.{not-suc-le-zero, le_of_suc-le-suc, eq-or-lt_of_le}
use lib.Dec.{eqb, ltb}
use borrow.Author.Tests.{ltb-true, ltb-false, eqb-true, eqb-false, eq-eqb, ne_eqb}
use Rattle.digits.specs.Choice.{pick}
use Rattle.digits.specs.Loops.{tally}
use Rattle.tree.specs.Tree.{upd, sum, one}

-- ---- tests
pub data Same? (x y : ℕ) : Type 0 where
  same : x ≡ y → eqb x y ≡ true → Same? x y
  other : x ≢ y → eqb x y ≡ false → Same? x y

pub same? : (x y : ℕ) → Same? x y
same? x y = go (eqb x y) refl
  where
    go : (t : Bool) → eqb x y ≡ t → Same? x y
    go true e = same (eqb-true x y e) e
    go false e = other (eqb-false x y e) e

pub less? : (a b : ℕ) → (a < b) ⊎ (b ≤ a)
less? a b = go (ltb a b) refl
  where
    go : (t : Bool) → ltb a b ≡ t → (a < b) ⊎ (b ≤ a)
    go true e = inl (ltb-true a b e)
    go false e = inr (ltb-false a b e)

-- c < suc n, by cases
pub last? : (c n : ℕ) → c < suc n → (c ≡ n) ⊎ (c < n)
last? c n h = eq-or-lt_of_le (le_of_suc-le-suc h)

pub true_not_false : {b : Bool} → b ≡ true → b ≡ false → ⊥
true_not_false p q = let z : ◌≡◌ {A = ℕ} 0 1 = cc in omega arith

-- ---- updates
pub upd_at {ℓ} : {B : Type ℓ} (f : ℕ → B) (c : ℕ) (a : B) → upd f c a c ≡ a
upd_at f c a = rw (eq-eqb c c refl)

pub upd_off {ℓ} : {B : Type ℓ} (f : ℕ → B) (c : ℕ) (a : B) (i : ℕ) → i ≢ c → upd f c a i ≡ f i
upd_off f c a i h = rw (ne_eqb i c h)

pub upd_case : {B : Type 0} (P : ℕ → B → Type 0) (f : ℕ → B) (c : ℕ) (a : B) (d : ℕ) → P c a → (d ≢ c → P d (f d)) → P d (upd f c a d)
upd_case P f c a d at off = go (same? d c)
  where
    go : Same? d c → P d (pick (eqb d c) a (f d))
    go (same e q) = rw (q, e) at
    go (other n q) = rw q (off n)

-- ---- counts of one slot
pub one_at : (x : ℕ) → one (eqb x x) ≡ 1
one_at x = rw (eq-eqb x x refl)

pub one_off : (x y : ℕ) → x ≢ y → one (eqb x y) ≡ 0
one_off x y h = rw (ne_eqb x y h)

pub one_le : (t : Bool) → one t ≤ 1
one_le true = omega arith
one_le false = omega arith

pub one_is : (x y : ℕ) → 0 < one (eqb x y) → x ≡ y
one_is x y h = go (same? x y)
  where
    go : Same? x y → x ≡ y
    go (same e p) = e
    go (other n p) = absurd (omega (arith, ap one p))

-- ---- sums
pub sum_has : (n : ℕ) (f : ℕ → ℕ) (c : ℕ) → c < n → f c ≤ sum n f
sum_has zero f c h = absurd (not-suc-le-zero h)
sum_has (suc n) f c h = go (sum_has n f c) (last? c n h)
  where
    go : (c < n → f c ≤ sum n f) → (c ≡ n) ⊎ (c < n) → f c ≤ sum n f + f n
    go ih (inl e) = rw e (omega arith)
    go ih (inr l) = omega (arith, ih l)

pub sum_two : (n : ℕ) (f : ℕ → ℕ) (c d : ℕ) → c < n → d < n → c ≢ d → f c + f d ≤ sum n f
sum_two zero f c d h l a = absurd (not-suc-le-zero h)
sum_two (suc n) f c d h l a = go (sum_two n f c d) (last? c n h) (last? d n l)
  where
    go : (c < n → d < n → c ≢ d → f c + f d ≤ sum n f) → (c ≡ n) ⊎ (c < n) → (d ≡ n) ⊎ (d < n) → f c + f d ≤ sum n f + f n
    go ih (inl e) (inl e') = absurd (a (e ∙ sym e'))
    go ih (inl e) (inr l') = rw e (omega (arith, sum_has n f d l'))
    go ih (inr l') (inl e) = rw e (omega (arith, sum_has n f c l'))
    go ih (inr l') (inr l'') = omega (arith, ih l' l'' a)

pub sum_same : (n : ℕ) (f g : ℕ → ℕ) → ((i : ℕ) → i < n → f i ≡ g i) → sum n f ≡ sum n g
sum_same zero f g e = refl
sum_same (suc n) f g e = omega (arith, sum_same n f g (λ i h. e i (omega arith)), e n (omega arith))

pub sum_zero : (n : ℕ) (f : ℕ → ℕ) → ((i : ℕ) → i < n → f i ≡ 0) → sum n f ≡ 0
sum_zero zero f h = refl
sum_zero (suc n) f h = omega (arith, sum_zero n f (λ i l. h i (omega arith)), h n (omega arith))

-- one summand changed
pub sum_upd : (n : ℕ) (f g : ℕ → ℕ) (c : ℕ) → c < n → ((i : ℕ) → i ≢ c → f i ≡ g i) → sum n f + g c ≡ sum n g + f c
sum_upd zero f g c h e = absurd (not-suc-le-zero h)
sum_upd (suc n) f g c h e = go (λ l. sum_upd n f g c l e) (last? c n h)
  where
    go : (c < n → sum n f + g c ≡ sum n g + f c) → (c ≡ n) ⊎ (c < n) → sum n f + f n + g c ≡ sum n g + g n + f c
    go ih (inl e') = rw e' (omega (arith, sum_same n f g (λ i l. e i (λ z. omega (arith, e')))))
    go ih (inr l) = omega (arith, ih l, e n (λ z. omega arith))

-- one summand taken out
pub sum_less : (n : ℕ) (f : ℕ → ℕ) (c : ℕ) → c < n → sum n (upd f c 0) + f c ≡ sum n f
sum_less n f c l = omega (arith, sum_upd n (upd f c 0) f c l (λ i h. upd_off f c 0 i h), upd_at f c 0)

-- two summands and no other
pub sum_only : (n : ℕ) (f : ℕ → ℕ) (c d : ℕ) → c < n → d < n → c ≢ d → ((i : ℕ) → i < n → i ≢ c → i ≢ d → f i ≡ 0) → sum n f ≡ f c + f d
sum_only n f c d lc ld apart rest =
    let g : ℕ → ℕ = upd f c 0 in
    omega (
      arith,
      sum_less n f c lc,
      sum_less n g d ld,
      upd_off f c 0 d (λ z. apart (sym z)),
      sum_zero n (upd g d 0) (λ i l. upd_case (λ i x. x ≡ 0) g d 0 i refl (λ p. upd_case (λ i x. i ≢ d → x ≡ 0) f c 0 i (λ z. refl) (λ o z. rest i l o z) p)),
    )

pub sum_add : (n : ℕ) (f g : ℕ → ℕ) → sum n (λ i. f i + g i) ≡ sum n f + sum n g
sum_add zero f g = refl
sum_add (suc n) f g = omega (arith, sum_add n f g)

pub sum_swap : (n k : ℕ) (f : ℕ → ℕ → ℕ) → sum n (λ i. sum k (f i)) ≡ sum k (λ c. sum n (λ i. f i c))
sum_swap n zero f = sum_zero n (λ i. 0) (λ i h. refl)
sum_swap n (suc k) f = sum_add n (λ i. sum k (f i)) (λ i. f i k) ∙ ap (◌+ sum n (λ i. f i k)) (sum_swap n k f)

-- a sum that is not 0 has a summand that is not
pub sum_some : (n : ℕ) (f : ℕ → ℕ) → 0 < sum n f → (c : ℕ) × (c < n) × (0 < f c)
sum_some zero f h = absurd (omega arith)
sum_some (suc n) f h = go (sum_some n f) (less? 0 (f n))
  where
    go : (0 < sum n f → (c : ℕ) × (c < n) × (0 < f c)) → (0 < f n) ⊎ (f n ≤ 0) → (c : ℕ) × (c < suc n) × (0 < f c)
    go ih (inl p) = (n, omega arith, p)
    go ih (inr p) = let (c, l, q) = ih (omega arith) in (c, omega arith, q)

-- a sum of summands at most 1, no two of which are 1, is at most 1
pub sum_once : (n : ℕ) (f : ℕ → ℕ) → ((c : ℕ) → c < n → f c ≤ 1) → ((c d : ℕ) → c < n → d < n → c ≢ d → 0 < f c → 0 < f d → ⊥) → sum n f ≤ 1
sum_once zero f le apart = omega arith
sum_once (suc n) f le apart =
    go (sum_once n f (λ c l. le c (omega arith)) (λ c d l k. apart c d (omega arith) (omega arith))) (less? 0 (sum n f)) (less? 0 (f n))
  where
    go : sum n f ≤ 1 → (0 < sum n f) ⊎ (sum n f ≤ 0) → (0 < f n) ⊎ (f n ≤ 0) → sum n f + f n ≤ 1
    go ih (inl p) (inl q) = let (c, l, o) = sum_some n f p in absurd (apart c n (omega arith) (omega arith) (λ z. omega arith) o q)
    go ih (inl p) (inr q) = omega arith
    go ih (inr p) q = omega (arith, le n (omega arith))

-- a count is a sum
pub tally_sum : (n : ℕ) (test : ℕ → Bool) → tally n test ≡ sum n (λ c. one (test c))
unfolding tally
tally_sum zero test = refl
tally_sum (suc n) test = go (test n) (tally_sum n test)
  where
    go : (t : Bool) → tally n test ≡ sum n (λ c. one (test c)) → tally n test + pick t 1 0 ≡ sum n (λ c. one (test c)) + one t
    go true ih = rw ih
    go false ih = rw ih
