-- Laws of stores laid out in two lists: how many there are, one more, and what making them comes to.
-- Assumes nothing.
use mathlib.Core.Path.{◌≡◌, refl, sym, ap, ◌∙◌}
use mathlib.Core.List.{List, [], ◌∷◌, ◌++◌, map}
use Prim.Native.Nat.{ℕ, zero, suc, ◌+◌, ◌-◌, ◌≤◌, ◌<◌, min}
use native.Mathlib.Nat.{not-suc-le-zero, le_of_suc-le-suc}
use native.Mathlib.Omega.{arith}
use lib.ListN.{length, set, take, replicate, length-append}
use Rattle.tree.specs.Stores.{Store}
use Rattle.plan.specs.declared.Plan.{Plan}
use Rattle.plan.specs.declared.Effect.{Effect}
use Rattle.plan.specs.Plans.{padded, plan_of, stores_in, makes_of}
use Rattle.plan.specs.Laid.{stores_laid, valued, words_laid, values_laid, IsLaid}
use Rattle.plan.proofs.Laws.{padded_laid, stores_first, makes_take}

-- one store more, in the next place
one_laid : (f : Store → ℕ) (σ : List Store) (s : Store) (k : ℕ) → set (map f σ ++ replicate (suc k) 0) (length σ) (f s) ≡ map f (σ ++ s ∷ []) ++ replicate k 0
one_laid f [] s k = refl
one_laid f (t ∷ σ) s k = ap (λ (l : List ℕ). f t ∷ l) (one_laid f σ s k)

next_laid : (f : Store → ℕ) (σ : List Store) (s : Store) (N n : ℕ) {l : List ℕ} → length σ ≡ n → n < N → l ≡ map f σ ++ replicate (N - length σ) 0
    → set l n (f s) ≡ map f (σ ++ s ∷ []) ++ replicate (N - length (σ ++ s ∷ [])) 0
next_laid f σ s N n e room q =
    let d : N - length σ ≡ suc (N - length (σ ++ s ∷ [])) = omega (arith, length-append σ (s ∷ [])) in
    rw (q, d, ← e) (one_laid f σ s (N - length (σ ++ s ∷ [])))

module _ {N n : ℕ} {ws vs : List ℕ} (laid : IsLaid N n ws vs) where
  -- making as many of the two lists as are laid out makes these
  pub makes_laid : (l : List ℕ) → makes_of n (stores_in ws vs) l ≡ makes_of (length (stores_laid n ws vs)) (stores_laid n ws vs) l
  makes_laid l =
      let e : min n n ≡ n = omega arith in
      rw laid.counted (rw e at (sym (makes_take n n (stores_in ws vs) l)))

  module _ (room : n < N) (w v : ℕ) where
    more : List Store
    more = stores_laid n ws vs ++ record { word = w; value = v } ∷ []

    length_more : length more ≡ n + 1
    unfolding more
    length_more = simp (length-append, laid.counted)

    words_more : set ws n w ≡ words_laid N more
    unfolding more
    words_more = next_laid (λ s. s.word) (stores_laid n ws vs) (record { word = w; value = v }) N n laid.counted room laid.words

    values_more : set vs n v ≡ values_laid N more
    unfolding more
    values_more = next_laid (λ s. s.value) (stores_laid n ws vs) (record { word = w; value = v }) N n laid.counted room laid.values

    more_first : stores_laid (n + 1) (set ws n w) (set vs n v) ≡ more
    more_first =
        rw (words_more, values_more, ← length_more)
        (stores_first more (replicate (N - length more) 0) (replicate (N - length more) 0))

    -- one store more
    pub laid_more : stores_laid (n + 1) (set ws n w) (set vs n v) ≡ stores_laid n ws vs ++ record { word = w; value = v } ∷ []
    unfolding more
    laid_more = more_first

    pub is_laid_more : IsLaid N (n + 1) (set ws n w) (set vs n v)
    is_laid_more = record {
      counted = rw more_first length_more;
      within = omega arith;
      words = rw more_first words_more;
      values = rw more_first values_more;
    }

-- ---- another value in a place
stores_valued : (ws vs : List ℕ) (i v : ℕ) → stores_in ws (set vs i v) ≡ valued (stores_in ws vs) i v
unfolding stores_in
stores_valued [] vs i v = refl
stores_valued (w ∷ ws) [] i v = refl
stores_valued (w ∷ ws) (x ∷ vs) zero v = refl
stores_valued (w ∷ ws) (x ∷ vs) (suc i) v = ap (λ (σ : List Store). record { word = w; value = x } ∷ σ) (stores_valued ws vs i v)

take_valued : (n : ℕ) (σ : List Store) (i v : ℕ) → take n (valued σ i v) ≡ valued (take n σ) i v
take_valued zero σ i v = refl
take_valued (suc n) [] i v = refl
take_valued (suc n) (s ∷ σ) zero v = refl
take_valued (suc n) (s ∷ σ) (suc i) v = ap (λ (τ : List Store). s ∷ τ) (take_valued n σ i v)

pub length_valued : (σ : List Store) (i v : ℕ) → length (valued σ i v) ≡ length σ
length_valued [] i v = refl
length_valued (s ∷ σ) zero v = refl
length_valued (s ∷ σ) (suc i) v = ap suc (length_valued σ i v)

words_valued : (σ : List Store) (i v : ℕ) → map (λ (s : Store). s.word) (valued σ i v) ≡ map (λ (s : Store). s.word) σ
words_valued [] i v = refl
words_valued (s ∷ σ) zero v = refl
words_valued (s ∷ σ) (suc i) v = ap (λ (l : List ℕ). s.word ∷ l) (words_valued σ i v)

values_valued : (σ : List Store) (i v : ℕ) (rest : List ℕ) → i < length σ
    → set (map (λ (s : Store). s.value) σ ++ rest) i v ≡ map (λ (s : Store). s.value) (valued σ i v) ++ rest
values_valued [] i v rest h = absurd (not-suc-le-zero h)
values_valued (s ∷ σ) zero v rest h = refl
values_valued (s ∷ σ) (suc i) v rest h = ap (λ (l : List ℕ). s.value ∷ l) (values_valued σ i v rest (le_of_suc-le-suc h))

module _ {N n : ℕ} {ws vs : List ℕ} (laid : IsLaid N n ws vs) (i v : ℕ) where
  pub laid_valued : stores_laid n ws (set vs i v) ≡ valued (stores_laid n ws vs) i v
  laid_valued = ap (take n) (stores_valued ws vs i v) ∙ take_valued n (stores_in ws vs) i v

  pub is_laid_valued : i < n → IsLaid N n ws (set vs i v)
  is_laid_valued h =
      let σ = stores_laid n ws vs in
      let l : i < length σ = omega (arith, laid.counted) in
      let a = length_valued σ i v in
      record {
        counted = rw laid_valued (a ∙ laid.counted);
        within = laid.within;
        words = rw (laid_valued, words_valued σ i v, a) laid.words;
        values = rw (laid_valued, a, ← values_valued σ i v (replicate (N - length σ) 0) l) (ap (λ (l : List ℕ). set l i v) laid.values);
      }

-- two lists of 21 places are those of the plan of the stores laid out in them
pub plan_laid : {n : ℕ} {ws vs : List ℕ} → IsLaid 21 n ws vs → (first : ℕ) (e : Effect)
    → ◌≡◌ {A = Plan} (record { words = ws; values = vs; count = n; first = first; fences = 0; effect = e }) (plan_of (λ _. first) (stores_laid n ws vs) e)
plan_laid {n} {ws} {vs} laid first e =
    let σ = stores_laid n ws vs in
    let few : length σ ≤ 21 = omega (arith, laid.counted, laid.within) in
    let words : ws ≡ padded (map (λ (s : Store). s.word) σ) = laid.words ∙ sym (padded_laid (λ s. s.word) σ few) in
    let values : vs ≡ padded (map (λ (s : Store). s.value) σ) = laid.values ∙ sym (padded_laid (λ s. s.value) σ few) in
    let count = laid.counted in
    cc
