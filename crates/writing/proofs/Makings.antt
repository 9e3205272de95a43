-- Stores that are laid out and made: a whole call leaves what its plan says.
-- Assumes nothing.
use mathlib.Core.Path.{◌≡◌, ap, ◌∙◌}
use mathlib.Core.List.{List, [], ◌∷◌, map}
use Prim.Native.Nat.{ℕ, ◌<◌}
use native.Mathlib.Omega.{arith}
use lib.ListN.{length}
use Rattle.tree.specs.Stores.{Store}
use Rattle.tree.proofs.Stores.{Words}
use Rattle.plan.specs.Plans.{Decided, decided, made, After, after, Ran, ran, makes_of}
use Rattle.plan.specs.Effects.{Below}
use Rattle.plan.specs.declared.Effect.{Effect}
use Rattle.plan.proofs.Laws.{makes_all}
use Rattle.rules.specs.Puts.{put_plan}
use Rattle.rules.specs.Deletes.{delete_plan}
use Rattle.rules.proofs.Fits.{put_inside, delete_inside}
use Rattle.finishing.specs.Finishes.{finish_of}
use Rattle.writing.specs.Calls.{done, left, whole_of}
use Rattle.writing.specs.Fitting.{Fitting}

-- ---- words inside the pool
within : (n : ℕ) (σ : List Store) → Below n (map (λ (s : Store). s.word) σ) → Words (λ w. w < n) σ
unfolding Words
within n [] h = tt
within n (s ∷ σ) h = (h.0, within n σ h.1)

inside : (n : ℕ) (σ : List Store) → Words (λ w. w < n) σ → Below n (map (λ (s : Store). s.word) σ)
unfolding Words
inside n [] h = tt
inside n (s ∷ σ) h = (h.0, inside n σ h.1)

-- those of a put and of a delete are
pub put_fitting : (pool map : List ℕ) (k v : ℕ) {d : Decided} → d ≡ put_plan pool map k v → Fitting pool d
put_fitting pool map k v q = rw q (inside (length pool) (put_plan pool map k v).stores (put_inside pool map k v))

pub delete_fitting : (pool : List ℕ) (k : ℕ) {d : Decided} → d ≡ delete_plan pool k → Fitting pool d
delete_fitting pool k q = rw q (inside (length pool) (delete_plan pool k).stores (delete_inside pool k))

-- ---- what is made
-- all of them, and the finish
pub carried : (pool map : List ℕ) (σ : List Store) (e : Effect) {r k : ℕ} {pool' map' : List ℕ} → Fitting pool (decided σ e)
    → ran r pool' ≡ makes_of (length σ) σ pool → after k map' ≡ finish_of e map → left (done 0 r) pool' map' ≡ whole_of (decided σ e) pool map
carried pool map σ e {r} {k} {pool'} {map'} fits makes finish =
    let all : ran r pool' ≡ ran (length σ) (made σ pool) = makes ∙ makes_all (length σ) σ pool (omega arith) (within (length pool) σ fits) in
    let a : r ≡ length σ = ap (λ (x : Ran). x.steps) all in
    let b : pool' ≡ made σ pool = ap (λ (x : Ran). x.left) all in
    let c : map' ≡ (finish_of e map).left = ap (λ (x : After). x.left) finish in
    rw (a, b, c)
