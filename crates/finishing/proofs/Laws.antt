-- Laws of finishing: what each byte is afterwards, and where a byte is outside.
-- Assumes nothing.
use mathlib.Core.Path.{◌≡◌, refl, ap, ◌∙◌}
use mathlib.Core.Logic.{◌⊎◌, inl, inr, ⊎_elim}
use mathlib.Core.Bool.{Bool, true, false}
use mathlib.Core.List.{List, [], ◌∷◌}
use Prim.Native.Nat.{ℕ, ◌≤◌, ◌<◌}
use native.Mathlib.Omega.{arith}
use borrow.Author.Tests.{lt-ltb, le-ltb}
use lib.Dec.{eqb}
use lib.ListN.{length, get_or, set, length-set}
use lib.Seq.{get_or-set_same, get_or-set_other}
use Rattle.digits.specs.Choice.{pick}
use Rattle.tree.specs.Stores.{Store}
use Rattle.tree.proofs.Basics.{Same?, same, other, same?, less?}
use Rattle.plan.specs.declared.Effect.{Effect}
use Rattle.plan.specs.declared.Effect.TheVariants.{Nothing, TakesLeaf, TakesBoth, FreesLeaf, FreesBoth}
use Rattle.plan.specs.Plans.{made, After, after, store_of}
use Rattle.plan.specs.Effects.{takes, frees, has, byte_of, Below, Inside}
use Rattle.plan.proofs.Laws.{length_made}
use Rattle.finishing.specs.Finishes.{stores_of, finish_of}

-- a store of v to each of these bytes
abbrev marks : ℕ → List ℕ → List Store
marks v [] = []
marks v (y ∷ ys) = record { word = y; value = v } ∷ marks v ys

marks_at : (v : ℕ) (ys l : List ℕ) (x : ℕ) → Below (length l) ys → get_or (made (marks v ys) l) x 0 ≡ pick (has x ys) v (get_or l x 0)
unfolding made
marks_at v [] l x h = refl
marks_at v (y ∷ ys) l x h = marks_at v ys (set l y v) x (rw (length-set l y v) h.1) ∙ go (same? x y)
  where
    either : (t : Bool) → pick t v v ≡ v
    either true = refl
    either false = refl

    go : Same? x y → pick (has x ys) v (get_or (set l y v) x 0) ≡ pick (pick (eqb x y) true (has x ys)) v (get_or l x 0)
    go (same e q) = rw (q, e, get_or-set_same l y v 0 h.0) (either (has y ys))
    go (other n q) = rw (q, get_or-set_other l y x v 0 n)

-- ys set to v where all are inside; else nothing changes
abbrev Stored : List ℕ → ℕ → List ℕ → After → Type 0
Stored ys v l a = (Below (length l) ys × (a ≡ after 0 (made (marks v ys) l))) ⊎ ((Below (length l) ys → ⊥) × (a ≡ after 5 l))

store_stored : (y v : ℕ) (l : List ℕ) → Stored (y ∷ []) v l (store_of y v l)
unfolding made
store_stored y v l = go (less? y (length l))
  where
    go : (y < length l) ⊎ (length l ≤ y) → Stored (y ∷ []) v l (store_of y v l)
    go (inl h) = inl ((h, tt), rw (lt-ltb y (length l) h))
    go (inr h) = inr ((λ b. omega (arith, b.0)), rw (le-ltb y (length l) h))

stores_stored : (y z v : ℕ) (l : List ℕ) → Stored (y ∷ z ∷ []) v l (stores_of y z v l)
unfolding made
stores_stored y z v l = go (less? y (length l)) (less? z (length l))
  where
    go : (y < length l) ⊎ (length l ≤ y) → (z < length l) ⊎ (length l ≤ z) → Stored (y ∷ z ∷ []) v l (stores_of y z v l)
    go (inl h) (inl k) = inl ((h, (k, tt)), rw (lt-ltb y (length l) h, lt-ltb z (length l) k))
    go (inl h) (inr k) = inr ((λ b. omega (arith, b.1.0)), rw (lt-ltb y (length l) h, le-ltb z (length l) k))
    go (inr h) k = inr ((λ b. omega (arith, b.0)), rw (le-ltb y (length l) h))

-- ys taken and zs freed where all are inside; else nothing changes
abbrev Finished : List ℕ → List ℕ → List ℕ → After → Type 0
Finished ys zs l a =
    ((Below (length l) ys × Below (length l) zs) × (a ≡ after 0 (made (marks 1 ys) (made (marks 0 zs) l))))
    ⊎ ((Below (length l) ys × Below (length l) zs → ⊥) × (a ≡ after 5 l))

taken : (ys l : List ℕ) (a : After) → Stored ys 1 l a → Finished ys [] l a
unfolding made
taken ys l a (inl h) = inl ((h.0, tt), h.1)
taken ys l a (inr h) = inr ((λ b. h.0 b.0), h.1)

freed : (zs l : List ℕ) (a : After) → Stored zs 0 l a → Finished [] zs l a
unfolding made
freed zs l a (inl h) = inl ((tt, h.0), h.1)
freed zs l a (inr h) = inr ((λ b. h.0 b.1), h.1)

finished : (e : Effect) (bytes : List ℕ) → Finished (takes e) (frees e) bytes (finish_of e bytes)
unfolding made
finished Nothing bytes = inl ((tt, tt), refl)
finished (TakesLeaf a) bytes = taken (a ∷ []) bytes (store_of a 1 bytes) (store_stored a 1 bytes)
finished (TakesBoth a b) bytes = taken (a ∷ b ∷ []) bytes (stores_of a b 1 bytes) (stores_stored a b 1 bytes)
finished (FreesLeaf a) bytes = freed (a ∷ []) bytes (store_of a 0 bytes) (store_stored a 0 bytes)
finished (FreesBoth a b) bytes = freed (a ∷ b ∷ []) bytes (stores_of a b 0 bytes) (stores_stored a b 0 bytes)

module _ (e : Effect) (bytes : List ℕ) where
  -- the bytes stay as many
  pub length_finish : length (finish_of e bytes).left ≡ length bytes
  length_finish =
      ⊎_elim (λ h. rw h.1 (length_made (marks 1 (takes e)) (made (marks 0 (frees e)) bytes) ∙ length_made (marks 0 (frees e)) bytes))
      (λ h. rw h.1) (finished e bytes)

  -- where a named byte is outside, nothing changes
  pub finish_refused : (Inside e (length bytes) → ⊥) → finish_of e bytes ≡ after 5 bytes
  finish_refused out = ⊎_elim (λ h. absurd (out h.0)) (λ h. h.1) (finished e bytes)

  module _ (inside : Inside e (length bytes)) where
    finish_made : finish_of e bytes ≡ after 0 (made (marks 1 (takes e)) (made (marks 0 (frees e)) bytes))
    finish_made = ⊎_elim (λ h. h.1) (λ h. absurd (h.0 inside)) (finished e bytes)

    -- where all are inside, it is done
    pub finish_done : (finish_of e bytes).number ≡ 0
    finish_done = rw finish_made

    -- what each byte is afterwards
    pub finish_at : (x : ℕ) → get_or (finish_of e bytes).left x 0 ≡ byte_of e x (get_or bytes x 0)
    finish_at x =
        let l = made (marks 0 (frees e)) bytes in
        rw finish_made
        (marks_at 1 (takes e) l x (rw (length_made (marks 0 (frees e)) bytes) inside.0) ∙ ap (pick (has x (takes e)) 1)
        (marks_at 0 (frees e) bytes x inside.1))
