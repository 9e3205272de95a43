-- A plan that is handed out as words and taken in again is the same plan, and finishes as it does.
-- Assumes nothing.
use mathlib.Core.Path.{◌≡◌, refl, sym, ap, ◌∙◌}
use mathlib.Core.List.{List, [], ◌∷◌, ◌++◌, append_assoc}
use Prim.Native.Nat.{ℕ, ◌+◌}
use lib.ListN.{length, set, take, drop}
use lib.Seq.{take-append_seam, drop-append_seam}
use Rattle.plan.specs.Plans.{step_of}
use Rattle.plan.specs.declared.Plan.{Plan}
use Rattle.plan.specs.declared.Effect.{Effect}
use Rattle.plan.specs.declared.Effect.TheVariants.{Nothing, TakesLeaf, TakesBoth, FreesLeaf, FreesBoth}
use Rattle.finishing.specs.Finishes.{finish_of}
use Rattle.handing.specs.Plans.{spared, words_of, plan_in, finish_in}
use Rattle.handing.proofs.Laws.{length_spared}

-- the word numbers, and the values behind them
front : (ws vs : List ℕ) → length ws ≡ 21 → take 21 (spared ws ++ vs) ≡ ws
front ws vs e =
    ap (λ (i : ℕ). take i (spared ws ++ vs)) (sym e) ∙ ap (take (length ws)) (append_assoc ws (0 ∷ 0 ∷ []) vs) ∙ take-append_seam ws (0 ∷ 0 ∷ vs)

back : (ws vs : List ℕ) → length ws ≡ 21 → length vs ≡ 21 → take 21 (drop 23 (spared ws ++ spared vs)) ≡ vs
back ws vs e f =
    let n : length (spared ws) ≡ 23 = length_spared ws ∙ ap (λ (i : ℕ). i + 2) e in
    ap (λ (i : ℕ). take 21 (drop i (spared ws ++ spared vs))) (sym n) ∙ ap (take 21) (drop-append_seam (spared ws) (spared vs))
    ∙ ap (λ (i : ℕ). take i (spared vs)) (sym f) ∙ take-append_seam vs (0 ∷ 0 ∷ [])

module _ (p : Plan) where
  -- the plan with another effect
  abbrev with : Effect → Plan
  with e = record { words = p.words; values = p.values; count = p.count; first = p.first; fences = p.fences; effect = e }

  pub plan_returns : length p.words ≡ 21 → length p.values ≡ 21 → plan_in (words_of p) ≡ p
  plan_returns a b = go p.effect
    where
      same : (e : Effect) → ◌≡◌ {A = Plan}
          (record {
            words = take 21 (spared p.words ++ spared p.values);
            values = take 21 (drop 23 (spared p.words ++ spared p.values));
            count = p.count;
            first = p.first;
            fences = p.fences;
            effect = e;
          }) (with e)
      same e = rw (front p.words (spared p.values) a, back p.words p.values a b)

      go : (e : Effect) → plan_in (words_of (with e)) ≡ with e
      go Nothing = same Nothing
      go (TakesLeaf x) = same (TakesLeaf x)
      go (TakesBoth x y) = same (TakesBoth x y)
      go (FreesLeaf x) = same (FreesLeaf x)
      go (FreesBoth x y) = same (FreesBoth x y)

  -- its words never have an effect above 4
  pub finish_returns : (bytes : List ℕ) → finish_in (words_of p) bytes ≡ finish_of p.effect bytes
  finish_returns bytes = go p.effect
    where
      go : (e : Effect) → finish_in (words_of (with e)) bytes ≡ finish_of e bytes
      go Nothing = refl
      go (TakesLeaf x) = refl
      go (TakesBoth x y) = refl
      go (FreesLeaf x) = refl
      go (FreesBoth x y) = refl

-- ---- the stores of the first group, and the fences, which neither a step nor a finish reads
pub step_unread : (l : List ℕ) (x y at : ℕ) (pool : List ℕ) → step_of (plan_in (set (set l 1 x) 2 y)) at pool ≡ step_of (plan_in l) at pool
unfolding step_of
step_unread [] x y at pool = refl
step_unread (a ∷ []) x y at pool = refl
step_unread (a ∷ b ∷ []) x y at pool = refl
step_unread (a ∷ b ∷ c ∷ l) x y at pool = refl

pub finish_unread : (l : List ℕ) (x y : ℕ) (bytes : List ℕ) → finish_in (set (set l 1 x) 2 y) bytes ≡ finish_in l bytes
finish_unread [] x y bytes = refl
finish_unread (a ∷ []) x y bytes = refl
finish_unread (a ∷ b ∷ []) x y bytes = refl
finish_unread (a ∷ b ∷ c ∷ l) x y bytes = refl
