-- Stores that are handed on from where they are laid out: a run of 53 words has room for 21.
-- Assumes nothing.
use Rattle.std.proofs.Common.{◌≡◌, ℕ, ◌+◌, ◌-◌, ◌≤◌, List, ◌++◌, length, map, replicate, arith}
use lib.ListN.{length-append, length-map, length-replicate}
use Rattle.tree.specs.Stores.{Store}
use Rattle.plan.specs.Laid.{words_laid, values_laid}
use Rattle.plan.specs.declared.Effect.{Effect}
use Rattle.handing.specs.Plans.{effect_words, spared, words_of}
use Rattle.handing.proofs.Laws.{four, length_spared}

laid_long : (f : Store → ℕ) (σ : List Store) → length (map f σ ++ replicate (21 - length σ) 0) ≡ length σ + (21 - length σ)
laid_long f σ = omega (arith, length-append (map f σ) (replicate (21 - length σ) 0), length-map σ f, length-replicate {A = ℕ} (21 - length σ) 0)

pub laid_few : (σ : List Store) (count first fences : ℕ) (e : Effect)
    → length (words_of (record { words = words_laid 21 σ; values = values_laid 21 σ; count = count; first = first; fences = fences; effect = e })) ≡ 53
    → length σ ≤ 21
laid_few σ count first fences e h =
    let w = words_laid 21 σ in
    let v = values_laid 21 σ in
    omega (
      arith,
      h,
      four e,
      length-append (effect_words e ++ spared w) (spared v),
      length-append (effect_words e) (spared w),
      length_spared w,
      length_spared v,
      laid_long (λ (s : Store). s.word) σ,
      laid_long (λ (s : Store). s.value) σ,
    )
