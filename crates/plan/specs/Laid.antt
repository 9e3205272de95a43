-- Stores laid out in two lists of so many places: the word numbers in one, the values for them in the other.
-- Assumes nothing.
use Rattle.std.specs.Prelude.{◌≡◌, List, [], ◌∷◌, ◌++◌, map, ℕ, zero, suc, ◌-◌, ◌≤◌, length, take, replicate}
use Rattle.tree.specs.Stores.{Store}
use Rattle.plan.specs.Plans.{stores_in}

-- the first stores of two lists
abbrev pub stores_laid : ℕ → List ℕ → List ℕ → List Store
stores_laid count ws vs = take count (stores_in ws vs)

-- the stores, of which the one in a place has another value
abbrev pub valued : List Store → ℕ → ℕ → List Store
valued [] i v = []
valued (s ∷ σ) zero v = record { word = s.word; value = v } ∷ σ
valued (s ∷ σ) (suc i) v = s ∷ valued σ i v

-- the two lists of so many places in which these stores are laid out: unused places are 0
abbrev pub words_laid : ℕ → List Store → List ℕ
words_laid places σ = map (λ (s : Store). s.word) σ ++ replicate (places - length σ) 0

abbrev pub values_laid : ℕ → List Store → List ℕ
values_laid places σ = map (λ (s : Store). s.value) σ ++ replicate (places - length σ) 0

-- the two lists have the first stores laid out, and no others
pub record IsLaid (places count : ℕ) (ws vs : List ℕ) : Type 0 where
  pub counted : length (stores_laid count ws vs) ≡ count
  pub within : count ≤ places
  pub words : ws ≡ words_laid places (stores_laid count ws vs)
  pub values : vs ≡ values_laid places (stores_laid count ws vs)
