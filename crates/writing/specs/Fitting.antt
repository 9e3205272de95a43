-- What the stores of a whole call ask of the pool.
-- Assumes nothing.
use Rattle.std.specs.Prelude.{List, map, ℕ, length}
use Rattle.tree.specs.Stores.{Store}
use Rattle.plan.specs.Plans.{Decided}
use Rattle.plan.specs.Effects.{Below}

-- every word that is stored to is one of the pool's
abbrev pub Fitting : List ℕ → Decided → Type 0
Fitting pool d = Below (length pool) (map (λ (s : Store). s.word) d.stores)
