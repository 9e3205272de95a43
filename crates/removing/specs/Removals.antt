-- What a removal decides: the number, the stores and the effect that the code's answer stands for.
-- Assumes nothing.
use Rattle.std.specs.Prelude.{List, [], ◌∷◌, Option, None, Some, Result, Ok, Err}
use Rattle.tree.specs.Stores.{Store}
use Rattle.layout.specs.Operations.{store, delete_stores, bypassing}
use Rattle.plan.specs.Plans.{Decided, decided, refused}
use Rattle.refusals.specs.declared.Refusal.{Refusal}
use Rattle.refusals.specs.Refusals.{number_of}
use Rattle.removing.specs.declared.Switch.{Switch}
use Rattle.removing.specs.declared.Follows.{Follows}
use Rattle.removing.specs.declared.Removal.{Removal}

-- the switch, and the header's store where one follows
abbrev pub switched : Switch → Option Follows → List Store
switched s None = delete_stores (bypassing s.at s.child)
switched s (Some h) = store s.at s.child ∷ store h.word h.header ∷ []

abbrev pub removed_by : Removal → Decided
removed_by r = decided (switched r.switch r.follows) r.effect

abbrev pub decided_by : Result Removal Refusal → Decided
decided_by (Ok r) = removed_by r
decided_by (Err r) = refused (number_of r)
