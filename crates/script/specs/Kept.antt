-- What is kept of a line, laid out in the places of the code's.
-- Assumes nothing.
use Rattle.std.specs.Prelude.{◌≡◌, List, ◌++◌, ℕ, ◌-◌, ◌≤◌, length, take, replicate}
use Rattle.std.proofs.Common.{ap, sym, ◌∙◌}
use Rattle.script.specs.declared.lines.Line.TheInside.{Inside}

-- so many places in which these bytes are laid out: unused places are 0
abbrev pub laid : ℕ → List ℕ → List ℕ
laid places kept = kept ++ replicate (places - length kept) 0

-- the places have the first bytes laid out, and no others
pub record IsLaid (places len : ℕ) (bytes : List ℕ) : Type 0 where
  pub counted : length (take len bytes) ≡ len
  pub within : len ≤ places
  pub whole : bytes ≡ laid places (take len bytes)

abbrev inside : List ℕ → ℕ → Inside
inside bytes len = record { bytes = bytes; len = len }

-- the bytes that are kept give the line back
pub laid_back : (places : ℕ) (line : Inside) → IsLaid places line.len line.bytes
    → inside (laid places (take line.len line.bytes)) (length (take line.len line.bytes)) ≡ line
laid_back places line h =
    ap (inside (laid places (take line.len line.bytes))) h.counted ∙ ap (λ (bytes : List ℕ). inside bytes line.len) (sym h.whole)
