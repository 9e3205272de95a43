-- A line comes to the same command however much of it is dropped: the bytes that are kept of it say what it is.
-- Assumes nothing.
use Rattle.std.proofs.Common.{◌≡◌, ℕ, ◌<◌, ◌≤◌, List, [], ◌∷◌, ◌++◌, length, take, fold, None, arith, ap, sym, ◌∙◌, inl, inr, append_assoc}
use Rattle.std.proofs.lemmas.Bool.{cases_lt, lt-ltb, le-ltb}
use Rattle.std.proofs.lemmas.List.{append-nil, length-take, length-append, take_all, take-append-le}
use Rattle.script.specs.Lines.{command_of, kept_of}

-- "a line over 63 bytes" is wrong
pub too_long : (s : List ℕ) → 63 < length s → command_of s ≡ None
unfolding command_of
too_long s h = rw (lt-ltb 63 (length s) h)

-- what is kept of a line says what the line is
pub enough : (s : List ℕ) → command_of (take 64 s) ≡ command_of s
enough s = elim (cases_lt 64 (length s)) [
  | inl long ↦ too_long (take 64 s) (omega (arith, length-take 64 s)) ∙ sym (too_long s (omega arith))
  | inr short ↦ ap command_of (take_all 64 s short)
]

-- what is kept of a line, byte after byte: its first 64
pub kept : (bytes line : List ℕ) → length line ≤ 64 → fold kept_of line bytes ≡ take 64 (line ++ bytes)
kept [] line l = rw append-nil (sym (take_all 64 line l))
kept (byte ∷ bytes) line l = elim (cases_lt (length line) 64) [
  | inl room ↦ rw (lt-ltb (length line) 64 room) (kept bytes (line ++ byte ∷ []) (omega (arith, length-append line (byte ∷ []))) ∙ ap (take 64) (append_assoc line (byte ∷ []) bytes))
  | inr full ↦ rw (le-ltb (length line) 64 full) (kept bytes line l ∙ take-append-le 64 line bytes full ∙ sym (take-append-le 64 line (byte ∷ bytes) full))
]

-- a line's bytes, one after the other, come to its command
pub gathered : (line : List ℕ) → command_of (fold kept_of [] line) ≡ command_of line
gathered line = ap command_of (kept line [] (omega arith)) ∙ enough line
