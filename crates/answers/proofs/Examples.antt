-- An answer of each kind and its text, by computation.
-- Assumes nothing.
use Rattle.std.proofs.Common.{◌≡◌, ℕ, List, [], ◌∷◌, map, Ok, Err, refl}
use Rattle.std.specs.Prelude.{codes}
use Rattle.refusals.specs.declared.Refusal.TheVariants.{Absent}
use Rattle.answers.specs.Numbers.{glyph_of, last_digits, places_in}
use Rattle.answers.specs.Answers.{fields_of, text_of}
use Rattle.answers.specs.declared.Answer.{Answer}
use Rattle.answers.specs.declared.Answer.TheVariants.{Put, Delete, Get, Entry, End, Cut, Wrong}

texts : List Answer → List (List ℕ)
texts answers = map text_of answers

printed : texts (
    Put (Ok 20)
    ∷ Delete (Err Absent)
    ∷ Get (Ok 3) 1
    ∷ Entry 0x20f 3
    ∷ End 3
    ∷ Cut (Ok tt) 20 3 1
    ∷ Wrong 18446744073709551615
    ∷ []
    )
    ≡ map codes (
    "P\t0\t20\n"
    ∷ "D\t3\t0\n"
    ∷ "G\t0\t3\t1\n"
    ∷ "L\t000000000000020f\t3\n"
    ∷ "E\t3\n"
    ∷ "C\t0\t20\t3\t1\n"
    ∷ "?\t18446744073709551615\n"
    ∷ []
    )
unfolding texts text_of fields_of last_digits places_in glyph_of
printed = refl
