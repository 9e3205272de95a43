-- All that `names` prints.
-- Assumes nothing.
use Rattle.std.specs.Prelude.{List, [], ◌∷◌, ◌++◌, ℕ, replicate, fold, flat_map}
use Rattle.writing.specs.Calls.{Formatted, format_of}
use Rattle.script.specs.Input.{begun}
use Rattle.answers.specs.Answers.{text_of}
use Rattle.answers.specs.declared.Answer.{Answer}
use Rattle.turns.specs.Turns.{memory}
use Rattle.session.specs.Bytes.{Session, session, after_byte, said_at, said_last}

-- the session after some bytes of the input, and what they had it print
abbrev pub after_bytes : List ℕ → Session → Session
after_bytes input s = fold (λ t byte. after_byte byte t) s input

unfoldable pub said_by : List ℕ → Session → List Answer
said_by [] s = []
said_by (byte ∷ input) s = said_at byte s ++ said_by input (after_byte byte s)

-- answers as bytes
abbrev pub texts_of : List Answer → List ℕ
texts_of answers = flat_map text_of answers

-- "formatted with N = 256"
abbrev pub started_in : List ℕ → List ℕ → Formatted
started_in pool map = format_of pool map 256

-- "starts with a pool of 4,849 words, all zero, formatted with N = 256"
abbrev pub started : Session
started =
    let f : Formatted = started_in (replicate 4849 0) (replicate 511 0) in
    session begun (memory f.pool f.map)

abbrev pub output : List ℕ → List ℕ
output input = texts_of (said_by input started ++ said_last (after_bytes input started))
