-- Laws of a run: what is still to be run, after so many bytes, makes the whole.
-- Assumes nothing.
use Rattle.std.proofs.Common.{◌≡◌, ℕ, ◌+◌, ◌<◌, ◌≤◌, true, List, [], ◌∷◌, length, get_or, drop, ap, ◌∙◌, arith, add-one, drop-cons}
use Rattle.std.proofs.lemmas.Bool.{le-leb, lt-leb}
use Rattle.std.proofs.lemmas.List.{drop_all}
use Rattle.answers.specs.Answers.{room_of}
use Rattle.session.specs.Bytes.{Stream, on_byte, roomy, Going, going, run_of, most}

-- what is still to be run, after so many bytes
abbrev after : ℕ → Going → Going
after used g = going (used + g.used) g.stream

abbrev pub rest : ℕ → List ℕ → Stream → Going
rest used input s = after used (run_of (drop used input) s)

-- a byte more
run_cons : (byte : ℕ) (input : List ℕ) (s : Stream) → roomy s.page ≡ true
    → run_of (byte ∷ input) s ≡ going ((run_of input (on_byte byte s)).used + 1) (run_of input (on_byte byte s)).stream
unfolding run_of
run_cons byte input s r = rw r

pub run_on : (used : ℕ) (input : List ℕ) (s t : Stream) → used < length input → most ≤ room_of s.page → t ≡ on_byte (get_or input used 0) s
    → rest (used + 1) input t ≡ rest used input s
run_on used input s t h r e =
    let g : Going = run_of (drop (used + 1) input) t in
    let n : used + 1 + g.used ≡ used + (g.used + 1) = omega arith in
    let l : drop used input ≡ get_or input used 0 ∷ drop (used + 1) input = rw add-one (drop-cons input used 0 h) in
    ap (λ (n : ℕ). going n g.stream) n ∙ rw (l, run_cons (get_or input used 0) (drop (used + 1) input) s (le-leb most (room_of s.page) r), ← e)

-- a run ends with the input, or where there is no room
still : (used : ℕ) (s : Stream) → going used s ≡ after used (going 0 s)
still used s = let n : used ≡ used + 0 = omega arith in ap (λ (n : ℕ). going n s) n

pub run_ended : (used : ℕ) (input : List ℕ) (s : Stream) → used ≡ length input → going (length input) s ≡ rest used input s
unfolding run_of
run_ended used input s e = rw (← e, drop_all used input (omega arith)) (still used s)

run_stops : (used : ℕ) (input : List ℕ) (s : Stream) → room_of s.page < most → going used s ≡ after used (run_of input s)
unfolding run_of
run_stops used [] s r = still used s
run_stops used (byte ∷ input) s r = rw (lt-leb most (room_of s.page) r) (still used s)

pub run_full : (used : ℕ) (input : List ℕ) (s : Stream) → room_of s.page < most → going used s ≡ rest used input s
run_full used input s r = run_stops used (drop used input) s r
