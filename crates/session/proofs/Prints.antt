-- A page holds what the bytes that were taken print, all of it and nothing else, where it has room for one turn at the start.
-- Assumes nothing.
use Rattle.std.proofs.Common.{◌≡◌, refl, sym, ap, ◌∙◌, ℕ, ◌+◌, ◌≤◌, ◌<◌, Bool, true, false, List, [], ◌∷◌, ◌++◌, length, take, arith, add-one, append_assoc, append-nil, length-append, length-drop}
use Rattle.std.proofs.lemmas.Bool.{leb-true, le-leb}
use Rattle.std.proofs.lemmas.Grind.{flat_map-append}
use Rattle.std.proofs.lemmas.List.Sums.{fold-append}
use Rattle.digits.specs.Choice.{pick}
use Rattle.answers.specs.Answers.{text_of, Page, room_of, written, emptied}
use Rattle.answers.specs.declared.Answer.{Answer}
use Rattle.answers.proofs.Pages.{written_whole}
use Rattle.turns.specs.Turns.{printed}
use Rattle.session.specs.Bytes.{Session, taken, after_byte, said_at, last_turn, said_last, Stream, on_byte, on_end, roomy, Going, going, run_of, most}
use Rattle.session.specs.Outputs.{after_bytes, said_by, texts_of}
use Rattle.session.proofs.Texts.{turn_short}

-- a page with a text more
pub record Prints (p : Page) (text : List ℕ) (q : Page) : Type 0 where
  pub reads : q.filled ≡ p.filled ++ text
  pub keeps : room_of q + length text ≡ room_of p

prints_none : (p : Page) → Prints p [] p
prints_none p = record { reads = sym (append-nil p.filled); keeps = omega arith }

prints_then : {p q r : Page} {s t : List ℕ} → Prints p s q → Prints q t r → Prints p (s ++ t) r
prints_then {p = p} {s = s} {t = t} a b = record {
  reads = rw (b.reads, a.reads) (append_assoc p.filled s t);
  keeps = omega (arith, a.keeps, b.keeps, length-append s t);
}

pub written_prints : (text : List ℕ) (p : Page) → length text ≤ room_of p → Prints p text (written text p)
written_prints text p room = rw (written_whole text p room) record { reads = refl; keeps = omega (arith, length-drop (length text) p.rest) }

pub answers_print : (answers : List Answer) (p : Page) → length (texts_of answers) ≤ room_of p → Prints p (texts_of answers) (printed answers p)
answers_print [] p room = prints_none p
answers_print (a ∷ answers) p room =
    let l : length (text_of a ++ texts_of answers) ≡ length (text_of a) + length (texts_of answers) = length-append (text_of a) (texts_of answers) in
    let w : Prints p (text_of a) (written (text_of a) p) = written_prints (text_of a) p (omega arith) in
    prints_then w (answers_print answers (written (text_of a) p) (omega (arith, w.keeps)))

-- what a run leaves: the session after the bytes that it took, and on its page what they print
pub record Runs (input : List ℕ) (s : Stream) (g : Going) : Type 0 where
  pub few : g.used ≤ length input
  pub session : g.stream.session ≡ after_bytes (take g.used input) s.session
  pub prints : Prints s.page (texts_of (said_by (take g.used input) s.session)) g.stream.page

runs_none : (input : List ℕ) (s : Stream) → Runs input s (going 0 s)
unfolding said_by
runs_none input s = record { few = omega arith; session = refl; prints = prints_none s.page }

runs_more : (byte : ℕ) (input : List ℕ) (s : Stream) (g : Going) → most ≤ room_of s.page
    → Runs input (on_byte byte s) g → Runs (byte ∷ input) s (going (g.used + 1) g.stream)
unfolding said_by
runs_more byte input s g room r =
    let said : List Answer = said_at byte s.session in
    let short : length (texts_of said) ≤ most = turn_short (taken byte s.session).turn s.session.memory in
    let one : Prints s.page (texts_of said) (printed said s.page) = answers_print said s.page (omega arith) in
    let more : List Answer = said_by (take g.used input) (after_byte byte s.session) in
    rw add-one record { few = omega (arith, r.few); session = r.session; prints = rw (flat_map-append text_of said more) (prints_then one r.prints) }

pub run_prints : (input : List ℕ) (s : Stream) → Runs input s (run_of input s)
unfolding run_of
run_prints [] s = runs_none [] s
run_prints (byte ∷ input) s = go (run_of input (on_byte byte s)) (run_prints input (on_byte byte s)) (roomy s.page) refl
  where
    go : (g : Going) → Runs input (on_byte byte s) g → (b : Bool) → roomy s.page ≡ b
        → Runs (byte ∷ input) s (pick b (going (g.used + 1) g.stream) (going 0 s))
    go g r true e = runs_more byte input s g (leb-true most (room_of s.page) e) r
    go g r false e = runs_none (byte ∷ input) s

-- how far a run comes: it takes a byte, where there is one and the page has room
pub run_few : (input : List ℕ) (s : Stream) → (run_of input s).used ≤ length input
run_few input s = (run_prints input s).few

pub run_moves : (input : List ℕ) (s : Stream) → 0 < length input → most ≤ room_of s.page → 0 < (run_of input s).used
unfolding run_of
run_moves [] s h e = omega arith
run_moves (byte ∷ input) s h e = rw (le-leb most (room_of s.page) e) (omega arith)

-- its page has its room again once it is emptied
pub run_keeps : (used : ℕ) (input : List ℕ) (s t : Stream) → going used t ≡ run_of input s
    → room_of s.page ≤ room_of (emptied t.page)
run_keeps used input s t e =
    let r : Runs input s (going used t) = rw e (run_prints input s) in
    omega (arith, ap length r.prints.reads, length-append s.page.filled (texts_of (said_by (take used input) s.session)), r.prints.keeps, length-append t.page.filled t.page.rest)

-- the end of the input likewise
pub end_prints : (s : Stream) → most ≤ room_of s.page → Prints s.page (texts_of (said_last s.session)) (on_end s).page
end_prints s room =
    let short : length (texts_of (said_last s.session)) ≤ most = turn_short (last_turn s.session) s.session.memory in
    answers_print (said_last s.session) s.page (omega arith)

-- an input that comes in pieces prints what it prints whole
pub pieces_leave : (piece input : List ℕ) (s : Session) → after_bytes (piece ++ input) s ≡ after_bytes input (after_bytes piece s)
pieces_leave piece input s = fold-append (λ t byte. after_byte byte t) s piece input

pub pieces_say : (piece input : List ℕ) (s : Session) → said_by (piece ++ input) s ≡ said_by piece s ++ said_by input (after_bytes piece s)
unfolding said_by
pieces_say [] input s = refl
pieces_say (byte ∷ piece) input s =
    ap (λ (l : List Answer). said_at byte s ++ l) (pieces_say piece input (after_byte byte s))
    ∙ sym (append_assoc (said_at byte s) (said_by piece (after_byte byte s)) (said_by input (after_bytes piece (after_byte byte s))))
