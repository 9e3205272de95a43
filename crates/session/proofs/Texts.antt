-- How long a text is: an answer's at most 86 bytes, and a turn's at most 10,263.
-- Assumes nothing.
use Rattle.std.proofs.Common.{◌≡◌, refl, ap, ◌∙◌, ℕ, zero, suc, ◌+◌, ◌*◌, ◌/◌, ◌%◌, ◌≤◌, min, List, [], ◌∷◌, ◌++◌, length, get_or, replicate, arith, append-nil, length-append}
use Rattle.std.proofs.lemmas.List.{length-replicate}
use Rattle.std.proofs.lemmas.Grind.{flat_map-append}
use Rattle.listing.proofs.Answers.{Lists, size, buffers, damage, done, list_answers_lem}
use Rattle.listing.specs.Listings.{Shown, list_of}
use Rattle.script.specs.declared.turns.Turn.{Turn}
use Rattle.script.specs.declared.turns.Turn.TheVariants.{Put, Delete, Get, Listing, CutPut, CutDelete, Nothing, Wrong}
use Rattle.answers.specs.Numbers.{glyph_of, last_digits, places_in, decimal_of, hex_of}
use Rattle.refusals.specs.Refusals.{number_in}
use Rattle.answers.specs.Answers.{fields_of, line_end, value_in, text_of}
use Rattle.answers.specs.declared.Answer.{Answer}
use Rattle.answers.specs.declared.Answer.TheVariants as print
use Rattle.answers.proofs.Texts.{places_le}
use Rattle.turns.specs.Turns.{Memory, entries, answers_of}
use Rattle.session.specs.Bytes.{most}
use Rattle.session.specs.Outputs.{texts_of}

digits_length : (base k x : ℕ) → length (last_digits base k x) ≡ k
unfolding last_digits
digits_length base zero x = refl
digits_length base (suc k) x = length-append (last_digits base k (x / base)) (glyph_of (x % base) ∷ []) ∙ omega (arith, digits_length base k (x / base))

fields_short : (numbers text : List ℕ) → length (fields_of numbers text) ≤ 21 * length numbers + length text
unfolding fields_of
fields_short [] text = omega arith
fields_short (x ∷ numbers) text =
    omega (arith, fields_short numbers text, length-append (decimal_of x) (fields_of numbers text), digits_length 10 (places_in 20 x) x, places_le 20 x)

entry_short : (key value : ℕ) → length (text_of (print.Entry key value)) ≤ 40
unfolding text_of
entry_short key value =
    omega (arith, length-append (hex_of key) (fields_of (value ∷ []) line_end), digits_length 16 16 key, fields_short (value ∷ []) line_end)

-- an answer that is no entry
pub text_short : (a : Answer) → length (text_of a) ≤ 86
unfolding text_of
text_short (print.Put stores) = omega (arith, fields_short (number_in stores ∷ value_in stores ∷ []) line_end)
text_short (print.Delete stores) = omega (arith, fields_short (number_in stores ∷ value_in stores ∷ []) line_end)
text_short (print.Get value nodes) = omega (arith, fields_short (number_in value ∷ value_in value ∷ nodes ∷ []) line_end)
text_short (print.Entry key value) = omega (arith, entry_short key value)
text_short (print.End count) = omega (arith, fields_short (count ∷ []) line_end)
text_short (print.Cut planned stores keys headers) = omega (arith, fields_short (number_in planned ∷ stores ∷ keys ∷ headers ∷ []) line_end)
text_short (print.Wrong line) = omega (arith, fields_short (line ∷ []) line_end)

end_short : (count : ℕ) → length (text_of (print.End count)) ≤ 23
unfolding text_of
end_short count = omega (arith, fields_short (count ∷ []) line_end)

one_text : (a : Answer) → length (texts_of (a ∷ [])) ≡ length (text_of a)
one_text a = ap length (append-nil (text_of a))

more_text : (answers : List Answer) (a : Answer) → length (texts_of (answers ++ (a ∷ []))) ≡ length (texts_of answers) + length (text_of a)
more_text answers a =
    ap length (flat_map-append text_of answers (a ∷ [])) ∙ length-append (texts_of answers) (texts_of (a ∷ [])) ∙ ap (λ (n : ℕ). length (texts_of answers) + n) (one_text a)

entries_short : (n : ℕ) (keys values : List ℕ) → length (texts_of (entries n keys values)) ≤ 40 * n
unfolding entries
entries_short zero keys values = omega arith
entries_short (suc n) keys values =
    let k : ℕ = get_or keys n 0 in
    let v : ℕ = get_or values n 0 in
    omega (arith, more_text (entries n keys values) (print.Entry k v), entry_short k v, entries_short n keys values)

-- a listing's buffers keep their lengths
listed_few : (pool : List ℕ) (from : ℕ) (ks vs : List ℕ) (s : Shown) → Lists pool from ks vs s → length s.keys ≡ length ks
listed_few pool from ks vs _ (size c) = refl
listed_few pool from ks vs _ (buffers c h) = refl
listed_few pool from ks vs _ (damage c h) = length-replicate (length ks) 0
listed_few pool from ks vs _ (done v c e h b) = b.keys≡

one_short : (a : Answer) → length (texts_of (a ∷ [])) ≤ most
one_short a = omega (arith, one_text a, text_short a)

list_short : (pool : List ℕ) → length (texts_of (answers_of Listing record { pool = pool; map = [] })) ≤ most
unfolding answers_of
list_short pool =
    let ks : List ℕ = replicate 256 0 in
    let s : Shown = list_of pool 0 ks ks in
    let n : ℕ = min s.answer.count (min (length s.keys) (length s.values)) in
    let few : length s.keys ≡ 256 = listed_few pool 0 ks ks s (list_answers_lem pool 0 ks ks) ∙ length-replicate {A = ℕ} 256 0 in
    omega (
      arith,
      more_text (entries n s.keys s.values) (print.End s.answer.count),
      end_short s.answer.count,
      entries_short n s.keys
          s.values,
      few,
    )

pub turn_short : (t : Turn) (m : Memory) → length (texts_of (answers_of t m)) ≤ most
unfolding answers_of
turn_short (Put key value) m = one_short _
turn_short (Delete key) m = one_short _
turn_short (Get key) m = one_short _
turn_short Listing m = list_short m.pool
turn_short (CutPut n key value) m = one_short _
turn_short (CutDelete n key) m = one_short _
turn_short Nothing m = omega arith
turn_short (Wrong line) m = one_short _
