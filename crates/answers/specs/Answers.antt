-- What an answer is printed as, and where it goes.
-- Assumes nothing.
use Rattle.std.specs.Prelude.{List, [], ◌∷◌, ◌++◌, ℕ, min, ltb, length, get_or, take, drop, Result}
use Rattle.std.specs.Result.{result_unwrap_or}
use Rattle.digits.specs.Choice.{pick}
use Rattle.digits.specs.Loops.{upto}
use Rattle.refusals.specs.declared.Refusal.{Refusal}
use Rattle.refusals.specs.Refusals.{number_in}
use Rattle.script.specs.Bytes.{tab, newline, query, letter_C, letter_D, letter_E, letter_G, letter_L, letter_P}
use Rattle.answers.specs.Numbers.{decimal_of, hex_of}
use Rattle.answers.specs.declared.Answer.{Answer}
use Rattle.answers.specs.declared.Answer.TheVariants.{Put, Delete, Get, Entry, End, Cut, Wrong}
use Rattle.answers.specs.declared.page.Page.{Page as Held}

-- "Fields are parted by a tab": the fields of some numbers, and the text after them
unfoldable pub fields_of : List ℕ → List ℕ → List ℕ
fields_of [] text = text
fields_of (x ∷ numbers) text = tab ∷ (decimal_of x ++ fields_of numbers text)

abbrev pub line_end : List ℕ
line_end = newline ∷ []

-- what a call gave, and 0 where it was refused
abbrev pub value_in : Result ℕ Refusal → ℕ
value_in answer = result_unwrap_or answer 0

unfoldable pub text_of : Answer → List ℕ
-- "P key value prints P, code, stores made."
text_of (Put stores) = letter_P ∷ fields_of (number_in stores ∷ value_in stores ∷ []) line_end
-- "D key prints D, code, stores made."
text_of (Delete stores) = letter_D ∷ fields_of (number_in stores ∷ value_in stores ∷ []) line_end
-- "G key prints G, code, value, nodes."
text_of (Get value nodes) = letter_G ∷ fields_of (number_in value ∷ value_in value ∷ nodes ∷ []) line_end
-- "L prints L, key, value for each"
text_of (Entry key value) = letter_L ∷ tab ∷ (hex_of key ++ fields_of (value ∷ []) line_end)
-- "then E and the count"
text_of (End count) = letter_E ∷ fields_of (count ∷ []) line_end
-- "that P or D prints C, its code, stores made, keys, headers rewritten"
text_of (Cut planned stores keys headers) = letter_C ∷ fields_of (number_in planned ∷ stores ∷ keys ∷ headers ∷ []) line_end
-- "prints ? and its line number"
text_of (Wrong line) = query ∷ fields_of (line ∷ []) line_end

-- a page that is being filled: its bytes so far, and those behind them, which are room for more
pub record Page : Type 0 where
  pub filled : List ℕ
  pub rest : List ℕ

abbrev pub page : List ℕ → List ℕ → Page
page filled rest = record { filled = filled; rest = rest }

-- bytes as a page that is filled up to a place
abbrev pub filled_to : ℕ → List ℕ → Page
filled_to end bytes = page (take end bytes) (drop end bytes)

-- a page of the code's
abbrev pub on : Held → Page
on p = filled_to p.end p.bytes.now

abbrev pub room_of : Page → ℕ
room_of p = length p.rest

-- a text goes onto a page whole, or where there is no room not at all
unfoldable pub written : List ℕ → Page → Page
written text p = pick (ltb (room_of p) (length text)) p (page (p.filled ++ text) (drop (length text) p.rest))

-- the page with nothing on it
abbrev pub emptied : Page → Page
emptied p = page [] (p.filled ++ p.rest)

-- the entries of a listing, so many of them, one after the other
abbrev pub entries_of : ℕ → List ℕ → List ℕ → Page → Page
entries_of n keys values p = upto n (λ i q. written (text_of (Entry (get_or keys i 0) (get_or values i 0))) q) p

-- "L prints L, key, value for each, then E and the count."
abbrev pub listing_of : List ℕ → List ℕ → ℕ → Page → Page
listing_of keys values count p = written (text_of (End count)) (entries_of (min count (min (length keys) (length values))) keys values p)
