-- Laws of pages: a text that fits goes onto a page after what is there, one that does not leaves it, and a listing goes onto it entry by entry.
-- Assumes nothing.
use Rattle.std.proofs.Common.{◌≡◌, ℕ, ◌+◌, ◌<◌, ◌≤◌, List, [], ◌∷◌, ◌++◌, length, get_or, drop, Option, Some, Bor, Iter, add-one, refl, ap, lt-ltb, le-ltb}
use Rattle.std.specs.declared.iter.Take.{Take}
use Rattle.std.specs.declared.iter.Zip.{Zip}
use Rattle.std.specs.Iterator.{Yields}
use Rattle.std.specs.Iterator.Adapters.{take_source, take_steps, zip_first, zip_second}
use Rattle.std.specs.Slice.Iter.{iter_rest}
use Rattle.std.proofs.iter.Yields.{fronts}
use Rattle.std.proofs.lemmas.Iterator.{zips}
use Rattle.std.proofs.lemmas.Slice.Zip.{zip_turn}
use Rattle.digits.specs.Loops.{upto}
use Rattle.answers.specs.Answers.{text_of, Page, page, room_of, written, entries_of}
use Rattle.answers.specs.declared.Answer.TheVariants.{Entry}

pub written_whole : (text : List ℕ) (p : Page) → length text ≤ room_of p → written text p ≡ page (p.filled ++ text) (drop (length text) p.rest)
unfolding written
written_whole text p h = rw (le-ltb (room_of p) (length text) h)

pub written_not : (text : List ℕ) (p : Page) → room_of p < length text → written text p ≡ p
unfolding written
written_not text p h = rw (lt-ltb (room_of p) (length text) h)

-- an entry more
pub entry_more : (keys values : List ℕ) (i n key value : ℕ) (start before now : Page) → before ≡ entries_of i keys values start
    → now ≡ written (text_of (Entry key value)) before → n ≡ i + 1 → key ≡ get_or keys i 0 → value ≡ get_or values i 0
    → now ≡ entries_of n keys values start
unfolding upto
entry_more keys values i n key value start before now b w e k v = rw (e, add-one, w, b, k, v)

-- what `take` lets through comes from its source
module _ {S A : Type 0} (steps : S → Option A → S → Type 0) where
  let_through : (xs : List A) (s t : Take S) → Yields (take_steps steps) s xs t → Yields steps (take_source s) xs (take_source t)
  let_through [] s t y = ap (λ (u : Take S). take_source u) y
  let_through (x ∷ xs) s t y = (take_source y.0, y.1.0, let_through xs y.0 t y.2)

-- a turn of a loop over the rows of two lists, so many at most
pub row : (keys values : List ℕ) (xs : List (Bor ℕ × Bor ℕ)) (s t u : Take (Zip (Iter ℕ) (Iter ℕ))) (p : Bor ℕ × Bor ℕ)
    → iter_rest (zip_first (take_source s)) ≡ keys → iter_rest (zip_second (take_source s)) ≡ values
    → Yields (take_steps (zips fronts fronts)) s xs t → take_steps (zips fronts fronts) t (Some p) u
    → (p.0.now ≡ get_or keys (length xs) 0) × (p.1.now ≡ get_or values (length xs) 0)
row keys values xs s t u p first second yielded step =
    let y = let_through (zips fronts fronts) xs s t yielded in
    let k = zip_turn keys values xs (take_source s) (take_source t) (take_source u) (Some p) first second y p refl step.0 in
    (k.2 0, k.3 0)
