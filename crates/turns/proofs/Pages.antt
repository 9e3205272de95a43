-- Laws of pages: a listing goes onto a page as its answers do.
-- Assumes nothing.
use Rattle.std.proofs.Common.{◌≡◌, ℕ, zero, suc, List, [], ◌∷◌, ◌++◌, get_or, refl, ap, ◌∙◌}
use Rattle.std.proofs.lemmas.List.Sums.{fold-append}
use Rattle.digits.specs.Loops.{upto}
use Rattle.answers.specs.Answers.{Page, text_of, written, entries_of}
use Rattle.answers.specs.declared.Answer.{Answer}
use Rattle.answers.specs.declared.Answer.TheVariants.{Entry, End}
use Rattle.turns.specs.Turns.{entries, printed}

-- an answer more
abbrev put : Page → Answer → Page
put q a = written (text_of a) q

entries_printed : (n : ℕ) (keys values : List ℕ) (p : Page) → printed (entries n keys values) p ≡ entries_of n keys values p
unfolding entries upto
entries_printed zero keys values p = refl
entries_printed (suc n) keys values p =
    fold-append put p (entries n keys values) (Entry (get_or keys n 0) (get_or values n 0) ∷ [])
    ∙ ap (written (text_of (Entry (get_or keys n 0) (get_or values n 0)))) (entries_printed n keys values p)

pub listing_printed : (n count : ℕ) (keys values : List ℕ) (p : Page)
    → printed (entries n keys values ++ (End count ∷ [])) p ≡ written (text_of (End count)) (entries_of n keys values p)
listing_printed n count keys values p =
    fold-append put p (entries n keys values) (End count ∷ []) ∙ ap (written (text_of (End count))) (entries_printed n keys values p)
