-- What a turn does to the pool and the map, and what it prints.
-- Assumes nothing.
use Rattle.std.specs.Prelude.{List, [], ◌∷◌, ◌++◌, ℕ, zero, suc, min, length, get_or, replicate, fold, Result}
use Rattle.refusals.specs.declared.Refusal.{Refusal}
use Rattle.refusals.specs.Refusals.{answer_at}
use Rattle.plan.specs.Plans.{all_but_last, the_switch, eadr, Ran, run_of, planned_for, Planned}
use Rattle.finding.specs.Lookups.{lookup_of}
use Rattle.finding.specs.Lookups as found
use Rattle.listing.specs.Listings.{Shown, list_of}
use Rattle.rules.specs.Puts.{put_plan}
use Rattle.rules.specs.Deletes.{delete_plan}
use Rattle.writing.specs.Calls.{put_of, delete_of}
use Rattle.writing.specs.Calls as call
use Rattle.opening.specs.Openings.{open_of}
use Rattle.opening.specs.Openings as mend
use Rattle.script.specs.declared.turns.Turn.{Turn}
use Rattle.script.specs.declared.turns.Turn.TheVariants.{Put, Delete, Get, Listing, CutPut, CutDelete, Nothing, Wrong}
use Rattle.answers.specs.Answers.{Page, text_of, written}
use Rattle.answers.specs.declared.Answer.{Answer}
use Rattle.answers.specs.declared.Answer.TheVariants as print

-- what the turns act on
pub record Memory : Type 0 where
  pub pool : List ℕ
  pub map : List ℕ

abbrev pub memory : List ℕ → List ℕ → Memory
memory pool map = record { pool = pool; map = map }

-- "P key value", "D key": the whole calls
abbrev pub put : ℕ → ℕ → Memory → call.Left
put key value m = put_of m.pool m.map key value

abbrev pub delete : ℕ → Memory → call.Left
delete key m = delete_of m.pool m.map key

-- "cuts the next P or D after n stores at most": the first stores of its plan
abbrev pub put_cut : ℕ → ℕ → Memory → Planned
put_cut key value m = planned_for eadr all_but_last (put_plan m.pool m.map key value)

abbrev pub delete_cut : ℕ → Memory → Planned
delete_cut key m = planned_for eadr the_switch (delete_plan m.pool key)

abbrev pub cut : Planned → ℕ → Memory → Ran
cut planned n m = run_of n planned.plan m.pool

-- "drops the map and opens"
abbrev pub reopened : Planned → ℕ → Memory → mend.Left
reopened planned n m = open_of (cut planned n m).left m.map

-- what a turn leaves
unfoldable pub leaves : Turn → Memory → Memory
leaves (Put key value) m = memory (put key value m).pool (put key value m).map
leaves (Delete key) m = memory (delete key m).pool (delete key m).map
leaves (Get key) m = m
leaves Listing m = m
leaves (CutPut n key value) m = memory (reopened (put_cut key value m) n m).pool (reopened (put_cut key value m) n m).map
leaves (CutDelete n key) m = memory (reopened (delete_cut key m) n m).pool (reopened (delete_cut key m) n m).map
leaves Nothing m = m
leaves (Wrong line) m = m

-- "P key value prints P, code, stores made.", "D key prints D, code, stores made."
abbrev pub stores_made : call.Left → Result ℕ Refusal
stores_made l = answer_at l.done.number l.done.stores

-- "G key prints G, code, value, nodes."
abbrev pub get_answer : found.Answer → Answer
get_answer f = print.Get (answer_at f.number f.value) f.nodes

-- "L prints L, key, value for each, then E and the count."
unfoldable pub entries : ℕ → List ℕ → List ℕ → List Answer
entries zero keys values = []
entries (suc n) keys values = entries n keys values ++ (print.Entry (get_or keys n 0) (get_or values n 0) ∷ [])

abbrev pub list_answers : Shown → List Answer
list_answers s = entries (min s.answer.count (min (length s.keys) (length s.values))) s.keys s.values ++ (print.End s.answer.count ∷ [])

-- "that P or D prints C, its code, stores made, keys, headers rewritten"
abbrev pub cut_answer : Planned → ℕ → Memory → Answer
cut_answer planned n m =
    print.Cut (answer_at planned.number tt) (cut planned n m).steps (reopened planned n m).answer.keys (reopened planned n m).answer.headers

-- what a turn prints
unfoldable pub answers_of : Turn → Memory → List Answer
answers_of (Put key value) m = print.Put (stores_made (put key value m)) ∷ []
answers_of (Delete key) m = print.Delete (stores_made (delete key m)) ∷ []
answers_of (Get key) m = get_answer (lookup_of m.pool key) ∷ []
-- from key 0, with buffers of 256
answers_of Listing m = list_answers (list_of m.pool 0 (replicate 256 0) (replicate 256 0))
answers_of (CutPut n key value) m = cut_answer (put_cut key value m) n m ∷ []
answers_of (CutDelete n key) m = cut_answer (delete_cut key m) n m ∷ []
answers_of Nothing m = []
answers_of (Wrong line) m = print.Wrong line ∷ []

-- answers go onto a page one after the other
abbrev pub printed : List Answer → Page → Page
printed answers p = fold (λ q a. written (text_of a) q) p answers

-- what the turns act on, and the page
pub record Acted : Type 0 where
  pub memory : Memory
  pub page : Page

abbrev pub acted : List ℕ → List ℕ → Page → Acted
acted pool map p = record { memory = memory pool map; page = p }

abbrev pub turned : Turn → Memory → Page → Acted
turned t m p = record { memory = leaves t m; page = printed (answers_of t m) p }

-- a cut, whatever was planned
abbrev pub cut_turn : Planned → ℕ → Memory → Page → Acted
cut_turn planned n m p =
    acted (reopened planned n m).pool (reopened planned n m).map (printed (cut_answer planned n m ∷ []) p)
