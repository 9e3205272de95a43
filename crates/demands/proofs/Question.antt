-- In every state that is reached a name is listed if and only if a lookup opens it, with the same file number: all three answer as the rows of one table.
-- Assumes nothing.
use Rattle.std.specs.Prelude.{Option, None, Some}
use mathlib.Core.Path.{◌≡◌, refl, sym, ap, ◌∙◌}
use mathlib.Core.Logic.{◌↔◌, ◌⊎◌, inl, inr}
use mathlib.Core.List.{List, [], ◌∷◌, ◌++◌, map}
use Prim.Native.Nat.{ℕ, zero, suc, ◌≤◌, ◌<◌}
use native.Mathlib.Nat.{le_of_suc-le-suc, not-suc-le-zero}
use native.Mathlib.Omega.{arith}
use borrow.Author.Tests.{eq-eqb, ne_eqb, le-ltb}
use lib.ListN.{length, get_or, length-map, get_or-append, get_or-map}
use lib.Seq.{take_all}
use Rattle.tree.specs.Listing.{Entry, Every, Rising, look}
use Rattle.tree.proofs.Basics.{Same?, same, other, same?}
use Rattle.layout.proofs.Room.{leaves_fit}
use Rattle.held.specs.Ways.{mem}
use Rattle.finding.specs.Lookups.{Answer, LookupGives, QuickGives, Finds}
use Rattle.listing.specs.Rows.{up_from, shown_rows}
use Rattle.demands.specs.Tables.{Table, Reads}
use Rattle.demands.specs.Demand3.{Generation}
use Rattle.demands.specs.Question.{InListing, Openable, ListedIffOpenable}
use Rattle.demands.proofs.Readings.{state_reads, rows_leaves}
use Rattle.demands.proofs.Demand3.{reach_state}

-- ---- rows
abbrev nobody : Entry ℕ
nobody = record { key = 0; value = 0 }

-- some row is name k with file number v
abbrev Row : List (Entry ℕ) → ℕ → ℕ → Type 0
Row rows k v = (i : ℕ) × (i < length rows) × ((get_or rows i nobody).key ≡ k) × ((get_or rows i nobody).value ≡ v)

every_at : (P : Entry ℕ → Type 0) (rows : List (Entry ℕ)) (i : ℕ) → i < length rows → Every P rows → P (get_or rows i nobody)
unfolding Every
every_at P [] i h g = absurd (not-suc-le-zero h)
every_at P (x ∷ rows) zero h g = g.0
every_at P (x ∷ rows) (suc i) h g = every_at P rows i (le_of_suc-le-suc h) g.1

look_row : (rows : List (Entry ℕ)) (k v : ℕ) → look k rows ≡ Some v → Row rows k v
unfolding look
look_row [] k v e = let z : ◌≡◌ {A = ℕ} 0 1 = cc in absurd (omega arith)
look_row (x ∷ rows) k v e = go (look_row rows k v) (same? k x.key)
  where
    go : (look k rows ≡ Some v → Row rows k v) → Same? k x.key → Row (x ∷ rows) k v
    go ih (same p q) = let z : Some x.value ≡ Some v = rw q at e in (0, omega arith, sym p, cc)
    go ih (other p q) = let r = ih (rw q at e) in (suc r.0, omega (arith, r.1), r.2, r.3)

-- names rise, so that no other row has that name
row_look : (rows : List (Entry ℕ)) → Rising rows → (k v i : ℕ) → i < length rows → (get_or rows i nobody).key ≡ k → (get_or rows i nobody).value ≡ v
    → look k rows ≡ Some v
unfolding look Rising
row_look [] R k v i h a b = absurd (not-suc-le-zero h)
row_look (x ∷ rows) R k v zero h a b = rw (eq-eqb k x.key (sym a)) (ap Some b)
row_look (x ∷ rows) R k v (suc i) h a b =
    rw (ne_eqb k x.key (λ z. omega (arith, a, every_at (λ e. x.key < e.key) rows i (le_of_suc-le-suc h) R.0)))
    (row_look rows R.1 k v i (le_of_suc-le-suc h) a b)

-- all rows are at or above name 0
up_from_zero : (rows : List (Entry ℕ)) → up_from 0 rows ≡ rows
unfolding up_from
up_from_zero [] = refl
up_from_zero (x ∷ rows) = rw (le-ltb x.key 0 (omega arith)) (ap (λ (l : List (Entry ℕ)). x ∷ l) (up_from_zero rows))

-- ---- a listing into buffers that hold all rows
field_at : (f : Entry ℕ → ℕ) (rows : List (Entry ℕ)) (rest : List ℕ) (i : ℕ) → i < length rows
    → get_or (map f rows ++ rest) i (f nobody) ≡ f (get_or rows i nobody)
field_at f rows rest i h = get_or-append (map f rows) rest (f nobody) i (omega (arith, length-map rows f)) ∙ get_or-map f rows i nobody

listed_row : (rows : List (Entry ℕ)) (ks vs : List ℕ) → length rows ≤ length ks → (k v : ℕ) → InListing (shown_rows rows ks vs) k v ↔ Row rows k v
unfolding shown_rows
listed_row rows ks vs room k v =
    let key : Entry ℕ → ℕ = λ e. e.key in
    let value : Entry ℕ → ℕ = λ e. e.value in
    rw (take_all (length ks) rows room) (
      (λ l. (l.0, l.1, sym (field_at key rows _ l.0 l.1) ∙ l.2, sym (field_at value rows _ l.0 l.1) ∙ l.3)),
      (λ r. (r.0, r.1, field_at key rows _ r.0 r.1 ∙ r.2, field_at value rows _ r.0 r.1 ∙ r.3)),
    )

-- ---- lookup
openable_found : (o : Option ℕ) (a : Answer) → Finds o a → (v : ℕ) → (o ≡ Some v) ↔ Openable a v
openable_found None a f v = ((λ e. let z : ◌≡◌ {A = ℕ} 0 1 = cc in absurd (omega arith)), (λ e. absurd (omega (arith, e.0, f.0))))
openable_found (Some u) a f v = ((λ e. let q : u ≡ v = cc in (f.0, f.1 ∙ q)), (λ e. ap Some (sym f.1 ∙ e.1)))

by_either : {pool : List ℕ} {T : Table} → Reads pool T → (k : ℕ) {a : Answer} → LookupGives pool k a ⊎ QuickGives pool k a → Finds (T k) a
by_either R k (inl e) = rw e (R.lookup k)
by_either R k (inr e) = rw e (R.quick k)

-- ---- every state that is reached
pub listed_iff_openable : (g : Generation) → ListedIffOpenable g
listed_iff_openable g n pool bytes T r ks vs room equal s e k v a q =
    let S = reach_state g r in
    let R = state_reads S in
    let few : length R.rows ≤ length ks = omega (arith, rows_leaves S R, leaves_fit 16 n (mem pool) S.t S.holds.held) in
    let shown : s ≡ shown_rows R.rows ks vs =
    e ∙ R.listing 0 ks vs (λ z. omega (arith, S.pos)) equal ∙ ap (λ (l : List (Entry ℕ)). shown_rows l ks vs) (up_from_zero R.rows) in
    let row = listed_row R.rows ks vs few k v in
    let found = openable_found (T k) a (by_either R k q) v in
    rw shown (
      (λ l. let i = row.0 l in found.0 (sym (R.written.same k) ∙ row_look R.rows R.written.rising k v i.0 i.1 i.2 i.3)),
      (λ o. row.1 (look_row R.rows k v (R.written.same k ∙ found.1 o))),
    )
