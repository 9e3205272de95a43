-- A state is a reading: its pool is sound, lookup and listing answer as its table, and its map is exact. And each reading is a state.
-- Assumes nothing.
use Rattle.std.specs.Prelude.{Some, Option, None}
use mathlib.Core.Path.{◌≡◌, refl, sym, ap, ◌∙◌, subst}
use mathlib.Core.Logic.{◌⊎◌, inl, inr}
use mathlib.Core.List.{List}
use Prim.Native.Nat.{ℕ, ◌≤◌, ◌<◌}
use native.Mathlib.Omega.{arith}
use lib.ListN.{length, get_or}
use Rattle.pool.specs.Sizes.{capacity_of, bytes_of, Sized, Measured}
use Rattle.pool.specs.Places.{word_at}
use Rattle.pool.proofs.Sizes.{size_fits}
use Rattle.tree.specs.Tree.{Tree, mult, find, leaves}
use Rattle.tree.specs.Listing.{entries}
use Rattle.tree.proofs.Basics.{less?}
use Rattle.tree.proofs.Listing.{entries_length, rising_decided}
use Rattle.layout.specs.Layout.{Held}
use Rattle.held.specs.Ways.{dig, mem}
use Rattle.held.specs.Maps.{Marked}
use Rattle.finding.specs.Lookups.{Answer, lookup_of, quick_of, Finds}
use Rattle.listing.specs.Rows.{Words}
use Rattle.finding.proofs.HeldLookup.{lookup_held, quick_held}
use Rattle.listing.proofs.HeldListing.{list_held, rows_held, names_held}
use Rattle.writing.proofs.Wholes.{size_same}
use Rattle.survey.specs.Soundness.{Sound}
use Rattle.survey.proofs.HeldReached.{in_use, reached_in_use}
use Rattle.survey.proofs.SoundHeld.{sound_capacity, held_is_sound, sound_holds}
use Rattle.opening.proofs.HeldOpens.{Pool}
use Rattle.demands.specs.Tables.{Table, Names, Reads, Exact}
use Rattle.demands.specs.Demand2.{Reading}
use Rattle.demands.proofs.States.{State, fits, tree_names}

-- ---- the map, told by slots that are reached or by the tree
module _ (pool bytes : List ℕ) (n : ℕ) (t : Tree ℕ) (H : Held 16 n (mem pool) t) where
  pub marked_exact : Marked n bytes t → Exact pool n bytes
  marked_exact M = record {
    size = M.size;
    taken = λ x l h. reached_in_use pool n t H x (some_slot x (less? 0 (mult x t)) (λ e. h (M.taken x l e)));
    kept = λ x l u e. omega (arith, in_use pool n t H x u, M.free x l e);
  }
    where
      some_slot : (x : ℕ) → (0 < mult x t) ⊎ (mult x t ≤ 0) → (mult x t ≡ 0 → ⊥) → 0 < mult x t
      some_slot x (inl h) z = h
      some_slot x (inr h) z = absurd (z (omega arith))

  exact_marked : Exact pool n bytes → Marked n bytes t
  exact_marked E = record {
    size = E.size;
    free = λ x l e. none_slot x l e (less? 0 (mult x t));
    taken = λ x l e. zero_byte x l e (less? 0 (word_at bytes x));
  }
    where
      none_slot : (x : ℕ) → x < bytes_of n → word_at bytes x ≡ 0 → (0 < mult x t) ⊎ (mult x t ≤ 0) → mult x t ≡ 0
      none_slot x l e (inl h) = absurd (E.kept x l (reached_in_use pool n t H x h) e)
      none_slot x l e (inr h) = omega arith

      zero_byte : (x : ℕ) → x < bytes_of n → mult x t ≡ 0 → (0 < word_at bytes x) ⊎ (word_at bytes x ≤ 0) → word_at bytes x ≡ 0
      zero_byte x l e (inl h) = absurd (omega (arith, in_use pool n t H x (E.taken x l (λ z. omega arith))))
      zero_byte x l e (inr h) = omega arith

-- ---- from a state to a reading
module _ {n : ℕ} {pool : List ℕ} {map : Option (List ℕ)} {T : Table} (S : State n pool map T) where
  pub state_reads : Reads pool T
  state_reads =
      let R = rows_held pool n S.t S.holds.held (tree_names S) in
      record {
        lookup = λ k. subst (λ (o : Option ℕ). Finds o (lookup_of pool k)) (sym (S.table k)) (lookup_held pool n S.t (fits S) S.holds.held k);
        quick = λ k. subst (λ (o : Option ℕ). Finds o (quick_of pool k)) (sym (S.table k)) (quick_held pool n S.t (fits S) S.holds.held k);
        rows = entries S.t;
        written = record { rising = R.0; same = λ k. R.1 k ∙ sym (S.table k) };
        listing = λ from ks vs a b. list_held pool n S.t (fits S) S.holds.held from ks vs a b;
      }

  pub state_sound : Sound pool
  state_sound = held_is_sound pool n S.t (fits S) S.holds.held

  pub state_capacity : (s : Sound pool) → s.n ≡ n
  state_capacity s = sound_capacity pool n s (fits S)

  -- however the table is written as a list, it has as many rows as the tree has leaves
  pub rows_leaves : (r : Reads pool T) → length r.rows ≡ leaves S.t
  rows_leaves r =
      let R = rows_held pool n S.t S.holds.held (tree_names S) in
      ap length (rising_decided r.rows (entries S.t) r.written.rising R.0 (λ k. r.written.same k ∙ S.table k ∙ sym (R.1 k)))
      ∙ entries_length S.t

pub state_reading : {n : ℕ} {pool bytes : List ℕ} {T : Table} → State n pool (Some bytes) T → Reading pool bytes T
state_reading {n = n} {pool = pool} {bytes = bytes} S = record {
  sound = state_sound S;
  names = S.names;
  exact = subst (λ (m : ℕ). Exact pool m bytes) (sym (state_capacity S (state_sound S)))
      (marked_exact pool bytes n S.t S.holds.held (S.marks bytes refl));
  reads = state_reads S;
}

-- ---- from a reading to a state
-- a pool of some capacity that holds a tree
pub pool_is : (pool : List ℕ) (n : ℕ) (t : Tree ℕ) → capacity_of pool ≡ Some n → Held 16 n (mem pool) t
    → (pos : 1 ≤ n) × (cap : n ≤ 1024) × Pool n pos cap t pool
unfolding capacity_of
pool_is pool n t e H =
    let sized : Sized pool n = subst (Measured pool) e (size_fits pool (get_or pool 0 0)) in
    (sized.some, sized.most, record { size = sized.words; first = sym (size_same (length pool) (get_or pool 0 0) n (sym e)); held = H })

-- one answer is of one table
pub finds_one : (a b : Option ℕ) (r : Answer) → Finds a r → Finds b r → a ≡ b
finds_one None None r p q = refl
finds_one None (Some v) r p q = absurd (omega (arith, p.0, q.0))
finds_one (Some u) None r p q = absurd (omega (arith, p.0, q.0))
finds_one (Some u) (Some v) r p q = ap Some (sym p.1 ∙ q.1)

module _ (pool : List ℕ) (s : Sound pool) where
  abbrev T₀ : Tree ℕ
  T₀ = (sound_holds pool s).0

  H₀ : Held 16 s.n (mem pool) T₀
  H₀ = (sound_holds pool s).1

  sound_state : (map : Option (List ℕ)) → ((b : List ℕ) → map ≡ Some b → Marked s.n b T₀) → (T : Table) → ((k : ℕ) → T k ≡ find dig k T₀) → Names T
      → State s.n pool map T
  sound_state map M T is ok =
      let P = pool_is pool s.n T₀ s.size H₀ in
      record { pos = P.0; cap = P.1; t = T₀; holds = P.2; table = is; names = ok; marks = M }

  -- the table that the pool reads as is its tree's
  read_table : (T : Table) → Reads pool T → (k : ℕ) → T k ≡ find dig k T₀
  read_table T r k = finds_one (T k) (find dig k T₀) (lookup_of pool k) (r.lookup k) (lookup_held pool s.n T₀ s.size H₀ k)

  -- without its map
  pub existing_state : (T : Table) → Names T → Reads pool T → State s.n pool None T
  existing_state T ok r = sound_state None (λ b e. let z : ◌≡◌ {A = ℕ} 0 1 = cc in absurd (omega arith)) T (read_table T r) ok

module _ (pool bytes : List ℕ) (s : Sound pool) (E : Exact pool s.n bytes) where
  mapped : (b : List ℕ) → Some bytes ≡ Some b → Marked s.n b (T₀ pool s)
  mapped b e = subst (λ (l : List ℕ). Marked s.n l (T₀ pool s)) (some_is e) (exact_marked pool bytes s.n (T₀ pool s) (H₀ pool s) E)
    where
      some_is : {x y : List ℕ} → Some x ≡ Some y → x ≡ y
      some_is e = cc

  pub reads_state : (T : Table) → Names T → Reads pool T → State s.n pool (Some bytes) T
  reads_state T ok r = sound_state pool s (Some bytes) mapped T (read_table pool s T r) ok

  -- a sound pool of words reads as a table
  pub sound_reads : Words pool → (T : Table) × Reading pool bytes T
  sound_reads words =
      let T : Table = λ k. find dig k (T₀ pool s) in
      (T, state_reading (sound_state pool s (Some bytes) mapped T (λ k. refl) (names_held pool s.n words (T₀ pool s) (H₀ pool s))))
