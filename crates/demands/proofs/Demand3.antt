-- Demand 3 holds, for stores that reach memory in order and for any cut that keeps the store that counts in its place.
-- Assumes nothing.
use Rattle.std.specs.Prelude.{None, Option, Some}
use mathlib.Core.Path.{◌≡◌, refl, ap, ◌∙◌, subst}
use mathlib.Core.List.{List, ◌∷◌}
use Prim.Native.Nat.{ℕ, ◌*◌, ◌-◌, ◌<◌}
use native.Mathlib.Omega.{arith}
use borrow.Author.Tests.{le-ltb, eq-eqb}
use lib.ListN.{length, set, replicate, length-set, length-append, length-replicate, get_or-replicate}
use lib.Seq.{get_or-set_same, get_or-set_other}
use Rattle.pool.specs.Sizes.{size_of, bytes_of, Sized, Measured}
use Rattle.pool.specs.Places.{word_at}
use Rattle.pool.proofs.Sizes.{size_fits}
use Rattle.tree.specs.Tree.{empty, mult, find}
use Rattle.tree.proofs.Basics.{Same?, same, other, same?}
use Rattle.layout.proofs.Held.{held_empty}
use Rattle.held.specs.Ways.{mem}
use Rattle.held.specs.Maps.{Marked}
use Rattle.writing.specs.Calls.{format_of, format_in}
use Rattle.writing.proofs.Wholes.{size_same}
use Rattle.opening.specs.Openings.{Left, open_of, open_steps}
use Rattle.opening.proofs.HeldOpens.{steps_pool, open_is, all_mended, reached_marked}
use Rattle.demands.specs.Tables.{Table, blank}
use Rattle.demands.specs.Demand3.{Generation, Op, planned, Reach, fresh, existing, done, stepped, refused, cut, lost, reopening, opened, Promised, Demand3, Begins}
use Rattle.demands.proofs.States.{State}
use Rattle.demands.proofs.Readings.{state_reads, state_reading, state_capacity, existing_state}
use Rattle.demands.proofs.Operations.{turns, done_state, stepped_state, refused_state, cut_state}
use Rattle.demands.proofs.Cuts.{cuts_loosely}

-- ---- a freshly formatted pool
-- its root is empty
pub root_blank : (n : ℕ) (pool : List ℕ) → 1 < length pool → word_at (set (set pool 1 0) 0 n) 1 ≡ 0
root_blank n pool l = get_or-set_other (set pool 1 0) 0 1 n 0 (λ z. omega arith) ∙ get_or-set_same pool 1 0 0 l

module _ (n : ℕ) (pool map : List ℕ) (sized : Sized pool n) (bytes : length map ≡ bytes_of n) where
  blank_state : State n (set (set pool 1 0) 0 n) (Some (replicate (length map) 0)) blank
  unfolding find mult
  blank_state = record {
    pos = sized.some;
    cap = sized.most;
    t = empty;
    holds = record {
      size = omega (arith, length-set (set pool 1 0) 0 n, length-set pool 1 0, sized.words);
      first = get_or-set_same (set pool 1 0) 0 n 0 (omega (arith, length-set pool 1 0, sized.words, sized.some));
      held = held_empty 16 n (mem (set (set pool 1 0) 0 n)) (root_blank n pool (omega (arith, sized.words, sized.some)));
    };
    table = λ k. refl;
    names = λ k v e. let z : ◌≡◌ {A = ℕ} 0 1 = cc in absurd (omega arith);
    marks = λ b e. subst (λ (l : List ℕ). Marked n l empty) (some_is e) (record {
      size = length-replicate {A = ℕ} (length map) 0 ∙ bytes;
      free = λ x l z. refl;
      taken = λ x l z. get_or-replicate {A = ℕ} (length map) x 0 0 (omega (arith, bytes));
    });
  }
    where
      some_is : {x y : List ℕ} → Some x ≡ Some y → x ≡ y
      some_is e = cc

fresh_state : (n : ℕ) (pool map : List ℕ) → (format_of pool map n).number ≡ 0 → State n (format_of pool map n).pool (Some (format_of pool map n).map) blank
unfolding format_of
fresh_state n pool map z = go (size_of (length pool) n) refl (size_fits pool n) z
  where
    go : (s : Option ℕ) → s ≡ size_of (length pool) n → Measured pool s → (format_in pool map s).number ≡ 0
        → State n (format_in pool map s).pool (Some (format_in pool map s).map) blank
    go (Some m) e sized z = mapped (same? (length map) (bytes_of m))
      where
        mapped : Same? (length map) (bytes_of m) → State n (format_in pool map (Some m)).pool (Some (format_in pool map (Some m)).map) blank
        mapped (same b q) =
            rw q (subst (λ (i : ℕ). State i (set (set pool 1 0) 0 m) (Some (replicate (length map) 0)) blank) (size_same (length pool) n m e)
            (blank_state m pool map sized b))
        mapped (other b q) = absurd (omega (arith, rw q at z))
    go None e sized z = absurd (omega (arith, z))

-- every capacity has one
pub begins : Begins
unfolding format_of size_of
begins n pool map one most words bytes f e =
    rw (e, le-ltb n 1 one, le-ltb 1024 n most, eq-eqb (length pool) (19 * n - 15) words, eq-eqb (length map) (2 * n - 1) bytes)

-- ---- a map that is lost, and openings
module _ {n : ℕ} {pool : List ℕ} {T : Table} where
  unmapped : {map : Option (List ℕ)} → State n pool map T → State n pool None T
  unmapped S = record {
    pos = S.pos;
    cap = S.cap;
    t = S.t;
    holds = S.holds;
    table = S.table;
    names = S.names;
    marks = λ b e. let z : ◌≡◌ {A = ℕ} 0 1 = cc in absurd (omega arith);
  }

  reopened : State n pool None T → (k : ℕ) → State n (open_steps k pool) None T
  reopened S k = record {
    pos = S.pos;
    cap = S.cap;
    t = S.t;
    holds = steps_pool n S.pos S.cap S.t k pool S.holds;
    table = S.table;
    names = S.names;
    marks = S.marks;
  }

  pub open_state : State n pool None T → (bytes : List ℕ) → length bytes ≡ bytes_of n → State n (open_of pool bytes).pool (Some (open_of pool bytes).map) T
  open_state S bytes e = rw (open_is n S.pos S.cap S.t pool S.holds bytes e) (record {
    pos = S.pos;
    cap = S.cap;
    t = S.t;
    holds = (all_mended n S.pos S.cap S.t pool S.holds).pool;
    table = S.table;
    names = S.names;
    marks = λ b q. subst (λ (l : List ℕ). Marked n l S.t) (some_is q) (reached_marked n S.pos S.cap S.t pool S.holds);
  })
    where
      some_is : {x y : List ℕ} → Some x ≡ Some y → x ≡ y
      some_is e = cc

-- ---- what is promised of a state
pub promised : {n : ℕ} {pool : List ℕ} {map : Option (List ℕ)} {T : Table} → State n pool map T → Promised n pool map T
promised {n = n} {pool = pool} {T = T} S = record {
  reads = state_reads S;
  opens = λ bytes e. ap (λ (l : Left). l.answer.number) (open_is n S.pos S.cap S.t pool S.holds bytes e);
  room = λ bytes e. let S' = subst (λ (m : Option (List ℕ)). State n pool m T) e S in (state_reading S', state_capacity S' (state_reading S').sound);
}

-- ---- every state that is reached
pub stores_some : {n : ℕ} {pool map : List ℕ} {T : Table} (S : State n pool (Some map) T) (o : Op) → (planned o pool map).number ≡ 0
    → 0 < length (planned o pool map).stores
stores_some S o z =
    let U = turns S o z in
    rw U.plan (omega (arith, length-append U.before (U.switch ∷ U.rest)))

pub reach_state : (g : Generation) {B : List ℕ → Type 0} {n : ℕ} {pool : List ℕ} {map : Option (List ℕ)} {T : Table} → Reach B g n pool map T
    → State n pool map T
reach_state g {n = n} (fresh pool map z) = fresh_state n pool map z
reach_state g (existing {pool = pool} {T = T} s e b ok r) = subst (λ (m : ℕ). State m pool None T) e (existing_state pool s T ok r)
reach_state g (done o w r z) = done_state (reach_state g r) o z
reach_state g (stepped o r z) = stepped_state (reach_state g r) g o z
reach_state g (refused o w r z) = refused_state (reach_state g r) o z
reach_state g (cut {pool = pool} {map = map} o τ b r z c) =
    let S = reach_state g r in cut_state S o z (cuts_loosely g o (planned o pool map).stores τ b (stores_some S o z) c)
reach_state g (lost r) = let S = reach_state g r in unmapped S
reach_state g {n = n} (reopening {pool = pool} k r) = let S = reach_state g r in reopened S k
reach_state g {n = n} (opened {pool = pool} bytes u r e) = let S = reach_state g r in open_state S bytes e

pub demand3 : (g : Generation) → Demand3 g
demand3 g n pool map T r = promised (reach_state g r)
