-- An opening answers 0 just on sound pools, and leaves a straight one with the same table, an exact map, and nothing to store.
-- Rests on what a survey sees, and on openings of a pool that holds a tree. Assumes nothing.
use Rattle.std.specs.Prelude.{Some, Option, None}
use mathlib.Core.Path.{◌≡◌, sym, ap, ◌∙◌, subst}
use mathlib.Core.List.{List, map}
use Prim.Native.Nat.{ℕ, ◌+◌, ◌-◌, ◌≤◌}
use native.Mathlib.Omega.{arith}
use lib.ListN.{length}
use Rattle.pool.specs.Sizes.{capacity_of, bytes_of}
use Rattle.pool.specs.Places.{header_at}
use Rattle.digits.specs.Headers.{depth_of}
use Rattle.tree.specs.Tree.{Tree, node, dep, find, Stands}
use Rattle.layout.proofs.Held.{node_slot}
use Rattle.held.specs.Ways.{dig, mem}
use Rattle.finding.specs.Lookups.{Answer, lookup_of, quick_of, Finds}
use Rattle.finding.proofs.HeldLookup.{lookup_held, quick_held}
use Rattle.listing.proofs.HeldListing.{list_held}
use Rattle.survey.specs.Soundness.{Sound, Straight}
use Rattle.survey.proofs.SoundTree.{sound_held}
use Rattle.survey.proofs.SoundHeld.{held_is_sound, sound_capacity, straight_if, sound_holds}
use Rattle.opening.specs.Openings.{Left, reached}
use Rattle.opening.proofs.Answers.{Leaves, size, damage, done, open_leaves}
use Rattle.opening.proofs.Openings.{bytes_flat}
use Rattle.opening.proofs.HeldMends.{M}
use Rattle.opening.proofs.HeldOpens.{Pool, capacity_is, end, all_mended, none_left, reached_marked, open_is}
use Rattle.demands.specs.Tables.{Table, Names, Reads, Exact}
use Rattle.demands.specs.Opening.{Restored, Opens}
use Rattle.demands.proofs.States.{State}
use Rattle.demands.proofs.Readings.{marked_exact, rows_leaves, pool_is, finds_one}

module _ (pool : List ℕ) (n : ℕ) (pos : 1 ≤ n) (cap : n ≤ 1024) (t : Tree ℕ) (P : Pool n pos cap t pool) where
  -- the pool after an opening
  abbrev mended : List ℕ
  mended = (end n pos cap t pool P).pool

  P' : Pool n pos cap t mended
  P' = (all_mended n pos cap t pool P).pool

  fits : capacity_of pool ≡ Some n
  fits = capacity_is n pos cap t pool P

  fits' : capacity_of mended ≡ Some n
  fits' = capacity_is n pos cap t mended P'

  mended_straight : Straight mended
  mended_straight = straight_if mended n t fits' P'.held depths
    where
      depths : (π : List ℕ) (x b s : ℕ) (kids : ℕ → Tree ℕ) → Stands π (node x b s kids) t → depth_of (header_at mended n (x - n)) ≡ dep π 0 t
      depths π x b s kids st =
          let slot = node_slot 16 n (mem mended) t P'.held π x b s kids st in
          let back : x ≡ n + (x - n) = omega (arith, slot) in
          (all_mended n pos cap t pool P).straight (x - n) (omega (arith, slot)) (omega (arith, slot))
          (record { π = π; b = b; s = s; kids = kids; stands = subst (λ (y : ℕ). Stands π (node y b s kids) t) back st })

  -- both hold the same tree, so a table that one reads as the other reads as
  mended_reads : (T : Table) → Reads pool T → Reads mended T
  mended_reads T r = record {
    lookup = λ k. as_before k (lookup_of mended k) (lookup_held mended n t fits' P'.held k);
    quick = λ k. as_before k (quick_of mended k) (quick_held mended n t fits' P'.held k);
    rows = r.rows;
    written = r.written;
    listing = λ from ks vs a b. list_held mended n t fits' P'.held from ks vs a b ∙ sym (list_held pool n t fits P.held from ks vs a b)
        ∙ r.listing from ks vs a b;
  }
    where
      as_before : (k : ℕ) (a : Answer) → Finds (find dig k t) a → Finds (T k) a
      as_before k a =
          subst (λ (o : Option ℕ). Finds o a) (sym (finds_one (T k) (find dig k t) (lookup_of pool k) (r.lookup k) (lookup_held pool n t fits P.held k)))

  read_state : (T : Table) → Names T → Reads pool T → State n pool None T
  read_state T ok r = record {
    pos = pos;
    cap = cap;
    t = t;
    holds = P;
    table = λ k. finds_one (T k) (find dig k t) (lookup_of pool k) (r.lookup k) (lookup_held pool n t fits P.held k);
    names = ok;
    marks = λ b e. let z : ◌≡◌ {A = ℕ} 0 1 = cc in absurd (omega arith);
  }

  restored : (bytes : List ℕ) → length bytes ≡ bytes_of n → Restored pool bytes
  unfolding read_state
  restored bytes e =
      let s : Sound pool = held_is_sound pool n t fits P.held in
      let o = open_is n pos cap t pool P bytes e in
      record {
        before = s;
        after = rw o mended_straight;
        exact = rw o (subst (λ (m : ℕ). Exact mended m (map reached (M n pos cap t))) (sym (sound_capacity pool n s fits))
            (marked_exact mended (map reached (M n pos cap t)) n t P'.held (reached_marked n pos cap t pool P)));
        same = λ T r. rw o (mended_reads T r);
        bits = rw o (bytes_flat (M n pos cap t));
        steps = rw o (sym (all_mended n pos cap t pool P).steps);
        each = rw o (all_mended n pos cap t pool P).each;
        keys = λ T ok r. rw o (sym (rows_leaves (read_state T ok r) r));
        again = rw o (none_left n pos cap t pool P);
      }

pub opens : Opens
opens = record {
  restores = λ pool bytes z. go pool bytes (open_leaves pool bytes) z;
  accepts = λ pool bytes s e.
      let H = sound_holds pool s in
      let P = pool_is pool s.n H.0 s.size H.1 in
      ap (λ (l : Left). l.answer.number) (open_is s.n P.0 P.1 H.0 pool P.2 bytes e);
}
  where
    go : (pool bytes : List ℕ) {x : Left} → Leaves pool bytes x → x.answer.number ≡ 0 → Restored pool bytes
    go pool bytes size z = absurd (omega (arith, z))
    go pool bytes (damage n J) z = absurd (omega (arith, z))
    go pool bytes (done n J) z =
        let H = sound_held pool n J.judged in
        let P = pool_is pool n H.0 J.size H.1 in
        restored pool n P.0 P.1 H.0 P.2 bytes J.long
