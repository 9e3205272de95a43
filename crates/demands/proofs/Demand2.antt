-- Demand 2 holds.
-- Assumes nothing.
use Rattle.std.specs.Prelude.{Option, None, Some}
use mathlib.Core.Path.{◌≡◌, sym, ap, ◌∙◌}
use mathlib.Core.List.{List}
use Prim.Native.Nat.{ℕ}
use native.Mathlib.Omega.{arith}
use lib.ListN.{length}
use Rattle.plan.specs.Plans.{made, Decided}
use Rattle.listing.specs.Rows.{Word}
use Rattle.rules.specs.Puts.{put_plan}
use Rattle.rules.specs.Deletes.{delete_plan}
use Rattle.writing.specs.Calls.{Left}
use Rattle.rules.proofs.HeldPuts.{PutIs, full, does}
use Rattle.rules.proofs.HeldDeletes.{DeleteIs, absent, does as deletes}
use Rattle.demands.specs.Tables.{Table}
use Rattle.demands.specs.Demand2.{Reading, Done, Refused, Full, Demand2, Demand2Holds}
use Rattle.demands.specs.Demand3.{Op, put, delete, planned, whole, effect}
use Rattle.demands.proofs.States.{State}
use Rattle.demands.proofs.Readings.{state_reading, rows_leaves, reads_state, sound_reads}
use Rattle.demands.proofs.Operations.{put_is_here, put_retired_here, delete_is_here, whole_done, whole_refused, done_state}

module _ (pool map : List ℕ) (T : Table) (r : Reading pool map T) where
  S : State r.sound.n pool (Some map) T
  S = reads_state pool map r.sound r.exact T r.names r.reads

  -- an operation whose plan is not refused is done, one whose plan is refused leaves everything
  op_done : (o : Op) → (planned o pool map).number ≡ 0
      → Done pool map (effect o T) (length (planned o pool map).stores) (made (planned o pool map).stores pool) (whole o pool map)
  op_done o z =
      let e = whole_done S o z in
      record {
        number = ap (λ (l : Left). l.done.number) e;
        count = ap (λ (l : Left). l.done.stores) e;
        stored = ap (λ (l : Left). l.pool) e;
        reading = state_reading (done_state S o (ap (λ (l : Left). l.done.number) e));
      }

  op_refused : (o : Op) (number : ℕ) → (planned o pool map).number ≡ number → (number ≡ 0 → ⊥) → Refused pool map number (whole o pool map)
  op_refused o number e h =
      let q = whole_refused S o (λ z. h (sym e ∙ z)) in
      record {
        same_number = ap (λ (l : Left). l.done.number) q ∙ e;
        none = ap (λ (l : Left). l.done.stores) q;
        same_pool = ap (λ (l : Left). l.pool) q;
        same_map = ap (λ (l : Left). l.map) q;
      }

  number_of : {d e : Decided} → d ≡ e → d.number ≡ e.number
  number_of e = ap (λ (d : Decided). d.number) e

  pub demand2 : Demand2 pool map T r
  demand2 = record {
    put_retired = λ k h. op_refused (put k 0 h) 7 (number_of (put_retired_here S k)) (λ z. omega arith);
    put_full = λ k v h z f. op_refused (put k v h) 4 (fills k v h f (put_is_here S k v h z)) (λ z. omega arith);
    put_done = λ k v h z f. op_done (put k v h) (room k v h f (put_is_here S k v h z));
    delete_absent = λ k h e. op_refused (delete k h) 3 (lacks k e (delete_is_here S k)) (λ z. omega arith);
    delete_done = λ k v h e. op_done (delete k h) (held k v e (delete_is_here S k));
  }
    where
      fills : (k v : ℕ) → Word k → Full pool map T r k → PutIs pool r.sound.n S.t k v (put_plan pool map k v) → (put_plan pool map k v).number ≡ 4
      fills k v h f (full e new all) = number_of e
      fills k v h f (does o e p W n spare above) = absurd (omega (arith, spare (sym (S.table k) ∙ f.0), f.1, rows_leaves S r.reads))

      room : (k v : ℕ) → Word k → (Full pool map T r k → ⊥) → PutIs pool r.sound.n S.t k v (put_plan pool map k v) → (put_plan pool map k v).number ≡ 0
      room k v h f (full e new all) = absurd (f (S.table k ∙ new, rows_leaves S r.reads ∙ all))
      room k v h f (does o e p W n spare above) = number_of p

      lacks : (k : ℕ) → T k ≡ None → DeleteIs pool r.sound.n S.t k (delete_plan pool k) → (delete_plan pool k).number ≡ 3
      lacks k g (absent e new) = number_of e
      lacks k g (deletes o e v p W n found above) =
          let q : ◌≡◌ {A = Option ℕ} None (Some v) = sym g
          ∙ S.table k
          ∙ found in let z : ◌≡◌ {A = ℕ} 0 1 = cc in absurd (omega arith)

      held : (k v : ℕ) → T k ≡ Some v → DeleteIs pool r.sound.n S.t k (delete_plan pool k) → (delete_plan pool k).number ≡ 0
      held k v g (absent e new) = let q : ◌≡◌ {A = Option ℕ} (Some v) None = sym g ∙ S.table k ∙ new in let z : ◌≡◌ {A = ℕ} 0 1 = cc in absurd (omega arith)
      held k v g (deletes o e v' p W n found above) = number_of p

pub demand2_holds : Demand2Holds
demand2_holds = ((λ pool map s words E. sound_reads pool map s E words), demand2)
