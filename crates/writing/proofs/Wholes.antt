-- Whole calls: plan, all stores in order, finish; a refusal leaves everything as it was.
-- Assumes nothing.
use Rattle.std.specs.Prelude.{None, Option, Some}
use mathlib.Core.Path.{◌≡◌, refl, sym, ap, ◌∙◌}
use mathlib.Core.Logic.{inl, inr}
use mathlib.Core.Bool.{Bool, true, false}
use mathlib.Core.List.{List, [], ◌∷◌}
use Prim.Native.Nat.{ℕ, ◌-◌, ◌*◌}
use native.Mathlib.Omega.{arith}
use borrow.Author.Tests.{eq-eqb, ne_eqb}
use types.Run.{OneOf}
use lib.Dec.{eqb, ltb}
use lib.ListN.{length, set, replicate, length-set, length-replicate}
use Rattle.digits.specs.Choice.{pick}
use Rattle.tree.proofs.Basics.{Same?, same, other, same?}
use Rattle.pool.specs.Sizes.{size_of, capacity_of, bytes_of}
use Rattle.plan.specs.Plans.{Decided}
use Rattle.plan.proofs.Laws.{length_made}
use Rattle.finishing.proofs.Laws.{length_finish}
use Rattle.rules.specs.Puts.{put_plan}
use Rattle.rules.specs.Deletes.{delete_plan}
use Rattle.writing.specs.Calls.{Left, done, left, whole_of, put_of, mapped_of, delete_of, Formatted, formatted, format_in, format_of}

-- ---- what a whole call leaves
module _ (d : Decided) (pool map : List ℕ) where
  whole_number : (whole_of d pool map).done.number ≡ d.number
  whole_number = go (same? d.number 0)
    where
      go : Same? d.number 0 → (whole_of d pool map).done.number ≡ d.number
      go (same e q) = rw (q, e)
      go (other n q) = rw q

  -- a refusal leaves everything unchanged
  whole_refused : (d.number ≡ 0 → ⊥) → whole_of d pool map ≡ left (done d.number 0) pool map
  whole_refused h = rw (ne_eqb d.number 0 h)

  whole_lengths : (length (whole_of d pool map).pool ≡ length pool) × (length (whole_of d pool map).map ≡ length map)
  whole_lengths = go (same? d.number 0)
    where
      go : Same? d.number 0 → (length (whole_of d pool map).pool ≡ length pool) × (length (whole_of d pool map).map ≡ length map)
      go (same e q) = rw q (length_made d.stores pool, length_finish d.effect map)
      go (other n q) = rw q (refl, refl)

-- ---- put
module _ (pool map : List ℕ) (k v : ℕ) where
  pub put_made : {d : Decided} {x : Left} → d ≡ put_plan pool map k v → x ≡ whole_of d pool map → x ≡ put_of pool map k v
  unfolding put_of
  put_made e c = c ∙ ap (λ (d : Decided). whole_of d pool map) e

  pub put_whole_number : (put_of pool map k v).done.number ≡ (put_plan pool map k v).number
  unfolding put_of
  put_whole_number = whole_number (put_plan pool map k v) pool map

  pub put_refused : ((put_plan pool map k v).number ≡ 0 → ⊥) → put_of pool map k v ≡ left (done (put_plan pool map k v).number 0) pool map
  unfolding put_of
  put_refused = whole_refused (put_plan pool map k v) pool map

  pub put_lengths : (length (put_of pool map k v).pool ≡ length pool) × (length (put_of pool map k v).map ≡ length map)
  unfolding put_of
  put_lengths = whole_lengths (put_plan pool map k v) pool map

-- ---- delete
module _ (pool map : List ℕ) (k : ℕ) where
  -- the plan that a delete carries out, which judges the map too
  abbrev pub delete_mapped : Decided
  delete_mapped = mapped_of map (capacity_of pool) (delete_plan pool k)

  module _ {z : Option ℕ} (size : z ≡ capacity_of pool) where
    pub delete_unsized_whole : z ≡ None → left (done 1 0) pool map ≡ delete_of pool map k
    unfolding delete_of
    delete_unsized_whole h = rw (← size, h)

    module _ {n : ℕ} (holds : z ≡ Some n) where
      -- a map of the right length leaves the plan as it is
      pub delete_mapped_lem : length map ≡ bytes_of n → delete_mapped ≡ delete_plan pool k
      delete_mapped_lem h = rw (← size, holds, eq-eqb (length map) (bytes_of n) h)

      pub delete_made : {d : Decided} {x : Left} → length map ≡ bytes_of n → d ≡ delete_plan pool k → x ≡ whole_of d pool map → x ≡ delete_of pool map k
      unfolding delete_of
      delete_made h e c = c ∙ ap (λ (d : Decided). whole_of d pool map) (e ∙ sym (delete_mapped_lem h))

  pub delete_whole_number : (delete_of pool map k).done.number ≡ delete_mapped.number
  unfolding delete_of
  delete_whole_number = whole_number delete_mapped pool map

  pub delete_refused : (delete_mapped.number ≡ 0 → ⊥) → delete_of pool map k ≡ left (done delete_mapped.number 0) pool map
  unfolding delete_of
  delete_refused = whole_refused delete_mapped pool map

  pub delete_lengths : (length (delete_of pool map k).pool ≡ length pool) × (length (delete_of pool map k).map ≡ length map)
  unfolding delete_of
  delete_lengths = whole_lengths delete_mapped pool map

-- ---- format
-- a run that is to hold n leaves holds n, or its size is wrong
pub size_same : (words n m : ℕ) → Some m ≡ size_of words n → m ≡ n
unfolding size_of
size_same words n m e = go (ltb n 1) (ltb 1024 n) (eqb words (19 * n - 15)) e
  where
    go : (a b c : Bool) → Some m ≡ pick a None (pick b None (pick c (Some n) None)) → m ≡ n
    go true b c e = cc
    go false true c e = cc
    go false false true e = cc
    go false false false e = cc

module _ (pool map : List ℕ) (n : ℕ) where
  -- number 0 or 1; number 1 leaves everything unchanged; lengths stay
  pub record Formats (f : Formatted) : Type 0 where
    pub number : OneOf (0 ∷ 1 ∷ []) f.number
    pub unchanged : f.number ≡ 1 → f ≡ formatted 1 pool map
    pub words : length f.pool ≡ length pool
    pub bytes : length f.map ≡ length map

  pub format_formats : Formats (format_of pool map n)
  unfolding format_of
  format_formats = go (size_of (length pool) n)
    where
      not_made : Formats (formatted 1 pool map)
      not_made = record { number = inr refl; unchanged = λ e. refl; words = refl; bytes = refl }

      go : (z : Option ℕ) → Formats (format_in pool map z)
      go (Some m) = sized (eqb (length map) (bytes_of m))
        where
          sized : (t : Bool) → Formats (pick t (formatted 0 (set (set pool 1 0) 0 m) (replicate (length map) 0)) (formatted 1 pool map))
          sized true =
              record {
                number = inl refl;
                unchanged = λ e. absurd (omega arith);
                words = length-set (set pool 1 0) 0 m ∙ length-set pool 1 0;
                bytes = length-replicate (length map) 0;
              }
          sized false = not_made
      go None = not_made
