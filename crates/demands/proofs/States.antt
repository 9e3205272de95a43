-- The states of demands 2 and 3: a pool of n leaves that holds a tree, the table that the tree is, and its map, where there is one. Stores that leave
-- a tree, and an effect on the map, lead from state to state.
-- Assumes nothing.
use Rattle.std.specs.Prelude.{Some, Option}
use mathlib.Core.Path.{◌≡◌, refl, sym, ◌∙◌}
use mathlib.Core.Bool.{true, false}
use mathlib.Core.Logic.{◌≢◌, ◌⊎◌, inl, inr}
use mathlib.Core.List.{List, [], ◌∷◌}
use Prim.Native.Nat.{ℕ, ◌+◌, ◌≤◌, ◌<◌}
use native.Mathlib.Omega.{arith}
use lib.ListN.{length}
use Rattle.pool.specs.Sizes.{capacity_of, bytes_of}
use Rattle.pool.specs.Places.{word_at}
use Rattle.tree.specs.Tree.{Tree, mult, find}
use Rattle.tree.specs.Changes.{occurs}
use Rattle.tree.specs.Stores.{Store, run}
use Rattle.tree.proofs.Basics.{Same?, same, other, same?}
use Rattle.tree.proofs.Stores.{Words, words_more}
use Rattle.layout.specs.Layout.{Held}
use Rattle.layout.proofs.Changes.{kept}
use Rattle.plan.specs.Plans.{made}
use Rattle.finishing.specs.Finishes.{finish_of}
use Rattle.plan.specs.Effects.{takes, frees, has, byte_of, Inside}
use Rattle.plan.specs.declared.Effect.{Effect}
use Rattle.plan.specs.declared.Effect.TheVariants.{Nothing, TakesLeaf, TakesBoth, FreesLeaf, FreesBoth}
use Rattle.plan.proofs.Laws.{made_run, length_made, made_off}
use Rattle.finishing.proofs.Laws.{length_finish, finish_at}
use Rattle.held.specs.Ways.{dig, mem}
use Rattle.held.specs.Maps.{Marked}
use Rattle.listing.specs.Rows.{Word}
use Rattle.opening.proofs.HeldOpens.{Pool, capacity_is}
use Rattle.demands.specs.Tables.{Table, Names}

pub record State (n : ℕ) (pool : List ℕ) (map : Option (List ℕ)) (T : Table) : Type 0 where
  pub pos : 1 ≤ n
  pub cap : n ≤ 1024
  pub t : Tree ℕ
  pub holds : Pool n pos cap t pool
  pub table : (k : ℕ) → T k ≡ find dig k t
  pub names : Names T
  pub marks : (bytes : List ℕ) → map ≡ Some bytes → Marked n bytes t

module _ {n : ℕ} {pool : List ℕ} {map : Option (List ℕ)} {T : Table} (S : State n pool map T) where
  pub fits : capacity_of pool ≡ Some n
  fits = capacity_is n S.pos S.cap S.t pool S.holds

  -- the keys of the tree are names
  pub tree_names : (k v : ℕ) → find dig k S.t ≡ Some v → Word k
  tree_names k v e = S.names k v (S.table k ∙ e)

  -- stores that leave a tree, to words of the pool other than word 0
  pub stored : (τ : List Store) → Words (λ w. w < length pool) τ → Words (λ w. 0 < w) τ → (t' : Tree ℕ) → Held 16 n (run τ (mem pool)) t'
      → Pool n S.pos S.cap t' (made τ pool)
  stored τ inside above t' H = record {
    size = omega (arith, length_made τ pool, S.holds.size);
    first = made_off τ pool 0 (words_more (λ w. 0 < w) (λ w. 0 ≢ w) τ (λ w h z. omega arith) above) ∙ S.holds.first;
    held = kept 16 n (run τ (mem pool)) t' H (mem (made τ pool)) (λ i o. made_run τ pool inside i);
  }

-- ---- the map
-- a slot is named by an effect exactly if it occurs there
abbrev Has : ℕ → List ℕ → Type 0
Has x l = ((has x l ≡ true) × (0 < occurs x l)) ⊎ ((has x l ≡ false) × (occurs x l ≡ 0))

has_occurs : (x : ℕ) (l : List ℕ) → Has x l
unfolding occurs
has_occurs x [] = inr (refl, refl)
has_occurs x (y ∷ l) = go (same? x y) (has_occurs x l)
  where
    go : Same? x y → Has x l → Has x (y ∷ l)
    go (same e q) h = inl (rw q, rw q (omega arith))
    go (other e q) (inl h) = inl (rw q h.0, rw q (omega (arith, h.1)))
    go (other e q) (inr h) = inr (rw q h.0, rw q (omega (arith, h.1)))

-- no effect both takes and frees
one_sided : (e : Effect) (x : ℕ) → 0 < occurs x (takes e) → occurs x (frees e) ≡ 0
unfolding occurs
one_sided Nothing x h = refl
one_sided (TakesLeaf a) x h = refl
one_sided (TakesBoth a b) x h = refl
one_sided (FreesLeaf a) x h = absurd (omega arith)
one_sided (FreesBoth a b) x h = absurd (omega arith)

-- after an effect the map marks the slots of the tree that the stores leave
module _ (n : ℕ) (bytes : List ℕ) (e : Effect) (t t' : Tree ℕ) (M : Marked n bytes t) (once : (x : ℕ) → mult x t ≤ 1)
    (slots : (x : ℕ) → mult x t' + occurs x (frees e) ≡ mult x t + occurs x (takes e)) (named : Inside e (bytes_of n)) where
  byte_is : (x : ℕ) → word_at (finish_of e bytes).left x ≡ byte_of e x (word_at bytes x)
  byte_is x = finish_at e bytes (rw M.size named) x

  abbrev Told : ℕ → ℕ → Type 0
  Told x b = (b ≡ 0 → mult x t' ≡ 0) × (mult x t' ≡ 0 → b ≡ 0)

  byte_told : (x : ℕ) → x < bytes_of n → Told x (byte_of e x (word_at bytes x))
  byte_told x l = go (has_occurs x (takes e)) (has_occurs x (frees e))
    where
      go : Has x (takes e) → Has x (frees e) → Told x (byte_of e x (word_at bytes x))
      go (inl a) f = rw a.0 ((λ z. absurd (omega arith)), (λ z. absurd (omega (arith, z, slots x, a.1, one_sided e x a.1))))
      go (inr a) (inl f) = rw (a.0, f.0) ((λ z. omega (arith, slots x, once x, a.1, f.1)), (λ z. refl))
      go (inr a) (inr f) =
          rw (a.0, f.0)
          ((λ z. omega (arith, slots x, a.1, f.1, M.free x l z)), (λ z. M.taken x l (omega (arith, z, slots x, a.1, f.1))))

  pub finish_marks : Marked n (finish_of e bytes).left t'
  finish_marks = record {
    size = length_finish e bytes ∙ M.size;
    free = λ x l z. (byte_told x l).0 (sym (byte_is x) ∙ z);
    taken = λ x l z. byte_is x ∙ (byte_told x l).1 z;
  }
