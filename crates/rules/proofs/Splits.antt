-- The room of a split, and the words of its stores.
-- Assumes nothing.
use Rattle.std.specs.Prelude.{Some, None}
use mathlib.Core.Path.{◌≡◌, refl}
use mathlib.Core.Bool.{Bool, true, false}
use mathlib.Core.List.{List}
use Prim.Native.Nat.{ℕ, ◌+◌, ◌≤◌, ◌<◌}
use native.Mathlib.Omega.{arith}
use borrow.Author.Tests.{ltb-true}
use lib.Dec.{ltb}
use Rattle.digits.specs.Choice.{pick}
use Rattle.tree.specs.Stores.{block}
use Rattle.tree.proofs.Stores.{Words, words_append}
use Rattle.pool.specs.Sizes.{bytes_of}
use Rattle.pool.specs.Places.{leaf_word}
use Rattle.layout.specs.Operations.{leaf_stores, node_stores, put_stores}
use Rattle.rules.specs.declared.Cleft.{Cleft}
use Rattle.rules.specs.declared.Target.{Target}
use Rattle.rules.specs.declared.Target.TheVariants.{ALeaf, ANode}
use Rattle.rules.specs.declared.Slots.{Slots}
use Rattle.rules.specs.Puts.{free_leaf, free_node, target_header, cleaving, slots, room_of}
use Rattle.rules.proofs.LowestFree.{free_found}

-- ---- room
module _ (map : List ℕ) (n : ℕ) where
  -- the two slots are where they are looked for
  pub slots_inside : {r : Slots} → Some r ≡ room_of map n → (r.leaf < n) × (n ≤ r.node) × (r.node < bytes_of n)
  slots_inside {r} e = go (ltb (free_leaf map n) n) refl (ltb (free_node map n) (bytes_of n)) refl e
    where
      go : (s : Bool) → ltb (free_leaf map n) n ≡ s → (t : Bool) → ltb (free_node map n) (bytes_of n) ≡ t
          → Some r ≡ pick s (pick t (Some (slots (free_leaf map n) (free_node map n))) None) None → (r.leaf < n) × (n ≤ r.node) × (r.node < bytes_of n)
      go true p true q e =
          let a : r ≡ slots (free_leaf map n) (free_node map n) = cc in
          let l = ltb-true (free_leaf map n) n p in
          let h = ltb-true (free_node map n) (bytes_of n) q in
          rw a (l, (free_found map n (bytes_of n) h).0, h)
      go true p false q e = let o : ◌≡◌ {A = ℕ} 0 1 = cc in absurd (omega arith)
      go false p t q e = let o : ◌≡◌ {A = ℕ} 0 1 = cc in absurd (omega arith)

-- ---- the words that a split stores to
-- what holds of the words of its parts holds of them all, in whatever order the parts come
module _ (P : ℕ → Type 0) (n : ℕ) (s : Cleft) (leaf node k v : ℕ) (key : P (leaf_word leaf)) (value : P (leaf_word leaf + 1))
    (of_node : Words P (node_stores 16 n s.depth s.diff k s.near leaf node s.old)) (link : P s.at) where
  of_leaf : Words P (leaf_stores leaf k v)
  unfolding Words block
  of_leaf = (key, (value, tt))

  pub split_all : (target : Target) → Words P (target_header n s target) → Words P (put_stores (cleaving n s leaf node k v target))
  unfolding Words
  split_all ALeaf header = search (words_append, of_leaf, of_node, link)
  split_all (ANode j b) header = search (words_append, of_leaf, of_node, link, header)
