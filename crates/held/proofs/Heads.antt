-- What a reference comes to that holds a tree: nothing, a leaf, or a node whose header is accepted; and what a header says that shows a node.
-- Rests on what the layout's references show. Assumes nothing.
use Rattle.std.specs.Prelude.{Some}
use mathlib.Core.Path.{◌≡◌, refl, sym, ap, ◌∙◌}
use mathlib.Core.Bool.{Bool, true, false, not}
use mathlib.Core.List.{List}
use Prim.Native.Nat.{ℕ, ◌+◌, ◌-◌, ◌%◌, ◌^◌, ◌≤◌, ◌<◌}
use native.Mathlib.Omega.{arith}
use borrow.Author.Tests.{ltb-true, le-ltb}
use lib.Dec.{eqb, ltb}
use Rattle.digits.specs.Choice.{pick}
use Rattle.digits.specs.Headers.{depth_of, length_of, stored_in}
use Rattle.pool.specs.Places.{header_at, child_at}
use Rattle.pool.specs.Refs.{ref_of}
use Rattle.pool.specs.declared.Ref.TheVariants.{Empty, Node}
use Rattle.tree.specs.Tree.{Tree, empty, leaf, node}
use Rattle.tree.specs.Near.{filled}
use Rattle.tree.specs.Shape.{View, none_there, leaf_there, node_there, bad, Holds}
use Rattle.layout.specs.Layout.{base, head_view}
use Rattle.layout.proofs.Base.{SeesLeaf, sees, ref_empty}
use Rattle.layout.proofs.Held.{filled_word}
use Rattle.walk.specs.Walks.{head_of}
use Rattle.walk.specs.Ends.{Accepted}
use Rattle.held.specs.Ways.{mem}

-- ---- a header that shows a node of depth h and branch place b
pub record Shown (h b g word : ℕ) : Type 0 where
  pub depth : depth_of word ≡ h
  pub branch : depth_of word + length_of word ≡ b
  pub digits : word % 2 ^ 48 ≡ g
  pub short : length_of word < 16
  pub most : b < 16

pub head_shown : (x h b g word : ℕ) → head_view 16 x word ≡ node_there x h b g → Shown h b g word
unfolding head_view
head_shown x h b g word e = go (ltb (length_of word) 16) refl (ltb (depth_of word + length_of word) 16) refl e
  where
    go : (a : Bool) → ltb (length_of word) 16 ≡ a → (c : Bool) → ltb (depth_of word + length_of word) 16 ≡ c
        → pick {A = View ℕ} a (pick {A = View ℕ} c (node_there x (depth_of word) (depth_of word + length_of word) (word % 2 ^ 48)) bad) bad ≡ node_there x h b g
        → Shown h b g word
    go true ea true ec z =
        let branch : depth_of word + length_of word ≡ b = cc in
        record {
          depth = cc;
          branch = branch;
          digits = cc;
          short = ltb-true (length_of word) 16 ea;
          most = omega (arith, ltb-true (depth_of word + length_of word) 16 ec);
        }
    go true ea false ec z = let o : ◌≡◌ {A = ℕ} 0 1 = cc in absurd (omega arith)
    go false ea c ec z = let o : ◌≡◌ {A = ℕ} 0 1 = cc in absurd (omega arith)

-- it is accepted where its depth is deep enough
head_accepted : (w h b g word : ℕ) → Shown h b g word → w ≤ h → head_of w word ≡ Some b
unfolding head_of
head_accepted w h b g word s l =
    rw (
      le-ltb (depth_of word) w (omega (arith, s.depth)),
      le-ltb 15 (length_of word) (omega (arith, s.short)),
      le-ltb 15 (depth_of word + length_of word) (omega (arith, s.branch, s.most)),
    )
    (ap Some s.branch)

-- ---- the reference r, met at walk depth w
module _ (pool : List ℕ) (n w r : ℕ) where
  pub held_empty : Holds (base 16 n) (mem pool) w r empty → (r ≡ 0) × (ref_of n r ≡ Empty)
  unfolding Holds
  held_empty h =
      let z : r ≡ 0 = sees 16 n (mem pool) r none_there h in
      (z, ap (ref_of n) z ∙ ref_empty n)

  pub held_leaf : (x k v : ℕ) → Holds (base 16 n) (mem pool) w r (leaf x k v) → SeesLeaf n (mem pool) r x k v
  unfolding Holds
  held_leaf x k v h = sees 16 n (mem pool) r (leaf_there x k v) h

  -- a node's reference, its slot, which is past the leaves', and its header
  pub record Headed (x b s : ℕ) : Type 0 where
    pub h : ℕ
    pub low : w ≤ h
    pub high : h ≤ b
    pub ref : ref_of n r ≡ Node (x - n)
    pub past : n ≤ x
    pub within : x + 1 < n + n
    pub shown : Shown h b (stored_in 16 12 h (b - h) s) (header_at pool n (x - n))

  pub held_head : (x b s : ℕ) (kids : ℕ → Tree ℕ) → Holds (base 16 n) (mem pool) w r (node x b s kids) → Headed x b s
  unfolding Holds base
  held_head x b s kids g =
      let h : ℕ = g.0.h in
      let see = sees 16 n (mem pool) r (node_there x h b (stored_in 16 12 h (b - h) s)) g.0.there in
      record {
        h = h;
        low = g.0.low;
        high = g.0.high;
        ref = see.ref;
        past = see.low;
        within = see.high;
        shown = head_shown x h b (stored_in 16 12 h (b - h) s) (header_at pool n (x - n)) see.head;
      }

  pub held_node : (x b s : ℕ) (kids : ℕ → Tree ℕ) → Holds (base 16 n) (mem pool) w r (node x b s kids) → Accepted pool n w r (x - n) b
  held_node x b s kids g =
      let H : Headed x b s = held_head x b s kids g in
      record {
        refers = H.ref;
        j< = omega (arith, H.past, H.within);
        head = head_accepted w H.h b (stored_in 16 12 H.h (b - H.h) s) (header_at pool n (x - n)) H.shown H.low;
        w≤b = omega (arith, H.low, H.high);
        b< = H.shown.most;
      }

  pub held_slot : (x b s : ℕ) (kids : ℕ → Tree ℕ) → Holds (base 16 n) (mem pool) w r (node x b s kids) → n ≤ x
  held_slot x b s kids g = (held_head x b s kids g).past

  -- its children are held at the next walk depth
  pub held_child : (x b s : ℕ) (kids : ℕ → Tree ℕ) (c : ℕ) → Holds (base 16 n) (mem pool) w r (node x b s kids) → c < 16
      → Holds (base 16 n) (mem pool) (b + 1) (child_at pool n (x - n) c) (kids c)
  unfolding Holds base
  held_child x b s kids c h l = h.1 c l

  -- a reference is 0 just where the tree has nothing
  pub held_zero : (t : Tree ℕ) → Holds (base 16 n) (mem pool) w r t → not (eqb r 0) ≡ filled t
  held_zero t h = sym (filled_word 16 n (mem pool) w r t h)
