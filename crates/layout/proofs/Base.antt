-- The layout of document 01 is lawful: what its references show, which slot a word belongs to, and that a slot's words decide what it shows.
-- Rests on the definitions of references and places. Assumes nothing.
use mathlib.Core.Path.{◌≡◌, refl, sym, ap, ◌∙◌, subst}
use Prim.Native.Nat.{ℕ, ◌+◌, ◌-◌, ◌*◌, ◌%◌, ◌^◌, ◌≤◌, ◌<◌}
use mathlib.Core.Bool.{Bool, true, false}
use native.Mathlib.Omega.{arith}
use lib.Dec.{eqb, ltb, leb}
use borrow.Author.Tests.{ltb-true, leb-false, eqb-true, eqb-false, lt-ltb, le-ltb, le-leb, lt-leb, ne_eqb}
use Rattle.digits.specs.Choice.{pick}
use Rattle.digits.specs.Digits.{digit_in}
use Rattle.digits.specs.Headers.{depth_of, length_of}
use Rattle.digits.proofs.Headers.{stored_cong}
use Rattle.pool.specs.Places.{leaf_word, node_word, child_word, leaf_ref, node_ref}
use Rattle.pool.specs.Refs.{ref_of}
use Rattle.pool.specs.declared.Ref.{Ref}
use Rattle.pool.specs.declared.Ref.TheVariants.{Empty, Leaf, Node, Bad}
use Rattle.tree.specs.Tree.{Tree, empty, leaf, node, Agree}
use Rattle.tree.specs.Shape.{View, none_there, leaf_there, node_there, bad, Mem, Holds}
use Rattle.tree.proofs.Frame.{Shows, Lawful}
use Rattle.tree.proofs.Room.{Slots}
use Rattle.layout.specs.Layout.{own, head_view, ref_view, base}

-- ---- references
-- what a good reference is
abbrev pub Decoded : ℕ → ℕ → Ref → Type 0
Decoded N r Empty = r ≡ 0
Decoded N r (Leaf i) = (i < N) × (r ≡ leaf_ref i)
Decoded N r (Node j) = (j + 1 < N) × (r ≡ node_ref j)
Decoded N r Bad = Unit {0}

pub decoded : (N r : ℕ) → Decoded N r (ref_of N r)
unfolding ref_of
decoded N r = go (eqb r 0) refl (leb r 1024) refl (ltb (r - 1) N) refl (leb r 2047) (ltb (r - 1025 + 1) N) refl
  where
    go : (a : Bool) → eqb r 0 ≡ a → (b : Bool) → leb r 1024 ≡ b → (c : Bool) → ltb (r - 1) N ≡ c → (d e : Bool) → ltb (r - 1025 + 1) N ≡ e
        → Decoded N r (pick a Empty (pick b (pick c (Leaf (r - 1)) Bad) (pick d (pick e (Node (r - 1025)) Bad) Bad)))
    go true ea b eb c ec d e ee = eqb-true r 0 ea
    go false ea true eb true ec d e ee = let n : r ≡ 0 → ⊥ = eqb-false r 0 ea in (ltb-true (r - 1) N ec, omega arith)
    go false ea true eb false ec d e ee = tt
    go false ea false eb c ec true true ee = let l : 1024 < r = leb-false r 1024 eb in (ltb-true (r - 1025 + 1) N ee, omega arith)
    go false ea false eb c ec true false ee = tt
    go false ea false eb c ec false e ee = tt

pub ref_empty : (N : ℕ) → ref_of N 0 ≡ Empty
unfolding ref_of
ref_empty N = refl

pub ref_leaf : (N i : ℕ) → i < N → N ≤ 1024 → ref_of N (leaf_ref i) ≡ Leaf i
unfolding ref_of
ref_leaf N i h l =
    let e : i + 1 - 1 ≡ i = omega arith in
    rw (ne_eqb (i + 1) 0 (λ z. omega arith), le-leb (i + 1) 1024 (omega arith), e, lt-ltb i N h)

pub ref_node : (N j : ℕ) → j + 1 < N → N ≤ 1024 → ref_of N (node_ref j) ≡ Node j
unfolding ref_of
ref_node N j h l =
    let e : j + 1025 - 1025 ≡ j = omega arith in
    rw (ne_eqb (j + 1025) 0 (λ z. omega arith), lt-leb (j + 1025) 1024 (omega arith), le-leb (j + 1025) 2047 (omega arith), e, lt-ltb (j + 1) N h)

-- ---- words
pub own_root : (N : ℕ) → own N 1 ≡ 2 * N
unfolding own
own_root N = refl

pub own_leaf : (N z i : ℕ) → z < N → leaf_word z ≤ i → i < leaf_word z + 2 → own N i ≡ z
unfolding own
own_leaf N z i h a b = rw (le-ltb i 2 (omega arith), lt-ltb i (2 + 2 * N) (omega arith)) (omega arith)

pub own_node : (N j i : ℕ) → node_word N j ≤ i → i < node_word N j + 17 → own N i ≡ N + j
unfolding own
own_node N j i a b = rw (le-ltb i 2 (omega arith), le-ltb i (2 + 2 * N) (omega arith)) (omega arith)

-- ---- what a reference shows
pub record SeesLeaf (N : ℕ) (m : Mem) (r x k v : ℕ) : Type 0 where
  pub ref : ref_of N r ≡ Leaf x
  pub within : x < N
  pub key : m (leaf_word x) ≡ k
  pub value : m (leaf_word x + 1) ≡ v

pub record SeesNode (D N : ℕ) (m : Mem) (r x h b g : ℕ) : Type 0 where
  pub ref : ref_of N r ≡ Node (x - N)
  pub low : N ≤ x
  pub high : x + 1 < N + N
  pub head : head_view D x (m (node_word N (x - N))) ≡ node_there x h b g

abbrev pub Sees : ℕ → ℕ → Mem → ℕ → View ℕ → Type 0
Sees D N m r none_there = r ≡ 0
Sees D N m r (leaf_there x k v) = SeesLeaf N m r x k v
Sees D N m r (node_there x h b g) = SeesNode D N m r x h b g
Sees D N m r bad = Unit {0}

module _ (D N : ℕ) (m : Mem) (r : ℕ) where
  -- a header shows its node, or damage
  head_sees : (j : ℕ) → ref_of N r ≡ Node j → j + 1 < N → Sees D N m r (head_view D (N + j) (m (node_word N j)))
  unfolding head_view
  head_sees j p l = go (ltb (length_of word) D) refl (ltb (depth_of word + length_of word) D) refl
    where
      word : ℕ
      word = m (node_word N j)

      back : N + j - N ≡ j
      back = omega arith

      go : (a : Bool) → ltb (length_of word) D ≡ a → (b : Bool) → ltb (depth_of word + length_of word) D ≡ b
          → Sees D N m r (pick a (pick b (node_there (N + j) (depth_of word) (depth_of word + length_of word) (word % 2 ^ 48)) bad) bad)
      go true ea true eb = record { ref = p ∙ ap Node (sym back); low = omega arith; high = omega arith; head = rw (back, ea, eb) }
      go true ea false eb = tt
      go false ea b eb = tt

  ref_sees : (d : Ref) → ref_of N r ≡ d → Decoded N r d → Sees D N m r (ref_view D N m d)
  unfolding ref_view
  ref_sees Empty p g = g
  ref_sees (Leaf i) p g = record { ref = p; within = g.0; key = refl; value = refl }
  ref_sees (Node j) p g = head_sees j p g.0
  ref_sees Bad p g = tt

  pub sees : (u : View ℕ) → (base D N).view m r ≡ u → Sees D N m r u
  unfolding base
  sees u e = subst (Sees D N m r) e (ref_sees (ref_of N r) refl (decoded N r))

  -- and the other way round
  pub leaf_seen : (x k v : ℕ) → SeesLeaf N m r x k v → (base D N).view m r ≡ leaf_there x k v
  unfolding base ref_view
  leaf_seen x k v s = rw (s.ref, s.key, s.value)

  pub node_seen : (x h b g : ℕ) → SeesNode D N m r x h b g → (base D N).view m r ≡ node_there x h b g
  unfolding base ref_view
  node_seen x h b g s =
      let e : N + (x - N) ≡ x = omega (arith, s.low) in
      rw (s.ref, e) s.head

pub none_seen : (D N : ℕ) (m : Mem) → (base D N).view m 0 ≡ none_there
unfolding base ref_view
none_seen D N m = rw (ref_empty N)

-- keys that begin alike have the same stored digits
pub stored_decided : (D N h b s s' : ℕ) → Agree (digit_in D) b (digit_in D s) s' → (base D N).stored h b s ≡ (base D N).stored h b s'
unfolding base
stored_decided D N h b s s' a = stored_cong D 12 h (b - h) s s' (λ i l. sym (a (h + i) (omega arith)))

-- ---- a slot's words decide what it shows
-- the words of the node in slot x
pub own_slot : (N x i : ℕ) → N ≤ x → node_word N (x - N) ≤ i → i < node_word N (x - N) + 17 → own N i ≡ x
own_slot N x i h a b = own_node N (x - N) i a b ∙ omega arith

-- the reference to a slot
slot_ref : ℕ → ℕ → ℕ
slot_ref N x = pick (ltb x N) (leaf_ref x) (node_ref (x - N))

module _ (D N : ℕ) where
  shown_ref : (m : Mem) (r x : ℕ) → Shows x ((base D N).view m r) → r ≡ slot_ref N x
  unfolding slot_ref
  shown_ref m r x s = go ((base D N).view m r) (sees D N m r ((base D N).view m r) refl) s
    where
      go : (u : View ℕ) → Sees D N m r u → Shows x u → r ≡ pick (ltb x N) (leaf_ref x) (node_ref (x - N))
      go none_there p z = absurd z
      go (leaf_there y k v) p z = rw (z, lt-ltb y N p.within) (subst (Decoded N r) p.ref (decoded N r)).1
      go (node_there y h b g) p z = rw (z, le-ltb y N p.low) (subst (Decoded N r) p.ref (decoded N r)).1
      go bad p z = absurd z

  -- of a node only the header's word is seen
  pub head_kept : (m m' : Mem) (r x h b g : ℕ) → (base D N).view m r ≡ node_there x h b g → m' (node_word N (x - N)) ≡ m (node_word N (x - N))
      → (base D N).view m' r ≡ node_there x h b g
  head_kept m m' r x h b g e same =
      let p : SeesNode D N m r x h b g = sees D N m r (node_there x h b g) e in
      node_seen D N m' r x h b g (record { ref = p.ref; low = p.low; high = p.high; head = rw same p.head })

  pub base_lawful : Lawful (base D N)
  unfolding base
  base_lawful = record {
    none_same = λ m m' r e. rw (sees D N m r none_there e) (none_seen D N m');
    leaf_same = λ m m' r x k v e s.
        let p : SeesLeaf N m r x k v = sees D N m r (leaf_there x k v) e in
        leaf_seen D N m' r x k v (record {
          ref = p.ref;
          within = p.within;
          key = s (leaf_word x) (own_leaf N x (leaf_word x) p.within (omega arith) (omega arith)) ∙ p.key;
          value = s (leaf_word x + 1) (own_leaf N x (leaf_word x + 1) p.within (omega arith) (omega arith)) ∙ p.value;
        });
    node_same = λ m m' r x h b g e s.
        head_kept m m' r x h b g e
        (s (node_word N (x - N)) (own_slot N x (node_word N (x - N)) (sees D N m r (node_there x h b g) e).low (omega arith) (omega arith)));
    kid_same = λ m m' r x h b g c e l s.
        s (child_word N (x - N) c) (own_slot N x (child_word N (x - N) c) (sees D N m r (node_there x h b g) e).low (omega arith) (omega arith));
    one_ref = λ m r r' x s s'. shown_ref m r x s ∙ sym (shown_ref m r' x s');
  }

  -- the slots of a tree that is held are the pool's
  pub slots_held : (m : Mem) (w r : ℕ) (t : Tree ℕ) → Holds (base D N) m w r t → Slots N t
  unfolding Holds Slots
  slots_held m w r empty g = tt
  slots_held m w r (leaf x k v) g = (sees D N m r (leaf_there x k v) g).within
  slots_held m w r (node x b s kids) g =
      let p = sees D N m r (node_there x g.0.h b ((base D N).stored g.0.h b s)) g.0.there in
      (p.low, p.high, λ c l. slots_held m (b + 1) ((base D N).kid m x c) (kids c) (g.1 c l))
