-- On a pool that holds a tree, a listing hands out the tree's entries, lowest first: its visit meets just these, and none of its refusals comes.
-- Assumes nothing.
use Rattle.std.specs.Prelude.{Some, Option, None}
use mathlib.Core.Path.{◌≡◌, refl, sym, ap, ◌∙◌, subst}
use mathlib.Core.Bool.{Bool, true, false}
use mathlib.Core.Logic.{◌≢◌, ◌⊎◌, inl, inr}
use mathlib.Core.List.{List, [], ◌∷◌, ◌++◌, map, map-append, append-nil}
use Prim.Native.Nat.{ℕ, zero, suc, ◌+◌, ◌-◌, ◌≤◌, ◌<◌}
use native.Mathlib.Omega.{arith}
use borrow.Author.Tests.{lt-ltb, le-ltb, le-leb, lt-leb, eq-eqb, ne_eqb}
use lib.Dec.{eqb, ltb}
use lib.ListN.{length, take, set, length-append, length-map}
use lib.Seq.{take_all, take_at, append_snoc}
use Rattle.digits.specs.Choice.{pick}
use Rattle.digits.specs.Digits.{digit_in}
use Rattle.digits.specs.Loops.{upto}
use Rattle.digits.proofs.Digits.{digit_lt, digit_less}
use Rattle.pool.specs.Sizes.{capacity_of}
use Rattle.pool.specs.Places.{word_at, leaf_word, child_at}
use Rattle.pool.specs.Refs.{ref_of}
use Rattle.pool.specs.declared.Ref.{Ref}
use Rattle.tree.specs.Tree.{Tree, empty, leaf, node, upd, sub, Stands, here, find, Good}
use Rattle.tree.specs.Listing.{Entry, Rising, look, cat, entries}
use Rattle.tree.specs.Shape
use Rattle.tree.proofs.Basics.{Same?, same, other, same?, less?}
use Rattle.tree.proofs.Places.{child}
use Rattle.tree.proofs.Near.{of_two, stands_found}
use Rattle.tree.proofs.Listing.{Keys, entries_rise, entries_find, entries_length}
use Rattle.layout.specs.Layout.{Held, base}
use Rattle.layout.proofs.Room.{leaves_fit}
use Rattle.walk.specs.Walks.{children_of}
use Rattle.held.specs.Ways.{mem}
use Rattle.held.proofs.Heads.{held_empty, held_leaf, held_node, held_child}
use Rattle.held.proofs.Lowest.{children_held}
use Rattle.listing.specs.Listings.{Visit, visit, state, leaf_of, node_of, ref_visit, visit_from, shown, listed, judged, list_of}
use Rattle.listing.specs.Rows.{up_from, front, shown_rows, Word, Words}

abbrev dig : ℕ → ℕ → ℕ
dig = digit_in 16

-- ---- the visit of a list: leaf after leaf, until it is over
unfoldable pub visits : ℕ → ℕ → List (Entry ℕ) → Visit → Visit
visits n from [] v = v
visits n from (e ∷ l) v = visits n from l (pick (eqb v.state.phase 0) (leaf_of n from e.key e.value v) v)

visits_append : (n from : ℕ) (l r : List (Entry ℕ)) (v : Visit) → visits n from (l ++ r) v ≡ visits n from r (visits n from l v)
unfolding visits
visits_append n from [] r v = refl
visits_append n from (e ∷ l) r v = visits_append n from l r (pick (eqb v.state.phase 0) (leaf_of n from e.key e.value v) v)

visits_over : (n from : ℕ) (l : List (Entry ℕ)) (v : Visit) → v.state.phase ≢ 0 → visits n from l v ≡ v
unfolding visits
visits_over n from [] v h = refl
visits_over n from (e ∷ l) v h = rw (ne_eqb v.state.phase 0 h) (visits_over n from l v h)

-- what meets a list, unless the visit is over, meets it
visits_unless : (n from : ℕ) (l : List (Entry ℕ)) (v u : Visit) → u ≡ visits n from l v → pick (eqb v.state.phase 0) u v ≡ visits n from l v
visits_unless n from l v u e = go (same? v.state.phase 0)
  where
    go : Same? v.state.phase 0 → pick (eqb v.state.phase 0) u v ≡ visits n from l v
    go (same h p) = rw p e
    go (other h p) = rw p (sym (visits_over n from l v h))

-- ---- the visit of a reference that holds a tree
module _ (pool : List ℕ) (n from : ℕ) where
  -- a visit meets what the reference means, unless it is over
  meets : (f w r : ℕ) (v : Visit) {x : Ref} → ref_of n r ≡ x
      → visit_from (suc f) pool n from w r v ≡ pick (eqb v.state.phase 0) (ref_visit (node_of (visit_from f pool n from) pool n w) pool n from x v) v
  unfolding visit_from
  meets f w r v e = rw e

  -- children that meet their own entries meet them all
  kids_meet : (go : ℕ → Visit → Visit) (kids : ℕ → Tree ℕ) (i : ℕ) (v : Visit) → ((c : ℕ) → c < i → (u : Visit) → go c u ≡ visits n from (entries (kids c)) u)
      → upto i go v ≡ visits n from (cat i (λ c. entries (kids c))) v
  unfolding upto cat visits
  kids_meet go kids zero v h = refl
  kids_meet go kids (suc i) v h =
      h i (omega arith) (upto i go v)
      ∙ ap (visits n from (entries (kids i))) (kids_meet go kids i v (λ c l. h c (omega arith)))
      ∙ sym (visits_append n from (cat i (λ c. entries (kids c))) (entries (kids i)) v)

  -- so does their node: its header is accepted, and it is not childless
  node_meets : (go : ℕ → ℕ → Visit → Visit) (w r x b s : ℕ) (q : ℕ → ℕ) (kids : ℕ → Tree ℕ) (v : Visit)
      → Shape.Holds (base 16 n) (mem pool) w r (node x b s kids)
      → Good dig 16 w q (node x b s kids) → ((c : ℕ) → c < 16 → (u : Visit) → go (b + 1) (child_at pool n (x - n) c) u ≡ visits n from (entries (kids c)) u)
      → node_of go pool n w (x - n) v ≡ visits n from (entries (node x b s kids)) v
  unfolding Good entries
  node_meets go w r x b s q kids v h g kids-do =
      rw (
        (held_node pool n w r x b s kids h).head,
        ne_eqb (children_of pool n (x - n)) 0 (λ z. omega (arith, children_held pool n w r x b s kids h, of_two kids g.4)),
      )
      (kids_meet (λ c. go (b + 1) (child_at pool n (x - n) c)) kids 16 v kids-do)

  -- the visit meets the tree's entries, in their order
  pub visit_held : (f w r : ℕ) (q : ℕ → ℕ) (t : Tree ℕ) (v : Visit) → Shape.Holds (base 16 n) (mem pool) w r t → Good dig 16 w q t → w ≤ 16 → 17 ≤ f + w
      → visit_from f pool n from w r v ≡ visits n from (entries t) v
  unfolding Good entries visits
  visit_held zero w r q t v h g l fu = absurd (omega arith)
  visit_held (suc f) w r q empty v h g l fu = meets f w r v (held_empty pool n w r h).1 ∙ visits_unless n from [] v v refl
  visit_held (suc f) w r q (leaf x k a) v h g l fu =
      let see = held_leaf pool n w r x k a h in
      meets f w r v see.ref ∙ rw (see.key, see.value)
  visit_held (suc f) w r q (node x b s kids) v h g l fu =
      meets f w r v (held_node pool n w r x b s kids h).refers
      ∙ visits_unless n from (entries (node x b s kids)) v (node_of (visit_from f pool n from) pool n w (x - n) v)
      (node_meets (visit_from f pool n from) w r x b s q kids v h g
      (λ c k u. visit_held f (b + 1) (child_at pool n (x - n) c) (upd (dig s) b c) (kids c) u (held_child pool n w r x b s kids c h k) (g.3 c k) (omega (arith, g.1)) (omega (arith, g.0))))

-- ---- what the buffers hold
front_length : (new old : List ℕ) → length new ≤ length old → length (front new old) ≡ length old
front_length [] old h = refl
front_length (a ∷ new) [] h = absurd (omega arith)
front_length (a ∷ new) (b ∷ old) h = ap suc (front_length new old (omega arith))

front_next : (new old : List ℕ) (a : ℕ) → length new < length old → set (front new old) (length new) a ≡ front (new ++ a ∷ []) old
front_next new [] a h = absurd (omega arith)
front_next [] (b ∷ old) a h = refl
front_next (c ∷ new) (b ∷ old) a h = ap (c ∷◌) (front_next new old a (omega arith))

-- a buffer with the field f of the entries `got` at its front: the next one's place is behind them
module _ (f : Entry ℕ → ℕ) (got : List (Entry ℕ)) (old : List ℕ) where
  field_length : length got ≤ length old → length (front (map f got) old) ≡ length old
  field_length h = front_length (map f got) old (omega (arith, length-map got f))

  field_next : (e : Entry ℕ) → length got < length old → set (front (map f got) old) (length got) (f e) ≡ front (map f (got ++ e ∷ [])) old
  field_next e h =
      ap (λ (i : ℕ). set (front (map f got) old) i (f e)) (sym (length-map got f))
      ∙ front_next (map f got) old (f e) (omega (arith, length-map got f))
      ∙ ap (λ (new : List ℕ). front new old) (sym (map-append f got (e ∷ [])))

abbrev key : Entry ℕ → ℕ
key e = e.key

abbrev value : Entry ℕ → ℕ
value e = e.value

module _ (n from : ℕ) (ks vs : List ℕ) (alike : length ks ≡ length vs) where
  -- the visit that has handed out `got`, with m leaves met, in phase p
  abbrev handed : List (Entry ℕ) → ℕ → ℕ → Visit
  handed got m p = visit (front (map key got) ks) (front (map value got) vs) (state (length got) m p)

  -- a further leaf is below the given key, or is handed out, or is one too many for the buffers
  module _ (e : Entry ℕ) (got : List (Entry ℕ)) (m : ℕ) (room : length got ≤ length ks) (few : m < n) where
    leaf_below : e.key < from → leaf_of n from e.key e.value (handed got m 0) ≡ handed got (m + 1) 0
    unfolding leaf_of
    leaf_below h = rw (lt-leb n m few, lt-ltb e.key from h)

    leaf_next : from ≤ e.key → length got < length ks → leaf_of n from e.key e.value (handed got m 0) ≡ handed (got ++ e ∷ []) (m + 1) 0
    unfolding leaf_of
    leaf_next h f =
        rw (
          lt-leb n m few,
          le-ltb e.key from h,
          field_length key got ks room,
          lt-leb (length ks) (length got) f,
          field_next key got ks e f,
          field_next value got vs e (omega arith),
          length-append got (e ∷ []),
        )

    leaf_further : from ≤ e.key → length ks ≤ length got → leaf_of n from e.key e.value (handed got m 0) ≡ handed got (m + 1) 1
    unfolding leaf_of
    leaf_further h f = rw (lt-leb n m few, le-ltb e.key from h, field_length key got ks room, le-leb (length ks) (length got) f)

  -- so many rows are shown as were handed out, and whether there is a further one
  handed_shown : (rows got : List (Entry ℕ)) (more : Bool) → take (length ks) rows ≡ got → ltb (length ks) (length rows) ≡ more
      → shown (front (map key got) ks) (front (map value got) vs) (listed 0 (length got) more) ≡ shown_rows rows ks vs
  unfolding shown_rows
  handed_shown rows got more e p = rw (e, p)

  all_shown : (got : List (Entry ℕ)) (m : ℕ) → length got ≤ length ks → judged (handed got m 0) ≡ shown_rows (got ++ []) ks vs
  unfolding judged
  all_shown got m room =
      rw append-nil (handed_shown got got false (take_all (length ks) got room) (le-ltb (length ks) (length got) room))

  more_shown : (e : Entry ℕ) (l got : List (Entry ℕ)) (m : ℕ) → length got ≡ length ks → judged (handed got m 1) ≡ shown_rows (got ++ e ∷ l) ks vs
  unfolding judged
  more_shown e l got m full =
      handed_shown (got ++ e ∷ l) got true (take_at got (e ∷ l) (length ks) full)
      (lt-ltb (length ks) (length (got ++ e ∷ l)) (omega (arith, length-append got (e ∷ l))))

  -- what is shown in the end, from here on
  rest_shown : (l got : List (Entry ℕ)) (m : ℕ) → length got ≤ length ks → m + length l ≤ n
      → judged (visits n from l (handed got m 0)) ≡ shown_rows (got ++ up_from from l) ks vs
  unfolding visits up_from
  rest_shown [] got m room few = all_shown got m room
  rest_shown (e ∷ l) got m room few = go (λ got' h. rest_shown l got' (m + 1) h (omega arith)) (less? e.key from) (less? (length got) (length ks))
    where
      go : ((got' : List (Entry ℕ)) → length got' ≤ length ks → judged (visits n from l (handed got' (m + 1) 0)) ≡ shown_rows (got' ++ up_from from l) ks vs)
          → (e.key < from) ⊎ (from ≤ e.key) → (length got < length ks) ⊎ (length ks ≤ length got)
          → judged (visits n from l (leaf_of n from e.key e.value (handed got m 0)))
          ≡ shown_rows (got ++ pick (ltb e.key from) (up_from from l) (e ∷ up_from from l)) ks vs
      go ih (inl h) f = rw (lt-ltb e.key from h, leaf_below e got m room (omega arith) h) (ih got room)
      go ih (inr h) (inl f) =
          rw (le-ltb e.key from h, leaf_next e got m room (omega arith) h f, ← append_snoc got e (up_from from l))
          (ih (got ++ e ∷ []) (omega (arith, length-append got (e ∷ []))))
      go ih (inr h) (inr f) =
          rw (
            le-ltb e.key from h,
            leaf_further e got m room (omega arith) h f,
            visits_over n from l (handed got (m + 1) 1) (λ z. omega arith),
          )
          (more_shown e (up_from from l) got (m + 1) (omega arith))

  -- a visit that meets at most N leaves shows those at or above the given key
  pub visits_rows : (l : List (Entry ℕ)) → length l ≤ n → judged (visits n from l (visit ks vs (state 0 0 0))) ≡ shown_rows (up_from from l) ks vs
  visits_rows l few = rest_shown l [] 0 (omega arith) (omega arith)

-- ---- the entries of a tree
-- there are no more than the pool has places for
pub entries_few : (pool : List ℕ) (n : ℕ) (t : Tree ℕ) → Held 16 n (mem pool) t → length (entries t) ≤ n
entries_few pool n t H = omega (arith, entries_length t, leaves_fit 16 n (mem pool) t H)

-- the first differing digit decides the order of two words
pub word_less : (k k' i : ℕ) → Word k → Word k' → i < 16 → ((j : ℕ) → j < i → dig k j ≡ dig k' j) → dig k i < dig k' i → k < k'
word_less k k' i a b l e h = digit_less 16 k k' a b i l e h

-- a key that has a value is one of the tree's
found_word : (k v : ℕ) (t : Tree ℕ) → Keys dig 16 Word word_less t → find dig k t ≡ Some v → Word k
unfolding Keys find
found_word k v empty o e = let z : ◌≡◌ {A = ℕ} 0 1 = cc in absurd (omega arith)
found_word k v (leaf x k' a) o e = go (same? k k')
  where
    go : Same? k k' → Word k
    go (same h p) = subst Word (sym h) o
    go (other h p) = let z : ◌≡◌ {A = Option ℕ} None (Some v) = rw p at e in let y : ◌≡◌ {A = ℕ} 0 1 = cc in absurd (omega arith)
found_word k v (node x b s kids) o e = found_word k v (kids (dig k b)) (o (dig k b) (digit_lt 16 k b)) e

-- where every key that has a value is a word, every key of the tree is
keys_named : (t : Tree ℕ) → Good dig 16 0 (λ i. 0) t → ((k v : ℕ) → find dig k t ≡ Some v → Word k) → (u : Tree ℕ) (π : List ℕ) → Stands π u t
    → Keys dig 16 Word word_less u
unfolding Keys
keys_named t g names empty π p = tt
keys_named t g names (leaf x k v) π p = names k v (stands_found dig (digit_lt 16) 16 x k v π t g p)
keys_named t g names (node x b s kids) π p = λ c l. keys_named t g names (kids c) (π ++ c ∷ []) (child dig π c x b s kids t l p).stands

-- their keys rise, and a key has the value that the tree has for it
pub rows_held : (pool : List ℕ) (n : ℕ) (t : Tree ℕ) → Held 16 n (mem pool) t → ((k v : ℕ) → find dig k t ≡ Some v → Word k)
    → Rising (entries t) × ((k : ℕ) → look k (entries t) ≡ find dig k t)
unfolding sub
rows_held pool n t H names =
    let K = keys_named t H.good names t [] (record { on = here; is = refl }) in (
      entries_rise dig 16 Word word_less 0 (λ i. 0) t H.good K,
      λ k. entries_find dig 16 Word word_less (digit_lt 16) 0 (λ i. 0) t k H.good K,
    )

module _ (pool : List ℕ) (n : ℕ) (words : Words pool) where
  keys_words : (w r : ℕ) (t : Tree ℕ) → Shape.Holds (base 16 n) (mem pool) w r t → Keys dig 16 Word word_less t
  unfolding Keys
  keys_words w r empty h = tt
  keys_words w r (leaf x k v) h = subst Word (held_leaf pool n w r x k v h).key (words (leaf_word x))
  keys_words w r (node x b s kids) h = λ c l. keys_words (b + 1) (child_at pool n (x - n) c) (kids c) (held_child pool n w r x b s kids c h l)

  -- in a pool of words every key that has a value is one
  pub names_held : (t : Tree ℕ) → Held 16 n (mem pool) t → (k v : ℕ) → find dig k t ≡ Some v → Word k
  names_held t H k v e = found_word k v t (keys_words 0 (word_at pool 1) t H.holds) e

-- ---- the listing
pub list_held : (pool : List ℕ) (n : ℕ) (t : Tree ℕ) → capacity_of pool ≡ Some n → Held 16 n (mem pool) t → (from : ℕ) (ks vs : List ℕ) → (length ks ≡ 0 → ⊥)
    → length ks ≡ length vs → list_of pool from ks vs ≡ shown_rows (up_from from (entries t)) ks vs
unfolding list_of
list_held pool n t fits H from ks vs room alike =
    rw (
      fits,
      ne_eqb (length ks) 0 room,
      eq-eqb (length ks) (length vs) alike,
      visit_held pool n from 17 0 (word_at pool 1) (λ i. 0) t (visit ks vs (state 0 0 0)) H.holds H.good (omega arith) (omega arith),
    )
    (visits_rows n from ks vs alike (entries t) (entries_few pool n t H))
