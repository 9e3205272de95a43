-- Every plan of a put or a delete fits, in every pool, map and key, damaged ones too: its stores lie inside the pool, at most 21; the bytes that it names
-- lie inside the map; its number of stores is its case's; a refusal does nothing.
-- Assumes nothing.
use Rattle.std.specs.Prelude.{Err, None, Ok, Option, Result, Some}
use mathlib.Core.Path.{◌≡◌, refl, sym, ap, ◌∙◌}
use mathlib.Core.Logic.{inl, inr}
use mathlib.Core.Bool.{Bool, true, false}
use mathlib.Core.List.{List, [], ◌∷◌}
use Prim.Native.Nat.{ℕ, ◌+◌, ◌-◌, ◌≤◌, ◌<◌}
use native.Mathlib.Omega.{arith}
use borrow.Author.Tests.{ltb-true, eqb-true, eqb-false}
use types.Run.{OneOf, hit, miss}
use lib.Dec.{eqb, ltb}
use lib.ListN.{length, get_or}
use Rattle.digits.specs.Choice.{pick}
use Rattle.digits.specs.Digits.{first_diff}
use Rattle.digits.specs.Headers.{header_of}
use Rattle.tree.specs.Stores.{block, tab}
use Rattle.tree.proofs.Stores.{Words, words_block}
use Rattle.pool.specs.Sizes.{capacity_of, bytes_of, Sized, Measured}
use Rattle.pool.specs.Places.{word_at, key_at, header_at, node_word, child_word}
use Rattle.pool.specs.Refs.{ref_of, Within}
use Rattle.pool.specs.declared.Ref.{Ref}
use Rattle.pool.specs.declared.Ref.TheVariants.{Empty, Leaf, Node, Bad}
use Rattle.pool.proofs.Sizes.{size_fits}
use Rattle.pool.proofs.Refs.{within}
use Rattle.walk.specs.declared.Fault.{Fault}
use Rattle.walk.specs.Walks.{head_of, walk_of, walk_to, lowest_of, children_of, other_child}
use Rattle.walk.specs.Ends.{Passed, Ends}
use Rattle.walk.specs.declared.Spot.{Spot}
use Rattle.walk.specs.declared.End.{End}
use Rattle.walk.specs.declared.End.TheVariants.{AtLeaf, AtEmpty, Stopped, Damaged}
use Rattle.walk.proofs.Ends.{walk_inside}
use Rattle.layout.specs.Operations.{put_stores}
use Rattle.plan.specs.Plans.{Decided, refused}
use Rattle.plan.specs.Effects.{Inside}
use Rattle.plan.specs.declared.Effect.TheVariants.{FreesLeaf}
use Rattle.plan.proofs.Laws.{unused}
use Rattle.rules.specs.declared.Cleft.{Cleft}
use Rattle.rules.specs.declared.Target.{Target}
use Rattle.rules.specs.declared.Target.TheVariants.{ALeaf, ANode}
use Rattle.rules.specs.Puts.{free_leaf, grow_of, split_child, target_header, cleaving, slots, room_of, split_in, split_of}
use Rattle.rules.specs.Puts.{cleft_at, placed_at, beside_of, below_last, put_at, put_in, put_plan}
use Rattle.rules.specs.Counts.{for_node, put_count, delete_count}
use Rattle.rules.specs.Deletes.{emptied, lift_of, lift_at, merge_of, unlink_of, delete_at, delete_in, delete_plan}
use Rattle.rules.specs.declared.Slots.{Slots}
use Rattle.rules.proofs.Splits.{slots_inside, split_all}

-- a plan of as many stores as it is to have, or a refusal that does nothing, with one of these numbers
pub data Answers (numbers : List ℕ) (count : Decided → ℕ) (d : Decided) : Type 0 where
  plans : d.number ≡ 0 → length d.stores ≡ count d → Answers numbers count d
  refuses : (k : ℕ) → OneOf numbers k → d ≡ refused k → Answers numbers count d

pub record Fits (pool : List ℕ) (bytes : ℕ) (numbers : List ℕ) (count : Decided → ℕ) (d : Decided) : Type 0 where
  pub inside : Words (λ w. w < length pool) d.stores
  pub few : length d.stores ≤ 21
  pub named : Inside d.effect bytes
  pub answers : Answers numbers count d

module _ {pool : List ℕ} {bytes : ℕ} {numbers : List ℕ} {count : Decided → ℕ} where
  refusal : (k : ℕ) → OneOf numbers k → Fits pool bytes numbers count (refused k)
  unfolding Words
  refusal k h = record { inside = tt; few = omega arith; named = (tt, tt); answers = refuses k h refl }

  either : (t : Bool) {a b : Decided} → (t ≡ true → Fits pool bytes numbers count a) → (t ≡ false → Fits pool bytes numbers count b)
      → Fits pool bytes numbers count (pick t a b)
  either true f g = f refl
  either false f g = g refl

-- what an answer says of its number, its stores and its refusal
answer_number : {m : ℕ} {numbers : List ℕ} {count : Decided → ℕ} {d : Decided} → Answers (m ∷ numbers) count d → OneOf (0 ∷ m ∷ numbers) d.number
answer_number (plans e h) = inl e
answer_number (refuses k h e) = inr (rw e h)

answer_count : {numbers : List ℕ} {count : Decided → ℕ} {d : Decided} → (OneOf numbers 0 → ⊥) → Answers numbers count d → d.number ≡ 0
    → length d.stores ≡ count d
answer_count o (plans e h) z = h
answer_count {numbers} o (refuses k h e) z =
    let q : k ≡ 0 = sym (ap (λ (x : Decided). x.number) e) ∙ z in
    absurd (o (rw q at h))

answer_refusal : {numbers : List ℕ} {count : Decided → ℕ} {d : Decided} → Answers numbers count d → (d.number ≡ 0 → ⊥) → d ≡ refused d.number
answer_refusal (plans e h) o = absurd (o e)
answer_refusal (refuses k h e) o = e ∙ ap (λ (x : Decided). refused x.number) (sym e)

-- as many leaves as a pool of a size has, and as many bytes as its map
abbrev pub leaves_in : Option ℕ → ℕ
leaves_in (Some n) = n
leaves_in None = 0

abbrev pub bytes_in : Option ℕ → ℕ
bytes_in (Some n) = bytes_of n
bytes_in None = 0

-- ---- puts
-- the numbers that refuse a put
abbrev put_numbers : List ℕ
put_numbers = 1 ∷ 2 ∷ 4 ∷ 7 ∷ []

-- as many stores as the case has; what the last one's word referred to is the target of a split
abbrev pub put_stored : List ℕ → ℕ → Decided → ℕ
put_stored pool n d = put_count d.effect (ref_of n (word_at pool (get_or d.stores (length d.stores - 1) unused).word))

abbrev PutFits : List ℕ → List ℕ → ℕ → Decided → Type 0
PutFits pool map n d = Fits pool (length map) put_numbers (put_stored pool n) d

-- the reference r is to what is split off, a leaf or one of the pool's nodes
abbrev Known : ℕ → ℕ → Target → Type 0
Known n r ALeaf = for_node (ref_of n r) ≡ 0
Known n r (ANode j b) = (for_node (ref_of n r) ≡ 1) × (j + 1 < n)

module _ {pool : List ℕ} (map : List ℕ) {n : ℕ} (z : Sized pool n) (l : length map ≡ bytes_of n) (k v : ℕ) where
  damage : PutFits pool map n (refused 2)
  damage = refusal 2 (hit put_numbers 2 tt)

  grow_fits : (at : ℕ) → at < length pool → PutFits pool map n (grow_of map n k v at)
  unfolding Words block
  grow_fits at h =
      either (ltb (free_leaf map n) n)
      (λ e.
      let f = ltb-true (free_leaf map n) n e in
      record {
        inside = search arith;
        few = omega arith;
        named = ((omega arith, tt), tt);
        answers = plans refl refl;
      })
      (λ e. refusal 4 (hit put_numbers 4 tt))

  split_fits : (s : Cleft) (target : Target) → s.at < length pool → Known n (word_at pool s.at) target → PutFits pool map n (split_of map n s k v target)
  unfolding Words block tab
  split_fits s target at< known = go (room_of map n) refl
    where
      header : (target : Target) → Known n (word_at pool s.at) target → Words (λ w. w < length pool) (target_header n s target)
      header ALeaf h = tt
      header (ANode j b) h = (omega (arith, h.1), tt)

      counts : (leaf byte : ℕ) (target : Target) → Known n (word_at pool s.at) target
          → length (put_stores (cleaving n s leaf (byte - n) k v target)) ≡ put_stored pool n (split_in n s k v target (Some (slots leaf byte)))
      counts leaf byte ALeaf h = rw h
      counts leaf byte (ANode j b) h = rw h.0

      few : (leaf node : ℕ) (target : Target) → length (put_stores (cleaving n s leaf node k v target)) ≤ 21
      few leaf node ALeaf = omega arith
      few leaf node (ANode j b) = omega arith

      stores : (leaf node : ℕ) → leaf < n → node + 1 < n → Words (λ w. w < length pool) (put_stores (cleaving n s leaf node k v target))
      stores leaf node a b =
          let P : ℕ → Type 0 = λ w. w < length pool in
          let vs = header_of s.depth (s.diff - s.depth) k ∷ tab 16 (split_child s leaf k) in
          split_all P n s leaf node k v (omega arith) (omega arith)
          (words_block P (node_word n node) vs (λ i g h. omega arith)) at< target (header target known)

      go : (r : Option Slots) → room_of map n ≡ r → PutFits pool map n (split_in n s k v target r)
      go (Some r) e =
          let h = slots_inside map n (sym e) in
          record {
            inside = stores r.leaf (r.node - n) (omega arith) (omega arith);
            few = few r.leaf (r.node - n) target;
            named = ((omega arith, (omega arith, tt)), tt);
            answers = plans refl (counts r.leaf r.node target known);
          }
      go None e = refusal 4 (hit put_numbers 4 tt)

  beside_fits : (last gap k2 : ℕ) → gap < length pool → PutFits pool map n (beside_of pool map n k v last gap k2)
  beside_fits last gap k2 g = either (eqb f 16) (λ e. damage) (λ e. go (walk_to pool n k f) (walk_inside z k f refl))
    where
      f : ℕ
      f = first_diff k k2

      go : (e : End) → Ends pool n f e → PutFits pool map n (placed_at pool map n k v k2 f last gap e)
      go (AtLeaf s i) h = split_fits (cleft_at pool k2 f s) ALeaf (omega (arith, h.inside.at<)) (ap for_node h.refers)
      go (AtEmpty s) h = damage
      go (Stopped s j b) h =
          either (eqb b f) (λ e. either (eqb (s.nodes + 1) last) (λ d. grow_fits gap g) (λ d. damage))
          (λ e. split_fits (cleft_at pool k2 f s) (ANode j b) (omega (arith, h.inside.at<)) (ap for_node h.accepted.refers, h.accepted.j<))
      go (Damaged m f) h = damage

  put_at_fits : (e : End) → Ends pool n 16 e → PutFits pool map n (put_at pool map n k v e)
  unfolding Words
  put_at_fits (AtLeaf s i) h =
      either (eqb (key_at pool i) k)
      (λ e. record { inside = (omega (arith, h.within), tt); few = omega arith; named = (tt, tt); answers = plans refl refl })
      (λ e. beside_fits 0 0 (key_at pool i) (omega arith))
  put_at_fits (AtEmpty s) h =
      either (eqb s.nodes 0) (λ e. grow_fits s.at (omega (arith, h.inside.at<))) (λ e. go (lowest_of pool n s.above s.over (word_at pool s.over)))
    where
      go : (r : Result ℕ Fault) → PutFits pool map n (below_last pool map n k v s r)
      go (Ok k2) = beside_fits s.nodes s.at k2 (omega (arith, h.inside.at<))
      go (Err f) = damage
  put_at_fits (Stopped s j b) h = damage
  put_at_fits (Damaged m f) h = damage

pub put_fits : (pool map : List ℕ) (k v : ℕ) → PutFits pool map (leaves_in (capacity_of pool)) (put_plan pool map k v)
unfolding put_plan capacity_of
put_fits pool map k v = go (capacity_of pool) (size_fits pool (get_or pool 0 0))
  where
    go : (z : Option ℕ) → Measured pool z → PutFits pool map (leaves_in z) (put_in pool map k v z)
    go (Some n) z =
        either (eqb (length map) (bytes_of n))
        (λ e. either (eqb v 0) (λ r. refusal 7 (hit put_numbers 7 tt))
        (λ r. put_at_fits map z (eqb-true (length map) (bytes_of n) e) k v (walk_of pool n k) (walk_inside z k 16 refl)))
        (λ e. refusal 1 (hit put_numbers 1 tt))
    go None z = refusal 1 (hit put_numbers 1 tt)

-- its stores lie inside the pool, at most 21
pub put_inside : (pool map : List ℕ) (k v : ℕ) → Words (λ w. w < length pool) (put_plan pool map k v).stores
put_inside pool map k v = (put_fits pool map k v).inside

pub put_few : (pool map : List ℕ) (k v : ℕ) → length (put_plan pool map k v).stores ≤ 21
put_few pool map k v = (put_fits pool map k v).few

-- the bytes that it takes lie inside the map
pub put_named : (pool map : List ℕ) (k v : ℕ) → Inside (put_plan pool map k v).effect (length map)
put_named pool map k v = (put_fits pool map k v).named

pub put_number : (pool map : List ℕ) (k v : ℕ) → OneOf (0 ∷ 1 ∷ 2 ∷ 4 ∷ 7 ∷ []) (put_plan pool map k v).number
put_number pool map k v = answer_number (put_fits pool map k v).answers

-- 1, 3, 20 or 21 stores
pub put_count_lem : (pool map : List ℕ) (k v : ℕ) {n : ℕ} → capacity_of pool ≡ Some n → (put_plan pool map k v).number ≡ 0
    → length (put_plan pool map k v).stores ≡ put_stored pool n (put_plan pool map k v)
put_count_lem pool map k v e = answer_count (miss put_numbers 0 tt) (rw e at (put_fits pool map k v).answers)

-- a refusal has no stores and does nothing to the map
pub put_refusal : (pool map : List ℕ) (k v : ℕ) → ((put_plan pool map k v).number ≡ 0 → ⊥) → put_plan pool map k v ≡ refused (put_plan pool map k v).number
put_refusal pool map k v = answer_refusal (put_fits pool map k v).answers

-- ---- deletes
-- the numbers that refuse a delete
abbrev delete_numbers : List ℕ
delete_numbers = 1 ∷ 2 ∷ 3 ∷ []

-- as many stores as the case has; what the first one's value refers to is the other child of a node that goes
abbrev pub delete_stored : ℕ → Decided → ℕ
delete_stored n d = delete_count d.effect (ref_of n (get_or d.stores 0 unused).value)

abbrev DeleteFits : List ℕ → ℕ → ℕ → Decided → Type 0
DeleteFits pool n bytes d = Fits pool bytes delete_numbers (delete_stored n) d

module _ {pool : List ℕ} {n : ℕ} (z : Sized pool n) where
  unmet : DeleteFits pool n (bytes_of n) (refused 2)
  unmet = refusal 2 (hit delete_numbers 2 tt)

  emptied_fits : (at i : ℕ) → at < length pool → i < n → DeleteFits pool n (bytes_of n) (emptied at (FreesLeaf i))
  unfolding Words
  emptied_fits at i h l = record { inside = (h, tt); few = omega arith; named = search arith; answers = plans refl refl }

  module _ {s : Spot} (p : Passed pool n s) (i : ℕ) (l : i < n) where
    lift_fits : (r j b : ℕ) (k : Result ℕ Fault) → j + 1 < n → ref_of n r ≡ Node j → DeleteFits pool n (bytes_of n) (lift_of n s (FreesLeaf i) r j b k)
    unfolding Words
    lift_fits r j b (Ok k2) h to =
        record {
          inside = (omega (arith, p.over<), (omega arith, tt));
          few = omega arith;
          named = (tt, (omega arith, (omega (arith, p.accepted.j<), tt)));
          answers = plans refl (rw to);
        }
    lift_fits r j b (Err f) h to = unmet

    merge_fits : (at r : ℕ) (o : Ref) → Within n o → ref_of n r ≡ o → DeleteFits pool n (bytes_of n) (merge_of pool n s (FreesLeaf i) at r o)
    unfolding Words
    merge_fits at r Empty h to = unmet
    merge_fits at r (Leaf o) h to =
        record {
          inside = (omega (arith, p.over<), tt);
          few = omega arith;
          named = (tt, (omega arith, (omega (arith, p.accepted.j<), tt)));
          answers = plans refl (rw to);
        }
    merge_fits at r (Node j) h to = go (head_of s.depth (header_at pool n j))
      where
        go : (d : Option ℕ) → DeleteFits pool n (bytes_of n) (lift_at pool n s (FreesLeaf i) at r j d)
        go (Some b) = lift_fits r j b (lowest_of pool n s.depth at r) h to
        go None = unmet
    merge_fits at r Bad h to = unmet

    unlink_fits : s.at < length pool → DeleteFits pool n (bytes_of n) (unlink_of pool n s (FreesLeaf i))
    unlink_fits h =
        either (ltb (children_of pool n s.node) 2) (λ e. unmet)
        (λ e.
        either (ltb _ (children_of pool n s.node)) (λ e. emptied_fits s.at i h l)
        (λ e.
        either (ltb (other_child pool n s.node s.at) 16)
        (λ e.
        let at = child_word n s.node (other_child pool n s.node s.at) in
        let r = word_at pool at in
        merge_fits at r (ref_of n r) (within n r) refl)
        (λ e. unmet)))

  delete_at_fits : (k : ℕ) (e : End) → Ends pool n 16 e → DeleteFits pool n (bytes_of n) (delete_at pool n k e)
  delete_at_fits k (AtLeaf s i) h =
      let at< : s.at < length pool = omega (arith, h.inside.at<) in
      either (eqb (key_at pool i) k)
      (λ e. either (eqb s.nodes 0) (λ e. emptied_fits s.at i at< h.within)
      (λ e. unlink_fits (h.inside.passed (eqb-false s.nodes 0 e)) i h.within at<))
      (λ e. refusal 3 (hit delete_numbers 3 tt))
  delete_at_fits k (AtEmpty s) h = refusal 3 (hit delete_numbers 3 tt)
  delete_at_fits k (Stopped s j b) h = unmet
  delete_at_fits k (Damaged m f) h = unmet

pub delete_fits : (pool : List ℕ) (k : ℕ) → DeleteFits pool (leaves_in (capacity_of pool)) (bytes_in (capacity_of pool)) (delete_plan pool k)
unfolding delete_plan capacity_of
delete_fits pool k = go (capacity_of pool) (size_fits pool (get_or pool 0 0))
  where
    go : (z : Option ℕ) → Measured pool z → DeleteFits pool (leaves_in z) (bytes_in z) (delete_in pool k z)
    go (Some n) z = delete_at_fits z k (walk_of pool n k) (walk_inside z k 16 refl)
    go None z = refusal 1 (hit delete_numbers 1 tt)

-- its stores lie inside the pool, at most 21
pub delete_inside : (pool : List ℕ) (k : ℕ) → Words (λ w. w < length pool) (delete_plan pool k).stores
delete_inside pool k = (delete_fits pool k).inside

pub delete_few : (pool : List ℕ) (k : ℕ) → length (delete_plan pool k).stores ≤ 21
delete_few pool k = (delete_fits pool k).few

-- the bytes that it frees lie inside the pool's map
pub delete_named : (pool : List ℕ) (k : ℕ) {n : ℕ} → capacity_of pool ≡ Some n → Inside (delete_plan pool k).effect (bytes_of n)
delete_named pool k e = rw e at (delete_fits pool k).named

pub delete_number : (pool : List ℕ) (k : ℕ) → OneOf (0 ∷ 1 ∷ 2 ∷ 3 ∷ []) (delete_plan pool k).number
delete_number pool k = answer_number (delete_fits pool k).answers

-- 1 or 2 stores
pub delete_count_lem : (pool : List ℕ) (k : ℕ) {n : ℕ} → capacity_of pool ≡ Some n → (delete_plan pool k).number ≡ 0
    → length (delete_plan pool k).stores ≡ delete_stored n (delete_plan pool k)
delete_count_lem pool k e = answer_count (miss delete_numbers 0 tt) (rw e at (delete_fits pool k).answers)

-- a refusal has no stores and does nothing to the map
pub delete_refusal : (pool : List ℕ) (k : ℕ) → ((delete_plan pool k).number ≡ 0 → ⊥) → delete_plan pool k ≡ refused (delete_plan pool k).number
delete_refusal pool k = answer_refusal (delete_fits pool k).answers
