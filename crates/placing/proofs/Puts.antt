-- Where a put goes: by where the walk ends, and beside which key. Every place found leads to the definition's plan, whatever the map and the value.
-- Assumes nothing.
use Rattle.std.specs.Prelude.{Err, Ok, Result}
use mathlib.Core.Path.{◌≡◌, refl, sym, ◌∙◌}
use mathlib.Core.Logic.{◌≢◌}
use mathlib.Core.List.{List}
use Prim.Native.Nat.{ℕ, ◌+◌, ◌-◌, ◌≤◌, ◌<◌}
use native.Mathlib.Omega.{arith}
use borrow.Author.Tests.{eq-eqb, ne_eqb}
use lib.ListN.{length}
use Rattle.digits.specs.Digits.{first_diff}
use Rattle.digits.proofs.Digits.{first_diff_le}
use Rattle.tree.proofs.Basics.{Same?, same, other, same?}
use Rattle.pool.specs.Sizes.{Sized}
use Rattle.pool.specs.Places.{word_at, key_at}
use Rattle.walk.specs.Walks.{walk_of, walk_to, lowest_of}
use Rattle.walk.specs.Ends.{Inside, Ends}
use Rattle.walk.specs.declared.Spot.{Spot}
use Rattle.walk.specs.declared.End.{End}
use Rattle.walk.specs.declared.End.TheVariants.{AtLeaf, AtEmpty, Stopped, Damaged}
use Rattle.walk.specs.declared.Fault.{Fault}
use Rattle.walk.proofs.Ends.{walk_inside, walk_same, Stops, walk_last}
use Rattle.plan.specs.Plans.{Decided, refused}
use Rattle.refusals.specs.declared.Refusal.{Refusal}
use Rattle.refusals.specs.declared.Refusal.TheVariants.{Damage, Retired}
use Rattle.refusals.specs.Refusals.{number_of}
use Rattle.rules.specs.declared.Cleft.{Cleft}
use Rattle.rules.specs.declared.Target.TheVariants.{ALeaf, ANode}
use Rattle.placing.specs.declared.Place.{Place}
use Rattle.placing.specs.declared.Place.TheVariants.{Held, Gap, Apart}
use Rattle.rules.specs.Puts.{cleft_at, placed_at, beside_of, leaf_put, empty_put, put_at, put_file}
use Rattle.placing.specs.Leads.{Leads, Suits}

-- ---- the walk's last node
-- the reference to it is inside the pool; before the first node that counts as word 0
pub over_inside : {pool : List ℕ} {n stop : ℕ} {s : Spot} → Sized pool n → Inside pool n stop s → (s.over < length pool) × (s.above ≤ s.depth)
over_inside {pool} {s = s} z i = go (same? s.nodes 0)
  where
    go : Same? s.nodes 0 → (s.over < length pool) × (s.above ≤ s.depth)
    go (same e q) = rw (i.began e) (omega arith, omega arith)
    go (other n q) =
        let p = i.passed n in
        (omega arith, omega (arith, p.accepted.w≤b))

-- ---- beside another key
-- a refusal asks for nothing
leads_refused : {n k : ℕ} {r : Refusal} {plan : List ℕ → ℕ → Decided} → ((map : List ℕ) (v : ℕ) → refused (number_of r) ≡ plan map v) → Leads n k (Err r) plan
leads_refused h = record { able = tt; plans = h }

-- what is known once the walk to the first differing digit f has ended
pub record Walked (pool : List ℕ) (n k k2 f : ℕ) (e : End) : Type 0 where
  pub sized : Sized pool n
  pub first : f ≡ first_diff k k2
  pub differ : f ≡ 16 → ⊥
  pub walks : e ≡ walk_to pool n k f

abbrev Besides : List ℕ → ℕ → ℕ → ℕ → ℕ → ℕ → Result Place Refusal → Type 0
Besides pool n k last gap k2 p = Leads n k p (λ map v. beside_of pool map n k v last gap k2)

pub beside_same : (pool : List ℕ) (n k last gap k2 : ℕ) {f : ℕ} → f ≡ first_diff k k2 → f ≡ 16 → Besides pool n k last gap k2 (Err Damage)
beside_same pool n k last gap k2 {f} first h = leads_refused (λ map v. rw (← first, eq-eqb f 16 h))

module _ {pool : List ℕ} {n k k2 f : ℕ} {e : End} (w : Walked pool n k k2 f e) where
  digit : f < 16
  digit = omega (arith, first_diff_le k k2 16)

  ended : {x : End} → e ≡ x → Ends pool n f x
  ended q = walk_inside w.sized k f (sym q ∙ w.walks)

  -- the reference that is to be split is inside the pool
  pub leaf_at : {s : Spot} {i : ℕ} → e ≡ AtLeaf s i → s.at < length pool
  leaf_at q = omega (arith, (ended q).inside.at<)

  pub node_at : {s : Spot} {j b : ℕ} → e ≡ Stopped s j b → s.at < length pool
  node_at q = omega (arith, (ended q).inside.at<)

  pub few_nodes : {s : Spot} {j b : ℕ} → e ≡ Stopped s j b → s.nodes ≤ 16
  few_nodes q =
      let h = (ended q).inside in
      omega arith

  module _ (last gap : ℕ) where
    placed : (map : List ℕ) (v : ℕ) → placed_at pool map n k v k2 f last gap e ≡ beside_of pool map n k v last gap k2
    placed map v = rw (← w.first, ne_eqb f 16 w.differ, ← w.walks)

    -- the walk ended at a leaf
    pub leaf_apart : {s : Spot} {i : ℕ} {c : Cleft} → e ≡ AtLeaf s i → c ≡ cleft_at pool k2 f s → Besides pool n k last gap k2 (Ok (Apart c ALeaf))
    leaf_apart q g = record { able = rw g ((ended q).inside.depth≤stop, digit, tt); plans = λ map v. rw (← placed map v, q, g) }

    module _ {s : Spot} {j b : ℕ} (stopped : e ≡ Stopped s j b) where
      -- the node branches past f
      pub node_apart : {c : Cleft} → (b ≡ f → ⊥) → c ≡ cleft_at pool k2 f s → Besides pool n k last gap k2 (Ok (Apart c (ANode j b)))
      node_apart d g =
          let h = ended stopped in
          let l : f < b = omega arith in
          record {
            able = rw g (h.inside.depth≤stop, digit, (h.accepted.j<, l, h.accepted.b<));
            plans = λ map v. rw (← placed map v, stopped, g, ne_eqb b f d);
          }

      -- the walk's last node branches at f, and its child is empty
      pub gap_there : b ≡ f → s.nodes + 1 ≡ last → Besides pool n k last gap k2 (Ok (Gap gap))
      gap_there d l = record { able = tt; plans = λ map v. rw (← placed map v, stopped, eq-eqb b f d, eq-eqb (s.nodes + 1) last l) }

      -- an earlier one does
      pub gap_elsewhere : b ≡ f → (s.nodes + 1 ≡ last → ⊥) → Besides pool n k last gap k2 (Err Damage)
      gap_elsewhere d l = leads_refused (λ map v. rw (← placed map v, stopped, eq-eqb b f d, ne_eqb (s.nodes + 1) last l))

    -- what two matches leave
    pub beside_damaged : ((s : Spot) (i : ℕ) → e ≡ AtLeaf s i → ⊥) → ((s : Spot) (j b : ℕ) → e ≡ Stopped s j b → ⊥) → Besides pool n k last gap k2 (Err Damage)
    beside_damaged p q = leads_refused (λ map v. rw (← placed map v) (go map v e p q))
      where
        go : (map : List ℕ) (v : ℕ) (e : End) → ((s : Spot) (i : ℕ) → e ≡ AtLeaf s i → ⊥) → ((s : Spot) (j b : ℕ) → e ≡ Stopped s j b → ⊥)
            → refused 2 ≡ placed_at pool map n k v k2 f last gap e
        go map v (AtLeaf s i) p q = absurd (p s i refl)
        go map v (AtEmpty s) p q = refl
        go map v (Stopped s j b) p q = absurd (q s j b refl)
        go map v (Damaged m f) p q = refl

-- ---- the walk ended at leaf i, with key x
module _ (pool : List ℕ) {n : ℕ} (k : ℕ) {i x : ℕ} (l : i < n) (key : x ≡ key_at pool i) where
  pub key_held : x ≡ k → Leads n k (Ok (Held i)) (λ map v. leaf_put pool map n k v i)
  key_held h = record { able = l; plans = λ map v. rw (← key, eq-eqb x k h) }

  pub key_other : {p : Result Place Refusal} → (x ≡ k → ⊥) → Leads n k p (λ map v. beside_of pool map n k v 0 0 x) → Leads n k p (λ map v. leaf_put pool map n k v i)
  key_other h b = record { able = b.able; plans = λ map v. rw (← key, ne_eqb x k h) (b.plans map v) }

  -- the keys part past every node of the walk: the second walk would come to the leaf again
  pub leaf_apart_here : Sized pool n → {s : Spot} {f : ℕ} {c : Cleft} → (x ≡ k → ⊥) → walk_of pool n k ≡ AtLeaf s i → f ≡ first_diff k x → (f ≡ 16 → ⊥)
      → s.depth ≤ f → c ≡ cleft_at pool x f s → Leads n k (Ok (Apart c ALeaf)) (λ map v. leaf_put pool map n k v i)
  leaf_apart_here z {s} {f} h w first differ d g =
      key_other h (leaf_apart (record { sized = z; first = first; differ = differ; walks = walk_same pool n k f (sym w) tt d }) 0 0 refl g)

-- ---- the walk ended at an empty reference
module _ (pool : List ℕ) (n k : ℕ) (s : Spot) where
  pub root_empty : s.nodes ≡ 0 → Leads n k (Ok (Gap s.at)) (λ map v. empty_put pool map n k v s)
  root_empty h = record { able = tt; plans = λ map v. rw (eq-eqb s.nodes 0 h) }

  module _ (h : s.nodes ≡ 0 → ⊥) {r : Result ℕ Fault} (lowest : r ≡ lowest_of pool n s.above s.over (word_at pool s.over)) where
    pub no_key_below : {f : Fault} → r ≡ Err f → Leads n k (Err Damage) (λ map v. empty_put pool map n k v s)
    no_key_below q = leads_refused (λ map v. rw (ne_eqb s.nodes 0 h, ← lowest, q))

    pub key_below : {k2 : ℕ} {p : Result Place Refusal} → r ≡ Ok k2 → Leads n k p (λ map v. beside_of pool map n k v s.nodes s.at k2)
        → Leads n k p (λ map v. empty_put pool map n k v s)
    key_below q b = record { able = b.able; plans = λ map v. rw (ne_eqb s.nodes 0 h, ← lowest, q) (b.plans map v) }

    -- the keys part where the last node branches: the second walk would stop before it
    pub gap_below : Sized pool n → walk_of pool n k ≡ AtEmpty s → s.depth ≤ 16 → {k2 f : ℕ} → r ≡ Ok k2 → f ≡ first_diff k k2 → f + 1 ≡ s.depth
        → Leads n k (Ok (Gap s.at)) (λ map v. empty_put pool map n k v s)
    gap_below z w d {f = f} q first e =
        let l : Stops pool n k s = walk_last pool n k w h in
        let b : s.depth - 1 ≡ f = omega arith in
        key_below q
        (gap_there (record { sized = z; first = first; differ = λ x. omega arith; walks = rw b at l.stopped }) s.nodes s.at refl refl l.nodes≡)

-- ---- by where the walk ends
module _ (pool : List ℕ) (n k : ℕ) {e : End} (walks : e ≡ walk_of pool n k) where
  pub ends_lead : {x : End} {p : Result Place Refusal} → e ≡ x → Leads n k p (λ map v. put_at pool map n k v x) → Leads n k p (λ map v. put_at pool map n k v (walk_of pool n k))
  ends_lead q b = record { able = b.able; plans = λ map v. rw (← walks, q) (b.plans map v) }

  -- what two matches leave
  pub ends_damaged : ((s : Spot) (i : ℕ) → e ≡ AtLeaf s i → ⊥) → ((s : Spot) → e ≡ AtEmpty s → ⊥)
      → Leads n k (Err Damage) (λ map v. put_at pool map n k v (walk_of pool n k))
  ends_damaged p q = leads_refused (λ map v. rw (← walks) (go map v e p q))
    where
      go : (map : List ℕ) (v : ℕ) (e : End) → ((s : Spot) (i : ℕ) → e ≡ AtLeaf s i → ⊥) → ((s : Spot) → e ≡ AtEmpty s → ⊥)
          → refused 2 ≡ put_at pool map n k v e
      go map v (AtLeaf s i) p q = absurd (p s i refl)
      go map v (AtEmpty s) p q = absurd (q s refl)
      go map v (Stopped s j b) p q = refl
      go map v (Damaged m f) p q = refl

-- ---- by the file number
module _ (pool : List ℕ) (n k v : ℕ) where
  pub file_retired : v ≡ 0 → Suits n k v (Err Retired) (λ map. put_file pool map n k v)
  file_retired h = record { able = tt; plans = λ map. rw (eq-eqb v 0 h) }

  pub file_placed : {p : Result Place Refusal} → v ≢ 0 → Leads n k p (λ map v. put_at pool map n k v (walk_of pool n k)) → Suits n k v p (λ map. put_file pool map n k v)
  file_placed h b = record { able = b.able; plans = λ map. rw (ne_eqb v 0 h) (b.plans map v) }
