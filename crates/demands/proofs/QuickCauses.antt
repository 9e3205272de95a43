-- A quick lookup's answer and its cause, in a pool of n leaves.
-- Assumes nothing.
use mathlib.Core.Path.{◌≡◌, refl, sym, ap, ◌∙◌, subst}
use mathlib.Core.Bool.{Bool, true, false, not}
use mathlib.Core.Logic.{◌⊎◌, inl, inr}
use mathlib.Core.List.{List}
use Prim.Native.Nat.{ℕ, zero, suc, ◌+◌, ◌≤◌, ◌<◌}
use native.Mathlib.Decide.{dec_lt}
use native.Mathlib.Omega.{arith}
use borrow.Author.Tests.{eqb-true, eqb-false, not-true, not-false}
use lib.Dec.{eqb}
use Rattle.digits.specs.Headers.{stored_at, used_of, prefix_at, differs}
use Rattle.digits.specs.Loops.{scan}
use Rattle.digits.proofs.Differs.{alike_none_differs, unlike_one_differs}
use Rattle.pool.specs.Places.{header_at}
use Rattle.pool.specs.declared.Ref.TheVariants.{Empty, Leaf}
use Rattle.walk.specs.Walks.{unlike, walk_of, quick_walk}
use Rattle.walk.proofs.Ends.{walk_unstopped}
use Rattle.walk.proofs.Loops.{scan_true}
use Rattle.listing.proofs.Loops.{scan_passes}
use Rattle.finding.specs.Lookups.{Answer, quick_at}
use Rattle.finding.proofs.Answers.{quick_unstopped}
use Rattle.survey.specs.Soundness.{depth}
use Rattle.demands.specs.Ways.{Broken, bad, low, long, far, Accepted, Way, root, past, Lookup, Unlike, Differing, differing, Quick}
use Rattle.demands.proofs.Ways.{empty, leaf, broken, node, kind, same_node, spot_is, way_depth, one_way, Passes, passes_ends, passes_breaks, passes_stops, comes_to, comes_to_damage}
use Rattle.demands.proofs.LookupCauses.{lookup_is, lookup_some}

module _ (pool : List ℕ) (n key : ℕ) where
  -- ---- the digits that node j stores
  module _ (j : ℕ) where
    abbrev word : ℕ
    word = header_at pool n j

    abbrev apart : ℕ → Bool
    apart c = not (eqb (stored_at word c) (prefix_at 16 word key c))

    abbrev first : ℕ
    first = scan (used_of word) 0 apart

    -- a place that differs, or there is none
    unlike? : ((c : ℕ) × Unlike pool n key j c) ⊎ ((c : ℕ) → Unlike pool n key j c → ⊥)
    unlike? =
        elim (dec_lt first (used_of word)) [
          | yes l ↦ inl (
            first,
            record { stored = omega arith; used = omega arith; digit = eqb-false _ _ (not-true _ (scan_true apart (used_of word) 0 (omega arith))) },
          )
          | no g ↦ inr (λ c u. u.digit (eqb-true _ _
              (not-false _ (scan_passes apart (used_of word) 0 c (omega arith) (omega (arith, u.stored, u.used))))))
        ]

    unlike_differs : {c : ℕ} → Unlike pool n key j c → differs word key ≡ true
    unlike_differs {c} u = unlike_one_differs 16 word key (λ h. u.digit (h c (omega (arith, u.stored, u.used))))

    alike_passes : ((c : ℕ) → Unlike pool n key j c → ⊥) → differs word key ≡ false
    alike_passes h = alike_none_differs 16 word key (λ c l. go c l (eqb (stored_at word c) (prefix_at 16 word key c)) refl)
      where
        go : (c : ℕ) → c < used_of word → (t : Bool) → eqb (stored_at word c) (prefix_at 16 word key c) ≡ t → stored_at word c ≡ prefix_at 16 word key c
        go c l true e = eqb-true _ _ e
        go c l false e = absurd (h c (record { stored = omega arith; used = omega arith; digit = eqb-false _ _ e }))

  -- none of the first m nodes of the walk differs
  abbrev Alike : ℕ → Type 0
  Alike m = (x : ℕ) → x < m → Differing pool n key x → ⊥

  -- ---- every cause leads to its answer
  -- the quick walk comes along a way on which no node differs
  along : {i w m : ℕ} (W : Way pool n key i w m) → Alike m → Passes pool n unlike W
  along root h = tt
  along (past {m = m} {j = j} W a) h = (along W (λ x l. h x (omega arith)), alike_passes j (λ c u. h m (omega arith) (differing W a u)))

  -- so it is the plain walk where none does
  module _ (h : (x : ℕ) → Differing pool n key x → ⊥) where
    all_along : {i w m : ℕ} (W : Way pool n key i w m) → Passes pool n unlike W
    all_along W = along W (λ x l. h x)

    same_walk : {a : Answer} → Lookup pool n key a → quick_walk pool n key ≡ walk_of pool n key
    same_walk (Lookup.damage W b) = passes_breaks pool n unlike W (all_along W) b ∙ sym (comes_to_damage pool n W b)
    same_walk (Lookup.empty W e) = passes_ends pool n unlike W (all_along W) Empty e tt ∙ sym (comes_to pool n W Empty e tt)
    same_walk (Lookup.other {l = l} W e q) = passes_ends pool n unlike W (all_along W) (Leaf l) e tt ∙ sym (comes_to pool n W (Leaf l) e tt)
    same_walk (Lookup.found {l = l} W e q) = passes_ends pool n unlike W (all_along W) (Leaf l) e tt ∙ sym (comes_to pool n W (Leaf l) e tt)

  pub quick_is : (a : Answer) → Quick pool n key a → quick_at pool key (quick_walk pool n key) ≡ a
  quick_is a (Quick.stopped (differing {j = j} W d u) h) = rw (passes_stops pool n unlike W (along W h) d (unlike_differs j u), (spot_is pool n W).2)
  quick_is a (Quick.passed h L) = rw (same_walk h L) (quick_unstopped pool key (walk_of pool n key) (walk_unstopped pool n key) ∙ lookup_is pool n key a L)

  -- ---- and every quick lookup has a cause
  unaccepted : {i w j : ℕ} → Broken pool n i w → Accepted pool n i w j → ⊥
  unaccepted (bad e) a = let z : ◌≡◌ {A = ℕ} 0 1 = cc a.node in omega arith
  unaccepted (low e h) a = omega (arith, h, a.deep, ap (depth pool n) (same_node pool n refl e a.node))
  unaccepted (long e h) a = omega (arith, h, a.high, ap (λ (x : ℕ). header_at pool n x) (same_node pool n refl e a.node))
  unaccepted (far e h) a = omega (arith, h, a.high, ap (λ (x : ℕ). header_at pool n x) (same_node pool n refl e a.node))

  here : {i w m i' w' m' j : ℕ} → Way pool n key i w m → Way pool n key i' w' m' → Accepted pool n i' w' j → m ≡ m' → (j : ℕ) × Accepted pool n i w j
  here {j = j} W W' a e = let o = one_way pool n W W' e in (j, rw (o.0, o.1) a)

  -- the walk that came so far, or farther, met a node where this way ends
  met_there : {i w m i' w' m' j' : ℕ} → Way pool n key i w m → Way pool n key i' w' m' → Accepted pool n i' w' j' → m ≤ m'
      → (j : ℕ) × Accepted pool n i w j
  met_there W root a l = here W root a (omega arith)
  met_there {m = m} W (past {m = m''} W'' a'') a l =
      elim (dec_lt m'' m) [
        | yes g ↦ here W (past W'' a'') a (omega arith)
        | no g ↦ met_there W W'' a'' (omega arith)
      ]

  module _ {i w m : ℕ} (W : Way pool n key i w m) (h : Alike m) where
    -- no node is met at the end, and so none differs
    ended : ((j : ℕ) → Accepted pool n i w j → ⊥) → (a : Answer) × Quick pool n key a
    ended nowhere = let (a, L) = lookup_some pool n key in (a, Quick.passed none L)
      where
        none : (x : ℕ) → Differing pool n key x → ⊥
        none x (differing W' a' u) =
            elim (dec_lt x m) [
              | yes l ↦ h x l (differing W' a' u)
              | no g ↦ let (j, a) = met_there W W' a' (omega arith) in nowhere j a
            ]

    -- the node that is met does not differ
    onward : {j : ℕ} → Accepted pool n i w j → ((c : ℕ) → Unlike pool n key j c → ⊥) → Alike (m + 1)
    onward {j} a alike x l (differing {j = j'} {c = c} W' a' u) =
        elim (dec_lt x m) [
          | yes g ↦ h x g (differing W' a' u)
          | no g ↦
              let q : j' ≡ j = same_node pool n (one_way pool n W' W (omega arith)).0 a'.node a.node in
              alike c (subst (λ (y : ℕ). Unlike pool n key y c) q u)
        ]

  pub quick_some : (a : Answer) × Quick pool n key a
  quick_some = go 17 root (λ x l d. absurd (omega arith)) (omega arith)
    where
      go : (f : ℕ) {i w m : ℕ} (W : Way pool n key i w m) → Alike m → 17 ≤ f + w → (a : Answer) × Quick pool n key a
      go zero W h l = absurd (omega (arith, way_depth pool n W))
      go (suc f) {i} {w} W h l =
          elim (kind pool n i w) [
            | empty e ↦ ended W h (λ j a. let z : ◌≡◌ {A = ℕ} 0 1 = cc a.node in omega arith)
            | leaf x e ↦ ended W h (λ j a. let z : ◌≡◌ {A = ℕ} 0 1 = cc a.node in omega arith)
            | broken b ↦ ended W h (λ j a. unaccepted b a)
            | node j a ↦ elim (unlike? j) [
              | inl (c, u) ↦ (_, Quick.stopped (differing W a u) h)
              | inr alike ↦ go f (past W a) (onward W h a alike) (omega (arith, a.deep))
            ]
          ]
