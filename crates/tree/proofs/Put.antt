-- The trees that a put makes: a value changed, a leaf in an empty place, and a split: a new node over the new leaf and the old target.
-- Rests on replacing at a place. Assumes nothing.
use Rattle.std.specs.Prelude.{None}
use mathlib.Core.Path.{◌≡◌, refl, sym, ap, ◌∙◌}
use mathlib.Core.Logic.{◌≢◌}
use Prim.Native.Nat.{ℕ, ◌+◌, ◌≤◌, ◌<◌}
use mathlib.Core.List.{List, [], ◌∷◌}
use native.Mathlib.Omega.{arith}
use borrow.Author.Tests.{eq-eqb, ne_eqb}
use Rattle.tree.specs.Tree.{Tree, empty, leaf, node, upd, mult, Filled, On, sub, plug, Agree, Leads, find, Good}
use Rattle.tree.specs.Changes.{occurs, Adds}
use Rattle.tree.specs.Shape.{none_there, leaf_there, Mem, Shape, Head, Holds}
use Rattle.tree.specs.Straight.{StraightBut}
use Rattle.tree.proofs.Basics.{upd_case, upd_at, upd_off, sum_upd, sum_zero}
use Rattle.tree.proofs.Places.{plug_mult, agree_down, find_keeps, find_there, not_found}
use Rattle.tree.proofs.Near.{Past}

module _ (dig : ℕ → ℕ → ℕ) {A : Type 0} where
  -- what is done at a place is done to the whole
  pub adds_below : (D : ℕ) (k : ℕ) (v : A) (taken : List ℕ) (π : List ℕ) (t u : Tree A) → On π t → Good dig D 0 (λ i. 0) t → Leads dig π t k
      → Adds dig k v taken (sub π t) u → Adds dig k v taken t (plug π t u)
  adds_below D k v taken π t u on good leads a = record {
    found = find_there dig D π 0 (λ i. 0) t u k on good leads ∙ a.found;
    others = λ k' n. find_keeps dig π t u k' on (a.others k' n);
    slots = λ x. omega (arith, plug_mult π t u x on, a.slots x);
  }

  pub value_adds : (x k : ℕ) (v v₀ : A) → Adds dig k v [] (leaf x k v₀) (leaf x k v)
  unfolding find mult occurs
  value_adds x k v v₀ = record { found = rw (eq-eqb k k refl); others = λ k' n. rw (ne_eqb k' k n); slots = λ y. omega arith }

  pub leaf_adds : (z k : ℕ) (v : A) → Adds dig k v (z ∷ []) empty (leaf z k v)
  unfolding find mult occurs
  leaf_adds z k v = record { found = rw (eq-eqb k k refl); others = λ k' n. rw (ne_eqb k' k n); slots = λ y. omega arith }

-- ---- the target of a split
pub past_filled : {A : Type 0} (dig : ℕ → ℕ → ℕ) (f k₂ : ℕ) (t : Tree A) → Past dig f k₂ t → Filled t
past_filled dig f k₂ empty p = absurd p
past_filled dig f k₂ (leaf x k v) p = tt
past_filled dig f k₂ (node x b s kids) p = tt

-- it is good below digit f of k₂, under a key that differs from k₂ there first
pub past_good : {A : Type 0} (dig : ℕ → ℕ → ℕ) (D w f k k₂ : ℕ) (q : ℕ → ℕ) (t : Tree A) → Good dig D w q t → Past dig f k₂ t → Agree dig f (dig k) k₂
    → Good dig D (f + 1) (upd (dig k) f (dig k₂ f)) t
unfolding Good
past_good dig D w f k k₂ q empty g p a = tt
past_good dig D w f k k₂ q (leaf x k' v) g p a = rw p (agree_down dig f (dig k₂ f) k k₂ a refl)
past_good dig D w f k k₂ q (node x b s kids) g p a = (
  omega arith,
  g.1,
  λ i h. sym (p.1 i (omega (arith, p.0))) ∙ agree_down dig f (dig k₂ f) k k₂ a refl i h,
  g.3,
  g.4,
)

-- ---- the split
-- the children of a node that has the leaf z for k at digit a, and t at digit c
unfoldable pub split_kids : {A : Type 0} → ℕ → ℕ → ℕ → A → ℕ → Tree A → ℕ → Tree A
split_kids a z k v c t = upd (upd (λ i. empty) c t) a (leaf z k v)

-- the node y that branches at f
unfoldable pub split_tree : {A : Type 0} → (ℕ → ℕ → ℕ) → ℕ → ℕ → ℕ → ℕ → A → ℕ → Tree A → Tree A
split_tree dig y f z k v c t = node y f k (split_kids (dig k f) z k v c t)

module _ {A : Type 0} (dig : ℕ → ℕ → ℕ) (dl : (k i : ℕ) → dig k i < 16) (y f z k : ℕ) (v : A) (c : ℕ) (l : c < 16) (n : dig k f ≢ c) (t : Tree A) where
  -- a child is the new leaf, the old target, or nothing
  kids_case : (P : ℕ → Tree A → Type 0) (d : ℕ) → P (dig k f) (leaf z k v) → P c t → (d ≢ dig k f → d ≢ c → P d empty) → P d (split_kids (dig k f) z k v c t d)
  unfolding split_kids
  kids_case P d new old off =
      upd_case P (upd (λ i. empty) c t) (dig k f) (leaf z k v) d new (λ q. upd_case P (λ i. empty) c t d old (λ p. off q p))

  pub split_holds : (S : Shape A) (m : Mem) (w r : ℕ) → Head S m w r y f k → S.view m (S.kid m y (dig k f)) ≡ leaf_there z k v
      → Holds S m (f + 1) (S.kid m y c) t
      → ((d : ℕ) → d < 16 → d ≢ dig k f → d ≢ c → S.view m (S.kid m y d) ≡ none_there)
      → Holds S m w r (split_tree dig y f z k v c t)
  unfolding Holds split_tree
  split_holds S m w r hd new old off =
      (hd, λ d h. kids_case (λ d u. Holds S m (f + 1) (S.kid m y d) u) d new old (λ p q. off d h p q))

  -- straight where the new node's header says its walk depth and the old target is
  pub split_straight : (h : ℕ → ℕ) (but : ℕ → Type 0) (w : ℕ) → h y ≡ w → StraightBut h but (f + 1) t → StraightBut h but w (split_tree dig y f z k v c t)
  unfolding StraightBut split_tree
  split_straight h but w e old = (λ n. e, λ d l. kids_case (λ d u. StraightBut h but (f + 1) u) d tt old (λ p q. tt))

  pub split_filled : Filled (split_tree dig y f z k v c t)
  unfolding split_tree
  split_filled = tt

  pub split_good : (D w : ℕ) (q : ℕ → ℕ) → w ≤ f → f < D → Agree dig w q k → Filled t → Good dig D (f + 1) (upd (dig k) f c) t
      → Good dig D w q (split_tree dig y f z k v c t)
  unfolding Good split_tree split_kids
  split_good D w q a b g fl old = (
    a,
    b,
    g,
    λ d h.
        kids_case (λ d u. Good dig D (f + 1) (upd (dig k) f d) u) d
        (agree_down dig f (dig k f) k k (λ i j. refl) refl)
        old (λ p q. tt),
    record {
      c = dig k f;
      d = c;
      c< = dl k f;
      d< = l;
      apart = n;
      at_c = kids_case (λ d u. d ≡ dig k f → Filled u) (dig k f) (λ e. tt) (λ e. absurd (n (sym e))) (λ p q. absurd (p refl)) refl;
      at_d = kids_case (λ d u. d ≡ c → Filled u) c (λ e. tt) (λ e. fl) (λ p q. absurd (q refl)) refl;
    },
  )

  pub split_adds : (D : ℕ) → Good dig D (f + 1) (upd (dig k) f c) t → Adds dig k v (z ∷ y ∷ []) t (split_tree dig y f z k v c t)
  unfolding find mult occurs split_tree split_kids
  split_adds D good = record {
    found = ap (find dig k) (upd_at (upd (λ i. empty) c t) (dig k f) (leaf z k v)) ∙ rw (eq-eqb k k refl);
    others = λ k' ne.
        kids_case (λ d u. dig k' f ≡ d → find dig k' u ≡ find dig k' t) (dig k' f)
        (λ e. rw (ne_eqb k' k ne) (sym (off k' (λ h. n (sym e ∙ h)))))
        (λ e. refl)
        (λ p q e. sym (off k' q))
        refl;
    slots = λ x.
        omega (
          arith,
          sum_upd 16 (λ i. mult x (e₂ i)) (λ i. mult x (e₁ i)) (dig k f) (dl k f) (λ i h. ap (mult x) (upd_off e₁ (dig k f) (leaf z k v) i h)),
          sum_upd 16 (λ i. mult x (e₁ i)) (λ i. mult x (e₀ i)) c l (λ i h. ap (mult x) (upd_off e₀ c t i h)),
          sum_zero 16 (λ i. mult x (e₀ i)) (λ i h. refl),
          ap (mult x) (upd_at e₁ (dig k f) (leaf z k v)),
          ap (mult x) (upd_off e₀ c t (dig k f) n),
          ap (mult x) (upd_at e₀ c t),
        );
  }
    where
      -- none, then the target, then the leaf
      e₀ : ℕ → Tree A
      e₀ i = empty

      e₁ : ℕ → Tree A
      e₁ = upd e₀ c t

      e₂ : ℕ → Tree A
      e₂ = upd e₁ (dig k f) (leaf z k v)

      off : (k' : ℕ) → dig k' f ≢ c → find dig k' t ≡ None
      off k' h = not_found dig D dl (f + 1) (upd (dig k) f c) t k' f good (omega arith) (λ e. h (e ∙ upd_at (dig k) f c))
