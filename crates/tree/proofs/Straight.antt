-- Trees that are straight but for some slots: at their places, under other headers, and with a subtree replaced. Rests on the counts of places.
-- Assumes nothing.
use mathlib.Core.Path.{◌≡◌, refl, sym, ◌∙◌, subst}
use Prim.Native.Nat.{ℕ, ◌+◌, ◌≤◌, ◌<◌}
use mathlib.Core.List.{List, [], ◌∷◌}
use native.Mathlib.Omega.{arith}
use Rattle.tree.specs.Tree.{Tree, empty, leaf, node, sum, mult, On, here, down, sub, plug, dep, Stands}
use Rattle.tree.specs.Straight.{StraightBut}
use Rattle.tree.proofs.Basics.{upd_case, one_at, sum_has, sum_two}
use Rattle.tree.proofs.Places.{sub_mult}

module _ {A : Type 0} where
  -- more slots may be left out
  pub straight_more : (h : ℕ → ℕ) (but more : ℕ → Type 0) (w : ℕ) (t : Tree A) → ((x : ℕ) → but x → more x) → StraightBut h but w t → StraightBut h more w t
  unfolding StraightBut
  straight_more h but more w empty e g = tt
  straight_more h but more w (leaf x k v) e g = tt
  straight_more h but more w (node x b s kids) e g = (λ n. g.0 (λ o. n (e x o)), λ c l. straight_more h but more (b + 1) (kids c) e (g.1 c l))

  -- headers that say the same
  pub straight_same : (h h' : ℕ → ℕ) (but : ℕ → Type 0) (w : ℕ) (t : Tree A) → ((x : ℕ) → 0 < mult x t → (but x → ⊥) → h' x ≡ h x)
      → StraightBut h but w t → StraightBut h' but w t
  unfolding StraightBut mult
  straight_same h h' but w empty e g = tt
  straight_same h h' but w (leaf x k v) e g = tt
  straight_same h h' but w (node x b s kids) e g = (
    λ n. e x (omega (arith, one_at x)) n ∙ g.0 n,
    λ c l. straight_same h h' but (b + 1) (kids c) (λ y o. e y (omega (arith, sum_has 16 (λ i. mult y (kids i)) c l))) (g.1 c l),
  )

  -- ---- places
  pub straight_sub : (h : ℕ → ℕ) (but : ℕ → Type 0) (π : List ℕ) (w : ℕ) (t : Tree A) → On π t → StraightBut h but w t → StraightBut h but (dep π w t) (sub π t)
  unfolding StraightBut sub dep
  straight_sub h but π w t here g = g
  straight_sub h but π w t (down {c} {b = b} {kids = kids} {π = ρ} l o) g = straight_sub h but ρ (b + 1) (kids c) o (g.1 c l)

  pub straight_at : (h : ℕ → ℕ) (but : ℕ → Type 0) (π : List ℕ) (w : ℕ) (t : Tree A) (x b s : ℕ) (kids : ℕ → Tree A) → Stands π (node x b s kids) t
      → StraightBut h but w t → (but x → ⊥) → h x ≡ dep π w t
  unfolding StraightBut
  straight_at h but π w t x b s kids p g = (subst (StraightBut h but (dep π w t)) p.is (straight_sub h but π w t p.on g)).0

  -- a node that is left out may be met at any depth
  pub straight_root : (h : ℕ → ℕ) (but : ℕ → Type 0) (w w' x b s : ℕ) (kids : ℕ → Tree A) → but x → StraightBut h but w (node x b s kids)
      → StraightBut h but w' (node x b s kids)
  unfolding StraightBut
  straight_root h but w w' x b s kids o g = (λ n. absurd (n o), g.1)

  -- straight at every place is straight
  pub straight_by : (h : ℕ → ℕ) (but : ℕ → Type 0) (w : ℕ) (t : Tree A)
      → ((π : List ℕ) (x b s : ℕ) (kids : ℕ → Tree A) → Stands π (node x b s kids) t → (but x → ⊥) → h x ≡ dep π w t) → StraightBut h but w t
  unfolding StraightBut sub dep
  straight_by h but w empty e = tt
  straight_by h but w (leaf x k v) e = tt
  straight_by h but w (node x b s kids) e = (
    e [] x b s kids (record { on = here; is = refl }),
    λ c l. straight_by h but (b + 1) (kids c) (λ π y b' s' kids' p. e (c ∷ π) y b' s' kids' (record { on = down {kids = kids} l p.on; is = p.is })),
  )

  -- ---- a subtree replaced, no header outside it changed
  pub straight_plug : (h h' : ℕ → ℕ) (but : ℕ → Type 0) (π : List ℕ) (w : ℕ) (t u : Tree A) → On π t → StraightBut h but w t
      → ((x : ℕ) → mult x (sub π t) < mult x t → h' x ≡ h x) → StraightBut h' but (dep π w t) u → StraightBut h' but w (plug π t u)
  unfolding StraightBut mult sub plug dep
  straight_plug h h' but π w t u here g e new = new
  straight_plug h h' but π w t u (down {c} {x} {b} {s} {kids} {π = ρ} l o) g e new =
      let has : (y d : ℕ) → d < 16 → mult y (kids d) ≤ sum 16 (λ i. mult y (kids i)) = λ y d j. sum_has 16 (λ i. mult y (kids i)) d j in (
        λ n. e x (omega (arith, one_at x, sub_mult ρ (kids c) x o, has x c l)) ∙ g.0 n,
        λ d k.
            upd_case (λ d. StraightBut h' but (b + 1)) kids c (plug ρ (kids c) u) d
            (straight_plug h h' but ρ (b + 1) (kids c) u o (g.1 c l) (λ y q. e y (omega (arith, has y c l))) new)
            (λ n. straight_same h h' but (b + 1) (kids d)
            (λ y q m. e y (omega (arith, sub_mult ρ (kids c) y o, sum_two 16 (λ i. mult y (kids i)) c d l k (λ z. n (sym z))))) (g.1 d k)),
      )
