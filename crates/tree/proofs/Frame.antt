-- What a change of memory does to a tree that is held: nothing outside its slots; a subtree replaced under its reference; a header rewritten;
-- one child of a node replaced; and a reference met earlier. Rests on the counts of places. Assumes nothing.
use mathlib.Core.Path.{◌≡◌, sym, ap, subst}
use mathlib.Core.Logic.{◌≢◌}
use Prim.Native.Nat.{ℕ, ◌+◌, ◌≤◌, ◌<◌}
use mathlib.Core.List.{List}
use native.Mathlib.Omega.{arith}
use lib.Dec.{eqb}
use Rattle.tree.specs.Tree.{Tree, empty, leaf, node, upd, sum, one, mult, On, here, down, sub, plug, dep, Stands}
use Rattle.tree.specs.Shape.{View, none_there, leaf_there, node_there, bad, Mem, SameIn, Shape, Head, Holds}
use Rattle.tree.proofs.Basics.{upd_case, one_at, sum_has, sum_two}
use Rattle.tree.proofs.Places.{sub_mult}

-- the slot that a view shows
abbrev pub Shows : {A : Type 0} → ℕ → View A → Type 0
Shows x none_there = ⊥
Shows x (leaf_there y k v) = x ≡ y
Shows x (node_there y h b g) = x ≡ y
Shows x bad = ⊥

-- what a layout has to keep: a slot's words decide what it shows, and one reference leads to it
pub record Lawful {A : Type 0} (S : Shape A) : Type 0 where
  pub none_same : (m m' : Mem) (r : ℕ) → S.view m r ≡ none_there → S.view m' r ≡ none_there
  pub leaf_same : (m m' : Mem) (r x k : ℕ) (v : A) → S.view m r ≡ leaf_there x k v → SameIn S.own m m' x → S.view m' r ≡ leaf_there x k v
  pub node_same : (m m' : Mem) (r x h b g : ℕ) → S.view m r ≡ node_there x h b g → SameIn S.own m m' x → S.view m' r ≡ node_there x h b g
  pub kid_same : (m m' : Mem) (r x h b g c : ℕ) → S.view m r ≡ node_there x h b g → c < 16 → SameIn S.own m m' x → S.kid m' x c ≡ S.kid m x c
  pub one_ref : (m : Mem) (r r' x : ℕ) → Shows x (S.view m r) → Shows x (S.view m r') → r ≡ r'

module _ {A : Type 0} (S : Shape A) where
  -- a reference may be met earlier: what it holds is then stale, and held all the same
  pub held_earlier : (m : Mem) (w w' r : ℕ) (t : Tree A) → w ≤ w' → Holds S m w' r t → Holds S m w r t
  unfolding Holds
  held_earlier m w w' r empty h g = g
  held_earlier m w w' r (leaf x k v) h g = g
  held_earlier m w w' r (node x b s kids) h g = (record { h = g.0.h; low = omega (arith, g.0.low); high = g.0.high; there = g.0.there }, g.1)

  module _ (L : Lawful S) where
    head_same : (m m' : Mem) (w r x b s : ℕ) → Head S m w r x b s → SameIn S.own m m' x → Head S m' w r x b s
    head_same m m' w r x b s g e =
        record { h = g.h; low = g.low; high = g.high; there = L.node_same m m' r x g.h b (S.stored g.h b s) g.there e }

    kid_same_of : (m m' : Mem) (w r x b s c : ℕ) → Head S m w r x b s → c < 16 → SameIn S.own m m' x → S.kid m' x c ≡ S.kid m x c
    kid_same_of m m' w r x b s c g l e = L.kid_same m m' r x g.h b (S.stored g.h b s) c g.there l e

    -- words outside the tree's slots do not matter
    pub frame : (m m' : Mem) (w r : ℕ) (t : Tree A) → Holds S m w r t → ((x : ℕ) → 0 < mult x t → SameIn S.own m m' x) → Holds S m' w r t
    unfolding Holds mult
    frame m m' w r empty g e = L.none_same m m' r g
    frame m m' w r (leaf x k v) g e = L.leaf_same m m' r x k v g (e x (omega (arith, one_at x)))
    frame m m' w r (node x b s kids) g e =
        let ex : SameIn S.own m m' x = e x (omega (arith, one_at x)) in (
          head_same m m' w r x b s g.0 ex,
          λ c l.
              rw (kid_same_of m m' w r x b s c g.0 l ex)
              (frame m m' (b + 1) (S.kid m x c) (kids c) (g.1 c l)
              (λ y h. e y (omega (arith, sum_has 16 (λ i. mult y (kids i)) c l)))),
        )

    -- a subtree replaced under the same reference, nothing outside it changed
    pub graft : (m m' : Mem) (π : List ℕ) (w r : ℕ) (t u : Tree A) → On π t → Holds S m w r t
        → ((x : ℕ) → mult x (sub π t) < mult x t → SameIn S.own m m' x)
        → ((r' : ℕ) → Holds S m (dep π w t) r' (sub π t) → Holds S m' (dep π w t) r' u)
        → Holds S m' w r (plug π t u)
    unfolding Holds mult sub plug dep
    graft m m' π w r t u here g e new = new r g
    graft m m' π w r t u (down {c} {x} {b} {s} {kids} {π = ρ} l o) g e new =
        let has : (y d : ℕ) → d < 16 → mult y (kids d) ≤ sum 16 (λ i. mult y (kids i)) = λ y d j. sum_has 16 (λ i. mult y (kids i)) d j in
        let ex : SameIn S.own m m' x = e x (omega (arith, one_at x, sub_mult ρ (kids c) x o, has x c l)) in
        let inner : Holds S m' (b + 1) (S.kid m x c) (plug ρ (kids c) u)
        = graft m m' ρ (b + 1) (S.kid m x c) (kids c) u o (g.1 c l) (λ y h. e y (omega (arith, has y c l))) new in (
          head_same m m' w r x b s g.0 ex,
          λ d k.
              rw (kid_same_of m m' w r x b s d g.0 k ex)
              (upd_case (λ d. Holds S m' (b + 1) (S.kid m x d)) kids c (plug ρ (kids c) u) d inner
              (λ n. frame m m' (b + 1) (S.kid m x d) (kids d) (g.1 d k)
              (λ y h. e y (omega (arith, sub_mult ρ (kids c) y o, sum_two 16 (λ i. mult y (kids i)) c d l k (λ z. n (sym z))))))),
        )

    -- a header changes to one that is accepted, perhaps at another walk depth
    pub rehead : (m m' : Mem) (w w' r x b s : ℕ) (kids : ℕ → Tree A) → Holds S m w r (node x b s kids) → Head S m' w' r x b s
        → ((d : ℕ) → d < 16 → S.kid m' x d ≡ S.kid m x d)
        → ((d : ℕ) → d < 16 → (y : ℕ) → 0 < mult y (kids d) → SameIn S.own m m' y)
        → Holds S m' w' r (node x b s kids)
    unfolding Holds
    rehead m m' w w' r x b s kids g hd same-kid e =
        (hd, λ d l. rw (same-kid d l) (frame m m' (b + 1) (S.kid m x d) (kids d) (g.1 d l) (e d l)))

    -- one child of the node at ρ changes, and with it perhaps the words of what stood there
    pub link : (m m' : Mem) (ρ : List ℕ) (w r : ℕ) (t : Tree A) (x b s : ℕ) (kids : ℕ → Tree A) (c : ℕ) (u : Tree A) → c < 16 → Stands ρ (node x b s kids) t
        → ((y : ℕ) → mult y t ≤ 1) → Holds S m w r t
        → ((y : ℕ) → y ≢ x → mult y (kids c) < mult y t → SameIn S.own m m' y)
        → ((d : ℕ) → d < 16 → d ≢ c → S.kid m' x d ≡ S.kid m x d)
        → ((r' : ℕ) → Head S m (dep ρ w t) r' x b s → Head S m' (dep ρ w t) r' x b s)
        → Holds S m' (b + 1) (S.kid m' x c) u
        → Holds S m' w r (plug ρ t (node x b s (upd kids c u)))
    unfolding Holds mult
    link m m' ρ w r t x b s kids c u lc p once g out same-kid hd new =
        let at : (y : ℕ) → mult y (sub ρ t) ≡ one (eqb y x) + sum 16 (λ i. mult y (kids i)) = λ y. ap (mult y) p.is in
        let has : (y d : ℕ) → d < 16 → mult y (kids d) ≤ sum 16 (λ i. mult y (kids i)) = λ y d j. sum_has 16 (λ i. mult y (kids i)) d j in
        graft m m' ρ w r t (node x b s (upd kids c u)) p.on g
        (λ y l. out y (λ z. let k : mult x (sub ρ t) < mult x t = rw z at l in omega (arith, at x, one_at x, once x)) (omega (arith, at y, has y c lc)))
        (λ r' h₀.
        let h : Holds S m (dep ρ w t) r' (node x b s kids) = subst (Holds S m (dep ρ w t) r') p.is h₀ in (
          hd r' h.0,
          λ d j.
              upd_case (λ d. Holds S m' (b + 1) (S.kid m' x d)) kids c u d new
              (λ n. rw (same-kid d j n) (frame m m' (b + 1) (S.kid m x d) (kids d) (h.1 d j)
              (λ y q. out y
              (λ z. let k : 0 < mult x (kids d) = rw z at q in omega (arith, at x, one_at x, once x, sub_mult ρ t x p.on, has x d j))
              (omega (arith, at y, sub_mult ρ t y p.on, sum_two 16 (λ i. mult y (kids i)) d c j lc n))))),
        ))
