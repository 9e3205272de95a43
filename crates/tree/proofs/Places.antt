-- A place in a tree and what stands there: replaced, counted, found, and good. Rests on updates and sums. Assumes nothing.
use Rattle.std.specs.Prelude.{Option, None, Some}
use mathlib.Core.Path.{◌≡◌, refl, sym, ap, ◌∙◌, subst, fun_ext}
use mathlib.Core.Logic.{◌≢◌}
use Prim.Native.Nat.{ℕ, ◌+◌, ◌≤◌, ◌<◌}
use mathlib.Core.List.{List, [], ◌∷◌, ◌++◌}
use native.Mathlib.Omega.{arith}
use Rattle.tree.specs.Tree.{Tree, empty, leaf, node, upd, mult, Filled, On, here, down, sub, plug, dep, Stands, Two, Agree, pre, find, Good}
use Rattle.tree.proofs.Basics.{Same?, same, other, same?, upd_at, upd_off, upd_case, sum_has, sum_upd}

module _ {A : Type 0} where
  -- ---- what stands at a place, replaced
  pub plug_sub : (π : List ℕ) (t : Tree A) → On π t → plug π t (sub π t) ≡ t
  unfolding sub plug
  plug_sub π t here = refl
  plug_sub π t (down {c} {x} {b} {s} {kids} {π = ρ} l o) =
      ap (node x b s) (fun_ext (λ d. upd_case {B = Tree A} (λ d t. t ≡ kids d) kids c (plug ρ (kids c) (sub ρ (kids c))) d (plug_sub ρ (kids c) o) (λ n. refl)))

  -- u stands there then, at the same walk depth
  pub plug_stands : (π : List ℕ) (t u : Tree A) → On π t → Stands π u (plug π t u)
  unfolding sub plug
  plug_stands π t u here = record { on = here; is = refl }
  plug_stands π t u (down {c} {kids = kids} {π = ρ} l o) =
      let p : Stands ρ u (plug ρ (kids c) u) = plug_stands ρ (kids c) u o in
      let e : upd kids c (plug ρ (kids c) u) c ≡ plug ρ (kids c) u = upd_at kids c (plug ρ (kids c) u) in
      record { on = down {kids = upd kids c (plug ρ (kids c) u)} l (subst (On ρ) (sym e) p.on); is = rw e p.is }

  pub plug_dep : (π : List ℕ) (w : ℕ) (t u : Tree A) → On π t → dep π w (plug π t u) ≡ dep π w t
  unfolding plug dep
  plug_dep π w t u here = refl
  plug_dep π w t u (down {c} {b = b} {kids = kids} {π = ρ} l o) =
      let e : upd kids c (plug ρ (kids c) u) c ≡ plug ρ (kids c) u = upd_at kids c (plug ρ (kids c) u) in
      rw e (plug_dep ρ (b + 1) (kids c) u o)

  -- ---- counts
  pub sub_mult : (π : List ℕ) (t : Tree A) (x : ℕ) → On π t → mult x (sub π t) ≤ mult x t
  unfolding mult sub
  sub_mult π t x here = omega arith
  sub_mult π t x (down {c} {kids = kids} {π = ρ} l o) = omega (arith, sub_mult ρ (kids c) x o, sum_has 16 (λ c. mult x (kids c)) c l)

  pub plug_mult : (π : List ℕ) (t u : Tree A) (x : ℕ) → On π t → mult x (plug π t u) + mult x (sub π t) ≡ mult x t + mult x u
  unfolding mult sub plug
  plug_mult π t u x here = omega arith
  plug_mult π t u x (down {c} {kids = kids} {π = ρ} l o) =
      let f : ℕ → ℕ = λ i. mult x (upd kids c (plug ρ (kids c) u) i) in
      let g : ℕ → ℕ = λ i. mult x (kids i) in
      omega (
        arith,
        sum_upd 16 f g c l (λ i h. ap (mult x) (upd_off kids c (plug ρ (kids c) u) i h)),
        ap (mult x) (upd_at kids c (plug ρ (kids c) u)),
        plug_mult ρ (kids c) u x o,
      )

-- ---- the child of a node at a place
module _ (dig : ℕ → ℕ → ℕ) {A : Type 0} where
  pub record Child (ρ : List ℕ) (c x b s : ℕ) (kids : ℕ → Tree A) (t : Tree A) : Type 0 where
    pub stands : Stands (ρ ++ c ∷ []) (kids c) t
    pub dep_is : (w : ℕ) → dep (ρ ++ c ∷ []) w t ≡ b + 1
    pub pre_is : (q : ℕ → ℕ) → pre dig (ρ ++ c ∷ []) q t ≡ upd (dig s) b c
    pub plug_is : (u : Tree A) → plug (ρ ++ c ∷ []) t u ≡ plug ρ t (node x b s (upd kids c u))

  child_on : (ρ : List ℕ) (c x b s : ℕ) (kids : ℕ → Tree A) (t : Tree A) → c < 16 → On ρ t → sub ρ t ≡ node x b s kids → Child ρ c x b s kids t
  unfolding sub plug dep pre
  child_on ρ c x b s kids t l here e =
      subst (Child [] c x b s kids) (sym e)
      (record { stands = record { on = down {kids = kids} l here; is = refl }; dep_is = λ w. refl; pre_is = λ q. refl; plug_is = λ u. refl })
  child_on ρ c x b s kids t l (down {c = d} {x = y} {b = b'} {s = s'} {kids = kids'} {π = π} k o) e =
      let C : Child π c x b s kids (kids' d) = child_on π c x b s kids (kids' d) l o e in
      record {
        stands = record { on = down {kids = kids'} k C.stands.on; is = C.stands.is };
        dep_is = λ w. C.dep_is (b' + 1);
        pre_is = λ q. C.pre_is (upd (dig s') b' d);
        plug_is = λ u. ap (λ z. node y b' s' (upd kids' d z)) (C.plug_is u);
      }

  pub child : (ρ : List ℕ) (c x b s : ℕ) (kids : ℕ → Tree A) (t : Tree A) → c < 16 → Stands ρ (node x b s kids) t → Child ρ c x b s kids t
  child ρ c x b s kids t l p = child_on ρ c x b s kids t l p.on p.is

-- a place is the root, or a child of a node
pub by_place : {A : Type 0} (P : List ℕ → Type 0) (t : Tree A) → P []
    → ((ρ : List ℕ) (c x b s : ℕ) (kids : ℕ → Tree A) → c < 16 → Stands ρ (node x b s kids) t → P (ρ ++ c ∷ []))
    → (π : List ℕ) → On π t → P π
unfolding sub
by_place P t root below π here = root
by_place P t root below π (down {c} {x} {b} {s} {kids} {π = ρ} l o) =
    by_place (λ ρ. P (c ∷ ρ)) (kids c) (below [] c x b s kids l (record { on = here; is = refl }))
    (λ ρ d y b' s' kids' k p. below (c ∷ ρ) d y b' s' kids' k (record { on = down {kids = kids} l p.on; is = p.is })) ρ o

-- ---- digits
-- from a child's digits to the node's
pub agree_up : (dig : ℕ → ℕ → ℕ) (w b c s : ℕ) (q : ℕ → ℕ) (k : ℕ) → w ≤ b → Agree dig w q s → Agree dig (b + 1) (upd (dig s) b c) k → Agree dig w q k
agree_up dig w b c s q k h a g = λ i l. g i (omega arith) ∙ upd_off (dig s) b c i (λ z. omega arith) ∙ a i l

-- from a node's digits to a child's
pub agree_down : (dig : ℕ → ℕ → ℕ) (b c s k : ℕ) → Agree dig b (dig s) k → dig k b ≡ c → Agree dig (b + 1) (upd (dig s) b c) k
agree_down dig b c s k a e = λ i h. upd_case (λ i y. dig k i ≡ y) (dig s) b c i (e) (λ n. a i (omega arith))

module _ {A : Type 0} where
  pub plug_filled : (π : List ℕ) (t u : Tree A) → On π t → Filled u → Filled (plug π t u)
  unfolding plug
  plug_filled π t u here f = f
  plug_filled π t u (down l o) f = tt

  two_upd : (kids : ℕ → Tree A) (c : ℕ) (u : Tree A) → Filled u → Two kids → Two (upd kids c u)
  two_upd kids c u f g = record {
    c = g.c;
    d = g.d;
    c< = g.c<;
    d< = g.d<;
    apart = g.apart;
    at_c = upd_case (λ i. Filled) kids c u g.c f (λ n. g.at_c);
    at_d = upd_case (λ i. Filled) kids c u g.d f (λ n. g.at_d);
  }

module _ (dig : ℕ → ℕ → ℕ) {A : Type 0} where
  -- ---- find
  -- a replacement that changes nothing for k below changes nothing for it above
  pub find_keeps : (π : List ℕ) (t u : Tree A) (k : ℕ) → On π t → find dig k u ≡ find dig k (sub π t) → find dig k (plug π t u) ≡ find dig k t
  unfolding sub plug find
  find_keeps π t u k here e = e
  find_keeps π t u k (down {c} {b = b} {kids = kids} {π = ρ} l o) e =
      upd_case (λ d t. find dig k t ≡ find dig k (kids d)) kids c (plug ρ (kids c) u) (dig k b) (find_keeps ρ (kids c) u k o e) (λ n. refl)

  module _ (D : ℕ) where
    pub dep_le : (π : List ℕ) (w : ℕ) (q : ℕ → ℕ) (t : Tree A) → On π t → Good dig D w q t → w ≤ dep π w t
    unfolding dep Good
    dep_le π w q t here g = omega arith
    dep_le π w q t (down {c} {b = b} {s = s} {kids = kids} {π = ρ} l o) g = omega (arith, dep_le ρ (b + 1) (upd (dig s) b c) (kids c) o (g.3 c l))

    pub pre_keeps : (π : List ℕ) (w : ℕ) (q : ℕ → ℕ) (t : Tree A) → On π t → Good dig D w q t → (i : ℕ) → i < w → pre dig π q t i ≡ q i
    unfolding pre Good
    pre_keeps π w q t here g i h = refl
    pre_keeps π w q t (down {c} {b = b} {s = s} {kids = kids} {π = ρ} l o) g i h =
        pre_keeps ρ (b + 1) (upd (dig s) b c) (kids c) o (g.3 c l) i (omega arith) ∙ upd_off (dig s) b c i (λ z. omega arith) ∙ g.2 i h

    -- a key with the digits of a place comes by it
    pub find_there : (π : List ℕ) (w : ℕ) (q : ℕ → ℕ) (t u : Tree A) (k : ℕ) → On π t → Good dig D w q t → Agree dig (dep π w t) (pre dig π q t) k
        → find dig k (plug π t u) ≡ find dig k u
    unfolding plug dep pre find Good
    find_there π w q t u k here g a = refl
    find_there π w q t u k (down {c} {b = b} {s = s} {kids = kids} {π = ρ} l o) g a =
        let q' : ℕ → ℕ = upd (dig s) b c in
        let e : dig k b ≡ c =
        a b (omega (arith, dep_le ρ (b + 1) q' (kids c) o (g.3 c l)))
        ∙ pre_keeps ρ (b + 1) q' (kids c) o (g.3 c l) b (omega arith)
        ∙ upd_at (dig s) b c in
        ap (find dig k) (ap (upd kids c (plug ρ (kids c) u)) e ∙ upd_at kids c (plug ρ (kids c) u))
        ∙ find_there ρ (b + 1) q' (kids c) u k o (g.3 c l) a

    -- ---- good trees
    pub good_sub : (π : List ℕ) (w : ℕ) (q : ℕ → ℕ) (t : Tree A) → On π t → Good dig D w q t → Good dig D (dep π w t) (pre dig π q t) (sub π t)
    unfolding sub dep pre Good
    good_sub π w q t here g = g
    good_sub π w q t (down {c} {b = b} {s = s} {kids = kids} {π = ρ} l o) g = good_sub ρ (b + 1) (upd (dig s) b c) (kids c) o (g.3 c l)

    pub good_plug : (π : List ℕ) (w : ℕ) (q : ℕ → ℕ) (t u : Tree A) → On π t → Good dig D w q t → Filled u
        → Good dig D (dep π w t) (pre dig π q t) u → Good dig D w q (plug π t u)
    unfolding plug dep pre Good
    good_plug π w q t u here g f n = n
    good_plug π w q t u (down {c} {b = b} {s = s} {kids = kids} {π = ρ} l o) g f n = (
      g.0,
      g.1,
      g.2,
      λ d k.
          upd_case (λ d. Good dig D (b + 1) (upd (dig s) b d)) kids c (plug ρ (kids c) u) d
          (good_plug ρ (b + 1) (upd (dig s) b c) (kids c) u o (g.3 c l) f n)
          (λ z. g.3 d k),
      two_upd kids c (plug ρ (kids c) u) (plug_filled ρ (kids c) u o f) g.4,
    )

    -- only the first w digits of q matter
    pub good_same : (w : ℕ) (q q' : ℕ → ℕ) (t : Tree A) → ((i : ℕ) → i < w → q i ≡ q' i) → Good dig D w q t → Good dig D w q' t
    unfolding Good
    good_same w q q' empty e g = tt
    good_same w q q' (leaf x k v) e g = λ i h. g i h ∙ e i h
    good_same w q q' (node x b s kids) e g = (g.0, g.1, λ i h. g.2 i h ∙ e i h, g.3, g.4)

    -- a child is good at the walk depth of its node
    pub good_lift : (w b c s : ℕ) (q : ℕ → ℕ) (t : Tree A) → w ≤ b → Agree dig w q s → Good dig D (b + 1) (upd (dig s) b c) t → Good dig D w q t
    unfolding Good
    good_lift w b c s q empty h a g = tt
    good_lift w b c s q (leaf x k v) h a g = agree_up dig w b c s q k h a g
    good_lift w b c s q (node x b' s' kids) h a g = (omega (arith, g.0), g.1, agree_up dig w b c s q s' h a g.2, g.3, g.4)

    module _ (dl : (k i : ℕ) → dig k i < 16) where
      -- what is found has the right digits
      pub found_agrees : (w : ℕ) (q : ℕ → ℕ) (t : Tree A) (k : ℕ) (v : A) → Good dig D w q t → find dig k t ≡ Some v → Agree dig w q k
      unfolding find Good
      found_agrees w q empty k v g e = λ i h. cc
      found_agrees w q (leaf x k' v') k v g e = go (same? k k')
        where
          go : Same? k k' → Agree dig w q k
          go (same p z) = rw p g
          go (other p z) = λ i h. let y : ◌≡◌ {A = Option A} None (Some v) = rw z at e in cc
      found_agrees w q (node x b s kids) k v g e =
          agree_up dig w b (dig k b) s q k g.0 g.2 (found_agrees (b + 1) (upd (dig s) b (dig k b)) (kids (dig k b)) k v (g.3 (dig k b) (dl k b)) e)

      -- so a key with another digit is not found
      pub not_found : (w : ℕ) (q : ℕ → ℕ) (t : Tree A) (k i : ℕ) → Good dig D w q t → i < w → dig k i ≢ q i → find dig k t ≡ None
      not_found w q t k i g h n = go (find dig k t) refl
        where
          go : (r : Option A) → find dig k t ≡ r → find dig k t ≡ None
          go None e = e
          go (Some v) e = absurd (n (found_agrees w q t k v g e i h))
