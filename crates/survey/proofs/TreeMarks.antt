-- The marks of a tree: each slot that it reaches has one, a node's says the walk depth at which it is met, and no other byte is touched.
-- Rests on the counts of slots. Assumes nothing.
use mathlib.Core.Path.{◌≡◌, refl, sym, ap, ◌∙◌, subst}
use mathlib.Core.Logic.{◌≢◌, ◌⊎◌, inl, inr}
use mathlib.Core.List.{List}
use Prim.Native.Nat.{ℕ, zero, suc, ◌+◌, ◌≤◌, ◌<◌}
use native.Mathlib.Omega.{arith}
use lib.Dec.{eqb}
use lib.ListN.{length, get_or, set, length-set}
use lib.Seq.{get_or-set_same, get_or-set_other}
use Rattle.digits.specs.Loops.{upto}
use Rattle.tree.specs.Tree.{Tree, empty, leaf, node, one, mult, On, here, down, sub, dep}
use Rattle.tree.proofs.Places.{sub_mult}
use Rattle.tree.proofs.Basics.{Same?, same, other, same?, last?, one_at, one_off, one_is, sum_has, sum_two, sum_some}

-- the marks with those of a tree that is met at walk depth w
unfoldable pub marks_of : ℕ → Tree ℕ → List ℕ → List ℕ
marks_of w empty m = m
marks_of w (leaf x k v) m = set m x 1
marks_of w (node x b s kids) m = upto 16 (λ c. marks_of (b + 1) (kids c)) (set m x (w + 1))

pub upto_length : (i : ℕ) (F : ℕ → List ℕ → List ℕ) (m : List ℕ) → ((c : ℕ) (l : List ℕ) → length (F c l) ≡ length l) → length (upto i F m) ≡ length m
unfolding upto
upto_length zero F m h = refl
upto_length (suc i) F m h = h i (upto i F m) ∙ upto_length i F m h

pub marks_length : (w : ℕ) (t : Tree ℕ) (m : List ℕ) → length (marks_of w t m) ≡ length m
unfolding marks_of
marks_length w empty m = refl
marks_length w (leaf x k v) m = length-set m x 1
marks_length w (node x b s kids) m =
    upto_length 16 (λ c. marks_of (b + 1) (kids c)) (set m x (w + 1)) (λ c l. marks_length (b + 1) (kids c) l) ∙ length-set m x (w + 1)

-- a loop that leaves a byte alone
pub upto_off : (i x : ℕ) (F : ℕ → List ℕ → List ℕ) (m : List ℕ) → ((c : ℕ) → c < i → (l : List ℕ) → get_or (F c l) x 0 ≡ get_or l x 0)
    → get_or (upto i F m) x 0 ≡ get_or m x 0
unfolding upto
upto_off zero x F m h = refl
upto_off (suc i) x F m h = h i (omega arith) (upto i F m) ∙ upto_off i x F m (λ c l. h c (omega arith))

-- a loop of which one turn alone touches a byte
upto_at : (i x c : ℕ) (F : ℕ → List ℕ → List ℕ) (m : List ℕ) → c < i → ((d : ℕ) → d < i → d ≢ c → (l : List ℕ) → get_or (F d l) x 0 ≡ get_or l x 0)
    → get_or (upto i F m) x 0 ≡ get_or (F c (upto c F m)) x 0
unfolding upto
upto_at zero x c F m l h = absurd (omega arith)
upto_at (suc i) x c F m l h = go (upto_at i x c F m) (last? c i l)
  where
    go : (c < i → ((d : ℕ) → d < i → d ≢ c → (l : List ℕ) → get_or (F d l) x 0 ≡ get_or l x 0) → get_or (upto i F m) x 0 ≡ get_or (F c (upto c F m)) x 0)
        → (c ≡ i) ⊎ (c < i) → get_or (F i (upto i F m)) x 0 ≡ get_or (F c (upto c F m)) x 0
    go ih (inl e) = ap (λ (d : ℕ). get_or (F d (upto d F m)) x 0) (sym e)
    go ih (inr k) = h i (omega arith) (λ z. omega arith) (upto i F m) ∙ ih k (λ d o. h d (omega arith))

-- a slot that the tree does not reach keeps its byte
pub marks_off : (w x : ℕ) (t : Tree ℕ) (m : List ℕ) → mult x t ≡ 0 → get_or (marks_of w t m) x 0 ≡ get_or m x 0
unfolding marks_of mult
marks_off w x empty m e = refl
marks_off w x (leaf y k v) m e = get_or-set_other m y x 1 0 (λ z. omega (arith, one_at x, ap (λ (i : ℕ). one (eqb x i)) z))
marks_off w x (node y b s kids) m e =
    upto_off 16 x (λ c. marks_of (b + 1) (kids c)) (set m y (w + 1))
    (λ c l m'. marks_off (b + 1) x (kids c) m' (omega (arith, sum_has 16 (λ c. mult x (kids c)) c l)))
    ∙ get_or-set_other m y x (w + 1) 0 (λ z. omega (arith, one_at x, ap (λ (i : ℕ). one (eqb x i)) z))

leaf_mark : (w x y k v : ℕ) (m : List ℕ) → x ≡ y → x < length m → get_or (marks_of w (leaf y k v) m) x 0 ≡ 1
unfolding marks_of
leaf_mark w x y k v m e l = ap (λ (i : ℕ). get_or (set m i 1) x 0) (sym e) ∙ get_or-set_same m x 1 0 l

module _ (w y b s : ℕ) (kids : ℕ → Tree ℕ) (m : List ℕ) (x : ℕ) where
  -- the node's own byte
  pub marks_here : x ≡ y → mult x (node y b s kids) ≤ 1 → x < length m → get_or (marks_of w (node y b s kids) m) x 0 ≡ w + 1
  unfolding marks_of mult
  marks_here e once l =
      upto_off 16 x (λ c. marks_of (b + 1) (kids c)) (set m y (w + 1))
      (λ c k m'. marks_off (b + 1) x (kids c) m' (omega (arith, one_at x, ap (λ (i : ℕ). one (eqb x i)) e, sum_has 16 (λ c. mult x (kids c)) c k)))
      ∙ ap (λ (i : ℕ). get_or (set m i (w + 1)) x 0) (sym e) ∙ get_or-set_same m x (w + 1) 0 l

  -- a byte of child c
  pub marks_below : (c : ℕ) → c < 16 → 0 < mult x (kids c) → mult x (node y b s kids) ≤ 1
      → get_or (marks_of w (node y b s kids) m) x 0 ≡ get_or (marks_of (b + 1) (kids c) (upto c (λ c. marks_of (b + 1) (kids c)) (set m y (w + 1)))) x 0
  unfolding marks_of mult
  marks_below c l h once =
      upto_at 16 x c (λ c. marks_of (b + 1) (kids c)) (set m y (w + 1)) l
      (λ d k n m'. marks_off (b + 1) x (kids d) m' (omega (arith, sum_two 16 (λ c. mult x (kids c)) c d l k (λ z. n (sym z)))))

  pub part_length : (c : ℕ) → length (upto c (λ c. marks_of (b + 1) (kids c)) (set m y (w + 1))) ≡ length m
  part_length c = upto_length c (λ c. marks_of (b + 1) (kids c)) (set m y (w + 1)) (λ c l. marks_length (b + 1) (kids c) l) ∙ length-set m y (w + 1)

-- a slot that the tree reaches has a mark
pub marks_on : (w x : ℕ) (t : Tree ℕ) (m : List ℕ) → 0 < mult x t → mult x t ≤ 1 → x < length m → get_or (marks_of w t m) x 0 ≢ 0
unfolding mult
marks_on w x empty m h o l = absurd (omega arith)
marks_on w x (leaf y k v) m h o l = λ z. omega (arith, leaf_mark w x y k v m (one_is x y h) l)
marks_on w x (node y b s kids) m h o l =
    go (λ c g k. marks_on (b + 1) x (kids c) (upto c (λ c. marks_of (b + 1) (kids c)) (set m y (w + 1))) g k (omega (arith, part_length w y b s kids m x c)))
    (same? x y)
  where
    go : ((c : ℕ) → 0 < mult x (kids c) → mult x (kids c) ≤ 1
        → get_or (marks_of (b + 1) (kids c) (upto c (λ c. marks_of (b + 1) (kids c)) (set m y (w + 1)))) x 0 ≢ 0)
        → Same? x y → get_or (marks_of w (node y b s kids) m) x 0 ≢ 0
    go ih (same e p) = λ z. omega (arith, marks_here w y b s kids m x e o l)
    go ih (other e p) =
        let (c, k, g) = sum_some 16 (λ c. mult x (kids c)) (omega (arith, one_off x y e)) in
        rw (marks_below w y b s kids m x c k g o) (ih c g (omega (arith, sum_has 16 (λ c. mult x (kids c)) c k)))

-- a node's mark says the walk depth at which it is met
pub marks_node : (w x b s : ℕ) (kids : ℕ → Tree ℕ) (π : List ℕ) (t : Tree ℕ) (m : List ℕ) → On π t → sub π t ≡ node x b s kids → mult x t ≤ 1 → x < length m
    → get_or (marks_of w t m) x 0 ≡ dep π w t + 1
unfolding sub dep mult
marks_node w x b s kids π t m here e o l =
    ap (λ u. get_or (marks_of w u m) x 0) e ∙ marks_here w x b s kids m x refl (subst (λ u. mult x u ≤ 1) e o) l
marks_node w x b s kids π t m (down {c} {x = y} {b = b'} {s = s'} {kids = kids'} {π = ρ} k on) e o l =
    let g : 0 < mult x (kids' c) = omega (arith, ap (mult x) e, one_at x, sub_mult ρ (kids' c) x on) in
    marks_below w y b' s' kids' m x c k g o
    ∙ marks_node (b' + 1) x b s kids ρ (kids' c) (upto c (λ c. marks_of (b' + 1) (kids' c)) (set m y (w + 1))) on e
    (omega (arith, sum_has 16 (λ c. mult x (kids' c)) c k)) (omega (arith, part_length w y b' s' kids' m x c))
