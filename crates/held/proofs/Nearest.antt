-- The way of a key, cut at the first node that branches at or past a digit, and the key that is nearest to it.
-- Rests on the lowest leaf. Assumes nothing.
use mathlib.Core.Path.{◌≡◌, refl, ap, ◌∙◌, subst}
use mathlib.Core.Bool.{Bool, true, false}
use mathlib.Core.Logic.{◌≢◌}
use mathlib.Core.List.{List, [], ◌∷◌, ◌++◌}
use Prim.Native.Nat.{ℕ, ◌+◌}
use native.Mathlib.Omega.{arith}
use borrow.Author.Tests.{lt-ltb}
use lib.Dec.{ltb}
use Rattle.digits.specs.Choice.{pick}
use Rattle.digits.specs.Loops.{scan}
use Rattle.digits.proofs.Digits.{digit_lt}
use Rattle.tree.specs.Tree.{Tree, empty, leaf, node, upd, Filled, On, here, down, sub, Good}
use Rattle.tree.specs.Near.{filled, low, near, way}
use Rattle.tree.proofs.Basics.{true_not_false, upd_at}
use Rattle.tree.proofs.Near.{filled_is, not_filled, lowest, low_agrees}
use Rattle.held.specs.Ways.{dig}

-- a key's whole way goes on where its way to f ends
pub way_more : (f k w : ℕ) (q : ℕ → ℕ) (t : Tree ℕ) → Good dig 16 w q t → way dig 16 k t ≡ way dig f k t ++ way dig 16 k (sub (way dig f k t) t)
unfolding Good way sub
way_more f k w q empty g = refl
way_more f k w q (leaf x k' v) g = refl
way_more f k w q (node x b s kids) g =
    go (way_more f k (b + 1) (upd (dig s) b (dig k b)) (kids (dig k b)) (g.3 (dig k b) (digit_lt 16 k b))) (ltb b f)
  where
    c : ℕ
    c = dig k b

    go : way dig 16 k (kids c) ≡ way dig f k (kids c) ++ way dig 16 k (sub (way dig f k (kids c)) (kids c)) → (u : Bool)
        → way dig 16 k (node x b s kids) ≡ pick u (c ∷ way dig f k (kids c)) [] ++ way dig 16 k (sub (pick u (c ∷ way dig f k (kids c)) []) (node x b s kids))
    go e true = rw (lt-ltb b 16 g.1) (ap (c ∷◌) e)
    go e false = refl

-- a walk that ends at a leaf: its key is the nearest
pub near_leaf : (k w x k' v : ℕ) (q : ℕ → ℕ) (t : Tree ℕ) → Good dig 16 w q t → sub (way dig 16 k t) t ≡ leaf x k' v → near dig k t ≡ k'
unfolding Good way sub near
near_leaf k w x k' v q empty g e = let o : ◌≡◌ {A = ℕ} 0 1 = cc in absurd (omega arith)
near_leaf k w x k' v q (leaf x₁ k₁ v₁) g e = cc
near_leaf k w x k' v q (node y b s kids) g e =
    go (near_leaf k (b + 1) x k' v (upd (dig s) b (dig k b)) (kids (dig k b)) (g.3 (dig k b) (digit_lt 16 k b))) (filled (kids (dig k b))) refl
  where
    c : ℕ
    c = dig k b

    on : sub (way dig 16 k (kids c)) (kids c) ≡ leaf x k' v
    on = rw (lt-ltb b 16 g.1) at e

    go : (sub (way dig 16 k (kids c)) (kids c) ≡ leaf x k' v → near dig k (kids c) ≡ k') → (u : Bool) → filled (kids c) ≡ u
        → pick u (near dig k (kids c)) (low (node y b s kids)) ≡ k'
    go ih true u = ih on
    go ih false u =
        let z : empty ≡ leaf x k' v = subst (λ (t : Tree ℕ). sub (way dig 16 k t) t ≡ leaf x k' v) (not_filled (kids c) u) on in
        let o : ◌≡◌ {A = ℕ} 0 1 = cc in
        absurd (omega arith)

-- a walk that ends at an empty child: the nearest key is the lowest below the last node
pub record LastNode (k : ℕ) (t : Tree ℕ) : Type 0 where
  pub ρ : List ℕ
  pub x : ℕ
  pub b : ℕ
  pub s : ℕ
  pub kids : ℕ → Tree ℕ
  pub on : On ρ t
  pub way_is : way dig 16 k t ≡ ρ ++ dig k b ∷ []
  pub sub_is : sub ρ t ≡ node x b s kids
  pub none : kids (dig k b) ≡ empty
  pub near_is : near dig k t ≡ low (node x b s kids)

pub near_empty : (k w : ℕ) (q : ℕ → ℕ) (t : Tree ℕ) → Good dig 16 w q t → Filled t → sub (way dig 16 k t) t ≡ empty → LastNode k t
unfolding Good way sub near
near_empty k w q empty g f e = absurd f
near_empty k w q (leaf x k' v) g f e = let o : ◌≡◌ {A = ℕ} 0 1 = cc in absurd (omega arith)
near_empty k w q (node x b s kids) g f e =
    go (near_empty k (b + 1) (upd (dig s) b (dig k b)) (kids (dig k b)) (g.3 (dig k b) (digit_lt 16 k b))) (filled (kids (dig k b))) refl
  where
    c : ℕ
    c = dig k b

    on : sub (way dig 16 k (kids c)) (kids c) ≡ empty
    on = rw (lt-ltb b 16 g.1) at e

    way_c : way dig 16 k (node x b s kids) ≡ c ∷ way dig 16 k (kids c)
    way_c = rw (lt-ltb b 16 g.1)

    go : (Filled (kids c) → sub (way dig 16 k (kids c)) (kids c) ≡ empty → LastNode k (kids c)) → (u : Bool) → filled (kids c) ≡ u
        → LastNode k (node x b s kids)
    go ih true u =
        let l : LastNode k (kids c) = ih (filled_is (kids c) u) on in
        record {
          ρ = c ∷ l.ρ;
          x = l.x;
          b = l.b;
          s = l.s;
          kids = l.kids;
          on = down {kids = kids} (digit_lt 16 k b) l.on;
          way_is = way_c ∙ ap (c ∷◌) l.way_is;
          sub_is = l.sub_is;
          none = l.none;
          near_is = rw u l.near_is;
        }
    go ih false u =
        let z : kids c ≡ empty = not_filled (kids c) u in
        record {
          ρ = [];
          x = x;
          b = b;
          s = s;
          kids = kids;
          on = here;
          way_is = way_c ∙ ap (λ (t : Tree ℕ). c ∷ way dig 16 k t) z;
          sub_is = refl;
          none = z;
          near_is = rw u;
        }

-- a key whose child is empty is not the lowest
pub low_apart : (k w : ℕ) (q : ℕ → ℕ) (x b s : ℕ) (kids : ℕ → Tree ℕ) → Good dig 16 w q (node x b s kids) → kids (dig k b) ≡ empty → k ≢ low (node x b s kids)
unfolding Good low
low_apart k w q x b s kids g none e =
    let d : ℕ = scan 16 0 (λ c. filled (kids c)) in
    let (l, f) = lowest kids g.4 in
    let z : dig k b ≡ d
    = ap (λ i. dig i b) e
    ∙ low_agrees dig (digit_lt 16) 16 (b + 1) (upd (dig s) b d) (kids d) (filled_is (kids d) f) (g.3 d l) b (omega arith)
    ∙ upd_at (dig s) b d in
    true_not_false (ap (λ c. filled (kids c)) z ∙ f) (ap filled none)

-- the nearest key is the nearest below any node of the way
pub near_below : (f k : ℕ) (t : Tree ℕ) → Filled (sub (way dig f k t) t) → near dig k t ≡ near dig k (sub (way dig f k t) t)
unfolding way sub near
near_below f k empty h = refl
near_below f k (leaf x k' v) h = refl
near_below f k (node x b s kids) h = go (near_below f k (kids (dig k b))) (ltb b f) h (filled (kids (dig k b))) refl
  where
    c : ℕ
    c = dig k b

    go : (Filled (sub (way dig f k (kids c)) (kids c)) → near dig k (kids c) ≡ near dig k (sub (way dig f k (kids c)) (kids c)))
        → (u : Bool) → Filled (sub (pick u (c ∷ way dig f k (kids c)) []) (node x b s kids)) → (y : Bool) → filled (kids c) ≡ y
        → near dig k (node x b s kids) ≡ near dig k (sub (pick u (c ∷ way dig f k (kids c)) []) (node x b s kids))
    go ih false fl y e = refl
    go ih true fl true e = rw e (ih fl)
    go ih true fl false e = absurd (subst (λ (t : Tree ℕ). Filled (sub (way dig f k t) t)) (not_filled (kids c) e) fl)
