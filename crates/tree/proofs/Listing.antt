-- A good tree's entries rise, are as many as its leaves, and are found as the walk finds them. Two rising lists that answer alike are equal.
-- Rests on the digits of places. Assumes nothing.
use Rattle.std.specs.Prelude.{Option, None, Some}
use mathlib.Core.Path.{◌≡◌, refl, sym, ap, ◌∙◌}
use mathlib.Core.Logic.{◌≢◌, ◌⊎◌, inl, inr}
use Prim.Native.Nat.{ℕ, zero, suc, ◌+◌, ◌≤◌, ◌<◌}
use mathlib.Core.List.{List, [], ◌∷◌, ◌++◌}
use native.Mathlib.Omega.{arith}
use lib.Dec.{eqb}
use lib.ListN.{length, length-append}
use borrow.Author.Tests.{eq-eqb, ne_eqb}
use Rattle.digits.specs.Choice.{pick}
use Rattle.tree.specs.Tree.{Tree, empty, leaf, node, upd, sum, leaves, Agree, find, Good}
use Rattle.tree.specs.Listing.{Entry, Every, Rising, look, cat, entries}
use Rattle.tree.proofs.Basics.{Same?, same, other, same?, less?, upd_at, upd_off, sum_same}
use Rattle.tree.proofs.Places.{agree_up}

module _ {A : Type 0} where
  pub every_more : (P Q : Entry A → Type 0) (l : List (Entry A)) → ((e : Entry A) → P e → Q e) → Every P l → Every Q l
  unfolding Every
  every_more P Q [] f g = tt
  every_more P Q (e ∷ l) f g = (f e g.0, every_more P Q l f g.1)

  every_append : (P : Entry A → Type 0) (l r : List (Entry A)) → Every P l → Every P r → Every P (l ++ r)
  unfolding Every
  every_append P [] r g h = h
  every_append P (e ∷ l) r g h = (g.0, every_append P l r g.1 h)

  -- two rising lists, all of the second above all of the first
  rising_append : (P : Entry A → Type 0) (l r : List (Entry A)) → Rising l → Rising r → Every P l
      → ((e : Entry A) → P e → Every (λ e'. e.key < e'.key) r) → Rising (l ++ r)
  unfolding Rising Every
  rising_append P [] r a b p f = b
  rising_append P (e ∷ l) r a b p f = (every_append (λ e'. e.key < e'.key) l r a.0 (f e p.0), rising_append P l r a.1 b p.1 f)

  look_append_none : (k : ℕ) (l r : List (Entry A)) → look k l ≡ None → look k (l ++ r) ≡ look k r
  unfolding look
  look_append_none k [] r e = refl
  look_append_none k (x ∷ l) r e = go (look_append_none k l r) (same? k x.key)
    where
      go : (look k l ≡ None → look k (l ++ r) ≡ look k r) → Same? k x.key → pick (eqb k x.key) (Some x.value) (look k (l ++ r)) ≡ look k r
      go ih (same p q) = let z : ◌≡◌ {A = Option A} (Some x.value) None = rw q at e in cc
      go ih (other p q) = rw q (ih (rw q at e))

  look_append_after : (k : ℕ) (l r : List (Entry A)) → look k r ≡ None → look k (l ++ r) ≡ look k l
  unfolding look
  look_append_after k [] r e = e
  look_append_after k (x ∷ l) r e = ap (pick (eqb k x.key) (Some x.value)) (look_append_after k l r e)

  -- a key that no entry has
  pub look_none : (k : ℕ) (l : List (Entry A)) → Every (λ e. k ≢ e.key) l → look k l ≡ None
  unfolding look Every
  look_none k [] g = refl
  look_none k (x ∷ l) g = rw (ne_eqb k x.key g.0) (look_none k l g.1)

  -- the parts of a concatenation
  cat_every : (P : Entry A → Type 0) (n : ℕ) (f : ℕ → List (Entry A)) → ((c : ℕ) → c < n → Every P (f c)) → Every P (cat n f)
  unfolding cat Every
  cat_every P zero f h = tt
  cat_every P (suc n) f h = every_append P (cat n f) (f n) (cat_every P n f (λ c l. h c (omega arith))) (h n (omega arith))

  look_cat_none : (k n : ℕ) (f : ℕ → List (Entry A)) → ((c : ℕ) → c < n → look k (f c) ≡ None) → look k (cat n f) ≡ None
  unfolding cat look
  look_cat_none k zero f h = refl
  look_cat_none k (suc n) f h = look_append_none k (cat n f) (f n) (look_cat_none k n f (λ c l. h c (omega arith))) ∙ h n (omega arith)

  look_cat : (k n : ℕ) (f : ℕ → List (Entry A)) (c : ℕ) → c < n → ((d : ℕ) → d < n → d ≢ c → look k (f d) ≡ None) → look k (cat n f) ≡ look k (f c)
  unfolding cat
  look_cat k zero f c l h = absurd (omega arith)
  look_cat k (suc n) f c l h = go (look_cat k n f c) (same? c n)
    where
      go : (c < n → ((d : ℕ) → d < n → d ≢ c → look k (f d) ≡ None) → look k (cat n f) ≡ look k (f c)) → Same? c n → look k (cat n f ++ f n) ≡ look k (f c)
      go ih (same e p) =
          look_append_none k (cat n f) (f n) (look_cat_none k n f (λ d o. h d (omega arith) (λ z. omega arith))) ∙ ap (λ i. look k (f i)) (sym e)
      go ih (other e p) = look_append_after k (cat n f) (f n) (h n (omega arith) (λ z. e (sym z))) ∙ ih (omega arith) (λ d o q. h d (omega arith) q)

  module _ (U : ℕ → Entry A → Type 0) (less : (c d : ℕ) (e e' : Entry A) → c < d → U c e → U d e' → e.key < e'.key) where
    rising_cat : (n : ℕ) (f : ℕ → List (Entry A)) → ((c : ℕ) → c < n → Every (U c) (f c)) → ((c : ℕ) → c < n → Rising (f c)) → Rising (cat n f)
    unfolding cat Rising
    rising_cat zero f u r = tt
    rising_cat (suc n) f u r =
        rising_append (λ e. (c : ℕ) × (c < n) × U c e) (cat n f) (f n) (rising_cat n f (λ c l. u c (omega arith)) (λ c l. r c (omega arith)))
        (r n (omega arith))
        (cat_every (λ e. (c : ℕ) × (c < n) × U c e) n f (λ c l. every_more (U c) (λ e. (c : ℕ) × (c < n) × U c e) (f c) (λ e g. (c, l, g)) (u c (omega arith))))
        (λ e g. every_more (U n) (λ e'. e.key < e'.key) (f n) (λ e' g'. less g.0 n e e' g.1 g.2 g') (u n (omega arith)))

  cat_length : (n : ℕ) (f : ℕ → List (Entry A)) → length (cat n f) ≡ sum n (λ c. length (f c))
  unfolding cat
  cat_length zero f = refl
  cat_length (suc n) f = omega (arith, length-append (cat n f) (f n), cat_length n f)

  -- an entry for each leaf
  pub entries_length : (t : Tree A) → length (entries t) ≡ leaves t
  unfolding entries leaves
  entries_length empty = refl
  entries_length (leaf x k v) = refl
  entries_length (node x b s kids) =
      cat_length 16 (λ c. entries (kids c)) ∙ sum_same 16 (λ c. length (entries (kids c))) (λ c. leaves (kids c)) (λ c l. entries_length (kids c))

module _ (dig : ℕ → ℕ → ℕ) (D : ℕ) (Ok : ℕ → Type 0)
    (less : (k k' i : ℕ) → Ok k → Ok k' → i < D → ((j : ℕ) → j < i → dig k j ≡ dig k' j) → dig k i < dig k' i → k < k') {A : Type 0} where
  -- keys in range
  unfoldable pub Keys : Tree A → Type 0
  Keys empty = Unit {0}
  Keys (leaf x k v) = Ok k
  Keys (node x b s kids) = (c : ℕ) → c < 16 → Keys (kids c)

  pub entries_agree : (w : ℕ) (q : ℕ → ℕ) (t : Tree A) → Good dig D w q t → Keys t → Every (λ e. Ok e.key × Agree dig w q e.key) (entries t)
  unfolding entries Every Good Keys
  entries_agree w q empty g o = tt
  entries_agree w q (leaf x k v) g o = ((o, g), tt)
  entries_agree w q (node x b s kids) g o =
      cat_every (λ e. Ok e.key × Agree dig w q e.key) 16 (λ c. entries (kids c))
      (λ c l. every_more (λ e. Ok e.key × Agree dig (b + 1) (upd (dig s) b c) e.key) (λ e. Ok e.key × Agree dig w q e.key) (entries (kids c))
      (λ e h. (h.0, agree_up dig w b c s q e.key g.0 g.2 h.1))
      (entries_agree (b + 1) (upd (dig s) b c) (kids c) (g.3 c l) (o c l)))

  pub entries_rise : (w : ℕ) (q : ℕ → ℕ) (t : Tree A) → Good dig D w q t → Keys t → Rising (entries t)
  unfolding entries Rising Every Good Keys
  entries_rise w q empty g o = tt
  entries_rise w q (leaf x k v) g o = (tt, tt)
  entries_rise w q (node x b s kids) g o =
      rising_cat (λ c e. Ok e.key × Agree dig (b + 1) (upd (dig s) b c) e.key)
      (λ c d e e' l h h'.
      let dc : dig e.key b ≡ c = h.1 b (omega arith) ∙ upd_at (dig s) b c in
      let dd : dig e'.key b ≡ d = h'.1 b (omega arith) ∙ upd_at (dig s) b d in
      less e.key e'.key b h.0 h'.0 g.1
      (λ j p. h.1 j (omega arith) ∙ upd_off (dig s) b c j (λ z. omega arith) ∙ sym (h'.1 j (omega arith) ∙ upd_off (dig s) b d j (λ z. omega arith)))
      (omega arith))
      16 (λ c. entries (kids c))
      (λ c l. entries_agree (b + 1) (upd (dig s) b c) (kids c) (g.3 c l) (o c l))
      (λ c l. entries_rise (b + 1) (upd (dig s) b c) (kids c) (g.3 c l) (o c l))

  pub entries_find : (dl : (k i : ℕ) → dig k i < 16) (w : ℕ) (q : ℕ → ℕ) (t : Tree A) (k : ℕ) → Good dig D w q t → Keys t → look k (entries t) ≡ find dig k t
  unfolding entries look find Good Keys
  entries_find dl w q empty k g o = refl
  entries_find dl w q (leaf x k' v) k g o = refl
  entries_find dl w q (node x b s kids) k g o =
      look_cat k 16 (λ c. entries (kids c)) (dig k b) (dl k b)
      (λ d l n. look_none k (entries (kids d))
      (every_more (λ e. Ok e.key × Agree dig (b + 1) (upd (dig s) b d) e.key) (λ e. k ≢ e.key) (entries (kids d))
      (λ e h z. n (sym (ap (λ i. dig i b) z ∙ h.1 b (omega arith) ∙ upd_at (dig s) b d)))
      (entries_agree (b + 1) (upd (dig s) b d) (kids d) (g.3 d l) (o d l))))
      ∙ entries_find dl (b + 1) (upd (dig s) b (dig k b)) (kids (dig k b)) k (g.3 (dig k b) (dl k b)) (o (dig k b) (dl k b))

-- ---- a rising list is decided by its answers: so a listing is, and so is a table written as one
module _ {A : Type 0} where
  above : (k : ℕ) (l : List (Entry A)) (j : ℕ) → k ≤ j → Every (λ e. j < e.key) l → look k l ≡ None
  above k l j h g = look_none k l (every_more (λ e. j < e.key) (λ e. k ≢ e.key) l (λ e p z. omega arith) g)

  at_head : (e : Entry A) (l : List (Entry A)) → look e.key (e ∷ l) ≡ Some e.value
  unfolding look
  at_head e l = rw (eq-eqb e.key e.key refl)

  past : (k : ℕ) (e : Entry A) (l : List (Entry A)) → k ≢ e.key → look k (e ∷ l) ≡ look k l
  unfolding look
  past k e l n = rw (ne_eqb k e.key n)

  -- a list that answers below the other's head is not equal to it
  lower : (e e' : Entry A) (l r : List (Entry A)) → e.key < e'.key → Rising (e' ∷ r) → ((k : ℕ) → look k (e ∷ l) ≡ look k (e' ∷ r)) → ⊥
  unfolding Rising
  lower e e' l r h g s =
      let z : ◌≡◌ {A = Option A} (Some e.value) None
      = sym (at_head e l) ∙ s e.key ∙ past e.key e' r (λ z. omega arith) ∙ above e.key r e'.key (omega arith) g.0 in
      let o : ◌≡◌ {A = ℕ} 0 1 = cc in
      omega arith

  pub rising_decided : (l r : List (Entry A)) → Rising l → Rising r → ((k : ℕ) → look k l ≡ look k r) → l ≡ r
  unfolding Rising look
  rising_decided [] [] a b s = refl
  rising_decided [] (e ∷ r) a b s = let z : ◌≡◌ {A = Option A} None (Some e.value) = s e.key ∙ at_head e r in cc
  rising_decided (e ∷ l) [] a b s = let z : ◌≡◌ {A = Option A} (Some e.value) None = sym (at_head e l) ∙ s e.key in cc
  rising_decided (e ∷ l) (e' ∷ r) a b s = go (same? e.key e'.key) (rising_decided l r a.1 b.1)
    where
      tails : e.key ≡ e'.key → (k : ℕ) → Same? k e.key → look k l ≡ look k r
      tails p k (same z q) = above k l e.key (omega arith) a.0 ∙ sym (above k r e'.key (omega arith) b.0)
      tails p k (other z q) = sym (past k e l z) ∙ s k ∙ past k e' r (λ y. z (y ∙ sym p))

      heads : e.key ≡ e'.key → e ≡ e'
      heads p =
          let v : Some e.value ≡ Some e'.value = sym (at_head e l) ∙ s e.key ∙ ap (λ k. look k (e' ∷ r)) p ∙ at_head e' r in
          let w : e.value ≡ e'.value = cc in
          λ i. record { key = p i; value = w i }

      go : Same? e.key e'.key → (((k : ℕ) → look k l ≡ look k r) → l ≡ r) → e ∷ l ≡ e' ∷ r
      go (same p q) ih = ap (◌∷ l) (heads p) ∙ ap (e' ∷◌) (ih (λ k. tails p k (same? k e.key)))
      go (other p q) ih = absurd (side p (less? e.key e'.key))
        where
          side : e.key ≢ e'.key → (e.key < e'.key) ⊎ (e'.key ≤ e.key) → ⊥
          side n (inl h) = lower e e' l r h b s
          side n (inr h) = lower e' e r l (omega arith) a (λ k. sym (s k))
