-- How an answer is shown to have its cause and no other: every cause leads to it, and there is a cause. Sizes are judged first.
-- Assumes nothing.
use Rattle.std.specs.Prelude.{None, Option, Some}
use mathlib.Core.Path.{◌≡◌, refl, sym, ap, ◌∙◌, subst}
use mathlib.Core.Logic.{◌↔◌, ◌⊎◌, inl, inr, ⊎_elim}
use mathlib.Core.List.{List}
use Prim.Native.Nat.{ℕ}
use native.Mathlib.Omega.{arith}
use borrow.Author.Tests.{eq-eqb}
use lib.Dec.{eqb}
use lib.ListN.{length}
use Rattle.digits.specs.Choice.{pick}
use Rattle.pool.specs.Sizes.{capacity_of, bytes_of}
use Rattle.plan.specs.Plans.{adr, eadr, Decided, refused, decided_for}
use Rattle.tree.proofs.Basics.{Same?, same, other as differs, same?}
use Rattle.demands.specs.Causes.{Exactly, Asks, so, not_so, Fits, FitsMap, After, wrong, right, Retires, retired, other, Generations, unknown, known}
use Rattle.demands.proofs.Ways.{fits_holds, holds_fits}

pub wrong_holds : {s : Option ℕ} {n : ℕ} → s ≡ None → s ≡ Some n → ⊥
wrong_holds p q = let z : ◌≡◌ {A = ℕ} 0 1 = cc in omega arith

-- an answer to which every cause leads has its cause and no other, if there is a cause at all
pub exactly : {A : Type 0} {x : A} (C : A → Type 0) → (a : A) × C a → ((a : A) → C a → x ≡ a) → Exactly x C
exactly C (a, c) f b = (λ e. subst C (sym (f a c) ∙ e) c, f b)

-- sizes are judged first: all fits some capacity, or none, and then the answer is `one`
data Judged {A : Type 0} (S : ℕ → Type 0) (one x : A) : Type 0 where
  fit : (n : ℕ) → S n → Judged S one x
  unfit : ((n : ℕ) → S n → ⊥) → x ≡ one → Judged S one x

after : {A : Type 0} {one x : A} (S : ℕ → Type 0) (C : ℕ → A → Type 0) → Judged S one x → ((n : ℕ) → S n → Exactly x (C n)) → Exactly x (After one S C)
after {A} {one} {x} S C s g = exactly (After one S C) (there s) (back s)
  where
    there : Judged S one x → (a : A) × After one S C a
    there (fit n z) = (x, right n z ((g n z x).0 refl))
    there (unfit u h) = (one, wrong u)

    back : Judged S one x → (a : A) → After one S C a → x ≡ a
    back s a (right n z c) = (g n z a).1 c
    back (fit n z) a (wrong u) = absurd (u n z)
    back (unfit u h) a (wrong u') = h

-- the pool's, and the map's where one is lent; an answer is read off what a call comes to by the pool's size
module _ {A B : Type 0} (read : B → A) (one : B) (C : ℕ → A → Type 0) (pool : List ℕ) (f : Option ℕ → B) (z : f None ≡ one) where
  pub after_pool : ((n : ℕ) → Fits pool n → Exactly (read (f (Some n))) (C n)) → Exactly (read (f (capacity_of pool))) (After (read one) (Fits pool) C)
  after_pool g = after (Fits pool) C (judge (capacity_of pool) refl) (λ n h. rw (fits_holds h) (g n h))
    where
      judge : (s : Option ℕ) → capacity_of pool ≡ s → Judged (Fits pool) (read one) (read (f (capacity_of pool)))
      judge (Some n) e = fit n (holds_fits e)
      judge None e = unfit (λ n h. wrong_holds e (fits_holds h)) (rw (e, z))

  pub after_map : (bytes : List ℕ) (d : ℕ → B) → ((n : ℕ) → f (Some n) ≡ pick (eqb (length bytes) (bytes_of n)) (d n) one)
      → ((n : ℕ) → Fits pool n → Exactly (read (d n)) (C n)) → Exactly (read (f (capacity_of pool))) (After (read one) (FitsMap pool bytes) C)
  after_map bytes d h g =
      after (FitsMap pool bytes) C (judge (capacity_of pool) refl)
      (λ n m. rw (fits_holds m.0, h n, eq-eqb (length bytes) (bytes_of n) m.1) (g n m.0))
    where
      long : (n : ℕ) → capacity_of pool ≡ Some n → Same? (length bytes) (bytes_of n) → Judged (FitsMap pool bytes) (read one) (read (f (capacity_of pool)))
      long n e (same l q) = fit n (holds_fits e, l)
      long n e (differs l q) = unfit (λ m k. l (k.1 ∙ ap bytes_of (sym k.0.1 ∙ (holds_fits e).1))) (rw (e, h n, q))

      judge : (s : Option ℕ) → capacity_of pool ≡ s → Judged (FitsMap pool bytes) (read one) (read (f (capacity_of pool)))
      judge (Some n) e = long n e (same? (length bytes) (bytes_of n))
      judge None e = unfit (λ n k. wrong_holds e (fits_holds k.0)) (rw (e, z))

-- a call that asks one thing has one answer
pub asked : {P : Type 0} {k x : ℕ} → Asks P k x → Exactly x (Asks P k)
asked {P} {k} c = exactly (Asks P k) (_, c) (λ a d. one c d)
  where
    one : {x a : ℕ} → Asks P k x → Asks P k a → x ≡ a
    one (so p) (so q) = refl
    one (so p) (not_so q) = absurd (q p)
    one (not_so p) (so q) = absurd (p q)
    one (not_so p) (not_so q) = refl

-- 7 comes first where the file number is 0, and nowhere else
pub retires : (d : Decided) (v : ℕ) (C : ℕ → Type 0) → Exactly d.number C → Exactly (pick (eqb v 0) (refused 7) d).number (Retires v C)
retires d v C E = go (same? v 0)
  where
    one : v ≡ 0 → (a : ℕ) → Retires v C a → 7 ≡ a
    one e a (retired e') = refl
    one e a (other n c) = absurd (n e)

    back : (v ≡ 0 → ⊥) → (a : ℕ) → Retires v C a → d.number ≡ a
    back n a (retired e) = absurd (n e)
    back n a (other n' c) = (E a).1 c

    go : Same? v 0 → Exactly (pick (eqb v 0) (refused 7) d).number (Retires v C)
    go (same e q) = rw q (λ a. ((λ z. subst (Retires v C) z (retired e)), one e a))
    go (differs n q) = rw q (λ a. ((λ z. other n ((E a).0 z)), back n a))

-- 1 comes first where there is no such generation, and nowhere else
pub generations : (g : ℕ) (d : Decided) (C : ℕ → Type 0) → Exactly d.number C → Exactly (decided_for g d).number (Generations g C)
generations g d C E = go (same? g adr) (same? g eadr)
  where
    of_known : (g ≡ adr) ⊎ (g ≡ eadr) → (a : ℕ) → (d.number ≡ a) ↔ Generations g C a
    of_known k a = ((λ z. known k ((E a).0 z)), back a)
      where
        back : (a : ℕ) → Generations g C a → d.number ≡ a
        back a (unknown n m) = absurd (⊎_elim n m k)
        back a (known k' c) = (E a).1 c

    go : Same? g adr → Same? g eadr → Exactly (decided_for g d).number (Generations g C)
    go (same e q) s = rw q (of_known (inl e))
    go (differs n q) (same e r) = rw (q, r) (of_known (inr e))
    go (differs n q) (differs m r) = rw (q, r) (λ a. ((λ z. subst (Generations g C) z (unknown n m)), none a))
      where
        none : (a : ℕ) → Generations g C a → 1 ≡ a
        none a (unknown n' m') = refl
        none a (known k c) = absurd (⊎_elim n m k)
