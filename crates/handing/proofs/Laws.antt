-- Laws of a plan's words: what the loops that write and read its stores leave after each turn and at their end.
-- Assumes nothing.
use mathlib.Core.Path.{◌≡◌, refl, sym, ap, ◌∙◌}
use mathlib.Core.List.{List, [], ◌∷◌, ◌++◌, append-nil}
use Prim.Native.Nat.{ℕ, zero, suc, ◌+◌, ◌≤◌, ◌<◌}
use native.Mathlib.Nat.{zero-add, suc-add, not-suc-le-zero, le_of_suc-le-suc}
use native.Mathlib.Numerals.{add-one}
use native.Mathlib.Omega.{arith}
use lib.ListN.{length, get_or, set, take, drop, replicate, length-set, length-append, length-take, length-drop, take-append-drop, drop_of_length-le, get_or-eq_default}
use lib.Seq.{sets, length-sets, sets-eq, set-append_left, take_all, take-add, take_at, get_or-drop}
use Rattle.plan.specs.declared.Plan.{Plan}
use Rattle.plan.specs.declared.Effect.{Effect}
use Rattle.plan.specs.declared.Effect.TheVariants.{Nothing, TakesLeaf, TakesBoth, FreesLeaf, FreesBoth}
use Rattle.handing.specs.Plans.{effect_words, head_words, spared, words_of}

-- ---- a copy from the front
-- the first i of these over the first i of those
abbrev pub copied : ℕ → List ℕ → List ℕ → List ℕ
copied i s d = take i s ++ drop i d

copied_suc : (i : ℕ) (s d : List ℕ) → i < length s → i < length d → set (copied i s d) i (get_or s i 0) ≡ copied (suc i) s d
copied_suc i [] d hs hd = absurd (not-suc-le-zero hs)
copied_suc i (x ∷ s) [] hs hd = absurd (not-suc-le-zero hd)
copied_suc zero (x ∷ s) (y ∷ d) hs hd = refl
copied_suc (suc i) (x ∷ s) (y ∷ d) hs hd = ap (λ (l : List ℕ). x ∷ l) (copied_suc i s d (le_of_suc-le-suc hs) (le_of_suc-le-suc hd))

copied_next : (i : ℕ) (s d : List ℕ) → i < length s → i < length d → set (copied i s d) i (get_or s i 0) ≡ copied (i + 1) s d
copied_next i s d hs hd = rw add-one (copied_suc i s d hs hd)

length_copied : (i : ℕ) (s d : List ℕ) → length s ≡ length d → length (copied i s d) ≡ length d
length_copied i s d e = simp (length-append, length-take, length-drop) (omega arith)

-- once as many are copied as there are places, the first of s stand there
copied_all : (n : ℕ) (s d : List ℕ) → length d ≤ n → copied n s d ≡ take n s
copied_all n s d h = rw (drop_of_length-le d h) (append-nil _)

-- a word read at n + i, n places on, is the next to be copied
pub taken_next : (n i : ℕ) (p d : List ℕ) → n + length d ≤ length p → i < length d
    → set (copied i (drop n p) d) i (get_or p (n + i) 0) ≡ copied (i + 1) (drop n p) d
taken_next n i p d room h = rw (← get_or-drop n p i 0) (copied_next i (drop n p) d (simp length-drop (omega arith)) h)

-- once 21 are read into 21 places, they are the 21 words from n on
pub taken_all : (n i : ℕ) (p l : List ℕ) → i ≡ 21 → l ≡ copied i (drop n p) (replicate 21 0) → l ≡ take 21 (drop n p)
taken_all n i p l done e = e ∙ rw done (copied_all 21 (drop n p) (replicate 21 0) (omega arith))

-- ---- the words of a plan
set_past : (h l : List ℕ) (n i x : ℕ) → length h ≡ n → set (h ++ l) (n + i) x ≡ h ++ set l i x
set_past h l n i x e = rw (← e) (past h l i x) where
  past : (h l : List ℕ) (i x : ℕ) → set (h ++ l) (length h + i) x ≡ h ++ set l i x
  past [] l i x = rw zero-add
  past (y ∷ h) l i x = rw suc-add (ap (λ (t : List ℕ). y ∷ t) (past h l i x))

-- a run while its stores are written: h words of head, then i word numbers and i values, over m places each
abbrev pub written : ℕ → ℕ → ℕ → List ℕ → List ℕ → List ℕ → List ℕ
written h m i p ws vs = take h p ++ copied i ws (take m (drop h p)) ++ copied i vs (drop (h + m) p)

pub written_none : (h m : ℕ) (p ws vs : List ℕ) → p ≡ written h m 0 p ws vs
written_none h m p ws vs = sym (ap (λ (t : List ℕ). t ++ drop (h + m) p) (sym (take-add h m p)) ∙ take-append-drop (h + m) p)

module _ (h m : ℕ) (p ws vs : List ℕ) (full : length p ≡ h + m + m) (words : length ws ≡ m) (values : length vs ≡ m) where
  pub written_next : (i : ℕ) → i < m → set (set (written h m i p ws vs) (h + i) (get_or ws i 0)) (h + m + i) (get_or vs i 0) ≡ written h m (i + 1) p ws vs
  written_next i l =
      let a : List ℕ = take m (drop h p) in
      let b : List ℕ = drop (h + m) p in
      let head : length (take h p) ≡ h = simp length-take (omega arith) in
      let la : length a ≡ m = simp (length-take, length-drop) (omega arith) in
      let lb : length b ≡ m = simp length-drop (omega arith) in
      let now : length (copied i ws a) ≡ m = length_copied i ws a (words ∙ sym la) ∙ la in
      let next : length (copied (i + 1) ws a) ≡ m = length_copied (i + 1) ws a (words ∙ sym la) ∙ la in
      ap
      (λ (t : List ℕ). set t (h + m + i) (get_or vs i 0))
      (set-append_left (take h p ++ copied i ws a) (copied i vs b) (h + i) (get_or ws i 0) (omega (arith, length-append (take h p) (copied i ws a)))
      ∙ ap (λ (t : List ℕ). t ++ copied i vs b)
      (set_past (take h p) (copied i ws a) h i (get_or ws i 0) head ∙ ap (λ (t : List ℕ). take h p ++ t) (copied_next i ws a (omega arith) (omega arith))))
      ∙ set_past (take h p ++ copied (i + 1) ws a) (copied i vs b) (h + m) i (get_or vs i 0) (omega (arith, length-append (take h p) (copied (i + 1) ws a)))
      ∙ ap (λ (t : List ℕ). take h p ++ copied (i + 1) ws a ++ t) (copied_next i vs b (omega arith) (omega arith))

  pub written_all : written h m m p ws vs ≡ take h p ++ ws ++ vs
  written_all =
      let la : length (take m (drop h p)) ≤ m = simp length-take (omega arith) in
      let lb : length (drop (h + m) p) ≤ m = simp length-drop (omega arith) in
      let w : copied m ws (take m (drop h p)) ≡ ws = copied_all m ws (take m (drop h p)) la ∙ take_all m ws (omega arith) in
      let v : copied m vs (drop (h + m) p) ≡ vs = copied_all m vs (drop (h + m) p) lb ∙ take_all m vs (omega arith) in
      ap (λ (t : List ℕ). take h p ++ t ++ copied m vs (drop (h + m) p)) w ∙ ap (λ (t : List ℕ). take h p ++ ws ++ t) v

-- two places more, which are 0
pub length_spared : (l : List ℕ) → length (spared l) ≡ length l + 2
length_spared l = length-append l (0 ∷ 0 ∷ [])

-- what is read there, past the end too
pub spared_at : (l : List ℕ) (i : ℕ) → get_or (spared l) i 0 ≡ get_or l i 0
spared_at [] zero = refl
spared_at [] (suc zero) = refl
spared_at [] (suc (suc i)) = refl
spared_at (x ∷ l) zero = refl
spared_at (x ∷ l) (suc i) = spared_at l i

pub spared_past : (l : List ℕ) (i : ℕ) → length l ≤ i → get_or (spared l) i 0 ≡ 0
spared_past l i h = spared_at l i ∙ get_or-eq_default l 0 h

pub four : (e : Effect) → length (effect_words e) ≡ 4
four Nothing = refl
four (TakesLeaf a) = refl
four (TakesBoth a b) = refl
four (FreesLeaf a) = refl
four (FreesBoth a b) = refl

-- the head stored, and then the stores, make the plan's words
pub laid_out : (p q r : List ℕ) (w : Plan) → q ≡ sets (set (set (set p 0 w.count) 1 w.first) 2 w.fences) 3 (effect_words w.effect) → length q ≡ 53
    → r ≡ take 7 q ++ spared w.words ++ spared w.values → r ≡ words_of w
laid_out p q r w laid full stores =
    let head = head_words w in
    let a = set p 0 w.count in
    let b = set a 1 w.first in
    let c = set b 2 w.fences in
    let long : length p ≡ 53 =
    sym (length-set p 0 w.count) ∙ sym (length-set a 1 w.first) ∙ sym (length-set b 2 w.fences) ∙ sym (length-sets c 3 (effect_words w.effect))
    ∙ sym (ap length laid) ∙ full in
    let seven : length head ≡ 7 = ap (λ (n : ℕ). suc (suc (suc n))) (four w.effect) in
    let begun : take 7 q ≡ head = ap (take 7) (laid ∙ sets-eq head p 0 (rw seven (omega arith))) ∙ take_at head _ 7 seven in
    stores ∙ ap (λ (l : List ℕ). l ++ spared w.words ++ spared w.values) begun
