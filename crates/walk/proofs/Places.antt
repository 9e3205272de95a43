-- A place below 16, as the code says it: the place itself, or none.
-- Assumes nothing.
use Rattle.std.proofs.Common.{◌≡◌, ◌∙◌, ℕ, ◌+◌, ◌≤◌, ◌<◌, ◌&&◌, Bool, true, false, not, cond, nat_lt, Option, Some, None, List, length, get_or, drop, eqb, ltb, refl, sym, ap, add-one, arith}
use Rattle.std.specs.List.{position, position_or_len, enumerate_from}
use Rattle.std.proofs.lemmas.List.FromFn.{length-enumerate_from, get_or-enumerate_from}
use Rattle.std.proofs.lemmas.List.{length-take, length-drop, get_or-take, get_or-drop}
use borrow.Author.Tests.{ltb-true, ltb-false}
use mir.Val.{bool_byte}
use Rattle.digits.specs.Choice.{pick}
use Rattle.digits.specs.Loops.{scan, tally}
use Rattle.digits.proofs.Lists.{scan_list}
use Rattle.pool.specs.Sizes.{Sized}
use Rattle.pool.specs.Places.{node_word, child_word, children_at}
use Rattle.walk.specs.Walks.{place_of, is_child, lowest_child, other_child}

pub place_some : (c : ℕ) {x : ℕ} → place_of c ≡ Some x → (x ≡ c) × (c < 16)
place_some c {x} e = go (ltb c 16) refl e
  where
    go : (t : Bool) → ltb c 16 ≡ t → pick t (Some c) None ≡ Some x → (x ≡ c) × (c < 16)
    go true q e = (cc, ltb-true c 16 q)
    go false q e = cc

pub place_none : (c : ℕ) → place_of c ≡ None → 16 ≤ c
place_none c e = go (ltb c 16) refl e
  where
    go : (t : Bool) → ltb c 16 ≡ t → ◌≡◌ {A = Option ℕ} (pick t (Some c) None) None → 16 ≤ c
    go true q e = cc
    go false q e = ltb-false c 16 q

place_listed : (c p m : ℕ) → 16 ≡ m → c ≡ 0 + p → place_of c ≡ cond (nat_lt p m) (Some p) None
place_listed c p m e q = let k : c ≡ p = omega arith in rw (← e, k) (go (ltb p 16))
  where
    go : (t : Bool) → pick t (Some p) None ≡ cond t (Some p) None
    go true = refl
    go false = refl

-- a child's word is a child
abbrev pub is_there : ℕ → Bool
is_there r = not (eqb r 0)

-- and not the one at the word `at`, where the children begin at a word
abbrev pub is_there_off : ℕ → ℕ → ℕ × ℕ → Bool
is_there_off first at p = not (eqb (first + p.0) at) && not (eqb p.1 0)

byte_picked : (b : Bool) → bool_byte b ≡ pick b 1 0
byte_picked true = refl
byte_picked false = refl

-- the sixteen children of a node, as a list
module _ {pool : List ℕ} {n : ℕ} (z : Sized pool n) (j : ℕ) (h : j + 1 < n) where
  pub sixteen : 16 ≡ length (children_at pool n j)
  sixteen = omega (arith, z.words, length-take 16 (drop (node_word n j + 1) pool), length-drop (node_word n j + 1) pool)

  child_listed : (c : ℕ) → c < length (children_at pool n j) → is_child pool n j c ≡ not (eqb (get_or (children_at pool n j) c 0) 0)
  child_listed c l =
      ap (λ x. not (eqb x 0)) (sym (get_or-take 16 (drop (node_word n j + 1) pool) c 0 (omega (arith, sixteen)) ∙ get_or-drop (node_word n j + 1) pool c 0))

  listed : (c : ℕ) → c < length (children_at pool n j) → is_child pool n j (0 + c) ≡ not (eqb (get_or (children_at pool n j) c 0) 0)
  listed c l = ap (is_child pool n j) (omega arith) ∙ child_listed c l

  -- one child more is counted
  pub counted_on : (i : ℕ) → i < length (children_at pool n j)
      → tally (i + 1) (is_child pool n j) ≡ tally i (is_child pool n j) + bool_byte (is_there (get_or (children_at pool n j) i 0))
  unfolding tally
  counted_on i l = rw (add-one i, tally, child_listed i l, byte_picked (is_there (get_or (children_at pool n j) i 0)))

  pub lowest_listed : place_of (lowest_child pool n j) ≡ position (is_there) (children_at pool n j)
  lowest_listed = place_listed (lowest_child pool n j) (position_or_len (is_there) (children_at pool n j)) (length (children_at pool n j)) sixteen (ap (λ m. scan m 0 (is_child pool n j)) sixteen ∙ scan_list (is_there) 0 (is_child pool n j) 0 (children_at pool n j) listed)

  -- and with their places, but for the one at the word `at`
  module _ (at : ℕ) where
    pub other_listed : place_of (other_child pool n j at) ≡ position (is_there_off (node_word n j + 1) at) (enumerate_from 0 (children_at pool n j))
    other_listed =
        place_listed (other_child pool n j at) (position_or_len (is_there_off (node_word n j + 1) at) xs) (length xs) long
        (ap (λ m. scan m 0 test) long ∙ scan_list (is_there_off (node_word n j + 1) at) (0, 0) test 0 xs off)
      where
        xs : List (ℕ × ℕ)
        xs = enumerate_from 0 (children_at pool n j)

        test : ℕ → Bool
        test c = pick (eqb (child_word n j c) at) false (is_child pool n j c)

        long : 16 ≡ length xs
        long = sixteen ∙ sym (length-enumerate_from 0 (children_at pool n j))

        chosen : (t u : Bool) → pick t false u ≡ not t && u
        chosen true u = refl
        chosen false u = refl

        off : (c : ℕ) → c < length xs → test (0 + c) ≡ is_there_off (node_word n j + 1) at (get_or xs c (0, 0))
        off c l =
            let h : c < length (children_at pool n j) = omega (arith, l, length-enumerate_from 0 (children_at pool n j)) in
            let z : 0 + c ≡ c = omega arith in
            rw (get_or-enumerate_from 0 (children_at pool n j) c (0, 0) h, ← child_listed c h, z)
            (chosen (eqb (child_word n j c) at) (is_child pool n j c))
