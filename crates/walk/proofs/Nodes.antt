-- A node's children: whether the word of one is a child; the lowest is one, and so is the lowest but the one at a given word.
-- Assumes nothing.
use mathlib.Core.Path.{◌≡◌, refl}
use mathlib.Core.Bool.{Bool, true, false}
use mathlib.Core.List.{List}
use Prim.Native.Nat.{ℕ, ◌+◌, ◌-◌, ◌<◌}
use native.Mathlib.Omega.{arith}
use borrow.Author.Tests.{eq-eqb, ne_eqb, eqb-false, not-true}
use lib.Dec.{eqb}
use Rattle.digits.specs.Choice.{pick}
use Rattle.digits.specs.Loops.{tally}
use Rattle.pool.specs.Places.{child_at, child_word}
use Rattle.walk.specs.Walks.{is_child, lowest_child, other_child}
use Rattle.walk.proofs.Loops.{scan_true, tally_true, tally_false}

module _ (pool : List ℕ) (n j : ℕ) where
  -- the word x of child c is a child, or none
  module _ (c : ℕ) {x : ℕ} (e : x ≡ child_at pool n j c) where
    pub is_child_lem : (x ≡ 0 → ⊥) → is_child pool n j c ≡ true
    is_child_lem h = rw (← e, ne_eqb x 0 h)

    pub no_child : x ≡ 0 → is_child pool n j c ≡ false
    no_child h = rw (← e, eq-eqb x 0 h)

    pub counted : (x ≡ 0 → ⊥) → tally (c + 1) (is_child pool n j) ≡ tally c (is_child pool n j) + 1
    counted h = tally_true (is_child pool n j) c (is_child_lem h)

    pub uncounted : x ≡ 0 → tally (c + 1) (is_child pool n j) ≡ tally c (is_child pool n j)
    uncounted h = tally_false (is_child pool n j) c (no_child h)

  child_there : (c : ℕ) → is_child pool n j c ≡ true → child_at pool n j c ≡ 0 → ⊥
  child_there c e = eqb-false (child_at pool n j c) 0 (not-true (eqb (child_at pool n j c) 0) e)

  pub lowest_child_there : lowest_child pool n j < 16 → child_at pool n j (lowest_child pool n j) ≡ 0 → ⊥
  lowest_child_there h = child_there (lowest_child pool n j) (scan_true (is_child pool n j) 16 0 h)

  -- a child but the one at the word `at`
  module _ (at : ℕ) where
    abbrev pub is_other : ℕ → Bool
    is_other c = pick (eqb (child_word n j c) at) false (is_child pool n j c)

    other : (c : ℕ) → is_other c ≡ true → (child_at pool n j c ≡ 0 → ⊥) × (child_word n j c ≡ at → ⊥)
    other c e = go (eqb (child_word n j c) at) refl e
      where
        go : (t : Bool) → eqb (child_word n j c) at ≡ t → pick t false (is_child pool n j c) ≡ true → (child_at pool n j c ≡ 0 → ⊥) × (child_word n j c ≡ at → ⊥)
        go true q e = let o : ◌≡◌ {A = ℕ} 0 1 = cc in absurd (omega arith)
        go false q e = (child_there c e, eqb-false (child_word n j c) at q)

    pub other_child_there : other_child pool n j at < 16 → child_at pool n j (other_child pool n j at) ≡ 0 → ⊥
    other_child_there h = (other (other_child pool n j at) (scan_true is_other 16 0 h)).0

    pub other_child_off : other_child pool n j at < 16 → child_word n j (other_child pool n j at) ≡ at → ⊥
    other_child_off h = (other (other_child pool n j at) (scan_true is_other 16 0 h)).1
