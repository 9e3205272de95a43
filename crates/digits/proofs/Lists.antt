-- A loop over places is the library's word for a list: where the test of a place is that of the element there, the first place that passes is
-- `position_or_len`.
-- Assumes nothing.
use Rattle.std.proofs.Common.{◌≡◌, refl, sym, ap, ◌∙◌, ℕ, suc, ◌+◌, ◌≤◌, ◌<◌, List, [], ◌∷◌, length, get_or, take, drop, arith}
use Rattle.std.specs.Prelude.{Bool, true, false}
use Rattle.std.specs.List.{position_or_len}
use Rattle.std.proofs.lemmas.List.{length-take, length-drop, get_or-take, get_or-drop}
use Rattle.digits.specs.Loops.{scan}

module _ {X : Type 0} (p : X → Bool) (d : X) where
  -- a test of the places from a on that is the list's test of its elements
  abbrev pub Tests : ℕ → (ℕ → Bool) → List X → Type 0
  Tests a test xs = (k : ℕ) → k < length xs → test (a + k) ≡ p (get_or xs k d)

  module _ (test : ℕ → Bool) where
    scan_cons : (a n : ℕ) (x : X) (xs : List X) (t : Bool) → test a ≡ t → p x ≡ t → scan n (a + 1) test ≡ a + 1 + position_or_len p xs
        → scan (suc n) a test ≡ a + position_or_len p (x ∷ xs)
    unfolding scan
    scan_cons a n x xs true e q ih = rw (q, e, scan) (omega arith)
    scan_cons a n x xs false e q ih = rw (q, e, scan) (omega (arith, ih))

    pub scan_list : (a : ℕ) (xs : List X) → Tests a test xs → scan (length xs) a test ≡ a + position_or_len p xs
    unfolding scan
    scan_list a [] h = omega arith
    scan_list a (x ∷ xs) h =
        scan_cons a (length xs) x xs (p x) (ap test (omega arith) ∙ h 0 (omega arith)) refl
        (scan_list (a + 1) xs (λ k l. ap test (omega arith) ∙ h (suc k) (omega arith)))

  -- the same of a run of n elements from a on
  module _ (xs : List X) (n a : ℕ) (h : a + n ≤ length xs) where
    run_length : n ≡ length (take n (drop a xs))
    run_length = omega (arith, length-take n (drop a xs), length-drop a xs)

    run_tests : Tests a (λ k. p (get_or xs k d)) (take n (drop a xs))
    run_tests k l = ap p (sym (get_or-take n (drop a xs) k d (omega (arith, run_length)) ∙ get_or-drop a xs k d))

    pub scan_run : scan n a (λ k. p (get_or xs k d)) ≡ a + position_or_len p (take n (drop a xs))
    scan_run = ap (λ m. scan m a (λ k. p (get_or xs k d))) run_length ∙ scan_list (λ k. p (get_or xs k d)) a (take n (drop a xs)) run_tests
