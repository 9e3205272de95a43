-- Laws of texts: a number's digits are those that the library prints, and a text grows digit by digit and field by field.
-- Assumes nothing.
use Rattle.std.proofs.Common.{◌≡◌, ℕ, zero, suc, ◌+◌, ◌-◌, ◌*◌, ◌/◌, ◌%◌, ◌^◌, ◌<◌, ◌≤◌, Bool, true, false, List, [], ◌∷◌, ◌++◌, length, get_or, drop, refl, sym, ◌∙◌, arith, add-one, ltb, append_assoc, bit_and, drop-cons, rules}
use Rattle.std.specs.Fmt.{decimal}
use Rattle.std.proofs.lemmas.Fmt.{AppendsLastDigit, decimal_from_appends, length-decimal-le}
use Rattle.std.proofs.lemmas.List.{drop_all}
use Rattle.std.proofs.lemmas.Nat.{and_mask, pow-add}
use Rattle.std.proofs.Math.Nat.{div-div-eq-div-mul, pow-suc}
use Rattle.digits.specs.Choice.{pick}
use Rattle.script.specs.Bytes.{tab}
use Rattle.answers.specs.Numbers.{glyph_of, last_digits, places_in, decimal_of}
use Rattle.answers.specs.Answers.{fields_of}

-- a number has at most so many digits as are looked for
pub places_le : (n x : ℕ) → places_in n x ≤ n
unfolding places_in
places_le zero x = omega arith
places_le (suc n) x = go (ltb x 10) (places_in n (x / 10)) (places_le n (x / 10))
  where
    go : (b : Bool) (k : ℕ) → k ≤ n → pick b 1 (k + 1) ≤ suc n
    go true k h = omega arith
    go false k h = omega arith

-- the digits that are printed where so many are looked for
abbrev digits_in : ℕ → ℕ → List ℕ
digits_in k x = last_digits 10 (places_in k x) x

appended : AppendsLastDigit digits_in
unfolding last_digits places_in glyph_of
appended = search rules

-- a number is printed as the library prints it
pub decimal_is : (x : ℕ) → x < 2 ^ 64 → decimal x ≡ decimal_of x
decimal_is x h = sym (decimal_from_appends digits_in appended 20 x h (length-decimal-le 20 x (omega arith) (omega arith) h))

power_is : (k : ℕ) → 2 ^ (4 * k) ≡ 16 ^ k
power_is zero = refl
power_is (suc k) = let e : 4 * suc k ≡ 4 * k + 4 = omega arith in rw (e, pow-add 2 (4 * k) 4, power_is k, pow-suc 16 k)

-- a digit of a key more, from the highest on
pub digit_more : (x i d : ℕ) → i < 16 → d ≡ bit_and (x / 2 ^ (60 - 4 * i)) 15
    → last_digits 16 i (x / 16 ^ (16 - i)) ++ (glyph_of d ∷ []) ≡ last_digits 16 (i + 1) (x / 16 ^ (16 - (i + 1)))
unfolding last_digits
digit_more x i d h e =
    let k : 16 - i ≡ suc (15 - i) = omega arith in
    let j : 16 - (i + 1) ≡ 15 - i = omega arith in
    let s : 60 - 4 * i ≡ 4 * (15 - i) = omega arith in
    let p : 2 ^ (60 - 4 * i) ≡ 16 ^ (15 - i) = rw s (power_is (15 - i)) in
    let g : d ≡ x / 16 ^ (15 - i) % 16 = e ∙ rw p (and_mask (x / 16 ^ (15 - i)) 4) in
    let q : x / 16 ^ suc (15 - i) ≡ x / 16 ^ (15 - i) / 16 = rw (pow-suc 16 (15 - i)) (sym (div-div-eq-div-mul x (16 ^ (15 - i)) 16)) in
    rw (k, j, add-one, g, q)

-- a field more, a tab and a number's digits
module _ (numbers text before tabbed after digits whole : List ℕ) (i : ℕ) (within : i < length numbers) (small : get_or numbers i 0 < 2 ^ 64) where
  pub field_more : tabbed ≡ before ++ (tab ∷ []) → digits ≡ decimal (get_or numbers i 0) → after ≡ tabbed ++ digits
      → before ++ fields_of (drop i numbers) text ≡ whole → after ++ fields_of (drop (i + 1) numbers) text ≡ whole
  unfolding fields_of
  field_more t d a w =
      let x : ℕ = get_or numbers i 0 in
      let e : drop i numbers ≡ x ∷ drop (i + 1) numbers = rw (add-one, drop-cons numbers i 0) in
      let f : digits ≡ decimal_of x = d ∙ decimal_is x small in
      rw (a, t, f) (simp append_assoc (rw e at w))

pub field_done : (numbers text before whole : List ℕ) (i : ℕ) → length numbers ≤ i → before ++ fields_of (drop i numbers) text ≡ whole → before ++ text ≡ whole
unfolding fields_of
field_done numbers text before whole i h w = rw (drop_all i numbers h) at w
