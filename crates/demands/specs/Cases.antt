-- The cases that document 01 marks (p), as one table of tests over the definitions; sizes and references are tested through the calls.
-- Assumes nothing.
use Rattle.std.specs.Prelude.{Bool, true, false, List, [], ◌∷◌, ℕ, ◌-◌, eqb, replicate}
use Rattle.digits.specs.Choice.{pick}
use Rattle.digits.specs.Digits.{digit_of, first_diff}
use Rattle.pool.specs.Places.{word_at}
use Rattle.finding.specs.Lookups.{Answer, lookup_of}
use Rattle.writing.specs.Calls.{Left, put_of, format_of}

abbrev pub both : Bool → Bool → Bool
both a b = pick a b false

abbrev pub every : List Bool → Bool
every [] = true
every (t ∷ ts) = both t (every ts)

-- the number that format gives for n leaves in so many words and bytes, and lookup and put in so many words of which word 0 is n
abbrev formats : ℕ → ℕ → ℕ → ℕ
formats words bytes n = (format_of (replicate words 0) (replicate bytes 0) n).number

abbrev looks : ℕ → ℕ → ℕ
looks words n = (lookup_of (n ∷ replicate (words - 1) 0) 7).number

abbrev puts : ℕ → ℕ → ℕ → ℕ
puts words bytes n = (put_of (n ∷ replicate (words - 1) 0) (replicate bytes 0) 7 1).done.number

-- what lookup says in a pool of two leaves whose root is r, and in which all else is 0
abbrev rooted : ℕ → Answer
rooted r = lookup_of (2 ∷ r ∷ replicate 21 0) 7

-- a fresh pool of n leaves in so many words, and the same after puts
abbrev pub fresh : ℕ → ℕ → ℕ → Left
fresh n words bytes = record {
  done = record { number = 0; stores = 0 };
  pool = (format_of (replicate words 0) (replicate bytes 0) n).pool;
  map = (format_of (replicate words 0) (replicate bytes 0) n).map;
}

abbrev pub putting : ℕ → ℕ → Left → Left
putting k v l = put_of l.pool l.map k v

-- the header of the only node of a pool that holds just two keys: N = 2, so word 6
abbrev root_header : ℕ → ℕ → ℕ
root_header a b = word_at (putting b 2 (putting a 1 (fresh 2 23 3))).pool 6

unfoldable pub cases : List Bool
cases =
    -- "Digit 0 of 0x123456789abcdef0 is 1, digit 15 is 0."
    eqb (digit_of 0x123456789abcdef0 0) 1
    ∷ eqb (digit_of 0x123456789abcdef0 15) 0
    -- "First differing digit: 0 and all ones, 0; 0 and 1, 15; 7 and 7, 16."
    ∷ eqb (first_diff 0 0xffffffffffffffff) 0
    ∷ eqb (first_diff 0 1) 15
    ∷ eqb (first_diff 7 7) 16
    -- "Keys 0x123456789abcdef0 and ..ef1 only: header 0x000f123456789abc."
    ∷ eqb (root_header 0x123456789abcdef0 0x123456789abcdef1) 0x000f123456789abc
    -- "Keys 0x1234567800000000 and 0x1234567900000000 only: header 0x0007123456700000."
    ∷ eqb (root_header 0x1234567800000000 0x1234567900000000) 0x0007123456700000
    -- "Keys 0 and all ones only: header 0."
    ∷ eqb (root_header 0 0xffffffffffffffff) 0
    -- "N = 1: 4 words accepted, 5 refused with 1. N = 0 and 1025: 1."
    ∷ eqb (formats 4 1 1) 0
    ∷ eqb (looks 4 1) 3
    ∷ eqb (puts 4 1 1) 0
    ∷ eqb (formats 5 1 1) 1
    ∷ eqb (looks 5 1) 1
    ∷ eqb (puts 5 1 1) 1
    ∷ eqb (formats 4 1 0) 1
    ∷ eqb (looks 4 0) 1
    ∷ eqb (puts 4 1 0) 1
    ∷ eqb (formats 19460 2049 1025) 1
    ∷ eqb (looks 19460 1025) 1
    ∷ eqb (puts 19460 2049 1025) 1
    -- "19,441 for N = 1024"
    ∷ eqb (formats 19441 2047 1024) 0
    ∷ eqb (looks 19441 1024) 3
    ∷ eqb (puts 19441 2047 1024) 0
    -- "N = 2: reference 1025 is node 0; 1026 and 3 are damage.": node 0 is passed, and its child is empty
    ∷ eqb (rooted 1025).number 3
    ∷ eqb (rooted 1025).nodes 1
    ∷ eqb (rooted 1026).number 2
    ∷ eqb (rooted 3).number 2
    -- "N = 1, one key held: put of that key 0, of another 4."
    ∷ eqb (putting 7 2 (putting 7 1 (fresh 1 4 1))).done.number 0
    ∷ eqb (putting 8 2 (putting 7 1 (fresh 1 4 1))).done.number 4
    ∷ []
