-- `lowest_free` is a search of a part of the map: the place that it gives, or none. It rests on the law of a scan of a run.
-- Assumes nothing.
use Rattle.std.proofs.Common.{◌≡◌, ◌∙◌, ℕ, ◌+◌, ◌-◌, Bool, List, length, take, drop, ltb, Option, Some, None, rules, arith}
use Rattle.std.specs.Prelude.{MatchOption}
use Rattle.std.specs.List.{position_or_len}
use Rattle.std.proofs.lemmas.Bool.{false_from_ne_true}
use Rattle.std.proofs.lemmas.List.{length-take, length-drop}
use Rattle.std.proofs.lemmas.List.Sums.{position_or_len_is}
use borrow.Author.Tests.{lt-ltb, le-ltb}
use Rattle.memchr.specs.Find.{IsFirstByte, is_byte}
use Rattle.digits.specs.Choice.{pick}
use Rattle.digits.proofs.Lists.{scan_run}
use Rattle.room.proofs.lowest_free.Goals as goal

-- what a search of a run from `from` to `to` gives, as a place, is that of the first element that passes, if it is before the end
module _ (test : ℕ → Bool) (run : List ℕ) (from to x : ℕ) (ends : from + length run ≡ to) (scans : x ≡ from + position_or_len test run) where
  first : (r y : Option ℕ) → IsFirstByte test run r → MatchOption r (y ≡ None) (λ k. y ≡ Some (from + k)) → y ≡ pick (ltb x to) (Some x) None
  first None y none is =
      let p = position_or_len_is test run (length run) 0 (omega arith) (λ k l. false_from_ne_true _ (none k (omega arith) l)) (λ l. absurd (omega arith)) in
      is ∙ rw (le-ltb x to (omega arith))
  first (Some k) y (low, passes) is =
      let p = position_or_len_is test run k 0 (omega (arith, low.high)) (λ j l. false_from_ne_true _ (low.before j (omega arith) l)) (λ l. passes) in
      let e : x ≡ from + k = omega arith in
      is ∙ rw (e, lt-ltb (from + k) to (omega (arith, low.high)))

pub returns : goal.returns
returns c =
    let a = c.args in
    let map = a.map.now in
    let n = a.to - a.from in
    let is : MatchOption c.memchr.result (c.map.result ≡ None) (λ k. c.map.result ≡ Some (a.from + k)) = search (rules, c.map.ensures) in
    first (is_byte 0) (take n (drop a.from map)) a.from a.to _ (omega (arith, length-take n (drop a.from map), length-drop a.from map))
    (scan_run (is_byte 0) 0 map n a.from (omega arith)) c.memchr.result c.map.result c.memchr.ensures is
