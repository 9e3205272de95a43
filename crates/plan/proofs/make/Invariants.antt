use Rattle.std.proofs.Common.{◌≡◌, ◌+◌}
use Rattle.std.specs.Iterator.Adapters.{take_source, take_count, zip_first, zip_second}
use Rattle.std.specs.Slice.Iter.{iter_rest}
use Rattle.plan.specs.Plans.{stores_in, makes_of}
use Rattle.plan.proofs.Laws.{makes_from}
use Rattle.plan.proofs.make.Given as goal

abbrev pub invariant-loop-word : goal.invariant-loop-word
invariant-loop-word l =
    let pairs = take_source l.word-iterator in
    record {
      counted : l.made + take_count l.word-iterator ≡ l.most;
      left : makes_from l.made (take_count l.word-iterator) (iter_rest (zip_first pairs)) (iter_rest (zip_second pairs)) l.pool ≡ makes_of l.most (stores_in l.words l.values) l.initial.pool;
    }
