use Rattle.std.proofs.Common.{◌≡◌, ◌++◌, ◌+◌, length}
use Rattle.tree.specs.Stores.{block, tab}
use Rattle.laying.proofs.lay_node.Given as goal

abbrev pub invariant-loop-c : goal.invariant-loop-c
invariant-loop-c g l =
    record {
      stores : l.stores ≡ l.initial.stores ++ block (l.word + 1) (tab l.c (λ i. 0));
      count : length l.stores ≡ length l.initial.stores + l.c;
    }
