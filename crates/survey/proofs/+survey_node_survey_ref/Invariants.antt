use Prim.Native.Nat.{◌+◌, ◌-◌, ◌*◌}
use Rattle.survey.proofs.Turns.{Joined}
use Rattle.survey.proofs.+survey_node_survey_ref.Given as goal

abbrev pub decreases-survey_node : goal.decreases-survey_node
decreases-survey_node l = 2 * (16 - l.w)

abbrev pub decreases-survey_ref : goal.decreases-survey_ref
decreases-survey_ref l = 2 * (16 - l.w) + 1

abbrev pub invariant-survey_node-loop-c : goal.invariant-survey_node-loop-c
invariant-survey_node-loop-c l = Joined l.pool.words.now l.pool.n l.j l.b l.initial.map l.c l.map l.span l.children
