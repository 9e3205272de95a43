-- The claims have proofs. A checker accepts whatever laws it is given, or none: that this law is here, with this type, the test command sees to by
-- its text (tools/claims.sh). Assumes nothing.
use Rattle.demands.specs.Claims.{Claims}
use Rattle.demands.proofs.Demand1.{demand1}
use Rattle.demands.proofs.Causes.{causes}
use Rattle.demands.proofs.Demand2.{demand2_holds}
use Rattle.demands.proofs.Demand3.{demand3, begins}
use Rattle.demands.proofs.Covers.{covers}
use Rattle.demands.proofs.Stales.{at_most_one}
use Rattle.demands.proofs.Question.{listed_iff_openable}
use Rattle.demands.proofs.ByPlan.{by_plan_lem}
use Rattle.demands.proofs.FromC.{returns}
use Rattle.demands.proofs.Opening.{opens}
use Rattle.demands.proofs.Quick.{as_lookup}
use Rattle.demands.proofs.Unique.{unique}
use Rattle.demands.proofs.Cases.{cases_hold}
use Rattle.demands.proofs.StoreLists.{store_lists_hold}
use Rattle.demands.proofs.Retired.{retired_hold}

pub claims : Claims
claims = record {
  demand1 = demand1;
  causes = causes;
  demand2 = demand2_holds;
  demand3 = demand3;
  covers = covers;
  one_stale = at_most_one;
  question = listed_iff_openable;
  begins = begins;
  by_plan = by_plan_lem;
  from_c = returns;
  opening = opens;
  quick = as_lookup;
  one_outcome = unique;
  examples = cases_hold;
  store_lists = store_lists_hold;
  retired_names = retired_hold;
}
