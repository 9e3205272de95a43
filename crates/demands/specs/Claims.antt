-- All that is handed to the auditor, as one statement. That it has a proof is one line: `claims : Claims`.
-- Assumes nothing.
use Rattle.std.specs.Prelude.{◌≡◌, true}
use Rattle.demands.specs.Demand1.{Demand1}
use Rattle.demands.specs.Causes.{Causes}
use Rattle.demands.specs.Demand2.{Demand2Holds}
use Rattle.demands.specs.Demand3.{Generation, Demand3, Covers, Begins, AtMostOneStale}
use Rattle.demands.specs.Question.{ListedIffOpenable}
use Rattle.demands.specs.ByPlan.{ByPlan}
use Rattle.demands.specs.FromC.{Returns}
use Rattle.demands.specs.Opening.{Opens}
use Rattle.demands.specs.Quick.{AsLookup}
use Rattle.demands.specs.Unique.{Unique}
use Rattle.demands.specs.Cases.{every, cases}
use Rattle.demands.specs.StoreLists.{store_lists}
use Rattle.demands.specs.Retired.{retired}

pub record Claims : Type 1 where
  pub demand1 : Demand1
  -- "Wrong sizes, damage, an absent name, no room: each has its number": which number, exactly when
  pub causes : Causes
  pub demand2 : Demand2Holds
  pub demand3 : (g : Generation) → Demand3 g
  pub covers : Covers
  pub one_stale : (g : Generation) → AtMostOneStale g
  -- "Is every name in the listing still openable, and is every openable name in the listing?"
  pub question : (g : Generation) → ListedIffOpenable g
  pub begins : Begins
  pub by_plan : ByPlan
  pub from_c : Returns
  pub opening : Opens
  pub quick : AsLookup
  pub one_outcome : Unique
  pub examples : every cases ≡ true
  pub store_lists : every store_lists ≡ true
  pub retired_names : every retired ≡ true
