-- The cases of 02 (x) hold of the definitions, all by one computation.
-- Assumes nothing.
use mathlib.Core.Path.{◌≡◌, refl}
use mathlib.Core.Bool.{true}
use Rattle.digits.specs.Loops.{upto, scan, tally}
use Rattle.digits.specs.Digits.{first_diff_in}
use Rattle.digits.specs.Headers.{stored_in, header_in}
use Rattle.tree.specs.Stores.{block, tab}
use Rattle.pool.specs.Sizes.{size_of, capacity_of}
use Rattle.pool.specs.Refs.{ref_of}
use Rattle.walk.specs.Walks.{head_of, walk_from, lowest_from}
use Rattle.plan.specs.Plans.{made}
use Rattle.finding.specs.Lookups.{lookup_of}
use Rattle.listing.specs.Listings.{leaf_of, visit_from, judged, list_of}
use Rattle.rules.specs.Puts.{put_plan}
use Rattle.rules.specs.Deletes.{delete_plan}
use Rattle.writing.specs.Calls.{put_of, delete_of, format_of}
use Rattle.survey.specs.Surveys.{leaf_met, join_of, head_judged, survey_from, survey_of}
use Rattle.opening.specs.Openings.{open_of}
use Rattle.demands.specs.Cases.{every}
use Rattle.demands.specs.Retired.{retired}

pub retired_hold : every retired ≡ true
unfolding retired upto scan tally first_diff_in stored_in header_in block tab size_of capacity_of ref_of head_of walk_from lowest_from made lookup_of leaf_of visit_from judged
    list_of put_plan delete_plan put_of delete_of format_of leaf_met join_of head_judged survey_from survey_of open_of
retired_hold = refl
