-- The lists of stores that were worked out by hand are those of the plans, all by one computation. Assumes nothing.
use mathlib.Core.Path.{◌≡◌, refl}
use mathlib.Core.Bool.{true}
use Rattle.digits.specs.Loops.{scan, tally}
use Rattle.digits.specs.Digits.{first_diff_in}
use Rattle.digits.specs.Headers.{stored_in, header_in}
use Rattle.tree.specs.Stores.{block, tab}
use Rattle.pool.specs.Sizes.{size_of, capacity_of}
use Rattle.pool.specs.Refs.{ref_of}
use Rattle.walk.specs.Walks.{head_of, walk_from, lowest_from}
use Rattle.rules.specs.Puts.{put_plan}
use Rattle.rules.specs.Deletes.{delete_plan}
use Rattle.demands.specs.Cases.{every}
use Rattle.demands.specs.StoreLists.{store_lists}

pub store_lists_hold : every store_lists ≡ true
unfolding store_lists scan tally first_diff_in stored_in header_in block tab size_of capacity_of ref_of head_of walk_from lowest_from put_plan delete_plan
store_lists_hold = refl
