-- The cases that document 01 marks (p) hold of the definitions, all by one computation.
-- Assumes nothing.
use mathlib.Core.Path.{◌≡◌, refl}
use mathlib.Core.Bool.{true}
use Rattle.digits.specs.Loops.{scan, tally}
use Rattle.digits.specs.Digits.{first_diff_in}
use Rattle.digits.specs.Headers.{stored_in, header_in}
use Rattle.tree.specs.Stores.{block, tab}
use Rattle.pool.specs.Sizes.{size_of, capacity_of}
use Rattle.pool.specs.Refs.{ref_of}
use Rattle.walk.specs.Walks.{head_of, walk_from, lowest_from}
use Rattle.plan.specs.Plans.{made}
use Rattle.finding.specs.Lookups.{lookup_of}
use Rattle.rules.specs.Puts.{put_plan}
use Rattle.writing.specs.Calls.{put_of, format_of}
use Rattle.demands.specs.Cases.{every, cases}

pub cases_hold : every cases ≡ true
unfolding cases scan tally first_diff_in stored_in header_in block tab size_of capacity_of ref_of head_of walk_from lowest_from made lookup_of put_plan put_of format_of
cases_hold = refl
