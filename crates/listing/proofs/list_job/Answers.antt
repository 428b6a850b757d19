-- `list_job` meets its contract: the first line, then a line for each method.
use native.Mathlib.Omega.{arith}
use Rattle.parts.specs.Lent.{the, edition}
use Rattle.listing.specs.Listing.{job_listing}
use Rattle.listing.specs.Room.{listing_room}
use Rattle.texts.proofs.Laws.{puts_none, puts_then, puts_as}
use Rattle.listing.proofs.Listings.{last_none, last_line_lem}
use Rattle.listing.proofs.Listings.{table_tested, bidding_tested, bisection_tested, free_tested}
use Rattle.listing.proofs.list_job.Goals as goal

pub put_counts_line-requires : goal.put_counts_line-requires
unfolding listing_room
put_counts_line-requires c = omega arith

pub list_method-requires-clause-tested : goal.list_method-requires-clause-tested
list_method-requires-clause-tested c = table_tested (c.args.job.valid, c.requires.enough)

pub list_method-requires-clause-room : goal.list_method-requires-clause-room
unfolding listing_room
list_method-requires-clause-room c = omega (arith, c.args.job.valid.processors_limit)

pub list_method-requires-2-clause-tested : goal.list_method-requires-2-clause-tested
list_method-requires-2-clause-tested c = bidding_tested (c.args.job.valid, c.requires.enough)

pub list_method-requires-2-clause-room : goal.list_method-requires-2-clause-room
unfolding listing_room
list_method-requires-2-clause-room c = omega (arith, c.args.job.valid.processors_limit)

pub list_method-requires-3-clause-tested : goal.list_method-requires-3-clause-tested
list_method-requires-3-clause-tested c = bisection_tested (c.args.job.valid, c.requires.enough)

pub list_method-requires-3-clause-room : goal.list_method-requires-3-clause-room
unfolding listing_room
list_method-requires-3-clause-room c = omega (arith, c.args.job.valid.processors_limit)

pub returns-then-any_hold : goal.returns-then-any_hold
unfolding job_listing listing_room
returns-then-any_hold c =
    let job = c.args.job in
    let first = puts_then c.put_counts_line.ensures.put c.list_method.ensures.put in
    let third = puts_then (puts_then first c.list_method-2.ensures.put) c.list_method-3.ensures.put in
    let last = puts_as (last_none (edition job) (the job) c.any_hold.ensures c.if-any_hold.true) (puts_none _) in
    record { put = puts_then third last; upper_bound = omega (arith, job.valid.processors_limit) }

pub list_method-requires-4-clause-tested : goal.list_method-requires-4-clause-tested
list_method-requires-4-clause-tested c =
    free_tested (c.args.job.valid, c.requires.enough) c.any_hold.ensures c.if-any_hold.false

pub list_method-requires-4-clause-room : goal.list_method-requires-4-clause-room
unfolding listing_room
list_method-requires-4-clause-room c = omega (arith, c.args.job.valid.processors_limit)

pub returns : goal.returns
unfolding job_listing listing_room
returns c =
    let job = c.args.job in
    let first = puts_then c.put_counts_line.ensures.put c.list_method.ensures.put in
    let third = puts_then (puts_then first c.list_method-2.ensures.put) c.list_method-3.ensures.put in
    let line = last_line_lem (edition job) (the job) c.any_hold.ensures c.if-any_hold.false in
    let last = puts_as line c.list_method-4.ensures.put in
    record { put = puts_then third last; upper_bound = omega (arith, job.valid.processors_limit) }
