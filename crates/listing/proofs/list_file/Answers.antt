-- `list_file` meets its contract: a job that is read is listed, and a refusal gives its number.
use mathlib.Core.Path.{ap, ◌∙◌}
use native.Mathlib.Omega.{arith}
use Rattle.chain.specs.Limits.{max_processors, max_tasks}
use Rattle.chain.proofs.Numbers.{refused_ok}
use Rattle.texts.specs.Text.{refusal_line}
use Rattle.texts.proofs.Laws.{puts_as}
use Rattle.listing.specs.Room.{listing_room}
use Rattle.listing.proofs.Listings.{listed_job, listed_refused}
use Rattle.listing.proofs.list_file.Goals as goal

pub read_enough-requires : goal.read_enough-requires
unfolding max_processors max_tasks
read_enough-requires c = record { speeds_room = omega arith; holds_room = omega arith; weights_room = omega arith }

pub returns-in-Ok-clause-put : goal.returns-in-Ok-clause-put
returns-in-Ok-clause-put c =
    let e = c.in-Ok.ensures in
    let none = refused_ok c.in-Ok.is c.read_enough.ensures.number in
    puts_as (listed_job c.args.file.now none e.edition e.job) c.list_job.ensures.put

pub put_refusal_line-requires : goal.put_refusal_line-requires
unfolding listing_room
put_refusal_line-requires c = omega arith

pub returns-in-Err : goal.returns-in-Err
unfolding listing_room
returns-in-Err c =
    let line = listed_refused c.args.file.now c.read_enough.ensures.number c.in-Err.is in
    let put = puts_as (ap refusal_line c.from.ensures ∙ line) c.put_refusal_line.ensures.put in
    record { put = put; upper_bound = omega arith }
