-- `run` meets its contract: what was taken in is listed as all that there was.
use Rattle.std.proofs.Common.{arith}
use Rattle.listing.specs.Listing.{intake}
use Rattle.chain.specs.Limits.{max_processors, max_tasks}
use Rattle.strips.proofs.Listed.{listed_ok, taken_at_most}
use Rattle.strips.proofs.run.Goals as goal

pub returns-in_err-bytes-clause-taken : goal.returns-in_err-bytes-clause-taken
unfolding intake max_processors max_tasks
returns-in_err-bytes-clause-taken g c =
    let t = c.take_in in taken_at_most _ _ t.new.file _ (omega arith) t.ensures.prefix.0 t.ensures.taken

pub returns-clause-listed : goal.returns-clause-listed
unfolding intake max_processors max_tasks
returns-clause-listed g c =
    let t = c.in_ok-bytes.ensures in
    let file = c.take_in.new.file in
    let same = c.map_err.ensures.variant in
    listed_ok _ _ _ _ file c.in_ok-bytes.bytes _ _ same (omega arith) t.prefix.0 t.taken t.all c.answer.ensures

pub returns-clause-taken : goal.returns-clause-taken
unfolding intake max_processors max_tasks
returns-clause-taken g c =
    let t = c.take_in in taken_at_most _ _ t.new.file _ (omega arith) t.ensures.prefix.0 t.ensures.taken
