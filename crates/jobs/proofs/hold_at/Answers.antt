-- `hold_at_lem` meets its contract: the hold is half a field.
use Rattle.jobs.specs.Parse.{hold_at}
use borrow.Author.Rules.{rules}
use Rattle.jobs.proofs.hold_at.Goals as goal

pub returns : goal.returns
unfolding hold_at
returns c = search rules
