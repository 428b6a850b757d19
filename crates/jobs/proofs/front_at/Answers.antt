-- `front_at` meets its contract: the front is a field.
use Rattle.jobs.specs.Inner.{front_at}
use borrow.Author.Rules.{rules}
use Rattle.jobs.proofs.front_at.Goals as goal

pub returns : goal.returns
unfolding front_at
returns c = search rules
