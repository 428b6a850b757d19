-- `value_at` meets its contract: the value is a field.
use Rattle.jobs.specs.Parse.{value_at}
use borrow.Author.Rules.{rules}
use Rattle.jobs.proofs.value_at.Goals as goal

pub returns : goal.returns
unfolding value_at
returns c = search rules
