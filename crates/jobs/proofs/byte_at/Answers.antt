-- `byte_at` meets its contract.
use Rattle.jobs.specs.Parse.{byte_at}
use borrow.Author.Rules.{rules}
use Rattle.jobs.proofs.byte_at.Goals as goal

pub returns : goal.returns
unfolding byte_at
returns c = search rules
