-- `effective` meets its contract, edition by edition.
use Rattle.refusals.proofs.Editions.{second_counts, first_counts}
use Rattle.refusals.proofs.effective.Goals as goal

pub returns-then-second : goal.returns-then-second
returns-then-second c = second_counts c.args.startup c.if-second.true

pub returns-else-second : goal.returns-else-second
returns-else-second c = first_counts c.args.startup c.if-second.false
