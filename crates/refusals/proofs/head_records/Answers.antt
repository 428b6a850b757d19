-- `head_records` meets its contract, edition by edition.
use Rattle.refusals.proofs.Editions.{head_is}
use Rattle.refusals.proofs.head_records.Goals as goal

pub returns-clause-value : goal.returns-clause-value
returns-clause-value c = λ startup. head_is c.args.second startup c.from.ensures
