-- `test_enough` meets its contract.
use Rattle.chain.specs.Numbers.{code_of, refused}
use Rattle.refusals.proofs.Holds.{enough_laws}
use Rattle.refusals.proofs.test_enough.Goals as goal

pub returns-then-not-enough_holds : goal.returns-then-not-enough_holds
unfolding refused code_of
returns-then-not-enough_holds c = search enough_laws

pub returns : goal.returns
unfolding refused code_of
returns c = search enough_laws
