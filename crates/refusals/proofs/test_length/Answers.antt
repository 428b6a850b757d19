-- `test_length` meets its contract.
use Rattle.chain.specs.Numbers.{code_of, refused}
use Rattle.refusals.proofs.Tests.{length_laws}
use Rattle.refusals.proofs.test_length.Goals as goal

pub returns-then-given-needed : goal.returns-then-given-needed
unfolding refused code_of
returns-then-given-needed c = search length_laws

pub returns : goal.returns
unfolding refused code_of
returns c = search length_laws
