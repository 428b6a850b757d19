-- `test_division` meets its contract.
use Rattle.chain.specs.Numbers.{code_of, refused}
use Rattle.refusals.proofs.Tests.{division_laws}
use Rattle.refusals.proofs.test_division.Goals as goal

pub returns-then-not-is_partition : goal.returns-then-not-is_partition
unfolding refused code_of
returns-then-not-is_partition c = search division_laws

pub returns : goal.returns
unfolding refused code_of
returns c = search division_laws
