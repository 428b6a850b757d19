-- `test_free` meets its contract.
use Rattle.chain.specs.Numbers.{code_of, refused}
use Rattle.refusals.proofs.Holds.{free_laws}
use Rattle.refusals.proofs.test_free.Goals as goal

pub returns-then-any_hold : goal.returns-then-any_hold
unfolding refused code_of
returns-then-any_hold c = search free_laws

pub returns : goal.returns
unfolding refused code_of
returns c = search free_laws
