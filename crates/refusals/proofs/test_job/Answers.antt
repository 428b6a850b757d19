-- `test_job` meets its contract.
use Rattle.chain.specs.Numbers.{refused}
use Rattle.refusals.proofs.Exits.{stopped}
use Rattle.refusals.proofs.test_job.Goals as goal

pub returns-in_err-test_all_lists : goal.returns-in_err-test_all_lists
returns-in_err-test_all_lists c =
    stopped _ c.in_err-test_all_lists.was c.from_residual.ensures.1 (λ _. c.test_all_lists.ensures.number)

pub returns : goal.returns
unfolding refused
returns c = c.in_ok-test_all_lists.ensures.number
