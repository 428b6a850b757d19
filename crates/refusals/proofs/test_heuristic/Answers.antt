-- `test_heuristic` meets its contract: the job and the list, then no holds.
use Rattle.chain.specs.Numbers.{refused}
use Rattle.parts.specs.Lent.{lent}
use Rattle.refusals.proofs.Tests.{heuristic_list, heuristic_free}
use Rattle.refusals.proofs.Exits.{stopped, went, free_lent}
use Rattle.refusals.proofs.test_heuristic.Goals as goal

pub returns-in_err-job-clause-number : goal.returns-in_err-job-clause-number
returns-in_err-job-clause-number c =
    stopped _ c.in_err-job.was c.from_residual.ensures.1 (heuristic_list (lent c.args.lists) c.args.separators c.test_separators.ensures.number)

pub returns-in_err-test_free-clause-number : goal.returns-in_err-test_free-clause-number
returns-in_err-test_free-clause-number c =
    stopped _ c.in_err-test_free.was c.from_residual-in_err-test_free.ensures.1
    (λ _. heuristic_free (lent c.args.lists) c.args.separators c.test_separators.ensures.number (went c.in_ok-job.was)
    (free_lent c.in_ok-job.ensures.job c.test_free.ensures))

pub returns-clause-number : goal.returns-clause-number
unfolding refused
returns-clause-number c =
    heuristic_free (lent c.args.lists) c.args.separators c.test_separators.ensures.number (went c.in_ok-job.was)
    (free_lent c.in_ok-job.ensures.job c.in_ok-test_free.ensures)
