-- `test_separators` meets its contract: the job, then the list of separators.
use Prim.Native.Nat.{◌+◌}
use Rattle.chain.specs.Job.{processors}
use Rattle.chain.specs.Numbers.{refused}
use Rattle.parts.specs.Lent.{lent}
use Rattle.refusals.proofs.Tests.{separators_job, separators_list}
use Rattle.refusals.proofs.Exits.{stopped, went, length_lent}
use Rattle.refusals.proofs.test_separators.Goals as goal

pub returns-in_err-job-clause-number : goal.returns-in_err-job-clause-number
returns-in_err-job-clause-number c =
    stopped _ c.in_err-job.was c.from_residual.ensures.1 (separators_job (lent c.args.lists) c.args.separators c.test_all_lists.ensures.number)

pub returns-in_err-test_length-clause-number : goal.returns-in_err-test_length-clause-number
returns-in_err-test_length-clause-number c =
    let n = c.args.separators in
    stopped _ c.in_err-test_length.was c.from_residual-in_err-test_length.ensures.1
    (λ _. separators_list (lent c.args.lists) n c.test_all_lists.ensures.number (went c.in_ok-job.was)
    (length_lent c.in_ok-job.ensures.job (λ j. processors j + 1) n c.test_length.ensures))

pub returns-clause-number : goal.returns-clause-number
unfolding refused
returns-clause-number c =
    let n = c.args.separators in
    separators_list (lent c.args.lists) n c.test_all_lists.ensures.number (went c.in_ok-job.was)
    (length_lent c.in_ok-job.ensures.job (λ j. processors j + 1) n c.in_ok-test_length.ensures)
