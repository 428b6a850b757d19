-- `test_measure` meets its contract: the job and the list, then the division.
use Rattle.chain.specs.Numbers.{refused}
use Rattle.parts.specs.Lent.{lent}
use Rattle.refusals.proofs.Tests.{measure_list, measure_division}
use Rattle.refusals.proofs.Exits.{stopped, went, room, division_lent}
use Rattle.refusals.proofs.test_measure.Goals as goal

pub returns-in_err-job-clause-number : goal.returns-in_err-job-clause-number
returns-in_err-job-clause-number c =
    stopped _ c.in_err-job.was c.from_residual.ensures.1 (measure_list (lent c.args.lists) c.args.separators.now c.test_separators.ensures.number)

pub test_division-requires : goal.test_division-requires
test_division-requires c = room c.in_ok-job.ensures.job c.in_ok-job.ensures.number

pub returns-in_err-test_division-clause-number : goal.returns-in_err-test_division-clause-number
returns-in_err-test_division-clause-number c =
    let s = c.args.separators.now in
    stopped _ c.in_err-test_division.was c.from_residual-in_err-test_division.ensures.1
    (λ _. measure_division (lent c.args.lists) s c.test_separators.ensures.number (went c.in_ok-job.was)
    (division_lent c.in_ok-job.ensures.job s c.test_division.ensures))

pub returns-clause-number : goal.returns-clause-number
unfolding refused
returns-clause-number c =
    let s = c.args.separators.now in
    measure_division (lent c.args.lists) s c.test_separators.ensures.number (went c.in_ok-job.was)
    (division_lent c.in_ok-job.ensures.job s c.in_ok-test_division.ensures)
