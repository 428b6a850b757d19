-- `test_write_plan` meets its contract: the job and the list, the buffer, then the division.
use native.Mathlib.Omega.{arith}
use Rattle.chain.specs.Limits.{max_processors}
use Rattle.chain.specs.Numbers.{refused}
use Rattle.parts.specs.Lent.{lent}
use Rattle.refusals.specs.Inputs.{plan_needed}
use Rattle.refusals.proofs.Tests.{write_plan_list, write_plan_bytes_lem, write_plan_division}
use Rattle.refusals.proofs.Exits.{stopped, went, room, division_lent, length_lent}
use Rattle.refusals.proofs.test_write_plan.Goals as goal

pub returns-in_err-job-clause-number : goal.returns-in_err-job-clause-number
returns-in_err-job-clause-number c =
    let a = c.args in
    stopped _ c.in_err-job.was c.from_residual.ensures.1 (write_plan_list (lent a.lists) a.separators.now a.bytes c.test_separators.ensures.number)

pub overflow_mul-job : goal.overflow_mul-job
unfolding max_processors
overflow_mul-job c = omega (arith, c.in_ok-job.job.valid.processors_limit)

pub returns-in_err-test_length-clause-number : goal.returns-in_err-test_length-clause-number
returns-in_err-test_length-clause-number c =
    let a = c.args in
    stopped _ c.in_err-test_length.was c.from_residual-in_err-test_length.ensures.1
    (write_plan_bytes_lem (lent a.lists) a.separators.now a.bytes c.test_separators.ensures.number (went c.in_ok-job.was)
    (length_lent c.in_ok-job.ensures.job plan_needed a.bytes c.test_length.ensures))

pub test_division-requires : goal.test_division-requires
test_division-requires c = room c.in_ok-job.ensures.job c.in_ok-job.ensures.number

pub returns-in_err-test_division-clause-number : goal.returns-in_err-test_division-clause-number
returns-in_err-test_division-clause-number c =
    let a = c.args in
    stopped _ c.in_err-test_division.was c.from_residual-in_err-test_division.ensures.1
    (λ _. write_plan_division (lent a.lists) a.separators.now a.bytes c.test_separators.ensures.number (went c.in_ok-job.was)
    (length_lent c.in_ok-job.ensures.job plan_needed a.bytes c.test_length.ensures)
    (went c.in_ok-test_length.was) (division_lent c.in_ok-job.ensures.job a.separators.now c.test_division.ensures))

pub returns-clause-number : goal.returns-clause-number
unfolding refused
returns-clause-number c =
    let a = c.args in
    write_plan_division (lent a.lists) a.separators.now a.bytes c.test_separators.ensures.number (went c.in_ok-job.was)
    (length_lent c.in_ok-job.ensures.job plan_needed a.bytes c.test_length.ensures)
    (went c.in_ok-test_length.was) (division_lent c.in_ok-job.ensures.job a.separators.now c.in_ok-test_division.ensures)
