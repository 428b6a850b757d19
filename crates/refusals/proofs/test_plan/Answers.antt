-- `test_plan` meets its contract: the job and the list of separators, then the work numbers, then the holds.
use Prim.Native.Nat.{◌+◌, ◌*◌}
use native.Mathlib.Omega.{arith}
use Rattle.chain.specs.Limits.{max_tasks}
use Rattle.chain.specs.Job.{tasks}
use Rattle.chain.specs.Numbers.{refused}
use Rattle.parts.specs.Lent.{lent}
use Rattle.refusals.specs.Inputs.{scratch_lists}
use Rattle.refusals.proofs.Tests.{plan_list, plan_scratch, plan_holds}
use Rattle.refusals.proofs.Exits.{stopped, went, enough_lent, length_lent}
use Rattle.refusals.proofs.test_plan.Goals as goal

pub returns-in_err-job-clause-number : goal.returns-in_err-job-clause-number
returns-in_err-job-clause-number c =
    let a = c.args in
    stopped _ c.in_err-job.was c.from_residual.ensures.1 (plan_list (lent a.lists) a.separators a.scratch c.test_separators.ensures.number)

pub overflow_add-job : goal.overflow_add-job
unfolding max_tasks
overflow_add-job c = omega (arith, c.in_ok-job.job.valid.tasks_limit)

pub overflow_mul-job : goal.overflow_mul-job
unfolding max_tasks
overflow_mul-job c = omega (arith, c.in_ok-job.job.valid.tasks_limit)

pub returns-in_err-test_length-clause-number : goal.returns-in_err-test_length-clause-number
returns-in_err-test_length-clause-number c =
    let a = c.args in
    stopped _ c.in_err-test_length.was c.from_residual-in_err-test_length.ensures.1
    (plan_scratch (lent a.lists) a.separators a.scratch c.test_separators.ensures.number (went c.in_ok-job.was)
    (length_lent c.in_ok-job.ensures.job (λ j. scratch_lists * (tasks j + 1)) a.scratch c.test_length.ensures))

pub returns-in_err-test_enough-clause-number : goal.returns-in_err-test_enough-clause-number
returns-in_err-test_enough-clause-number c =
    let a = c.args in
    stopped _ c.in_err-test_enough.was c.from_residual-in_err-test_enough.ensures.1
    (λ _. plan_holds (lent a.lists) a.separators a.scratch c.test_separators.ensures.number (went c.in_ok-job.was)
    (length_lent c.in_ok-job.ensures.job (λ j. scratch_lists * (tasks j + 1)) a.scratch c.test_length.ensures)
    (went c.in_ok-test_length.was) (enough_lent c.in_ok-job.ensures.job c.test_enough.ensures))

pub returns-clause-number : goal.returns-clause-number
unfolding refused
returns-clause-number c =
    let a = c.args in
    plan_holds (lent a.lists) a.separators a.scratch c.test_separators.ensures.number (went c.in_ok-job.was)
    (length_lent c.in_ok-job.ensures.job (λ j. scratch_lists * (tasks j + 1)) a.scratch c.test_length.ensures)
    (went c.in_ok-test_length.was) (enough_lent c.in_ok-job.ensures.job c.in_ok-test_enough.ensures)
