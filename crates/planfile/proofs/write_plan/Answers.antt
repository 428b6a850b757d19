-- `write_plan` meets its contract: the tests, the prefix sums, then the records.
use native.Mathlib.Omega.{arith}
use lib.ListN.{length}
use Rattle.chain.specs.Limits.{max_processors, max_tasks}
use Rattle.parts.specs.Lent.{lent}
use Rattle.parts.proofs.Laws.{weights_fit}
use Rattle.parts.proofs.Lines.{sums_prefix}
use Rattle.planfile.proofs.Writing.{write_refused, line_partition, line_room, write_lent}
use Rattle.planfile.proofs.write_plan.Goals as goal

pub returns-in_err-job : goal.returns-in_err-job
returns-in_err-job c =
    let h = write_refused (lent c.args.lists) c.args.separators.now c.args.plan.now c.from_residual.result c.in_err-job.was
    c.from_residual.ensures.1 c.test_write_plan.ensures.number in
    record { answer = h.0; bytes = h.1 }

pub prefix_sums-requires : goal.prefix_sums-requires
unfolding max_tasks
prefix_sums-requires c =
    record { weights_bound = weights_fit c.in_ok-job.job.valid; weights_in_bounds = omega (arith, c.in_ok-job.job.valid.tasks_limit) }

pub new-requires : goal.new-requires
new-requires c = sums_prefix _ c.prefix_sums.ensures

pub put_plan-requires : goal.put_plan-requires
put_plan-requires c =
    let n = length c.args.plan.now in
    record {
      partition = line_partition c.in_ok-job.ensures.job c.args.separators.now n c.in_ok-job.ensures.number c.new.result.job c.new.ensures.0;
      room = line_room c.in_ok-job.ensures.job c.args.separators.now n c.in_ok-job.ensures.number c.new.result.job c.new.ensures.0;
    }

pub overflow_mul-result : goal.overflow_mul-result
unfolding max_processors
overflow_mul-result c = omega (arith, c.in_ok-job.job.valid.processors_limit)

pub returns : goal.returns
returns c =
    let h = write_lent c.in_ok-job.ensures.job c.args.separators.now c.args.plan.now c.in_ok-job.ensures.number c.new.result.job c.new.ensures.0
    c.put_plan.ensures in
    record { answer = h.0; bytes = h.1 }
