-- `write_best` meets its contract: the work numbers are enough for the method.
use native.Mathlib.Omega.{arith}
use Rattle.chain.specs.Limits.{max_tasks}
use Rattle.planner.proofs.host.write_best.Goals as goal

pub write_with-requires-clause-sums_room : goal.write_with-requires-clause-sums_room
unfolding max_tasks
write_with-requires-clause-sums_room c = omega (arith, c.args.job.valid.tasks_limit)

pub write_with-requires-clause-rows_room : goal.write_with-requires-clause-rows_room
unfolding max_tasks
write_with-requires-clause-rows_room c = λ _. omega (arith, c.args.job.valid.tasks_limit)

pub write_with-requires-else-job-lt-FEW-clause-sums_room : goal.write_with-requires-else-job-lt-FEW-clause-sums_room
unfolding max_tasks
write_with-requires-else-job-lt-FEW-clause-sums_room c = omega (arith, c.args.job.valid.tasks_limit)
