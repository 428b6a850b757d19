-- `write_job` meets its contract: the tests, then the record in front, then the records of both kinds.
use mathlib.Core.Path.{refl}
use native.Mathlib.Omega.{arith}
use lib.ListN.{length, get_or}
use Rattle.chain.specs.Limits.{max_processors, max_tasks}
use Rattle.parts.specs.Lent.{the, edition, lent, lent_edition}
use Rattle.jobs.specs.Kinds.{kind_number}
use Rattle.jobs.proofs.Writing.{counted_number, counted_lent, given_holds, write_refused, write_both, write_room, write_none, write_lent}
use Rattle.jobs.proofs.write_job.Goals as goal

pub returns-in_err-job : goal.returns-in_err-job
returns-in_err-job c =
    let h = write_refused (lent_edition c.args.lists) (lent c.args.lists) c.args.file.now c.from_residual.result c.in_err-job.was
    c.from_residual.ensures.1 (counted_number c.args.lists c.effective-startup.ensures (length c.args.file.now) c.test_write_job.ensures.number) in
    record { answer = h.0; bytes = h.1 }

pub put_head-requires : goal.put_head-requires
put_head-requires c =
    omega (arith, write_room (counted_lent c.args.lists c.effective-startup.ensures c.in_ok-job.ensures.job) (length c.args.file.now) (counted_number c.args.lists c.effective-startup.ensures (length c.args.file.now) c.in_ok-job.ensures.number))

pub put_records-requires-clause-room : goal.put_records-requires-clause-room
put_records-requires-clause-room c =
    omega (arith, write_room (counted_lent c.args.lists c.effective-startup.ensures c.in_ok-job.ensures.job) (length c.args.file.now) (counted_number c.args.lists c.effective-startup.ensures (length c.args.file.now) c.in_ok-job.ensures.number), c.head_records-head.ensures.value c.in_ok-job.job.startup)

pub put_records-requires-2-clause-room : goal.put_records-requires-2-clause-room
put_records-requires-2-clause-room c =
    omega (arith, write_room (counted_lent c.args.lists c.effective-startup.ensures c.in_ok-job.ensures.job) (length c.args.file.now) (counted_number c.args.lists c.effective-startup.ensures (length c.args.file.now) c.in_ok-job.ensures.number), c.head_records-head.ensures.value c.in_ok-job.job.startup)

pub overflow_add-result : goal.overflow_add-result
unfolding max_processors max_tasks
overflow_add-result c = omega (arith, c.in_ok-job.job.valid.tasks_limit, c.in_ok-job.job.valid.processors_limit, c.head_records-head.ensures.upper_bound)

pub overflow_add-result-2 : goal.overflow_add-result-2
unfolding max_processors max_tasks
overflow_add-result-2 c = omega (arith, c.in_ok-job.job.valid.tasks_limit, c.in_ok-job.job.valid.processors_limit, c.head_records-head.ensures.upper_bound)

pub overflow_mul-result : goal.overflow_mul-result
unfolding max_processors max_tasks
overflow_mul-result c = omega (arith, c.in_ok-job.job.valid.tasks_limit, c.in_ok-job.job.valid.processors_limit, c.head_records-head.ensures.upper_bound)

pub returns : goal.returns
unfolding kind_number
returns c =
    let job = c.in_ok-job.job in
    let h = write_lent (counted_lent c.args.lists c.effective-startup.ensures c.in_ok-job.ensures.job) c.args.file.now c.put_records-2.new.file _
    (write_both (edition job) (the job) c.args.file.now (c.head_records-head.ensures.value job.startup) c.put_head.ensures
    (λ p. get_or job.holds.now p 0) (λ p. 0) (given_holds job.startup job.speeds.now job.holds.now job.weights.now) (λ p. refl)
    c.put_records.ensures c.put_records-2.ensures (write_none (counted_lent c.args.lists c.effective-startup.ensures c.in_ok-job.ensures.job) (length c.args.file.now) (counted_number c.args.lists c.effective-startup.ensures (length c.args.file.now) c.in_ok-job.ensures.number))) in
    record { answer = h.0; bytes = h.1 }
