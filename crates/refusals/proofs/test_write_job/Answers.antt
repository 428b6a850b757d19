-- `test_write_job` meets its contract: the start-up work as it is given, then the job, then the buffer.
use Prim.Native.Nat.{ℕ, ◌+◌, ◌*◌, ◌≤◌}
use mathlib.Core.Path.{◌≡◌}
use Rattle.std.proofs.Math.Nat.{add_assoc}
use native.Mathlib.Omega.{arith}
use Rattle.chain.specs.Limits.{max_startup, max_processors, max_tasks}
use Rattle.chain.specs.Job.{job_of, tasks, processors}
use Rattle.chain.specs.Numbers.{refused, code_of}
use Rattle.chain.specs.Refusal.{refusal}
use Rattle.parts.specs.declared.job.JobLists.{JobLists}
use Rattle.parts.specs.Lent.{lent, lent_edition}
use Rattle.refusals.specs.Inputs.{record_size, write_inputs}
use Rattle.refusals.proofs.Editions.{counts-at_most}
use Rattle.refusals.proofs.Tests.{write_job_tests, write_bytes_lem, startup_far, startup_within}
use Rattle.refusals.proofs.Exits.{stopped, went, length_lent}
use Rattle.refusals.proofs.test_write_job.Goals as goal

pub returns-then-given-gt-MAX_STARTUP-clause-number : goal.returns-then-given-gt-MAX_STARTUP-clause-number
unfolding max_startup refused code_of
returns-then-given-gt-MAX_STARTUP-clause-number c =
    let l = c.args.lists in
    startup_far (lent_edition l) l.speeds.now l.holds.now l.weights.now c.args.bytes (omega (arith, counts-at_most l.second l.startup))

-- What the tests say of the start-up work that counts they say of that which is given.
as_given : (lists : JobLists) (bytes : ℕ) {n : ℕ} → lists.startup ≤ max_startup → n ≡ refusal (lent lists) (write_inputs (lent_edition lists) (lent lists) bytes)
    → n ≡ refusal (job_of lists.startup lists.speeds.now lists.holds.now lists.weights.now) (write_inputs (lent_edition lists) (job_of lists.startup lists.speeds.now lists.holds.now lists.weights.now) bytes)
as_given l bytes h e = startup_within (lent_edition l) l.speeds.now l.holds.now l.weights.now bytes h (counts-at_most l.second l.startup) e

pub returns-in_err-job-clause-number : goal.returns-in_err-job-clause-number
unfolding max_startup
returns-in_err-job-clause-number c =
    let a = c.args in
    as_given a.lists a.bytes c.if-given-gt-MAX_STARTUP.false
    (stopped _ c.in_err-job.was c.from_residual.ensures.1 (write_job_tests (lent a.lists) (lent_edition a.lists) a.bytes c.test_all_lists.ensures.number))

pub overflow_add-records : goal.overflow_add-records
unfolding max_processors max_tasks
overflow_add-records c =
    let v = c.in_ok-job.job.valid in omega (arith, v.tasks_limit, v.processors_limit, c.head_records.ensures.upper_bound)

pub overflow_add-records-2 : goal.overflow_add-records-2
unfolding max_processors max_tasks
overflow_add-records-2 c =
    let v = c.in_ok-job.job.valid in omega (arith, v.tasks_limit, v.processors_limit, c.head_records.ensures.upper_bound)

pub overflow_mul-records : goal.overflow_mul-records
unfolding max_processors max_tasks
overflow_mul-records c =
    let v = c.in_ok-job.job.valid in omega (arith, v.tasks_limit, v.processors_limit, c.head_records.ensures.upper_bound)

pub returns-in_err-test_length-clause-number : goal.returns-in_err-test_length-clause-number
unfolding max_startup
returns-in_err-test_length-clause-number c =
    let a = c.args in
    let h = c.head_records.result in
    as_given a.lists a.bytes c.if-given-gt-MAX_STARTUP.false
    (stopped _ c.in_err-test_length.was c.from_residual-in_err-test_length.ensures.1
    (λ _. write_bytes_lem (lent a.lists) (lent_edition a.lists) a.bytes c.test_all_lists.ensures.number (went c.in_ok-job.was)
    (c.head_records.ensures.value a.lists.startup)
    (length_lent c.in_ok-job.ensures.job (λ j. record_size * (h + (tasks j + processors j))) a.bytes (rw add_assoc at c.test_length.ensures))))

pub returns-clause-number : goal.returns-clause-number
unfolding max_startup refused
returns-clause-number c =
    let a = c.args in
    let h = c.head_records.result in
    as_given a.lists a.bytes c.if-given-gt-MAX_STARTUP.false
    (write_bytes_lem (lent a.lists) (lent_edition a.lists) a.bytes c.test_all_lists.ensures.number (went c.in_ok-job.was)
    (c.head_records.ensures.value a.lists.startup)
    (length_lent c.in_ok-job.ensures.job (λ j. record_size * (h + (tasks j + processors j))) a.bytes (rw add_assoc at c.in_ok-test_length.ensures)))
