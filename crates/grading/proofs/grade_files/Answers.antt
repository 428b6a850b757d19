-- `grade_files` meets its contract: the job file, the buffer, then the plan file.
use Prim.Native.Nat.{ℕ, zero, ◌≤◌}
use mathlib.Core.Path.{ap, ◌∙◌}
use native.Mathlib.Omega.{arith}
use lib.ListN.{length, replicate, length-replicate}
use Rattle.chain.specs.Limits.{max_processors, max_tasks}
use Rattle.chain.specs.Job.{Job}
use Rattle.refusals.proofs.Exits.{went}
use Rattle.jobs.proofs.Taken.{read_taken, read_rejected, taken_valid, taken_the}
use Rattle.grading.specs.Answers.{plan_grade}
use Rattle.grading.proofs.Answering.{files_refused, room_refused, files_graded}
use Rattle.grading.proofs.grade_files.Goals as goal

pub returns-in_err-read : goal.returns-in_err-read
unfolding max_processors max_tasks
returns-in_err-read c =
    let a = c.args in
    let p : max_processors ≤ length {A = ℕ} (replicate max_processors 0) = omega (arith, length-replicate max_processors zero) in
    let n : max_tasks ≤ length {A = ℕ} (replicate max_tasks 0) = omega (arith, length-replicate max_tasks zero) in
    let f = read_rejected a.job.now (replicate max_processors 0) (replicate max_processors 0) (replicate max_tasks 0) p p n c.read_job.ensures.answer in
    files_refused a.job.now a.plan.now a.lent c.from_residual.result c.in_err-read.was c.from_residual.ensures.1 f

pub returns-in_err-test_length : goal.returns-in_err-test_length
returns-in_err-test_length c =
    let a = c.args in
    let r = c.read_job.ensures in
    let w = read_taken a.job.now _ _ _ r.answer c.in_ok-read.was r.speeds r.holds r.weights in
    let q = c.from_residual-in_err-test_length in
    room_refused a.job.now a.plan.now a.lent w.accepted q.result c.in_err-test_length.was q.ensures.1 c.test_length.ensures

pub job-requires : goal.job-requires
job-requires c =
    let r = c.read_job.ensures in
    let w = read_taken c.args.job.now _ _ _ r.answer c.in_ok-read.was r.speeds r.holds r.weights in
    record { speeds = w.few_speeds; holds = w.few_holds; weights = w.few_weights; valid = taken_valid w }

pub returns : goal.returns
returns c =
    let a = c.args in
    let r = c.read_job.ensures in
    let w = read_taken a.job.now _ _ _ r.answer c.in_ok-read.was r.speeds r.holds r.weights in
    files_graded a.job.now a.plan.now a.lent w.accepted c.test_length.ensures (went c.in_ok-test_length.was)
    (c.grade_in.ensures ∙ ap (λ (job : Job). plan_grade job a.plan.now) (taken_the w c.job.result c.job.ensures.job))
