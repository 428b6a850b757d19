-- `plan_sized` meets its contract: the file, then the buffer, the holds and the plan.
use Prim.Native.Nat.{zero}
use mathlib.Core.Path.{refl}
use native.Mathlib.Omega.{arith}
use lib.ListN.{replicate, length-replicate}
use Rattle.chain.specs.Limits.{max_processors}
use Rattle.chain.specs.Numbers.{number_of}
use Rattle.chain.proofs.Numbers.{refused_err, err_nonzero}
use Rattle.refusals.proofs.Answering.{passed_on}
use Rattle.jobs.proofs.Taken.{read_taken, read_refused, taken_valid, taken_the}
use Rattle.planner.proofs.Reading.{file_stays, file_done}
use Rattle.planner.proofs.host.plan_sized.Goals as goal

pub whole_as_slice-read_job : goal.whole_as_slice-read_job
whole_as_slice-read_job g c = omega (arith, c.requires.small)

pub shared_whole_as_slice-job : goal.shared_whole_as_slice-job
shared_whole_as_slice-job g c = omega (arith, c.requires.small)

pub returns-in_err-read : goal.returns-in_err-read
unfolding max_processors
returns-in_err-read g c =
    let a = c.args in
    let is = passed_on c.from_residual.result c.from_residual.ensures.1 in
    let some = length-replicate max_processors zero in
    let file =
    read_refused a.file.now (replicate max_processors 0) (replicate max_processors 0) (replicate g.row.N 0)
    (omega (arith, some)) (omega (arith, some))
    (λ z. omega (arith, length-replicate g.row.N zero, c.requires.weights_room z)) c.read_job.ensures.answer
    in
    let h = file_stays a.file.now a.plan.now (number_of a.method) (refused_err c.in_err-read.was is file)
    (err_nonzero is refl) in
    record { answer = h.0; bytes = h.1 }

pub job-requires : goal.job-requires
job-requires g c =
    let r = c.read_job.ensures in
    let w = read_taken c.args.file.now _ _ _ r.answer c.in_ok-read.was r.speeds r.holds r.weights in
    record { speeds = w.few_speeds; holds = w.few_holds; weights = w.few_weights; valid = taken_valid w }

pub returns : goal.returns
returns g c =
    let r = c.read_job.ensures in
    let w = read_taken c.args.file.now _ _ _ r.answer c.in_ok-read.was r.speeds r.holds r.weights in
    let h = file_done c.args.file.now w.accepted (taken_the w c.job.result c.job.ensures.job) c.plan_read.ensures in
    record { answer = h.0; bytes = h.1 }
