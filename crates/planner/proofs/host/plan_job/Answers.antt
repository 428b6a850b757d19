-- `plan_job` meets its contract: the method, then the plan by it.
use mathlib.Core.Path.{refl, sym, ap, ◌∙◌}
use native.Mathlib.Omega.{arith}
use lib.ListN.{length}
use Rattle.chain.specs.Limits.{max_tasks}
use Rattle.chain.specs.Numbers.{refused}
use Rattle.chain.proofs.Numbers.{refused_err, err_nonzero}
use Rattle.refusals.proofs.Answering.{passed_on}
use Rattle.jobs.specs.JobFile.{task_kind}
use Rattle.jobs.specs.Parse.{record_count, value_at, weights_of}
use Rattle.jobs.proofs.AllRecords.{standing-few}
use Rattle.jobs.proofs.RoundTrip.{accepted_valid}
use Rattle.planner.specs.HostCall.{host_writes}
use Rattle.planner.proofs.Reading.{host_unknown, host_done, bytes_stay}
use Rattle.planner.proofs.host.plan_job.Goals as goal

pub returns-in_err-method : goal.returns-in_err-method
unfolding host_writes
returns-in_err-method c =
    let a = c.args in
    let is = passed_on c.from_residual.result c.from_residual.ensures.1 in
    let unknown = refused_err c.in_err-method.was is (ap refused c.try_from.ensures) in
    let e = host_unknown a.job.now a.method (length a.plan.now) (sym unknown) (err_nonzero is refl) in
    record { answer = e; bytes = bytes_stay a.job.now a.plan.now e (err_nonzero is refl) }

pub plan_sized-requires : goal.plan_sized-requires
unfolding weights_of
plan_sized-requires c =
    let file = c.args.job.now in
    let few = standing-few file (value_at file) task_kind (record_count file) in
    record { small = omega arith; weights_room = λ _. omega (arith, few) }

pub returns-then-job-le-FEW : goal.returns-then-job-le-FEW
returns-then-job-le-FEW c =
    let known = sym c.try_from.ensures ∙ c.in_ok-method.was in
    let p = c.plan_sized.ensures in
    let h = host_done c.args.job.now c.args.plan.now c.args.method known p.answer p.bytes in
    record { answer = h.0; bytes = h.1 }

pub plan_sized-requires-2 : goal.plan_sized-requires-2
unfolding max_tasks
plan_sized-requires-2 c =
    record { small = omega arith; weights_room = λ z. (accepted_valid c.args.job.now z).tasks_limit }

pub returns : goal.returns
returns c =
    let known = sym c.try_from.ensures ∙ c.in_ok-method.was in
    let p = c.plan_sized-2.ensures in
    let h = host_done c.args.job.now c.args.plan.now c.args.method known p.answer p.bytes in
    record { answer = h.0; bytes = h.1 }
