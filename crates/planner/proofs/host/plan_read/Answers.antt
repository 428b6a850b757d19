-- `plan_read` meets its contract: the tests of the buffer and of the holds, then the plan.
use mathlib.Core.Path.{refl, sym, ◌∙◌}
use native.Mathlib.Omega.{arith}
use lib.ListN.{length}
use Rattle.chain.specs.Limits.{max_processors}
use Rattle.chain.specs.Numbers.{number_of, refused}
use Rattle.chain.proofs.Numbers.{refused_err, err_nonzero}
use Rattle.parts.specs.Lent.{the}
use Rattle.refusals.specs.Inputs.{plan_needed}
use Rattle.refusals.proofs.Answering.{passed_on}
use Rattle.refusals.proofs.Exits.{went}
use Rattle.planner.proofs.Laws.{kept_tested}
use Rattle.planner.proofs.Kept.{length_passed, host_short, host_holds, host_full}
use Rattle.planner.proofs.host.plan_read.Goals as goal

pub overflow_mul-job : goal.overflow_mul-job
unfolding max_processors
overflow_mul-job c = omega (arith, c.args.job.valid.processors_limit)

pub returns-in_err-test_length : goal.returns-in_err-test_length
returns-in_err-test_length c =
    let is = passed_on c.from_residual.result c.from_residual.ensures.1 in
    let e = refused_err c.in_err-test_length.was is c.test_length.ensures in
    host_short (number_of c.args.method) (the c.args.job) c.args.plan.now e (err_nonzero is refl)

pub returns-in_err-test_kept : goal.returns-in_err-test_kept
returns-in_err-test_kept c =
    let is = passed_on c.from_residual-in_err-test_kept.result c.from_residual-in_err-test_kept.ensures.1 in
    let e = refused_err c.in_err-test_kept.was is c.test_kept.ensures in
    let m = number_of c.args.method in
    host_holds m (the c.args.job) c.args.plan.now c.test_length.ensures (went c.in_ok-test_length.was) e
    (err_nonzero is refl)

pub write_best-requires : goal.write_best-requires
write_best-requires c =
    let kept = sym c.test_kept.ensures ∙ went c.in_ok-test_kept.was in
    let needed = plan_needed (the c.args.job) in
    record {
      tested = kept_tested c.args.method c.args.job.valid kept;
      plan_room = length_passed needed (length c.args.plan.now) c.test_length.ensures (went c.in_ok-test_length.was);
    }

pub returns : goal.returns
unfolding refused
returns c =
    let m = number_of c.args.method in
    let room = went c.in_ok-test_length.was in
    host_full m (the c.args.job) c.args.plan.now c.test_length.ensures room c.in_ok-test_kept.ensures refl
    c.write_best.ensures
