-- `measure` meets its contract: the tests, then the bottleneck.
use mathlib.Core.Path.{ap, ◌∙◌}
use native.Mathlib.Omega.{arith}
use Rattle.chain.specs.Limits.{max_tasks}
use Rattle.chain.proofs.Numbers.{refused_ok}
use Rattle.parts.specs.Lent.{the, lent}
use Rattle.parts.proofs.Laws.{weights_fit}
use Rattle.parts.proofs.Lines.{sums_prefix}
use Rattle.refusals.proofs.Answering.{answer_refused}
use Rattle.refusals.proofs.Exits.{the_lent}
use Rattle.calls.specs.Answers.{measure_answer}
use Rattle.calls.proofs.Ends.{measure_front, measure_accepted}
use Rattle.calls.proofs.measure.Goals as goal

pub returns-in_err-job : goal.returns-in_err-job
unfolding measure_answer
returns-in_err-job c =
    let q = c.from_residual in
    answer_refused q.result _ c.in_err-job.was q.ensures.1 c.test_measure.ensures.number

pub prefix_sums-requires : goal.prefix_sums-requires
unfolding max_tasks
prefix_sums-requires c =
    let v = c.in_ok-job.job.valid in
    record { weights_bound = weights_fit v; weights_in_bounds = omega (arith, v.tasks_limit) }

pub new-requires : goal.new-requires
new-requires c = sums_prefix _ c.prefix_sums.ensures

pub measure_in-requires : goal.measure_in-requires
measure_in-requires c =
    let same = ap the c.new.ensures.0 ∙ the_lent c.in_ok-job.ensures.job in
    record {
      partition = measure_front (lent c.args.lists) c.args.separators.now same
          (refused_ok c.in_ok-job.was c.test_measure.ensures.number);
    }

pub returns : goal.returns
returns c =
    let same = ap the c.new.ensures.0 ∙ the_lent c.in_ok-job.ensures.job in
    measure_accepted (lent c.args.lists) c.args.separators.now same
    (refused_ok c.in_ok-job.was c.test_measure.ensures.number) c.measure_in.ensures.of_front
