-- `halving` meets its contract: the tests, then the separators and their bottleneck.
use mathlib.Core.Path.{ap, ◌∙◌}
use native.Mathlib.Omega.{arith}
use Rattle.chain.specs.Limits.{max_tasks}
use Rattle.chain.specs.Job.{bottleneck}
use Rattle.chain.specs.Halving.{halving}
use Rattle.chain.proofs.Numbers.{refused_ok}
use Rattle.parts.specs.Lent.{the, lent}
use Rattle.parts.proofs.Laws.{weights_fit}
use Rattle.parts.proofs.Lines.{sums_prefix}
use Rattle.refusals.proofs.Answering.{wrote_refused}
use Rattle.refusals.proofs.Exits.{the_lent}
use Rattle.calls.specs.Answers.{halving_answer, halving_writes}
use Rattle.calls.proofs.Ends.{halving_room, halving_row, halving_front, halving_accepted}
use Rattle.calls.proofs.halving.Goals as goal

pub returns-in_err-job : goal.returns-in_err-job
unfolding halving_answer halving_writes
returns-in_err-job c =
    let job = lent c.args.lists in
    let q = c.from_residual in
    let wrote = wrote_refused (bottleneck job (halving job)) (halving job) c.args.separators.now q.result in
    let h = wrote c.in_err-job.was q.ensures.1 c.test_halving.ensures.number in
    record { answer = h.0; separators = h.1 }

pub prefix_sums-requires : goal.prefix_sums-requires
unfolding max_tasks
prefix_sums-requires c =
    let v = c.in_ok-job.job.valid in
    record { weights_bound = weights_fit v; weights_in_bounds = omega (arith, v.tasks_limit) }

pub new-line-requires : goal.new-line-requires
new-line-requires c = sums_prefix _ c.prefix_sums.ensures

pub halving_in-requires : goal.halving_in-requires
halving_in-requires c =
    let same = ap the c.new-line.ensures.0 ∙ the_lent c.in_ok-job.ensures.job in
    let z = refused_ok c.in_ok-job.was c.test_halving.ensures.number in
    record {
      halvable = halving_row (lent c.args.lists) c.args.separators.now same z;
      room = halving_room
          (lent c.args.lists) c.args.separators.now same z;
    }

pub measure_in-requires : goal.measure_in-requires
measure_in-requires c =
    let same = ap the c.new-line.ensures.0 ∙ the_lent c.in_ok-job.ensures.job in
    let z = refused_ok c.in_ok-job.was c.test_halving.ensures.number in
    record { partition = halving_front (lent c.args.lists) c.args.separators.now same z c.halving_in.ensures }

pub returns : goal.returns
returns c =
    let same = ap the c.new-line.ensures.0 ∙ the_lent c.in_ok-job.ensures.job in
    let z = refused_ok c.in_ok-job.was c.test_halving.ensures.number in
    let b = c.measure_in.ensures.of_front in
    let h = halving_accepted (lent c.args.lists) c.args.separators.now same z c.halving_in.ensures b in
    record { answer = h.0; separators = h.1 }
