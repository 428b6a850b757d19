-- `heuristic` meets its contract: the tests, then the separators and their bottleneck.
use mathlib.Core.Path.{ap, ◌∙◌}
use native.Mathlib.Omega.{arith}
use Rattle.chain.specs.Limits.{max_tasks}
use Rattle.chain.specs.Job.{bottleneck}
use Rattle.chain.specs.Heuristic.{heuristic}
use Rattle.chain.proofs.Numbers.{refused_ok}
use Rattle.parts.specs.Lent.{the, lent}
use Rattle.parts.proofs.Laws.{weights_fit}
use Rattle.parts.proofs.Lines.{sums_prefix}
use Rattle.refusals.proofs.Answering.{wrote_refused}
use Rattle.refusals.proofs.Exits.{the_lent}
use Rattle.calls.specs.Answers.{heuristic_answer, heuristic_writes}
use Rattle.calls.proofs.Ends.{heuristic_room, heuristic_front, heuristic_accepted}
use Rattle.calls.proofs.heuristic.Goals as goal

pub returns-in_err-job : goal.returns-in_err-job
unfolding heuristic_answer heuristic_writes
returns-in_err-job c =
    let job = lent c.args.lists in
    let q = c.from_residual in
    let wrote = wrote_refused (bottleneck job (heuristic job)) (heuristic job) c.args.separators.now q.result in
    let h = wrote c.in_err-job.was q.ensures.1 c.test_heuristic.ensures.number in
    record { answer = h.0; separators = h.1 }

pub prefix_sums-requires : goal.prefix_sums-requires
unfolding max_tasks
prefix_sums-requires c =
    let v = c.in_ok-job.job.valid in
    record { weights_bound = weights_fit v; weights_in_bounds = omega (arith, v.tasks_limit) }

pub new-line-requires : goal.new-line-requires
new-line-requires c = sums_prefix _ c.prefix_sums.ensures

pub heuristic_in-requires : goal.heuristic_in-requires
heuristic_in-requires c =
    let same = ap the c.new-line.ensures.0 ∙ the_lent c.in_ok-job.ensures.job in
    let z = refused_ok c.in_ok-job.was c.test_heuristic.ensures.number in
    record { room = heuristic_room (lent c.args.lists) c.args.separators.now same z }

pub measure_in-requires : goal.measure_in-requires
measure_in-requires c =
    let same = ap the c.new-line.ensures.0 ∙ the_lent c.in_ok-job.ensures.job in
    let z = refused_ok c.in_ok-job.was c.test_heuristic.ensures.number in
    record { partition = heuristic_front (lent c.args.lists) c.args.separators.now same z c.heuristic_in.ensures }

pub returns : goal.returns
returns c =
    let same = ap the c.new-line.ensures.0 ∙ the_lent c.in_ok-job.ensures.job in
    let z = refused_ok c.in_ok-job.was c.test_heuristic.ensures.number in
    let b = c.measure_in.ensures.of_front in
    let h = heuristic_accepted (lent c.args.lists) c.args.separators.now same z c.heuristic_in.ensures b in
    record { answer = h.0; separators = h.1 }
