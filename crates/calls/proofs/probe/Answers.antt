-- `probe` meets its contract: the tests, then the probe.
use mathlib.Core.Path.{ap, ◌∙◌}
use native.Mathlib.Omega.{arith}
use Rattle.chain.specs.Limits.{max_tasks}
use Rattle.chain.specs.Probe.{walked, probe}
use Rattle.chain.proofs.Numbers.{refused_ok}
use Rattle.refusals.proofs.Accepted.{accepted}
use Rattle.parts.specs.Lent.{the, lent}
use Rattle.parts.proofs.Laws.{weights_fit}
use Rattle.parts.proofs.Lines.{sums_prefix}
use Rattle.refusals.proofs.Answering.{wrote_refused}
use Rattle.refusals.proofs.Exits.{the_lent}
use Rattle.calls.specs.Answers.{probe_answer, probe_writes}
use Rattle.calls.proofs.Ends.{probe_room, probe_accepted}
use Rattle.calls.proofs.probe.Goals as goal

pub returns-in_err-job : goal.returns-in_err-job
unfolding probe_answer probe_writes
returns-in_err-job c =
    let job = lent c.args.lists in
    let q = c.from_residual in
    let wrote = wrote_refused (probe job c.args.bound) (walked job c.args.bound) c.args.separators.now q.result in
    let h = wrote c.in_err-job.was q.ensures.1 c.test_probe.ensures.number in
    record { answer = h.0; separators = h.1 }

pub prefix_sums-requires : goal.prefix_sums-requires
unfolding max_tasks
prefix_sums-requires c =
    let v = c.in_ok-job.job.valid in
    record { weights_bound = weights_fit v; weights_in_bounds = omega (arith, v.tasks_limit) }

pub new-requires : goal.new-requires
new-requires c = sums_prefix _ c.prefix_sums.ensures

pub walked_in-requires : goal.walked_in-requires
walked_in-requires c =
    let same = ap the c.new.ensures.0 ∙ the_lent c.in_ok-job.ensures.job in
    let z = refused_ok c.in_ok-job.was c.test_probe.ensures.number in
    record {
      lendable = (accepted z).bounds.0;
      room = probe_room (lent c.args.lists) c.args.separators.now same c.args.bound z;
    }

pub returns : goal.returns
returns c =
    let same = ap the c.new.ensures.0 ∙ the_lent c.in_ok-job.ensures.job in
    let z = refused_ok c.in_ok-job.was c.test_probe.ensures.number in
    let w = c.walked_in.ensures in
    let h = probe_accepted (lent c.args.lists) c.args.separators.now same c.args.bound z w.value w.separators in
    record { answer = h.0; separators = h.1 }
