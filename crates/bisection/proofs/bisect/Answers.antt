-- `bisect` meets its contract: the loop keeps `Halved`, and that the walk of the last fit stands in the list.
use Prim.Native.Nat.{suc}
use mathlib.Core.Path.{sym, ◌∙◌}
use native.Mathlib.Omega.{arith}
use Rattle.bound.proofs.Order.{true_le}
use Rattle.chain.specs.Limits.{max_processors}
use Rattle.chain.specs.Job.{processors}
use Rattle.chain.proofs.Parts.{valid_plannable}
use Rattle.chain.proofs.Ranges.{small_lendable, small_products}
use Rattle.parts.specs.Lent.{the}
use Rattle.parts.proofs.Front.{kept_start, kept_trans}
use Rattle.bisection.proofs.Laws.{halved_start, halved_room, halved_next, halved_end, halved_least, rounds_fit, fit_plan, closed_by}
use Rattle.bisection.proofs.bisect.Goals as goal

pub copy_front-requires : goal.copy_front-requires
unfolding max_processors
copy_front-requires c =
    (omega (arith, c.requires.room), omega (arith, c.args.line.now.job.valid.processors_limit))

pub loop-failed-init : goal.loop-failed-init
unfolding max_processors
loop-failed-init c =
    record {
      halved = halved_start c.args.line.now.job.valid c.requires.enough c.requires.rejected.failed c.requires.rejected.bids c.first_high-high.ensures.value;
      kept = kept_start (suc (processors (the c.args.line.now.job))) _;
      room = omega (arith, c.requires.room, c.first_high-high.ensures.kept_from.same);
      fitted = tt;
      failed_length = c.copy_front.auto.to;
      trial_length = c.copy_front-2.auto.to;
    }

pub at_most-requires : goal.at_most-requires
at_most-requires c =
    let h = c.loop-failed.invariant.halved in
    search (small_products, h.high_small, h.low_small)

pub overflow_add-rounds : goal.overflow_add-rounds
overflow_add-rounds c =
    omega (arith, rounds_fit c.loop-failed.rounds c.args.line.now.job.valid c.requires.enough c.loop-failed.invariant.halved)

pub loop-failed-smaller : goal.loop-failed-smaller
loop-failed-smaller c =
    omega (arith, halved_room c.args.line.now.job.valid c.requires.enough c.loop-failed.invariant.halved (sym c.if-at_most.ensures))

pub loop-failed-preserved : goal.loop-failed-preserved
loop-failed-preserved c =
    let i = c.loop-failed.invariant in
    let r = c.next_round-round in
    record {
      halved = halved_next c.args.line.now.job.valid c.requires.enough i.halved r.result.ends (sym c.if-at_most.ensures) r.ensures.ends;
      kept = kept_trans i.kept r.ensures.kept_from;
      room = omega (arith, i.room, r.ensures.kept_from.same);
      fitted = r.ensures.fitted;
      failed_length = r.auto.failed ∙ i.failed_length;
      trial_length = r.auto.trial ∙ i.trial_length;
    }

pub overflow_add-result : goal.overflow_add-result
overflow_add-result c = omega (arith, rounds_fit c.loop-failed.rounds c.args.line.now.job.valid c.requires.enough c.loop-failed.invariant.halved)

pub returns : goal.returns
returns c =
    let v = c.args.line.now.job.valid in
    let enough = c.requires.enough in
    let i = c.loop-failed.invariant in
    let m = sym c.if-at_most.ensures in
    record {
      bisection_ends = halved_end v enough i.halved m (omega arith);
      lendable = small_lendable i.halved.low_small;
      kept_from = kept_trans c.first_high-high.ensures.kept_from i.kept;
      closed =
          closed_by c.loop-failed.fitted i.fitted
          (fit_plan (valid_plannable v enough) (halved_least v enough i.halved m) (true_le m));
    }
