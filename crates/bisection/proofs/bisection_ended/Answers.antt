-- `bisection_ended` meets its contract, by what the trial at the ideal answers.
use Prim.Native.Nat.{suc}
use mathlib.Core.Path.{subst, sym, ap, ◌∙◌}
use lib.Dec.{T}
use mathlib.Core.Bool.{not}
use Rattle.bound.specs.declared.Bound.{Bound}
use Rattle.chain.specs.Ranges.{Lendable}
use Rattle.chain.specs.Job.{Job, processors}
use Rattle.chain.specs.Probe.{walk, fits, next_bid}
use Rattle.chain.proofs.Ranges.{ideal_lendable}
use Rattle.chain.proofs.Parts.{valid_proper}
use Rattle.chain.proofs.Walk.{walk_partition}
use Rattle.parts.specs.Lent.{the}
use Rattle.parts.proofs.Front.{kept_start, kept_trans, kept_written, front_partition, front-bottleneck}
use Rattle.probe.proofs.Answer.{walk_count, fits_outcome, fails_outcome}
use Rattle.bisection.proofs.Laws.{ended_at_once, ideal_plan}
use Rattle.bisection.proofs.bisection_ended.Goals as goal

pub probe_in-requires-clause-lendable : goal.probe_in-requires-clause-lendable
probe_in-requires-clause-lendable c = subst Lendable (sym c.ideal_of-bound.ensures) (ideal_lendable c.args.line.now.job.valid)

pub measure_in-requires : goal.measure_in-requires
measure_in-requires c =
    let job : Job = the c.args.line.now.job in
    let I : Bound = c.ideal_of-bound.result in
    let f = (fits_outcome job I (sym c.in-Fits.ensures.value)).0 in
    record { partition = front_partition (walk job I) _ (walk_partition (valid_proper c.args.line.now.job.valid) I f) c.in-Fits.ensures.separators }

pub bisect-requires-clause-rejected : goal.bisect-requires-clause-rejected
bisect-requires-clause-rejected c =
    let job : Job = the c.args.line.now.job in
    let f = fails_outcome job c.ideal_of-bound.result (sym c.in-Fails.ensures.value) in
    record {
      failed = subst (λ (B : Bound). T (not (fits job B))) c.ideal_of-bound.ensures f.0;
      bids = f.1 ∙ ap (next_bid job) c.ideal_of-bound.ensures;
    }

pub returns-in-Fits : goal.returns-in-Fits
returns-in-Fits c =
    let job : Job = the c.args.line.now.job in
    let v = c.args.line.now.job.valid in
    let I : Bound = c.ideal_of-bound.result in
    let f = (fits_outcome job I (sym c.in-Fits.ensures.value)).0 in
    let w = c.in-Fits.ensures.separators in
    let m = front-bottleneck (walk job I) _ (walk_partition (valid_proper v) I f) w c.measure_in.ensures.of_front in
    record {
      bisection_ends = ended_at_once c.ideal_of-bound.ensures f;
      lendable = subst Lendable (sym c.ideal_of-bound.ensures) (ideal_lendable v);
      kept_from = kept_written (walk job I) _ (kept_start (suc (processors job)) c.args.separators.now) c.requires.room (walk_count v I) w;
      closed = ideal_plan v _ c.requires.enough c.ideal_of-bound.ensures f w m;
    }

pub returns-in-Fails-clause-kept_from : goal.returns-in-Fails-clause-kept_from
returns-in-Fails-clause-kept_from c =
    let job : Job = the c.args.line.now.job in
    let I : Bound = c.ideal_of-bound.result in
    let b = kept_start (suc (processors job)) c.args.separators.now in
    kept_trans (kept_written (walk job I) _ b c.requires.room (walk_count c.args.line.now.job.valid I) c.in-Fails.ensures.separators) c.bisect.ensures.kept_from
