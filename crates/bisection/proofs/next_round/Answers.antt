-- `next_round` meets its contract, by what the trial at the middle answers.
use Prim.Native.Nat.{suc}
use mathlib.Core.Path.{refl, subst, sym}
use Rattle.bound.specs.declared.Bound.{Bound}
use Rattle.chain.specs.Ranges.{Lendable}
use Rattle.chain.specs.Job.{Job, processors}
use Rattle.chain.specs.Probe.{walk}
use Rattle.chain.proofs.Parts.{valid_proper}
use Rattle.chain.proofs.Walk.{walk_partition}
use Rattle.chain.proofs.Ranges.{middle_products, middle_lendable}
use Rattle.parts.specs.Lent.{the}
use Rattle.parts.proofs.Front.{kept_start, kept_written, front_partition, front-bottleneck}
use Rattle.probe.proofs.Answer.{walk_count, fits_outcome, fails_outcome}
use Rattle.bisection.proofs.Laws.{round_fits, round_fails, copied_walk, fit_stands}
use Rattle.bisection.proofs.next_round.Goals as goal

pub midpoint-middle-requires : goal.midpoint-middle-requires
midpoint-middle-requires c =
    let fits = middle_products c.requires.small.0 c.requires.small.1 in
    record { load_fits = fits.0; speed_fits = fits.1 }

pub probe_in-requires-clause-lendable : goal.probe_in-requires-clause-lendable
probe_in-requires-clause-lendable c =
    subst Lendable (sym c.midpoint-middle.ensures) (middle_lendable c.requires.small.0 c.requires.small.1)

pub measure_in-least-requires : goal.measure_in-least-requires
measure_in-least-requires c =
    let job : Job = the c.args.line.now.job in
    let v = c.args.line.now.job.valid in
    let M : Bound = c.midpoint-middle.result in
    let f = (fits_outcome job M (sym c.in-Fits.ensures.value)).0 in
    let w = copied_walk v M _ c.args.separators.now c.in-Fits.ensures.separators c.copy_front.ensures in
    record { partition = front_partition (walk job M) _ (walk_partition (valid_proper v) M f) w }

pub returns-in-Fits : goal.returns-in-Fits
returns-in-Fits c =
    let job : Job = the c.args.line.now.job in
    let v = c.args.line.now.job.valid in
    let M : Bound = c.midpoint-middle.result in
    let f = (fits_outcome job M (sym c.in-Fits.ensures.value)).0 in
    let w = copied_walk v M _ c.args.separators.now c.in-Fits.ensures.separators c.copy_front.ensures in
    let b = front-bottleneck (walk job M) _ (walk_partition (valid_proper v) M f) w c.measure_in-least.ensures.of_front in
    record {
      ends = round_fits job c.args.round.ends.low c.args.round.ends.high c.midpoint-middle.ensures f b;
      fitted = (refl, fit_stands v M _ f w b);
      kept_from = kept_written (walk job M) _ (kept_start (suc (processors job)) c.args.separators.now) c.requires.room (walk_count v M) w;
    }

pub returns-in-Fails-clause-ends : goal.returns-in-Fails-clause-ends
returns-in-Fails-clause-ends c =
    let job : Job = the c.args.line.now.job in
    let f = fails_outcome job c.midpoint-middle.result (sym c.in-Fails.ensures.value) in
    round_fails job c.args.round.ends.low c.args.round.ends.high c.midpoint-middle.ensures f.0 f.1
