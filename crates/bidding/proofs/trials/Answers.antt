-- `trials` meets its contract: the loop keeps `Bidden`, and what the next trial takes from the one before.
use Prim.Native.Nat.{◌<◌}
use mathlib.Core.Path.{refl, sym, subst, ◌∙◌}
use native.Mathlib.Omega.{arith}
use native.Mathlib.Numerals.{add-one}
use lib.ListN.{length}
use Rattle.std.proofs.Common.{rules}
use Rattle.bound.specs.declared.Bound.{Bound}
use Rattle.bound.specs.Order.{◌≼◌}
use Rattle.bound.proofs.Order.{lt-le, speed_real}
use Rattle.chain.specs.Limits.{max_processors}
use Rattle.chain.specs.Job.{processors}
use Rattle.chain.specs.Probe.{walk}
use Rattle.chain.proofs.Parts.{valid_plannable}
use Rattle.chain.proofs.NextBid.{next_above}
use Rattle.chain.proofs.Ranges.{index_fits}
use Rattle.parts.specs.Lent.{the}
use Rattle.parts.proofs.Front.{kept_is, kept_trans}
use Rattle.probe.proofs.Walked.{begun_kept, begun-filled}
use Rattle.probe.proofs.Answer.{fits_outcome, fits_inside, fails_outcome}
use Rattle.bidding.proofs.Laws.{bidden_start, bidden_room, bidden_fits, bidden_next, bidden_end}
use Rattle.bidding.proofs.Trial.{first_kept, first_laid, first_known, laid_next, known_next}
use Rattle.bidding.proofs.trials.Goals as goal

pub overflow_cast-n : goal.overflow_cast-n
overflow_cast-n g c = record { fits = index_fits c.args.line.job.valid (omega arith) }

pub loop-visited-init : goal.loop-visited-init
unfolding max_processors
loop-visited-init g c =
    let v = c.args.line.job.valid in
    let bound = c.ideal_of-bound.result in
    record {
      bidden = bidden_start v c.ideal_of-bound.ensures;
      kept = first_kept v c.args.separators.now c.requires.room (c.fill.ensures.after (λ y e. e));
      laid = first_laid v c.args.separators.now c.requires.room (c.fill.ensures.after (λ y e. e)) bound;
      known = first_known bound _ 12 (omega (arith, v.processors_limit));
    }

pub walk_blocks-requires-clause-lendable : goal.walk_blocks-requires-clause-lendable
walk_blocks-requires-clause-lendable g c = (c.loop-visited.invariant.bidden.lendable, c.loop-visited.invariant.bidden.narrow)

pub walk_blocks-requires-clause-laid : goal.walk_blocks-requires-clause-laid
walk_blocks-requires-clause-laid g c = c.loop-visited.invariant.laid

pub walk_blocks-requires-clause-known : goal.walk_blocks-requires-clause-known
walk_blocks-requires-clause-known g c = c.loop-visited.invariant.known

pub offset_bounds-separators-visited : goal.offset_bounds-separators-visited
offset_bounds-separators-visited g c =
    let h = fits_inside c.args.line.job.valid c.loop-visited.bound (sym c.walk_blocks.ensures.value ∙ c.in-Fits.is) in
    search rules

pub slice_bounds-fill-count : goal.slice_bounds-fill-count
slice_bounds-fill-count g c =
    let h = fits_inside c.args.line.job.valid c.loop-visited.bound (sym c.walk_blocks.ensures.value ∙ c.in-Fits.is) in
    omega arith

pub slice_bounds-fill-start : goal.slice_bounds-fill-start
slice_bounds-fill-start g c =
    let h = fits_inside c.args.line.job.valid c.loop-visited.bound (sym c.walk_blocks.ensures.value ∙ c.in-Fits.is) in
    omega arith

pub overflow_add-result : goal.overflow_add-result
overflow_add-result g c =
    record { fits = omega (arith, bidden_fits c.loop-visited.failures c.args.line.job.valid c.requires.enough c.loop-visited.invariant.bidden) }

pub returns-in-Fits-clause-bidding_ends : goal.returns-in-Fits-clause-bidding_ends
returns-in-Fits-clause-bidding_ends g c =
    let m = fits_outcome (the c.args.line.job) c.loop-visited.bound (sym c.walk_blocks.ensures.value ∙ c.in-Fits.is) in
    bidden_end c.loop-visited.invariant.bidden m.0 (add-one _)

pub returns-in-Fits-clause-separators : goal.returns-in-Fits-clause-separators
returns-in-Fits-clause-separators g c =
    let v = c.args.line.job.valid in
    let bound = c.loop-visited.bound in
    let m = fits_outcome (the c.args.line.job) bound (sym c.walk_blocks.ensures.value ∙ c.in-Fits.is) in
    kept_is (walk (the c.args.line.job) bound) c.loop-visited.invariant.kept
    (begun-filled v bound c.loop-visited.separators (omega (arith, c.loop-visited.invariant.kept.same)) m.1 (add-one _) refl
    c.walk_blocks.ensures.separators (c.fill-in-Fits.ensures.after (λ y e. e)))

pub overflow_add-failures : goal.overflow_add-failures
overflow_add-failures g c =
    record { fits = bidden_fits c.loop-visited.failures c.args.line.job.valid c.requires.enough c.loop-visited.invariant.bidden }

pub loop-visited-smaller : goal.loop-visited-smaller
loop-visited-smaller g c =
    let f = fails_outcome (the c.args.line.job) c.loop-visited.bound (sym c.walk_blocks.ensures.value ∙ c.in-Fails.is) in
    omega (arith, bidden_room (valid_plannable c.args.line.job.valid c.requires.enough) c.loop-visited.invariant.bidden f.0)

pub loop-visited-preserved : goal.loop-visited-preserved
loop-visited-preserved g c =
    let v = c.args.line.job.valid in
    let w = c.loop-visited.invariant in
    let bound : Bound = c.loop-visited.bound in
    let next : Bound = c.in-Fails.next in
    let f = fails_outcome (the c.args.line.job) bound (sym c.walk_blocks.ensures.value ∙ c.in-Fails.is) in
    let room : processors (the c.args.line.job) < length c.loop-visited.separators = omega (arith, w.kept.same) in
    let real = speed_real w.bidden.lendable.speed_positive in
    let less : bound ≼ next = subst (λ (C : Bound). bound ≼ C) (sym f.1) (lt-le (next_above (valid_plannable v c.requires.enough) bound f.0)) in
    record {
      bidden = bidden_next next v c.requires.enough w.bidden f.0 f.1;
      kept = kept_trans w.kept (begun_kept v bound c.loop-visited.separators room c.walk_blocks.ensures.separators);
      laid = λ t. laid_next v bound c.loop-visited.separators room f.0 c.walk_blocks.ensures.separators real less;
      known = known_next v bound c.loop-visited.separators room f.0 c.walk_blocks.ensures.separators real less (c.walk_blocks.ensures.leasts f.0);
    }
