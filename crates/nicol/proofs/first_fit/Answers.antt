-- `first_fit` meets its contract: the loop keeps `Halving`.
use Prim.Native.Nat.{suc}
use native.Mathlib.Omega.{arith}
use Rattle.chain.specs.Job.{processors}
use Rattle.chain.proofs.Ranges.{index_fits}
use Rattle.parts.specs.Lent.{the}
use Rattle.parts.proofs.Front.{kept_start, kept_trans}
use Rattle.nicol.proofs.Laws.{halving_start, halving_from, halving_to, halving-fits, halving_fails, halving_end, halving_count}
use Rattle.nicol.proofs.first_fit.Goals as goal

pub loop-low-init : goal.loop-low-init
loop-low-init c =
    record {
      halving = halving_start c.requires.place.1 (omega arith);
      kept = kept_start (suc (processors (the c.args.line.job))) c.args.separators.now;
    }

pub middle_of-middle-requires : goal.middle_of-middle-requires
middle_of-middle-requires c =
    let v = c.args.line.job.valid in
    let to = halving_to v c.requires.free c.requires.place.0 c.requires.place.2 c.loop-low.invariant.halving in
    omega (arith, to, index_fits v to)

pub overflow_add-trials : goal.overflow_add-trials
overflow_add-trials c =
    omega (arith, halving_count c.args.line.job.valid c.requires.free c.requires.place.0 c.requires.place.2 c.loop-low.invariant.halving (omega arith))

pub fits_at-requires-clause-place : goal.fits_at-requires-clause-place
fits_at-requires-clause-place c =
    let v = c.args.line.job.valid in
    let h = c.loop-low.invariant.halving in
    let from = halving_from v c.requires.free c.requires.place.0 c.requires.place.2 h in
    let to = halving_to v c.requires.free c.requires.place.0 c.requires.place.2 h in
    (omega (arith, c.requires.place.0), omega (arith, from, c.requires.place.1), omega (arith, to))

pub loop-low-preserved-then-fits_at : goal.loop-low-preserved-then-fits_at
loop-low-preserved-then-fits_at c =
    record {
      halving =
          halving-fits c.args.line.job.valid c.requires.free c.requires.place.0 c.requires.place.2 c.loop-low.invariant.halving c.requires.place.1
          (omega arith) c.middle_of-middle.ensures c.if-fits_at.ensures.value (omega arith);
      kept = kept_trans c.loop-low.invariant.kept c.fits_at.ensures.kept_from;
    }

pub overflow_add-low : goal.overflow_add-low
overflow_add-low c =
    let v = c.args.line.job.valid in
    omega (arith, index_fits v (halving_to v c.requires.free c.requires.place.0 c.requires.place.2 c.loop-low.invariant.halving))

pub loop-low-preserved : goal.loop-low-preserved
loop-low-preserved c =
    record {
      halving =
          halving_fails c.args.line.job.valid c.requires.free c.requires.place.0 c.requires.place.2 c.loop-low.invariant.halving c.requires.place.1
          (omega arith) c.middle_of-middle.ensures c.if-fits_at.ensures.value (omega arith) (omega arith);
      kept = kept_trans c.loop-low.invariant.kept c.fits_at.ensures.kept_from;
    }

pub returns : goal.returns
returns c =
    let e =
    halving_end c.args.line.job.valid c.requires.free c.requires.place.0 c.requires.place.2 c.loop-low.invariant.halving c.requires.place.1
    (omega arith)
    in
    record { index = e.0; trials = e.1; kept_from = c.loop-low.invariant.kept }
