-- `trial_at` meets its contract, by what the trial answers.
use mathlib.Core.Path.{sym}
use Rattle.chain.proofs.Ranges.{small_lendable}
use Rattle.parts.specs.Lent.{the}
use Rattle.probe.proofs.Walked.{reached_first, begun_kept}
use Rattle.nicol.proofs.Laws.{told_fits, told_fails}
use Rattle.nicol.proofs.trial_at.Goals as goal

pub walk-requires-clause-lendable : goal.walk-requires-clause-lendable
walk-requires-clause-lendable c = small_lendable c.bound_to-bound.ensures.small

pub walk-requires-clause-reached : goal.walk-requires-clause-reached
walk-requires-clause-reached c = reached_first (the c.args.line.job) c.bound_to-bound.result _

pub returns-in-Fits : goal.returns-in-Fits
returns-in-Fits c =
    let a = c.args in
    record {
      value = told_fits (the a.line.job) a.p a.a a.j c.bound_to-bound.ensures.value (sym c.in-Fits.ensures.value);
      kept_from = begun_kept a.line.job.valid c.bound_to-bound.result a.separators.now c.requires.room c.in-Fits.ensures.separators;
    }

pub returns-in_default : goal.returns-in_default
returns-in_default c =
    let a = c.args in
    record {
      value = told_fails (the a.line.job) a.p a.a a.j c.bound_to-bound.ensures.value (sym c.in_default.ensures.value);
      kept_from = begun_kept a.line.job.valid c.bound_to-bound.result a.separators.now c.requires.room c.in_default.ensures.separators;
    }
