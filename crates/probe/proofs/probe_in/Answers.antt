-- `probe_in` meets its contract: every walk reaches its first point, and is filled up from where it ended.
use mathlib.Core.Path.{refl, sym, ◌∙◌}
use native.Mathlib.Omega.{arith}
use native.Mathlib.Numerals.{add-one}
use Rattle.parts.specs.Lent.{the}
use Rattle.chain.proofs.Parts.{valid_proper}
use Rattle.chain.proofs.Visited.{visited_fails}
use Rattle.chain.proofs.Ranges.{index_fits}
use Rattle.probe.proofs.Answer.{fits_outcome, fits_inside, fails_outcome}
use Rattle.std.proofs.Common.{rules}
use Rattle.probe.proofs.Walked.{reached_first, begun-filled, begun_ended}
use Rattle.probe.proofs.probe_in.Goals as goal

pub overflow_cast-n : goal.overflow_cast-n
overflow_cast-n c = record { fits = index_fits c.args.line.job.valid (omega arith) }

pub walk_from-answer-requires-clause-reached : goal.walk_from-answer-requires-clause-reached
walk_from-answer-requires-clause-reached c = reached_first (the c.args.line.job) c.args.bound c.args.separators.now

pub offset_bounds-separators-visited : goal.offset_bounds-separators-visited
offset_bounds-separators-visited c =
    let h = fits_inside c.args.line.job.valid c.args.bound (sym c.walk_from-answer.ensures.value ∙ c.in-Fits.is) in
    search rules

pub slice_bounds-fill-count : goal.slice_bounds-fill-count
slice_bounds-fill-count c =
    let h = fits_inside c.args.line.job.valid c.args.bound (sym c.walk_from-answer.ensures.value ∙ c.in-Fits.is) in
    omega arith

pub slice_bounds-fill-start : goal.slice_bounds-fill-start
slice_bounds-fill-start c =
    let h = fits_inside c.args.line.job.valid c.args.bound (sym c.walk_from-answer.ensures.value ∙ c.in-Fits.is) in
    omega arith

pub returns-in-Fits-clause-separators : goal.returns-in-Fits-clause-separators
returns-in-Fits-clause-separators c =
    let m = fits_outcome (the c.args.line.job) c.args.bound (sym c.walk_from-answer.ensures.value ∙ c.in-Fits.is) in
    begun-filled c.args.line.job.valid c.args.bound c.args.separators.now c.requires.room m.1 (add-one _) refl
    c.walk_from-answer.ensures.separators (c.fill.ensures.after (λ y e. e))

pub returns-in-Fails-clause-separators : goal.returns-in-Fails-clause-separators
returns-in-Fails-clause-separators c =
    let m = fails_outcome (the c.args.line.job) c.args.bound (sym c.walk_from-answer.ensures.value ∙ c.in-Fails.is) in
    begun_ended c.args.line.job.valid c.args.bound c.args.separators.now c.requires.room (visited_fails (valid_proper c.args.line.job.valid) c.args.bound m.0)
    c.walk_from-answer.ensures.separators
