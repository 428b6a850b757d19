-- `walked_in` meets its contract: where it fits what is written is the walk, where it fails the last processor's reach stands behind it.
use Prim.Native.Nat.{◌^◌, ◌≤◌, ◌<◌}
use mathlib.Core.Path.{refl, sym, ◌∙◌}
use native.Mathlib.Omega.{arith}
use lib.ListN.{get_or}
use Rattle.parts.specs.Lent.{the}
use Rattle.chain.specs.Job.{tasks, last}
use Rattle.chain.proofs.Ranges.{index_fits}
use Rattle.probe.proofs.Answer.{fits_outcome}
use Rattle.probe.proofs.Walked.{end_to, fit_written, start_inside, reach-stored}
use Rattle.probe.proofs.walked_in.Goals as goal
use Rattle.probe.proofs.walked_in.Goals.{In-Fails, then-line, else-line}

-- The last part starts within the tasks,
starts : (c : In-Fails) → get_or c.probe_in-answer.new.separators (last (the c.args.line.job)) 0 ≤ tasks (the c.args.line.job)
starts c =
    start_inside c.args.line.job.valid c.args.bound c.args.separators.now c.requires.room c.probe_in-answer.ensures.separators
    (omega (arith, c.args.line.job.valid.some_processor)) refl

pub part_end-end-requires-clause-place : goal.part_end-end-requires-clause-place
part_end-end-requires-clause-place c =
    (omega (arith, c.args.line.job.valid.some_processor), starts (goal.at.part_end-end-requires-clause-place c).In-Fails)

pub part_end-end-requires-else-line-clause-place : goal.part_end-end-requires-else-line-clause-place
part_end-end-requires-else-line-clause-place c =
    (omega (arith, c.args.line.job.valid.some_processor), starts (goal.at.part_end-end-requires-else-line-clause-place c).In-Fails)

-- and ends where it reaches.
pub overflow_cast-separators : goal.overflow_cast-separators
overflow_cast-separators c =
    let h = starts (goal.at.overflow_cast-separators c).In-Fails in
    let e : c.if-line.end ≤ tasks (the c.args.line.job) =
    elim c.if-line.branch [
      | then-line w ↦ omega (arith, w.end-is, end_to _ _ _ c.args.bound w.part_end-end.ensures h)
      | else-line w ↦ omega (arith, w.end-is, end_to _ _ _ c.args.bound w.part_end-end-else-line.ensures h)
    ] in
    let n : tasks (the c.args.line.job) < 2 ^ 32 = index_fits c.args.line.job.valid (omega arith) in
    record { fits = omega (arith, e, n) }

pub returns-after-line-clause-separators : goal.returns-after-line-clause-separators
returns-after-line-clause-separators c =
    reach-stored c.args.line.job.valid c.args.bound c.args.separators.now c.requires.room c.probe_in-answer.ensures.separators
    (omega (arith, c.args.line.job.valid.some_processor)) refl
    (elim c.if-line.branch [ then-line w ↦ w.end-is ∙ w.part_end-end.ensures | else-line w ↦ w.end-is ∙ w.part_end-end-else-line.ensures ])

pub returns-in_default-clause-separators : goal.returns-in_default-clause-separators
returns-in_default-clause-separators c =
    let e = sym c.probe_in-answer.ensures.value ∙ c.in_default.is in
    fit_written c.args.line.job.valid c.args.bound _ (fits_outcome (the c.args.line.job) c.args.bound e).0 c.probe_in-answer.ensures.separators
