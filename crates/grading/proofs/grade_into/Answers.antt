-- `grade_into` meets its contract, by what grading answers.
use mathlib.Core.Path.{sym}
use Rattle.grading.proofs.Answering.{into_refused, into_room, into_graded, grade_byte}
use Rattle.grading.proofs.grade_into.Goals as goal

pub bounds-grade-0 : goal.bounds-grade-0
bounds-grade-0 c =
    let a = c.args in
    into_room a.job.now a.plan.now a.grade.now (sym c.in_ok-found.ensures)

pub returns-in_err-found : goal.returns-in_err-found
returns-in_err-found c =
    let a = c.args in
    let h = into_refused a.job.now a.plan.now a.grade.now c.from_residual.result (sym c.in_err-found.ensures) c.from_residual.ensures.1 in
    record { answer = h.0; bytes = h.1 }

pub returns : goal.returns
returns c =
    let a = c.args in
    let h = into_graded a.job.now a.plan.now a.grade.now (sym c.in_ok-found.ensures) (grade_byte c.in_ok-found.found) in
    record { answer = h.0; bytes = h.1 }
