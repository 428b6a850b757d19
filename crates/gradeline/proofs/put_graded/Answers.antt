-- `put_graded` meets its contract, by the answer.
use mathlib.Core.Path.{◌≡◌, sym, ap, ◌∙◌}
use Rattle.std.specs.Prelude.{Ok}
use Rattle.grading.specs.declared.grades.Grade.{Grade}
use Rattle.texts.specs.Text.{text, refusal_line}
use Rattle.texts.proofs.Laws.{puts_as}
use Rattle.gradeline.specs.Line.{grade_text}
use Rattle.gradeline.proofs.put_graded.Goals as goal

pub returns-in-Ok-Best-clause-put : goal.returns-in-Ok-Best-clause-put
unfolding grade_text text
returns-in-Ok-Best-clause-put c =
    let best : c.in-Ok-Best.field-0 ≡ Grade.Best = cc in
    puts_as (sym (ap grade_text (c.in-Ok-Best.is ∙ ap Ok best))) c.put_text.ensures

pub returns-in-Ok-Valid-clause-put : goal.returns-in-Ok-Valid-clause-put
unfolding grade_text text
returns-in-Ok-Valid-clause-put c =
    let valid : c.in-Ok-Valid.field-0 ≡ Grade.Valid = cc in
    puts_as (sym (ap grade_text (c.in-Ok-Valid.is ∙ ap Ok valid))) c.put_text-in-Ok-Valid.ensures

pub returns-in-Err-clause-put : goal.returns-in-Err-clause-put
unfolding grade_text
returns-in-Err-clause-put c =
    puts_as (ap refusal_line c.from.ensures ∙ sym (ap grade_text c.in-Err.is)) c.put_refusal_line.ensures.put
