-- What the functions put is the line of the definition.
-- Assumes nothing.
use Prim.Native.Nat.{ℕ, min}
use mathlib.Core.Path.{◌≡◌, ap, ap₂, ◌∙◌}
use mathlib.Core.List.{List}
use native.Mathlib.Nat.{le_refl}
use lib.ListN.{length, take}
use lib.Seq.{take-take}
use Rattle.std.specs.Prelude.{Result}
use Rattle.std.proofs.lemmas.List.{take_min}
use Rattle.chain.specs.declared.Refusal.{Refusal}
use Rattle.grading.specs.declared.grades.Grade.{Grade}
use Rattle.grading.specs.Files.{lent_grade, file_grade}
use Rattle.grading.proofs.Promises.{file_grade_lent}
use Rattle.listing.specs.Listing.{intake}
use Rattle.gradeline.specs.Line.{grade_text, plan_intake, grade_line}

-- The grade of the bytes of each file that are taken in, as many as there are, gives the line. The byte that is lent
-- for the grade changes nothing.
pub graded_line : (job plan : List ℕ) {m n : ℕ} {graded : Result Grade Refusal} → m ≡ min intake (length job)
    → n ≡ min plan_intake (length plan) → graded ≡ lent_grade (take m job) (take n plan) 1 → grade_text graded ≡ grade_line job plan
unfolding grade_line
graded_line job plan {m} {n} d e f =
    ap grade_text (f ∙ file_grade_lent (take m job) (take n plan))
    ∙ ap₂ (λ (x y : List ℕ). grade_text (file_grade x y))
    (ap (λ (k : ℕ). take k job) d ∙ take_min intake job)
    (ap (λ (k : ℕ). take k plan) e ∙ take_min plan_intake plan)

-- Scope 14.9: "judges longer files by those bytes": what comes behind them is without effect.
pub line_taken : (job plan : List ℕ) → grade_line (take intake job) (take plan_intake plan) ≡ grade_line job plan
unfolding grade_line
line_taken job plan =
    ap₂ (λ (x y : List ℕ). grade_text (file_grade x y))
    (take-take intake intake job (le_refl intake))
    (take-take plan_intake plan_intake plan (le_refl plan_intake))
