-- What grading answers, on the whole input, refusals included. Scope 14.1: "A plan file of any maker is read beside its job and is
-- graded, or it is refused."
use Rattle.std.specs.Prelude.{ℕ, cond, List, [], ◌∷◌, Result}
use Rattle.chain.specs.declared.Refusal.{Refusal}
use Rattle.chain.specs.Numbers.{answered}
use Rattle.chain.specs.Job.{Job}
use Rattle.chain.specs.Grade.{unbeaten}
use Rattle.chain.specs.Refusal.{separators_of, first_refusal, plan_tests, refusal}
use Rattle.refusals.specs.Answers.{Said, answer_said}
use Rattle.planfile.specs.PlanFile.{plan_read, grade_inputs}
use Rattle.grading.specs.declared.grades.Grade.{Grade}

-- Scope 14.7: "1 for best, 2 for valid"
abbrev pub grade_values : Grade → List ℕ
grade_values Grade.Best = 1 ∷ []
grade_values Grade.Valid = 2 ∷ []

abbrev pub graded_said : Result Grade Refusal → Said
graded_said = answer_said grade_values

-- Scope 14.4: "A true plan file is best where no division of the job has a smaller bottleneck; else it is valid." Of its separators:
unfoldable pub grade_of : Job → List ℕ → Grade
grade_of job s = cond (unbeaten job s) Grade.Best Grade.Valid

-- The grade of the separators that are read from a plan file.
unfoldable pub read_grade : Job → List ℕ → Grade
read_grade job plan = grade_of job (separators_of job (plan_read job plan))

-- The grade, or the refusal: once the job is tested,
unfoldable pub plan_grade : Job → List ℕ → Result Grade Refusal
plan_grade job plan = answered (first_refusal (plan_tests job (plan_read job plan))) (read_grade job plan)

-- and by lists.
unfoldable pub grade_answer : Job → List ℕ → Result Grade Refusal
grade_answer job plan = answered (refusal job (grade_inputs job plan)) (read_grade job plan)
