-- What grading a plan file beside a job file answers and leaves. Scope, sections 8 and 14.
use Rattle.std.specs.Prelude.{ℕ, List, [], ◌∷◌, ◌++◌, map, length, Result}
use Rattle.chain.specs.declared.Refusal.{Refusal}
use Rattle.chain.specs.Numbers.{answered}
use Rattle.chain.specs.Refusal.{Test, length_test, first_refusal, plan_tests}
use Rattle.refusals.specs.Answers.{lent_after}
use Rattle.jobs.specs.Parse.{job_in, file_tests}
use Rattle.planfile.specs.PlanFile.{plan_read}
use Rattle.grading.specs.declared.grades.Grade.{Grade}
use Rattle.grading.specs.Answers.{grade_values, read_grade}

-- Scope 8.7: "one byte for a grade"
abbrev pub grade_needed : ℕ
grade_needed = 1

-- The tests: those of the job file; that of each buffer of these lengths; those of the plan file.
unfoldable pub grade_tests : List ℕ → List ℕ → List ℕ → List Test
grade_tests file plan lent =
    file_tests file ++ (map (length_test grade_needed) lent ++ plan_tests (job_in file) (plan_read (job_in file) plan))

-- The number of the refusal, 0 where there is none.
unfoldable pub grade_refusal : List ℕ → List ℕ → List ℕ → ℕ
grade_refusal file plan lent = first_refusal (grade_tests file plan lent)

-- The answer: of a caller who lends a buffer of this length, and of one who lends none.
unfoldable pub lent_grade : List ℕ → List ℕ → ℕ → Result Grade Refusal
lent_grade file plan lent = answered (grade_refusal file plan (lent ∷ [])) (read_grade (job_in file) plan)

unfoldable pub file_grade : List ℕ → List ℕ → Result Grade Refusal
file_grade file plan = answered (grade_refusal file plan []) (read_grade (job_in file) plan)

-- The C call. Scope 14.7: "gets 0 or the number of a refusal"
unfoldable pub host_grade : List ℕ → List ℕ → ℕ → ℕ
host_grade file plan lent = grade_refusal file plan (lent ∷ [])

-- The buffer then. Scope 14.7: "the buffer's first byte becomes 1 for best, 2 for valid". Scope 8.5: "Entries behind those that a call
-- needs stay."
unfoldable pub host_grades : List ℕ → List ℕ → List ℕ → List ℕ
host_grades file plan grade = lent_after (host_grade file plan (length grade)) (grade_values (read_grade (job_in file) plan)) grade
