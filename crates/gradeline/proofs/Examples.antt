-- The lines of plan files of the worked jobs, computed. Scope, sections 11, 17 and 18.
-- Assumes nothing.
use Prim.Native.Nat.{ℕ}
use Prim.Native.String.{String}
use mathlib.Core.Path.{◌≡◌, refl}
use mathlib.Core.List.{List, [], ◌∷◌, ◌++◌}
use Rattle.bound.specs.Order.{le, greater}
use Rattle.chain.specs.Limits.{max_tasks, max_weight, max_startup, max_processors, max_speed}
use Rattle.chain.specs.Lists.{sum, tabulate, all, smallest_from}
use Rattle.chain.specs.Job.{Job, free_job, job_of, speed_of, hold_of, keeps, all_kept, part_of, part_weight, part_load}
use Rattle.chain.specs.Job.{part_bound, bound_at, bottleneck_to, bottleneck, edition_of, startup_of, load_of, First}
use Rattle.chain.specs.Job.{Second}
use Rattle.chain.specs.Plan.{spread, onward, those, partitions}
use Rattle.chain.specs.Grade.{every, unbeaten}
use Rattle.chain.specs.Refusal.{processors_test, tasks_test, is_partition, separators_of, plan_length_test, joined}
use Rattle.chain.specs.Refusal.{joined_test, true_at, true_test, first_refusal, plan_tests}
use Rattle.fields.specs.Field.{field_bytes, field_at, half_bytes, half_at}
use Rattle.jobs.specs.JobFile.{record_bytes, records_bytes, job_bytes, edition_bytes}
use Rattle.jobs.specs.Parse.{byte_at, kind_at, value_at, hold_at, is_kind, task_before, multiple_test, blank, form_test}
use Rattle.jobs.specs.Parse.{order_test, speed_test, weight_test, record_tests, records_tests, standing, speeds_of}
use Rattle.jobs.specs.Parse.{holds_of, weights_of, file_tests, place_test, work_test, second_in}
use Rattle.planfile.specs.PlanFile.{plan_record, plan_bytes_to, plan_bytes}
use Rattle.chain.specs.Numbers.{code_of, refusal_of, answered}
use Rattle.grading.specs.Answers.{grade_of, read_grade}
use Rattle.grading.specs.Files.{grade_tests, grade_refusal, file_grade}
use Rattle.texts.specs.Text.{text, width, decimal, field, labelled, refusal_line}
use Rattle.listing.specs.Listing.{intake}
use Rattle.gradeline.specs.Line.{grade_text, plan_intake, grade_line}

-- A job of the first edition, a plan file, and the line that they give.
abbrev says : Job → List ℕ → String → Type 0
says job plan t = grade_line (job_bytes First job) plan ≡ text t

abbrev A : Job
A = free_job 0 (1 ∷ 3 ∷ []) (1 ∷ 3 ∷ 8 ∷ [])

-- A with the hold 1 of its second machine.
abbrev S : Job
S = job_of 0 (1 ∷ 3 ∷ []) (0 ∷ 1 ∷ []) (1 ∷ 3 ∷ 8 ∷ [])

abbrev D : Job
D = free_job 0 (1 ∷ 1 ∷ []) (0 ∷ 0 ∷ [])

abbrev N : Job
N = free_job 3 (1 ∷ 4 ∷ []) (1 ∷ 4 ∷ 4 ∷ [])

-- A record of four fields, each below 256.
abbrev row : ℕ → ℕ → ℕ → ℕ → List ℕ
row a b c d = a ∷ 0 ∷ 0 ∷ 0 ∷ b ∷ 0 ∷ 0 ∷ 0 ∷ c ∷ 0 ∷ 0 ∷ 0 ∷ d ∷ 0 ∷ 0 ∷ 0 ∷ []

-- Of A: its plan; the quick plan; nothing, a record too few and one too many; a gap; an overlap; separators that end
-- early; a load and a speed that are untrue; an untrue load in the first record and a gap in the second. Of S: the
-- plan of A, which breaks the hold; its own plan, and another division. Of D: its plan, and another division. Of N,
-- of the second edition: its plan, and the weight for the load. A job file that is cut off, beside any plan.
pub lines : says A (row 0 1 1 1 ++ row 1 3 11 3) "best\n"
    × says A (row 0 2 4 1 ++ row 2 3 8 3) "valid\n"
    × says A [] "refused 12\n"
    × says A (row 0 1 1 1) "refused 12\n"
    × says A (row 0 1 1 1 ++ row 1 3 11 3 ++ row 3 3 0 1) "refused 12\n"
    × says A (row 0 1 1 1 ++ row 2 3 8 3) "refused 11\n"
    × says A (row 0 2 4 1 ++ row 1 3 11 3) "refused 11\n"
    × says A (row 0 1 1 1 ++ row 1 2 3 3) "refused 11\n"
    × says A (row 0 1 2 1 ++ row 1 3 11 3) "refused 13\n"
    × says A (row 0 1 1 1 ++ row 1 3 11 1) "refused 13\n"
    × says A (row 0 1 2 1 ++ row 2 3 8 3) "refused 11\n"
    × says S (row 0 1 1 1 ++ row 1 3 11 3) "refused 11\n"
    × says S (row 0 2 4 1 ++ row 2 3 8 3) "best\n"
    × says S (row 0 3 12 1 ++ row 3 3 0 3) "valid\n"
    × says D (plan_bytes D (0 ∷ 2 ∷ 2 ∷ [])) "best\n"
    × says D (plan_bytes D (0 ∷ 0 ∷ 2 ∷ [])) "best\n"
    × (grade_line (job_bytes (Second 3) N) (row 0 0 0 1 ++ row 0 3 12 4) ≡ text "best\n")
    × (grade_line (job_bytes (Second 3) N) (row 0 0 0 1 ++ row 0 3 9 4) ≡ text "refused 13\n")
    × (grade_line (1 ∷ []) [] ≡ text "refused 2\n")
unfolding le greater max_tasks max_weight max_startup max_processors max_speed sum tabulate all smallest_from speed_of
    hold_of keeps all_kept part_of part_weight load_of part_load part_bound bound_at bottleneck_to bottleneck spread
    onward those partitions every unbeaten processors_test tasks_test is_partition separators_of plan_length_test
    joined joined_test true_at true_test first_refusal plan_tests field_bytes field_at half_bytes half_at record_bytes
    records_bytes edition_bytes job_bytes byte_at kind_at value_at hold_at is_kind task_before multiple_test blank
    form_test order_test place_test speed_test weight_test work_test record_tests records_tests standing speeds_of
    holds_of weights_of second_in edition_of startup_of file_tests plan_record plan_bytes_to plan_bytes grade_of
    read_grade answered code_of refusal_of grade_tests grade_refusal file_grade text width decimal field labelled
    refusal_line intake grade_text plan_intake grade_line
lines =
    (refl, refl, refl, refl, refl, refl, refl, refl, refl, refl, refl, refl, refl, refl, refl, refl, refl, refl, refl)
