-- The C call on job A, computed: the order of 9, and the buffer; and on job N, of the second edition.
-- Assumes nothing.
use mathlib.Core.Path.{◌≡◌, refl}
use mathlib.Core.List.{[], ◌∷◌}
use Rattle.bound.specs.Order.{le, greater}
use Rattle.chain.specs.Limits.{max_tasks, max_weight, max_startup, max_processors, max_speed}
use Rattle.chain.specs.Lists.{sum, tabulate, all}
use Rattle.chain.specs.Job.{Job, free_job, speed_of, hold_of, keeps, all_kept, part_of, part_weight, part_load, part_bound, bound_at, bottleneck_to, bottleneck, First, edition_of, startup_of, load_of, Second}
use Rattle.chain.specs.Plan.{spread, onward, those, partitions}
use Rattle.chain.specs.Grade.{every, unbeaten}
use Rattle.chain.specs.Refusal.{processors_test, tasks_test, length_test, is_partition, separators_of, plan_length_test, joined, joined_test, true_at, true_test, first_refusal, plan_tests}
use Rattle.fields.specs.Field.{field_bytes, field_at, half_bytes, half_at}
use Rattle.refusals.specs.Answers.{lent_after}
use Rattle.jobs.specs.JobFile.{record_bytes, records_bytes, job_bytes, edition_bytes}
use Rattle.jobs.specs.Parse.{byte_at, kind_at, value_at, hold_at, is_kind, task_before, multiple_test, blank, form_test, order_test, speed_test, weight_test, record_tests, records_tests, standing, speeds_of, holds_of, weights_of, file_tests, place_test, work_test, second_in}
use Rattle.planfile.specs.PlanFile.{plan_record, plan_bytes_to, plan_bytes}
use Rattle.grading.specs.Answers.{grade_of, read_grade}
use Rattle.grading.specs.Files.{grade_tests, grade_refusal, host_grade, host_grades}

abbrev A : Job
A = free_job 0 (1 ∷ 3 ∷ []) (1 ∷ 3 ∷ 8 ∷ [])

-- With no byte for the grade: 2 of a job file that is cut off, 9 of A's, whatever the plan file is. With one: 12 of an empty plan file,
-- 0 of the plan's. The buffer is left, or its first byte becomes 1 of the plan, 2 of the division 0 2 3.
pub host_grades_of_A : (host_grade (1 ∷ []) [] 0 ≡ 2) × (host_grade (job_bytes First A) [] 0 ≡ 9) × (host_grade (job_bytes First A) [] 1 ≡ 12)
    × (host_grade (job_bytes First A) (plan_bytes A (0 ∷ 1 ∷ 3 ∷ [])) 1 ≡ 0)
    × (host_grades (job_bytes First A) [] (7 ∷ 8 ∷ []) ≡ 7 ∷ 8 ∷ [])
    × (host_grades (job_bytes First A) (plan_bytes A (0 ∷ 1 ∷ 3 ∷ [])) (7 ∷ 8 ∷ []) ≡ 1 ∷ 8 ∷ [])
    × (host_grades (job_bytes First A) (plan_bytes A (0 ∷ 2 ∷ 3 ∷ [])) (7 ∷ 8 ∷ []) ≡ 2 ∷ 8 ∷ [])
unfolding le greater max_tasks max_weight max_startup max_processors max_speed sum tabulate all speed_of hold_of keeps all_kept part_of part_weight load_of part_load part_bound bound_at bottleneck_to bottleneck spread onward those partitions every unbeaten processors_test tasks_test length_test is_partition separators_of plan_length_test joined joined_test true_at true_test first_refusal plan_tests field_bytes field_at half_bytes half_at lent_after record_bytes records_bytes edition_bytes job_bytes byte_at kind_at value_at hold_at is_kind task_before multiple_test blank form_test order_test place_test speed_test weight_test work_test record_tests records_tests standing speeds_of holds_of weights_of second_in edition_of startup_of file_tests plan_record plan_bytes_to plan_bytes grade_of read_grade grade_tests grade_refusal host_grade host_grades
host_grades_of_A = (refl, refl, refl, refl, refl, refl, refl)

abbrev N : Job
N = free_job 3 (1 ∷ 4 ∷ []) (1 ∷ 4 ∷ 4 ∷ [])

-- With c = 3 the division 0 0 3 is best and 0 1 3 is not; a plan file with weights for its loads is untrue: 13.
pub host_grades_of_N : (host_grades (job_bytes (Second 3) N) (plan_bytes N (0 ∷ 0 ∷ 3 ∷ [])) (7 ∷ []) ≡ 1 ∷ [])
    × (host_grades (job_bytes (Second 3) N) (plan_bytes N (0 ∷ 1 ∷ 3 ∷ [])) (7 ∷ []) ≡ 2 ∷ [])
    × (host_grade (job_bytes (Second 3) N) (plan_bytes (free_job 0 N.speeds N.weights) (0 ∷ 0 ∷ 3 ∷ [])) 1 ≡ 13)
unfolding le greater max_tasks max_weight max_startup max_processors max_speed sum tabulate all speed_of hold_of keeps all_kept part_of part_weight load_of part_load part_bound bound_at bottleneck_to bottleneck spread onward those partitions every unbeaten processors_test tasks_test length_test is_partition separators_of plan_length_test joined joined_test true_at true_test first_refusal plan_tests field_bytes field_at half_bytes half_at lent_after record_bytes records_bytes edition_bytes job_bytes byte_at kind_at value_at hold_at is_kind task_before multiple_test blank form_test order_test place_test speed_test weight_test work_test record_tests records_tests standing speeds_of holds_of weights_of second_in edition_of startup_of file_tests plan_record plan_bytes_to plan_bytes grade_of read_grade grade_tests grade_refusal host_grade host_grades
host_grades_of_N = (refl, refl, refl)
