-- Job A of the scope: its plan file, byte by byte, and the order of 9 and 11.
-- Assumes nothing.
use mathlib.Core.Path.{◌≡◌, refl}
use mathlib.Core.List.{[], ◌∷◌, ◌++◌}
use Rattle.chain.specs.Limits.{max_tasks, max_weight, max_startup, max_processors, max_speed}
use Rattle.chain.specs.Lists.{sum, all}
use Rattle.chain.specs.Job.{Job, free_job, speed_of, hold_of, keeps, all_kept, part_of, part_weight, load_of, part_load}
use Rattle.chain.specs.Refusal.{each_between, startup_test, speeds_test, weights_test, processors_test, tasks_test, length_test, holds_test, is_partition, partition_test, first_refusal, job_tests, call_tests, refusal}
use Rattle.fields.specs.Field.{field_bytes}
use Rattle.refusals.specs.Inputs.{write_plan_inputs}
use Rattle.planfile.specs.PlanFile.{plan_record, plan_bytes_to, plan_bytes}

abbrev A : Job
A = free_job 0 (1 ∷ 3 ∷ []) (1 ∷ 3 ∷ 8 ∷ [])

-- Records 0, 1, 1, 1 and 1, 3, 11, 3.
pub plan_of_A : plan_bytes A (0 ∷ 1 ∷ 3 ∷ [])
    ≡ (0 ∷ 0 ∷ 0 ∷ 0 ∷ 1 ∷ 0 ∷ 0 ∷ 0 ∷ 1 ∷ 0 ∷ 0 ∷ 0 ∷ 1 ∷ 0 ∷ 0 ∷ 0 ∷ [])
    ++ (1 ∷ 0 ∷ 0 ∷ 0 ∷ 3 ∷ 0 ∷ 0 ∷ 0 ∷ 11 ∷ 0 ∷ 0 ∷ 0 ∷ 3 ∷ 0 ∷ 0 ∷ 0 ∷ [])
unfolding plan_bytes plan_bytes_to plan_record field_bytes load_of part_load part_weight part_of speed_of sum
plan_of_A = refl

-- The separators 0 2 2 are no division: 9 with a byte too few, 11 with enough, and 9 with a separator too few.
pub refusals_of_A : (refusal A (write_plan_inputs A (0 ∷ 2 ∷ 2 ∷ []) 31) ≡ 9) × (refusal A (write_plan_inputs A (0 ∷ 2 ∷ 2 ∷ []) 32) ≡ 11) × (refusal A (write_plan_inputs A (0 ∷ 3 ∷ []) 32) ≡ 9)
    × (refusal A (write_plan_inputs A (0 ∷ 1 ∷ 3 ∷ 7 ∷ []) 32) ≡ 0)
unfolding refusal call_tests job_tests first_refusal startup_test speeds_test weights_test processors_test tasks_test holds_test length_test partition_test is_partition all_kept keeps hold_of each_between all max_tasks max_weight max_startup max_processors max_speed
refusals_of_A = (refl, refl, refl, refl)
