-- The scope's numbers for small files (11.4 to 11.6, 11.8), by computing the definitions. The long files are run by a program.
-- Assumes nothing.
use Prim.Native.Nat.{ℕ}
use mathlib.Core.Path.{◌≡◌, refl}
use mathlib.Core.Bool.{Bool, true, false, ◌&&◌}
use mathlib.Core.List.{List, [], ◌∷◌, ◌++◌}
use lib.Dec.{eqb}
use Rattle.std.specs.Prelude.{Ok}
use Rattle.chain.specs.Limits.{max_tasks, max_weight, max_startup, max_processors, max_speed}
use Rattle.chain.specs.Job.{First, Second, startup_of, edition_of, job_of, free_job, hold_of}
use Rattle.chain.specs.Numbers.{answered}
use Rattle.chain.specs.Refusal.{processors_test, tasks_test, length_test, first_refusal}
use Rattle.fields.specs.Field.{field_bytes, field_at, half_bytes, half_at}
use Rattle.jobs.specs.JobFile.{record_bytes, records_bytes, edition_bytes, job_bytes}
use Rattle.jobs.specs.Parse.{byte_at, kind_at, value_at, hold_at, is_kind, task_before, multiple_test, blank, form_test, order_test, place_test, speed_test, weight_test, work_test, record_tests, records_tests, standing, second_in, edition_in, speeds_of, holds_of, weights_of, job_in, file_tests, file_refusal}
use Rattle.jobs.specs.Answers.{read_tests, read_refusal, read_answer}

-- A file with its number.
pub record Case : Type 0 where
  pub file : List ℕ
  pub number : ℕ

infix 20 ◌gives◌
abbrev pub ◌gives◌ : List ℕ → ℕ → Case
file gives number = record { file = file; number = number }

-- A machine and a tile.
abbrev pub processor_record : ℕ → List ℕ
processor_record v = record_bytes 1 0 v

abbrev pub task_record : ℕ → List ℕ
task_record v = record_bytes 2 0 v

-- A machine with a hold.
abbrev pub hold_record : ℕ → ℕ → List ℕ
hold_record h v = record_bytes 1 h v

-- The start-up work of a job of the second edition.
abbrev pub startup_record : ℕ → List ℕ
startup_record c = record_bytes 3 0 c

-- Of the second edition by hand: start-up work 5, a machine of speed 2 and a tile of weight 7.
unfoldable pub second_file : List ℕ
second_file =
    3 ∷ 0 ∷ 0 ∷ 0 ∷ 5 ∷ 0 ∷ 0 ∷ 0
    ∷ 1 ∷ 0 ∷ 0 ∷ 0 ∷ 2 ∷ 0 ∷ 0 ∷ 0
    ∷ 2 ∷ 0 ∷ 0 ∷ 0 ∷ 7 ∷ 0 ∷ 0 ∷ 0 ∷ []

-- By hand: a machine of speed 2 and hold 2,049, one of speed 3 without a limit, and a tile of weight 7.
unfoldable pub held_file : List ℕ
held_file =
    1 ∷ 0 ∷ 1 ∷ 8 ∷ 2 ∷ 0 ∷ 0 ∷ 0
    ∷ 1 ∷ 0 ∷ 0 ∷ 0 ∷ 3 ∷ 0 ∷ 0 ∷ 0
    ∷ 2 ∷ 0 ∷ 0 ∷ 0 ∷ 7 ∷ 0 ∷ 0 ∷ 0 ∷ []

-- Scope 11.4: "Speed 10,000 is taken; speeds 0 and 10,001 are refused with 5." Scope 11.5: "Weight 1,000,000 is taken; weight 1,000,001 is
-- refused with 6." Scope 11.6, of no machine: "refused with 7". Scope 11.8: "A file of 7 bytes is refused with 2."
unfoldable pub files : List Case
unfolding record_bytes field_bytes half_bytes
files =
    ([] gives 7)
    ∷ ((0 ∷ 0 ∷ 0 ∷ 0 ∷ 0 ∷ 0 ∷ 0 ∷ []) gives 2)
    ∷ (processor_record 10000 gives 0)
    ∷ (processor_record 0 gives 5)
    ∷ (processor_record 10001 gives 5)
    ∷ ((processor_record 1 ++ task_record 1000000) gives 0)
    ∷ ((processor_record 1 ++ task_record 1000001) gives 6)
    ∷ (task_record 5 gives 7)
    ∷ (record_bytes 4 0 1 gives 3)
    ∷ ((1 ∷ 1 ∷ 0 ∷ 0 ∷ 1 ∷ 0 ∷ 0 ∷ 0 ∷ []) gives 3)
    ∷ ((task_record 5 ++ processor_record 1) gives 4)
    -- two faults: in one record in rising order, in two records from the front
    ∷ ((task_record 5 ++ processor_record 0) gives 4)
    ∷ ((processor_record 0 ++ task_record 1000001) gives 5)
    ∷ ((processor_record 1 ++ task_record 1000001 ++ processor_record 0) gives 6)
    ∷ ((processor_record 0 ++ record_bytes 9 0 0 ++ 0 ∷ []) gives 2)
    -- of the second edition, and its record behind the first
    ∷ (second_file gives 0)
    ∷ ((startup_record 0 ++ processor_record 1) gives 0)
    ∷ ((startup_record 1000000 ++ processor_record 1) gives 0)
    ∷ ((startup_record 1000001 ++ processor_record 1) gives 16)
    ∷ (startup_record 5 gives 7)
    ∷ ((startup_record 5 ++ task_record 7) gives 7)
    ∷ ((3 ∷ 0 ∷ 1 ∷ 0 ∷ 5 ∷ 0 ∷ 0 ∷ 0 ∷ processor_record 1) gives 3)
    ∷ ((processor_record 1 ++ startup_record 5) gives 15)
    ∷ ((startup_record 5 ++ startup_record 5 ++ processor_record 1) gives 15)
    ∷ ((processor_record 1 ++ task_record 7 ++ startup_record 1000001) gives 15)
    ∷ ((startup_record 1000001 ++ processor_record 0) gives 16)
    ∷ ((startup_record 5 ++ task_record 7 ++ processor_record 0) gives 4)
    -- holds: every number of 16 bits is one, of a machine alone
    ∷ (held_file gives 0)
    ∷ (hold_record 65535 1 gives 0)
    ∷ (hold_record 1 0 gives 5)
    ∷ ((1 ∷ 1 ∷ 1 ∷ 0 ∷ 1 ∷ 0 ∷ 0 ∷ 0 ∷ []) gives 3)
    ∷ ((processor_record 1 ++ record_bytes 2 1 7) gives 3)
    ∷ ((processor_record 1 ++ record_bytes 2 256 7) gives 3)
    ∷ ((record_bytes 3 256 5 ++ processor_record 1) gives 3)
    ∷ []

unfoldable pub every_gives : List Case → Bool
every_gives [] = true
every_gives (c ∷ cs) = eqb (file_refusal c.file) c.number && every_gives cs

pub files_give : every_gives files ≡ true
unfolding files second_file held_file every_gives file_refusal file_tests first_refusal multiple_test records_tests record_tests form_test order_test place_test speed_test weight_test work_test standing speeds_of holds_of weights_of processors_test tasks_test byte_at kind_at value_at hold_at field_at half_at is_kind task_before blank max_tasks max_weight max_startup max_processors max_speed
files_give = refl

-- 9 comes last: a file that gives 7 gives it with lists of no length too.
pub lent_gives :
    (read_refusal (processor_record 1 ++ task_record 2) 0 0 0 ≡ 9) × (read_refusal (processor_record 1 ++ task_record 2) 1 1 0 ≡ 9) × (read_refusal (processor_record 1 ++ task_record 2) 0 1 1 ≡ 9)
    × (read_refusal (processor_record 1 ++ task_record 2) 1 0 1 ≡ 9) × (read_refusal (processor_record 1 ++ task_record 2) 1 1 1 ≡ 0) × (read_refusal (task_record 2) 0 0 0 ≡ 7)
unfolding read_refusal read_tests length_test file_tests first_refusal multiple_test records_tests record_tests form_test order_test place_test speed_test weight_test work_test standing speeds_of holds_of weights_of processors_test tasks_test byte_at kind_at value_at hold_at field_at half_at is_kind task_before blank record_bytes field_bytes half_bytes max_tasks max_weight max_startup max_processors max_speed
lent_gives = (refl, refl, refl, refl, refl, refl)

-- The file by hand is read and written with its edition.
pub second_reads :
    (edition_in second_file ≡ Second 5) × (job_in second_file ≡ free_job 5 (2 ∷ []) (7 ∷ [])) × (read_answer second_file 1 1 1 ≡ Ok (record { second = true; startup = 5; processors = 1; tasks = 1 }))
    × (job_bytes (Second 5) (free_job 5 (2 ∷ []) (7 ∷ [])) ≡ second_file)
unfolding second_file job_bytes hold_of edition_bytes records_bytes record_bytes field_bytes half_bytes edition_of startup_of second_in answered read_answer read_refusal read_tests length_test file_tests first_refusal multiple_test records_tests record_tests form_test order_test place_test speed_test weight_test work_test standing speeds_of holds_of weights_of processors_test tasks_test byte_at kind_at value_at hold_at field_at half_at is_kind task_before blank max_tasks max_weight max_startup max_processors max_speed
second_reads = (refl, refl, refl, refl)

-- Without its first record it is of the first edition.
pub first_reads :
    (edition_in (processor_record 2 ++ task_record 7) ≡ First) × (job_in (processor_record 2 ++ task_record 7) ≡ free_job 0 (2 ∷ []) (7 ∷ []))
    × (job_bytes First (free_job 0 (2 ∷ []) (7 ∷ [])) ≡ processor_record 2 ++ task_record 7)
unfolding job_bytes hold_of edition_bytes records_bytes record_bytes field_bytes half_bytes edition_of startup_of second_in standing speeds_of holds_of weights_of byte_at kind_at value_at hold_at field_at half_at is_kind
first_reads = (refl, refl, refl)

-- The file by hand with holds is read and written as it is.
pub held_reads :
    (holds_of held_file ≡ 2049 ∷ 0 ∷ []) × (job_in held_file ≡ job_of 0 (2 ∷ 3 ∷ []) (2049 ∷ 0 ∷ []) (7 ∷ [])) × (read_answer held_file 2 2 1 ≡ Ok (record { second = false; startup = 0; processors = 2; tasks = 1 }))
    × (job_bytes First (job_of 0 (2 ∷ 3 ∷ []) (2049 ∷ 0 ∷ []) (7 ∷ [])) ≡ held_file)
unfolding held_file job_bytes edition_bytes records_bytes record_bytes field_bytes half_bytes hold_of edition_of startup_of second_in answered read_answer read_refusal read_tests length_test file_tests first_refusal multiple_test records_tests record_tests form_test order_test place_test speed_test weight_test work_test standing speeds_of holds_of weights_of processors_test tasks_test byte_at kind_at value_at hold_at field_at half_at is_kind task_before blank max_tasks max_weight max_startup max_processors max_speed
held_reads = (refl, refl, refl, refl)
