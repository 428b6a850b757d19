-- How a job file is read and tested, by its places. Scope, sections 7 and 8. Records and their bytes are
-- counted from 0.
use Rattle.std.specs.Prelude.{ℕ, zero, suc, ◌+◌, ◌*◌, ◌/◌, ◌%◌, Bool, false, not, cond, ◌&&◌, ◌||◌, List, [], ◌∷◌, ◌++◌, length, get_or, eqb}
use Rattle.chain.specs.Limits.{max_weight, max_startup, max_speed}
use Rattle.chain.specs.Job.{Edition, startup_of, edition_of, Job, job_of}
use Rattle.chain.specs.Refusal.{Test, test, between, processors_test, tasks_test, first_refusal}
use Rattle.fields.specs.Field.{field_at, half_at}
use Rattle.refusals.specs.Inputs.{record_size}
use Rattle.jobs.specs.JobFile.{processor_kind, task_kind, startup_kind}

-- Scope 7.2: "8-byte records with no header": how many.
abbrev pub record_count : List ℕ → ℕ
record_count file = length file / record_size

-- Byte k of record i.
unfoldable pub byte_at : List ℕ → ℕ → ℕ → ℕ
byte_at file i k = get_or file (record_size * i + k) 0

-- Scope 7.3: "Byte 0 of a record is its kind"
unfoldable pub kind_at : List ℕ → ℕ → ℕ
kind_at file i = byte_at file i 0

-- Scope 7.5: "Bytes 4 to 7 are the speed or the weight": the byte of a record at which its value begins.
abbrev pub value_place : ℕ
value_place = 4

unfoldable pub value_at : List ℕ → ℕ → ℕ
value_at file i = field_at file (record_size * i + value_place)

-- Scope 18.22: "Bytes 2 and 3 of a machine's record are its hold": the byte of a record at which its hold begins.
abbrev pub hold_place : ℕ
hold_place = 2

unfoldable pub hold_at : List ℕ → ℕ → ℕ
hold_at file i = half_at file (record_size * i + hold_place)

-- Record i is of this kind.
unfoldable pub is_kind : ℕ → List ℕ → ℕ → Bool
is_kind kind file i = eqb (kind_at file i) kind

-- A tile stands before record i.
unfoldable pub task_before : List ℕ → ℕ → Bool
task_before file zero = false
task_before file (suc i) = task_before file i || is_kind task_kind file i

-- Refusal 2: "the length of the file is not a multiple of 8"
unfoldable pub multiple_test : List ℕ → Test
multiple_test file = test 2 (eqb (length file % record_size) 0)

-- Scope 18.22: "byte 1 of every record and bytes 2 and 3 of a tile and of start-up work are zero"
unfoldable pub blank : List ℕ → ℕ → Bool
blank file i = eqb (byte_at file i 1) 0 && (is_kind processor_kind file i || (eqb (byte_at file i 2) 0 && eqb (byte_at file i 3) 0))

-- Refusal 3: "a record's kind is not 1, 2 or 3, or its byte 1 is not zero, or bytes 2 and 3 of a tile or of start-up work are not zero"
unfoldable pub form_test : List ℕ → ℕ → Test
form_test file i = test 3 ((is_kind processor_kind file i || is_kind task_kind file i || is_kind startup_kind file i) && blank file i)

-- Refusal 4: "a machine stands behind a tile"
unfoldable pub order_test : List ℕ → ℕ → Test
order_test file i = test 4 (not (is_kind processor_kind file i && task_before file i))

-- Refusal 15: "a record of kind 3 stands behind the first record"
unfoldable pub place_test : List ℕ → ℕ → Test
place_test file i = test 15 (not (is_kind startup_kind file i) || eqb i 0)

-- Refusal 5: "a speed is out of range"
unfoldable pub speed_test : List ℕ → ℕ → Test
speed_test file i = test 5 (not (is_kind processor_kind file i) || between 1 max_speed (value_at file i))

-- Refusal 6: "a weight is out of range"
unfoldable pub weight_test : List ℕ → ℕ → Test
weight_test file i = test 6 (not (is_kind task_kind file i) || between 0 max_weight (value_at file i))

-- Refusal 16: "the start-up work is out of range"
unfoldable pub work_test : List ℕ → ℕ → Test
work_test file i = test 16 (not (is_kind startup_kind file i) || between 0 max_startup (value_at file i))

-- Scope 8.3: "the tests 3, 4, 15, 5, 6 and 16 go .. within a record in this order". Scope 17.11: "15 is tested beside 4, 16 beside 6."
unfoldable pub record_tests : List ℕ → ℕ → List Test
record_tests file i =
    form_test file i ∷ order_test file i ∷ place_test file i ∷ speed_test file i ∷ weight_test file i ∷ work_test file i ∷ []

-- Scope 8.3: "the tests .. go record by record from the front": the first n records.
unfoldable pub records_tests : List ℕ → ℕ → List Test
records_tests file zero = []
records_tests file (suc n) = records_tests file n ++ record_tests file n

-- What stands in the records of this kind among the first n, in order: f says it by the record's number.
unfoldable pub standing : (ℕ → ℕ) → ℕ → List ℕ → ℕ → List ℕ
standing f kind file zero = []
standing f kind file (suc n) = standing f kind file n ++ cond (is_kind kind file n) (f n ∷ []) []

-- Their values, and the holds of the machines.
abbrev pub values_of : ℕ → List ℕ → ℕ → List ℕ
values_of kind file = standing (value_at file) kind file

abbrev pub holds_among : List ℕ → ℕ → List ℕ
holds_among file = standing (hold_at file) processor_kind file

-- Scope 17.10: "A job whose first record has kind 3 is of the second edition."
unfoldable pub second_in : List ℕ → Bool
second_in file = is_kind startup_kind file 0

-- The edition of a file, and the start-up work that counts.
abbrev pub edition_in : List ℕ → Edition
edition_in file = edition_of (second_in file) (value_at file 0)

abbrev pub startup_in : List ℕ → ℕ
startup_in file = startup_of (edition_in file)

-- The job that a file holds.
unfoldable pub speeds_of : List ℕ → List ℕ
speeds_of file = values_of processor_kind file (record_count file)

unfoldable pub holds_of : List ℕ → List ℕ
holds_of file = holds_among file (record_count file)

unfoldable pub weights_of : List ℕ → List ℕ
weights_of file = values_of task_kind file (record_count file)

abbrev pub job_in : List ℕ → Job
job_in file = job_of (startup_in file) (speeds_of file) (holds_of file) (weights_of file)

-- The tests of a file, in order: 2; 3, 4, 15, 5, 6 and 16, record by record; 7; 8.
unfoldable pub file_tests : List ℕ → List Test
file_tests file =
    multiple_test file
    ∷ (records_tests file (record_count file) ++ processors_test (speeds_of file) ∷ tasks_test (weights_of file) ∷ [])

-- The number that a file is refused with, 0 where it is accepted.
unfoldable pub file_refusal : List ℕ → ℕ
file_refusal file = first_refusal (file_tests file)
