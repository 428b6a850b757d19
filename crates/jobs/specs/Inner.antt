-- For the contracts of the functions inside, which nobody else calls.
use Rattle.std.specs.Prelude.{ℕ, zero, suc, ◌+◌, ◌*◌, Bool, true, ◌&&◌, List, ◌∷◌}
use Rattle.chain.specs.Limits.{max_weight}
use Rattle.chain.specs.Refusal.{between, first_refusal}
use Rattle.fields.specs.Field.{field_at}
use Rattle.refusals.specs.Inputs.{record_size}
use Rattle.jobs.specs.JobFile.{task_kind}
use Rattle.jobs.specs.Parse.{record_count, value_at, multiple_test, records_tests}

-- The tests of a file's length and of its records.
unfoldable pub records_refusal : List ℕ → ℕ
records_refusal file = first_refusal (multiple_test file ∷ records_tests file (record_count file))

-- The first four bytes of record i as one number: its kind, where the others are zero.
unfoldable pub front_at : List ℕ → ℕ → ℕ
front_at file i = field_at file (record_size * i)

-- The n records from record i on are tasks' that pass their tests.
unfoldable pub plain_tasks : List ℕ → ℕ → ℕ → Bool
plain_tasks file i zero = true
plain_tasks file i (suc n) =
    (plain_tasks file i n && between task_kind task_kind (front_at file (i + n))) && between 0 max_weight (value_at file (i + n))
