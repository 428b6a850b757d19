-- What each call by lists takes beside the job. Scope 8.2: "each call making those of the inputs that it takes".
use Rattle.std.specs.Prelude.{ℕ, suc, ◌+◌, ◌*◌, cond, List, [], ◌∷◌, eqb, length}
use Rattle.bound.specs.declared.Bound.{Bound}
use Rattle.chain.specs.Job.{Edition, First, Second, Job, tasks, processors}
use Rattle.chain.specs.Refusal.{Inputs, nothing, with_method, lending, dividing, without_holds, with_bound, with_division, separators_needed}

-- Scope 7.2: "8-byte records", of a job file.
abbrev pub record_size : ℕ
record_size = 8

-- Scope 7.7: "one 16-byte record for each machine", of a plan file.
abbrev pub plan_record_size : ℕ
plan_record_size = 16

-- Scope 8.7: "5 × (N + 1) work numbers"
abbrev pub scratch_lists : ℕ
scratch_lists = 5

abbrev pub scratch_needed : Job → ℕ
scratch_needed job = scratch_lists * suc (tasks job)

-- Scope 8.7: "16 × P bytes for a plan"
abbrev pub plan_needed : Job → ℕ
plan_needed job = plan_record_size * processors job

-- Scope 17.9: "A job file of the second edition has one record more, in front"
unfoldable pub head_records : Edition → ℕ
head_records First = 0
head_records (Second c) = 1

-- Scope 8.7: "8 × (N + P) bytes for a job file", 8 more in the second edition.
abbrev pub bytes_needed : Edition → Job → ℕ
bytes_needed edition job = record_size * (head_records edition + (tasks job + processors job))

-- A list of this length for the separators: what every call that divides or takes a division begins with.
abbrev pub list_inputs : Job → ℕ → Inputs
list_inputs job lent = lending (separators_needed job) lent nothing

-- The probe ("trial"): a list of this length for the separators, holds that are enough, and the bound.
abbrev pub probe_inputs : Job → Bound → ℕ → Inputs
probe_inputs job B lent = lending (separators_needed job) lent (dividing job (with_bound B nothing))

-- The heuristic ("quick plan"): a list of this length for the separators, and no holds.
abbrev pub heuristic_inputs : Job → ℕ → Inputs
heuristic_inputs job lent = lending (separators_needed job) lent (without_holds job nothing)

-- Planning: lists of these lengths for the separators and the work numbers, and holds that are enough;
abbrev pub plan_lists : Job → ℕ → ℕ → Inputs
plan_lists job separators scratch =
    lending (separators_needed job) separators (lending (scratch_needed job) scratch (dividing job nothing))

-- by method 4 no holds,
unfoldable pub free_by : ℕ → Job → List Job
free_by m job = cond (eqb m 4) (job ∷ []) []

abbrev pub method_inputs : Job → ℕ → ℕ → ℕ → Inputs
method_inputs job m separators scratch =
    record {
      methods = [];
      rows = [];
      lists = (plan_lists job separators scratch).lists;
      keeping = job ∷ [];
      free = free_by m job;
      bounds = [];
      divisions = [];
      plans = [];
    }

-- and first the number of the method.
abbrev pub plan_inputs : Job → ℕ → ℕ → ℕ → Inputs
plan_inputs job m separators scratch = with_method m (method_inputs job m separators scratch)

-- Writing a job file: a buffer of this length.
abbrev pub write_inputs : Edition → Job → ℕ → Inputs
write_inputs edition job lent = lending (bytes_needed edition job) lent nothing

-- Writing a plan file: the separators of a division, and a buffer of this length.
abbrev pub write_plan_inputs : Job → List ℕ → ℕ → Inputs
write_plan_inputs job s lent = lending (separators_needed job) (length s) (lending (plan_needed job) lent (with_division s nothing))
