-- What a plan file is: the bytes of a job's partition, as they are written, and its records, as they are read. Scope, sections 7 and 14.
use Rattle.std.specs.Prelude.{ℕ, zero, suc, ◌+◌, ◌*◌, ◌≡◌, List, [], ◌++◌, length}
use Rattle.chain.specs.Job.{Job, processors, speed_of, part_load, at, Partition}
use Rattle.chain.specs.Refusal.{PlanRecords, Inputs, nothing, with_plan}
use Rattle.fields.specs.Field.{field_size, field_bytes, field_at}
use Rattle.refusals.specs.Inputs.{plan_record_size, plan_needed}

-- Scope 7.7: "four 32-bit fields: s(p−1), sp, the load, the speed", the scope's machine p being processor p − 1 here.
unfoldable pub plan_record : Job → List ℕ → ℕ → List ℕ
plan_record job s p =
    field_bytes (at s p) ++ field_bytes (at s (suc p)) ++ field_bytes (part_load job (at s p) (at s (suc p))) ++ field_bytes (speed_of job p)

-- The records of the first n processors, in order.
unfoldable pub plan_bytes_to : Job → List ℕ → ℕ → List ℕ
plan_bytes_to job s zero = []
plan_bytes_to job s (suc p) = plan_bytes_to job s p ++ plan_record job s p

-- Scope 7.7: "A plan file has one 16-byte record for each machine"
unfoldable pub plan_bytes : Job → List ℕ → List ℕ
plan_bytes job s = plan_bytes_to job s (processors job)

-- Scope 14.3: "A plan file is true where it is the plan file of some division of the job."
pub record TruePlan (job : Job) (plan : List ℕ) : Type 0 where
  pub separators : List ℕ
  pub division : Partition job separators
  pub bytes : plan ≡ plan_bytes job separators

-- A plan file of any maker, as it is read beside the job. Scope 7.7: "four 32-bit fields: s(p−1), sp, the load, the speed".
abbrev pub plan_read : Job → List ℕ → PlanRecords
plan_read job plan =
    record {
      needed = plan_needed job;
      given = length plan;
      from = λ p. field_at plan (plan_record_size * p);
      to = λ p. field_at plan (plan_record_size * p + field_size);
      load = λ p. field_at plan (plan_record_size * p + 2 * field_size);
      speed = λ p. field_at plan (plan_record_size * p + 3 * field_size);
    }

-- Grading takes a plan file beside the job.
abbrev pub grade_inputs : Job → List ℕ → Inputs
grade_inputs job plan = with_plan (plan_read job plan) nothing
