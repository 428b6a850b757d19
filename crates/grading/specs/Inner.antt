-- What the inner functions of grading compare and answer: a plan file's loads and speeds are held against a list of separators.
use Rattle.std.specs.Prelude.{ℕ, suc, ◌+◌, ◌*◌, Bool, ◌&&◌, cond, List, eqb, take, Result, Ok, Err}
use Rattle.chain.specs.declared.Refusal.{Refusal}
use Rattle.chain.specs.declared.Refusal.TheVariants.{UntruePlan}
use Rattle.chain.specs.Lists.{all}
use Rattle.chain.specs.Job.{Job, processors, speed_of, part_load, at}
use Rattle.fields.specs.Field.{field_size, field_at}
use Rattle.refusals.specs.Inputs.{plan_record_size}
use Rattle.planfile.specs.PlanFile.{plan_read}
use Rattle.grading.specs.declared.PlanRecord.{PlanRecord}
use Rattle.grading.specs.declared.grades.Grade.{Grade}
use Rattle.grading.specs.Answers.{grade_of}

-- The record of processor p in a plan file.
abbrev pub record_at : List ℕ → ℕ → PlanRecord
record_at plan p =
    record {
      from = field_at plan (plan_record_size * p);
      to = field_at plan (plan_record_size * p + field_size);
      load = field_at plan (plan_record_size * p + 2 * field_size);
      speed = field_at plan (plan_record_size * p + 3 * field_size);
    }

-- The record of processor p has the load of its part and its speed.
unfoldable pub tells_at : Job → List ℕ → List ℕ → ℕ → Bool
tells_at job s plan p =
    eqb ((plan_read job plan).load p) (part_load job (at s p) (at s (suc p))) && eqb ((plan_read job plan).speed p) (speed_of job p)

-- So has every record.
unfoldable pub tells : Job → List ℕ → List ℕ → Bool
tells job s plan = all (tells_at job s plan) (processors job)

-- The grade of the first P + 1 separators, where every record tells what is so.
unfoldable pub told_grade : Job → List ℕ → List ℕ → Result Grade Refusal
told_grade job s plan = cond (tells job s plan) (Ok (grade_of job (take (suc (processors job)) s))) (Err UntruePlan)
