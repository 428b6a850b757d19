-- What the grade of a plan file means, over the answers of the calls and over what they leave. Scope, section 14.
use Rattle.std.specs.Prelude.{ℕ, ◌≤◌, ◌≡◌, List, ◌∷◌, ◌++◌, ◌↔◌, length, take, drop, Ok}
use Rattle.bound.specs.Order.{◌≼◌, ◌≺◌}
use Rattle.chain.specs.Job.{Job, Partition, bottleneck}
use Rattle.fields.specs.Field.{Bytes}
use Rattle.refusals.specs.Inputs.{plan_needed}
use Rattle.jobs.specs.Parse.{job_in, file_refusal}
use Rattle.planfile.specs.PlanFile.{TruePlan}
use Rattle.planfile.specs.Answers.{write_plan_bytes}
use Rattle.grading.specs.declared.grades.Grade.TheVariants.{Best, Valid}
use Rattle.grading.specs.Answers.{grade_answer}
use Rattle.grading.specs.Files.{host_grades}
use Rattle.planner.specs.Answers.{plan_writes}
use Rattle.planner.specs.HostCall.{host_writes}
use Rattle.demands.specs.Call.{ByLists, job_by, lists_in, TestJob, Plan, WritePlan, Grade, PlanJob, GradePlan, said}
use Rattle.demands.specs.Demands.{Accepts}

-- An accepted plan file beside its job. Its bytes are the plan file of a division;
pub record GradeLeft (job : Job) (plan : List ℕ) : Type 0 where
  pub told : TruePlan job plan
  -- Scope 14.4: "A true plan file is best where no division of the job has a smaller bottleneck; else it is valid."
  pub best : (grade_answer job plan ≡ Ok Best)
      ↔ ((t : List ℕ) → Partition job t → bottleneck job told.separators ≼ bottleneck job t)
  pub valid : (grade_answer job plan ≡ Ok Valid)
      ↔ ((t : List ℕ) × Partition job t × (bottleneck job t ≺ bottleneck job told.separators))

-- The bytes of the plan file in a buffer that was lent for it.
abbrev pub plan_in : Job → List ℕ → List ℕ
plan_in job buffer = take (plan_needed job) buffer

-- Grading, of accepted calls. The entries of a plan file are bytes.
pub record Grades : Type 0 where
  -- Scope 14.5: "Beside a job that is accepted every true plan file is accepted, and no other."
  pub accepted : (g : ByLists) (plan : List ℕ) → Bytes plan
      → Accepts (Grade g plan) ↔ (Accepts (TestJob g) × TruePlan (job_by g) plan)
  pub graded : (g : ByLists) (plan : List ℕ) → Bytes plan → Accepts (Grade g plan) → GradeLeft (job_by g) plan
  -- The file that the writer makes of a division is accepted, whichever division it is.
  pub division : (g : ByLists) (s buffer : List ℕ) → Accepts (WritePlan g s buffer)
      → Accepts (Grade g (plan_in (job_by g) (write_plan_bytes (job_by g) s buffer)))
  -- Scope 14.6: "The files that the writer and the C call make of a plan are best, by whichever method it was made."
  -- The writer's,
  pub own : (m : ℕ) (g : ByLists) (s t buffer : List ℕ) → Accepts (Plan m g s t)
      → Accepts (WritePlan g (plan_writes (job_by g) m s t) buffer)
      → grade_answer (job_by g) (plan_in (job_by g) (write_plan_bytes (job_by g) (plan_writes (job_by g) m s t) buffer))
      ≡ Ok Best
  -- and that of the C call, graded by the C call: the buffer's first byte becomes 1.
  pub host_own : (file plan grade : List ℕ) (m : ℕ) → Accepts (PlanJob file m plan) → 1 ≤ length grade
      → Accepts (GradePlan file (plan_in (job_in file) (host_writes file m plan)) grade)
      × (host_grades file (plan_in (job_in file) (host_writes file m plan)) grade ≡ 1 ∷ drop 1 grade)
  -- The C call accepts what the call by lists accepts of the job in an accepted file, where there is room for the
  -- grade, and leaves the grade that the call by lists says.
  pub host : (file plan grade : List ℕ) → Accepts (GradePlan file plan grade)
      ↔ ((file_refusal file ≡ 0) × (1 ≤ length grade) × Accepts (Grade (lists_in file) plan))
  pub host_same : (file plan grade : List ℕ) → Accepts (GradePlan file plan grade)
      → host_grades file plan grade ≡ (said (Grade (lists_in file) plan)).values ++ drop 1 grade
