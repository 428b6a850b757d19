-- What the grade of a plan file means holds: `grades`.
-- Assumes nothing.
use Prim.Native.Nat.{ℕ, suc, ◌≤◌}
use mathlib.Core.Path.{◌≡◌, sym, ap, subst, ◌∙◌}
use mathlib.Core.List.{List, ◌∷◌, ◌++◌}
use mathlib.Core.Logic.{◌↔◌}
use lib.Dec.{T}
use lib.ListN.{length, take, drop}
use lib.Seq.{take_at}
use Rattle.std.specs.Prelude.{Result, Ok}
use Rattle.chain.specs.declared.Refusal.{Refusal}
use Rattle.chain.specs.Job.{Job, Valid, processors, enough, Partition}
use Rattle.chain.specs.Plan.{plan_of}
use Rattle.chain.specs.Refusal.{separators_of, refusal}
use Rattle.chain.proofs.Demand.{plan_of_best}
use Rattle.chain.proofs.Parts.{valid_plannable}
use Rattle.chain.proofs.Enough.{partition_enough}
use Rattle.chain.proofs.Refusals.{Told, plan_accepted}
use Rattle.fields.specs.Field.{Bytes}
use Rattle.refusals.specs.Inputs.{plan_needed, write_plan_inputs}
use Rattle.refusals.proofs.Accepted.{Accepted, accepted}
use Rattle.refusals.proofs.Lent.{lent-front}
use Rattle.jobs.specs.Parse.{job_in, file_refusal}
use Rattle.planfile.specs.PlanFile.{plan_bytes, TruePlan, plan_read, grade_inputs}
use Rattle.planfile.specs.Answers.{write_plan_bytes}
use Rattle.planfile.proofs.Records.{length_plan}
use Rattle.planfile.proofs.Reading.{told_bytes}
use Rattle.planfile.proofs.Promises.{write_plan_number}
use Rattle.grading.specs.declared.grades.Grade.{Grade as Graded}
use Rattle.grading.specs.declared.grades.Grade.TheVariants.{Best}
use Rattle.grading.specs.Answers.{graded_said, grade_of, grade_answer}
use Rattle.grading.specs.Files.{host_grade, host_grades}
use Rattle.grading.proofs.Promises.{grade_number, grade_parts, grade_accepts, grade_accepted, best_exactly}
use Rattle.grading.proofs.Promises.{valid_exactly, division_accepted, plan_graded, host_parts, host_grade_takes}
use Rattle.grading.proofs.Promises.{host_grade_same, host_grade_writes}
use Rattle.planner.specs.Answers.{plan_writes}
use Rattle.planner.specs.HostCall.{host_writes}
use Rattle.planner.proofs.Numbers.{host_plan, host_valid, host_enough, host_file}
use Rattle.demands.specs.Call.{ByLists, job_by, lists_in, TestJob, Plan, WritePlan, Grade, PlanJob, GradePlan}
use Rattle.demands.specs.Demands.{Accepts}
use Rattle.demands.specs.Grades.{GradeLeft, plan_in, Grades}
use Rattle.demands.proofs.Demands.{ok_same, left, lists_job}

-- By lists.
module _ (g : ByLists) (plan : List ℕ) where
  abbrev job : Job
  job = job_by g

  none : Accepts (Grade g plan) → refusal job (grade_inputs job plan) ≡ 0
  none e = sym (grade_number job plan) ∙ e

  accepts : Bytes plan → Accepts (Grade g plan) ↔ (Accepts (TestJob g) × TruePlan job plan)
  accepts b = (
    λ e. (((grade_parts job plan).0 (none e)).0, ((grade_accepts job plan b).0 (none e)).1),
    λ (e, t). grade_number job plan ∙ (grade_accepts job plan b).1 ((accepted e).valid, t),
  )

  graded : Bytes plan → Accepts (Grade g plan) → GradeLeft job plan
  graded b e =
      let z = none e in
      let v : Valid job = (accepted ((grade_parts job plan).0 z).0).valid in
      let t : Told job (plan_read job plan) =
      (plan_accepted job (plan_read job plan)).0 ((grade_parts job plan).0 z).1 in
      let s : List ℕ = separators_of job (plan_read job plan) in
      let is : grade_answer job plan ≡ Ok (grade_of job s) = grade_accepted job plan z in
      let enough-holds : T (enough job) = partition_enough job t.division in
      record {
        told = record { separators = s; division = t.division; bytes = told_bytes job plan b t };
        best = (λ h. (best_exactly v s).0 (ok_same (sym is ∙ h)), λ h. is ∙ ap Ok ((best_exactly v s).1 h));
        valid = (
          λ h. (valid_exactly v s enough-holds).0 (ok_same (sym is ∙ h)),
          λ h. is ∙ ap Ok ((valid_exactly v s enough-holds).1 h),
        );
      }

-- What the writer leaves in its buffer, of an accepted call.
module _ (g : ByLists) (s buffer : List ℕ) (e : Accepts (WritePlan g s buffer)) where
  abbrev row : Job
  row = job_by g

  written : refusal row (write_plan_inputs row s (length buffer)) ≡ 0
  written = sym (write_plan_number row s (length buffer)) ∙ e

  took : Accepted row (write_plan_inputs row s (length buffer))
  took = accepted written

  bytes : plan_in row (write_plan_bytes row s buffer) ≡ plan_bytes row (take (suc (processors row)) s)
  unfolding write_plan_bytes
  bytes =
      let front : List ℕ = take (suc (processors row)) s in
      ap (plan_in row) (lent-front (plan_bytes row front) buffer written (length_plan row front))
      ∙ take_at (plan_bytes row front) (drop (plan_needed row) buffer) (plan_needed row) (length_plan row front)

  division : Accepts (Grade g (plan_in row (write_plan_bytes row s buffer)))
  division =
      subst (λ (l : List ℕ). Accepts (Grade g l)) (sym bytes)
      (grade_number row (plan_bytes row (take (suc (processors row)) s))
      ∙ division_accepted took.valid took.divisions.0)

own : (m : ℕ) (g : ByLists) (s t buffer : List ℕ) → Accepts (Plan m g s t)
    → Accepts (WritePlan g (plan_writes (job_by g) m s t) buffer)
    → grade_answer (job_by g) (plan_in (job_by g) (write_plan_bytes (job_by g) (plan_writes (job_by g) m s t) buffer))
    ≡ Ok Best
own m g s t buffer e f =
    ap (grade_answer (job_by g)) (bytes g (plan_writes (job_by g) m s t) buffer f
    ∙ ap (plan_bytes (job_by g)) (left m g s t e))
    ∙ plan_graded (took g (plan_writes (job_by g) m s t) buffer f).valid
    (partition_enough (job_by g) (took g (plan_writes (job_by g) m s t) buffer f).divisions.0)

-- By files.
host_own : (file plan grade : List ℕ) (m : ℕ) → Accepts (PlanJob file m plan) → 1 ≤ length grade
    → Accepts (GradePlan file (plan_in (job_in file) (host_writes file m plan)) grade)
    × (host_grades file (plan_in (job_in file) (host_writes file m plan)) grade ≡ 1 ∷ drop 1 grade)
host_own file plan grade m e h = (
  takes,
  host_grade_writes file mine grade takes ∙ ap (λ (answer : Result Graded Refusal). (graded_said answer).values
      ++ drop 1 grade) (ap (grade_answer (job_in file)) is ∙ plan_graded v enough-holds),
)
  where
    v : Valid (job_in file)
    v = host_valid file m (length plan) e

    enough-holds : T (enough (job_in file))
    enough-holds = host_enough file m (length plan) e

    best : Partition (job_in file) (plan_of (job_in file))
    best = (plan_of_best (valid_plannable v enough-holds)).partition

    mine : List ℕ
    mine = plan_in (job_in file) (host_writes file m plan)

    is : mine ≡ plan_bytes (job_in file) (plan_of (job_in file))
    is =
        ap (plan_in (job_in file)) (host_plan file plan m e)
        ∙ take_at (plan_bytes (job_in file) (plan_of (job_in file))) (drop (plan_needed (job_in file)) plan)
        (plan_needed (job_in file)) (length_plan (job_in file) (plan_of (job_in file)))

    takes : host_grade file mine (length grade) ≡ 0
    takes =
        host_grade_takes file mine (length grade) (host_file file m (length plan) e) h
        (subst (λ (l : List ℕ). refusal (job_in file) (grade_inputs (job_in file) l) ≡ 0) (sym is)
        (division_accepted v best))

host : (file plan grade : List ℕ) → Accepts (GradePlan file plan grade)
    ↔ ((file_refusal file ≡ 0) × (1 ≤ length grade) × Accepts (Grade (lists_in file) plan))
host file plan grade = (
  λ e.
      let p = (host_parts file plan (length grade)).0 e in (
        p.0,
        p.1,
        ap (λ (job : Job). (graded_said (grade_answer job plan)).number) (lists_job file)
            ∙ grade_number (job_in file) plan
            ∙ host_grade_same file plan (length grade) e,
      ),
  λ (e, h, f).
      host_grade_takes file plan (length grade) e h
      (sym (grade_number (job_in file) plan)
      ∙ sym (ap (λ (job : Job). (graded_said (grade_answer job plan)).number) (lists_job file)) ∙ f),
)

pub grades : Grades
grades =
    record {
      accepted = accepts;
      graded = graded;
      division = division;
      own = own;
      host_own = host_own;
      host = host;
      host_same = λ file plan grade e.
          host_grade_writes file plan grade e
          ∙ ap (λ (job : Job). (graded_said (grade_answer job plan)).values ++ drop 1 grade) (sym (lists_job file));
    }
