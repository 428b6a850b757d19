-- Every callable function in one type: what a call takes, what it says, the tests that it makes, what it leaves. A
-- line says it by the definition that the function's contract is an equation with. The rows are those of docs/API.md,
-- in its order.
use Rattle.std.specs.Prelude.{ℕ, zero, suc, ◌≡◌, Bool, cond, List, [], ◌∷◌, ◌++◌, eqb, length, take}
use Rattle.bound.specs.declared.Bound.{Bound}
use Rattle.chain.specs.Numbers.{chosen_of}
use Rattle.chain.specs.Job.{Edition, startup_of, edition_of, Job, job_of, bottleneck}
use Rattle.chain.specs.Probe as probing
use Rattle.chain.specs.Heuristic as guessing
use Rattle.chain.specs.Halving as splitting
use Rattle.chain.specs.Refusal.{Test, nothing, measure_inputs, halving_inputs, call_tests, refusal}
use Rattle.refusals.specs.Inputs.{plan_needed, bytes_needed, probe_inputs, heuristic_inputs, plan_inputs, write_inputs}
use Rattle.refusals.specs.Inputs.{write_plan_inputs}
use Rattle.refusals.specs.Answers.{Said, alone, bound_values, written_said}
use Rattle.jobs.specs.Parse.{record_count, second_in, startup_in, speeds_of, holds_of, weights_of}
use Rattle.jobs.specs.Answers.{read_said, read_tests, read_answer, read_speeds, read_holds, read_weights, write_answer}
use Rattle.jobs.specs.Answers.{write_bytes}
use Rattle.calls.specs.Answers.{measured_said, outcome_values, probed_said, measure_answer, probe_answer, probe_writes}
use Rattle.calls.specs.Answers.{heuristic_answer, heuristic_writes, halving_answer, halving_writes}
use Rattle.planfile.specs.Answers.{write_plan_answer, write_plan_bytes}
use Rattle.planfile.specs.PlanFile.{grade_inputs}
use Rattle.grading.specs.Answers.{grade_values, graded_said, read_grade, grade_answer}
use Rattle.grading.specs.Files.{grade_tests, host_grade, host_grades}
use Rattle.planner.specs.Answers.{planned_said, chosen_values, plan_refusal, plan_answer, plan_writes, ScratchAfter}
use Rattle.planner.specs.HostCall.{host_tests, host_answer, host_writes}
use Rattle.listing.specs.Listing.{listing}
use Rattle.listing.specs.Answers.{list_tests, list_answer, list_writes}

-- A job as a call by lists takes it. Scope 17.3: "By lists the edition is given as a yes or no, second or not, with c
-- beside it". Scope 18.3: "by lists the holds are a third list, in the order of the row".
pub record ByLists : Type 0 where
  pub second : Bool
  pub startup : ℕ
  pub speeds : List ℕ
  pub holds : List ℕ
  pub weights : List ℕ

abbrev pub by_lists : Bool → ℕ → List ℕ → List ℕ → List ℕ → ByLists
by_lists second c es hs ws = record { second = second; startup = c; speeds = es; holds = hs; weights = ws }

abbrev pub edition_by : ByLists → Edition
edition_by g = edition_of g.second g.startup

abbrev pub job_by : ByLists → Job
job_by g = job_of (startup_of (edition_by g)) g.speeds g.holds g.weights

-- What reading answers and leaves of a file, as a call by lists takes it.
abbrev pub lists_in : List ℕ → ByLists
lists_in file = by_lists (second_in file) (startup_in file) (speeds_of file) (holds_of file) (weights_of file)

-- A call with all that it is given. Scope 10.1: "with whichever file, list, method or bound".
pub data Call : Type 0 where
  TestJob : (job : ByLists) → Call
  ReadJob : (file speeds holds weights : List ℕ) → Call
  WriteJob : (job : ByLists) (file : List ℕ) → Call
  Measure : (job : ByLists) (separators : List ℕ) → Call
  Probe : (job : ByLists) (bound : Bound) (separators : List ℕ) → Call
  Heuristic : (job : ByLists) (separators : List ℕ) → Call
  Halving : (job : ByLists) (separators : List ℕ) → Call
  Plan : (method : ℕ) (job : ByLists) (separators scratch : List ℕ) → Call
  WritePlan : (job : ByLists) (separators plan : List ℕ) → Call
  Grade : (job : ByLists) (plan : List ℕ) → Call
  ListJob : (file out : List ℕ) → Call
  PlanJob : (file : List ℕ) (method : ℕ) (plan : List ℕ) → Call
  GradePlan : (file plan grade : List ℕ) → Call

-- What its answer says, number and values.
abbrev pub said : Call → Said
said (TestJob g) = alone (refusal (job_by g) nothing)
said (ReadJob file es hs ws) = read_said (read_answer file (length es) (length hs) (length ws))
said (WriteJob g file) = written_said (write_answer (edition_by g) (job_by g) (length file))
said (Measure g s) = measured_said (measure_answer (job_by g) s)
said (Probe g B s) = probed_said (probe_answer (job_by g) B s)
said (Heuristic g s) = measured_said (heuristic_answer (job_by g) s)
said (Halving g s) = measured_said (halving_answer (job_by g) s)
said (Plan m g s t) = planned_said (plan_answer (edition_by g) (job_by g) m s t)
said (WritePlan g s plan) = written_said (write_plan_answer (job_by g) s (length plan))
said (Grade g plan) = graded_said (grade_answer (job_by g) plan)
said (ListJob file out) = written_said (list_answer file (length out))
said (PlanJob file m plan) = alone (host_answer file m (length plan))
said (GradePlan file plan grade) = alone (host_grade file plan (length grade))

-- The values that it says where nothing refuses it.
abbrev pub values : Call → List ℕ
values (TestJob g) = []
values (ReadJob file es hs ws) =
    cond (second_in file) 2 1 ∷ startup_in file ∷ length (speeds_of file) ∷ length (weights_of file) ∷ []
values (WriteJob g file) = bytes_needed (edition_by g) (job_by g) ∷ []
values (Measure g s) = bound_values (bottleneck (job_by g) (take (suc (length g.speeds)) s))
values (Probe g B s) = outcome_values (probing.probe (job_by g) B)
values (Heuristic g s) = bound_values (bottleneck (job_by g) (guessing.heuristic (job_by g)))
values (Halving g s) = bound_values (bottleneck (job_by g) (splitting.halving (job_by g)))
values (Plan m g s t) = chosen_values (edition_by g) (job_by g) (chosen_of m)
values (WritePlan g s plan) = plan_needed (job_by g) ∷ []
values (Grade g plan) = grade_values (read_grade (job_by g) plan)
values (ListJob file out) = length (listing file) ∷ []
values (PlanJob file m plan) = []
values (GradePlan file plan grade) = []

-- The tests that it makes. Scope 8.2: "each call making those of the inputs that it takes".
abbrev pub tests : Call → List Test
tests (TestJob g) = call_tests (job_by g) nothing
tests (ReadJob file es hs ws) = read_tests file (length es) (length hs) (length ws)
tests (WriteJob g file) = call_tests (job_by g) (write_inputs (edition_by g) (job_by g) (length file))
tests (Measure g s) = call_tests (job_by g) (measure_inputs (job_by g) s)
tests (Probe g B s) = call_tests (job_by g) (probe_inputs (job_by g) B (length s))
tests (Heuristic g s) = call_tests (job_by g) (heuristic_inputs (job_by g) (length s))
tests (Halving g s) = call_tests (job_by g) (halving_inputs (job_by g) (length s))
tests (Plan m g s t) = call_tests (job_by g) (plan_inputs (job_by g) m (length s) (length t))
tests (WritePlan g s plan) = call_tests (job_by g) (write_plan_inputs (job_by g) s (length plan))
tests (Grade g plan) = call_tests (job_by g) (grade_inputs (job_by g) plan)
tests (ListJob file out) = list_tests (length out)
tests (PlanJob file m plan) = host_tests file m (length plan)
tests (GradePlan file plan grade) = grade_tests file plan (length grade ∷ [])

-- The numbers that it can be refused with.
abbrev pub numbers : Call → List ℕ
numbers (TestJob g) = 16 ∷ 5 ∷ 6 ∷ 7 ∷ 8 ∷ 9 ∷ []
numbers (ReadJob file es hs ws) = 2 ∷ 3 ∷ 4 ∷ 15 ∷ 5 ∷ 6 ∷ 16 ∷ 7 ∷ 8 ∷ 9 ∷ []
numbers (WriteJob g file) = 16 ∷ 5 ∷ 6 ∷ 7 ∷ 8 ∷ 9 ∷ []
numbers (Measure g s) = 16 ∷ 5 ∷ 6 ∷ 7 ∷ 8 ∷ 9 ∷ 11 ∷ []
numbers (Probe g B s) = 16 ∷ 5 ∷ 6 ∷ 7 ∷ 8 ∷ 9 ∷ 17 ∷ 10 ∷ []
numbers (Heuristic g s) = 16 ∷ 5 ∷ 6 ∷ 7 ∷ 8 ∷ 9 ∷ 18 ∷ []
numbers (Halving g s) = 16 ∷ 5 ∷ 6 ∷ 7 ∷ 8 ∷ 14 ∷ 9 ∷ 18 ∷ []
numbers (Plan m g s t) = 1 ∷ 16 ∷ 5 ∷ 6 ∷ 7 ∷ 8 ∷ 9 ∷ 17 ∷ 18 ∷ []
numbers (WritePlan g s plan) = 16 ∷ 5 ∷ 6 ∷ 7 ∷ 8 ∷ 9 ∷ 11 ∷ []
numbers (Grade g plan) = 16 ∷ 5 ∷ 6 ∷ 7 ∷ 8 ∷ 9 ∷ 12 ∷ 11 ∷ 13 ∷ []
numbers (ListJob file out) = 9 ∷ []
numbers (PlanJob file m plan) = 1 ∷ 2 ∷ 3 ∷ 4 ∷ 15 ∷ 5 ∷ 6 ∷ 16 ∷ 7 ∷ 8 ∷ 9 ∷ 17 ∷ 18 ∷ []
numbers (GradePlan file plan grade) = 2 ∷ 3 ∷ 4 ∷ 15 ∷ 5 ∷ 6 ∷ 16 ∷ 7 ∷ 8 ∷ 9 ∷ 12 ∷ 11 ∷ 13 ∷ []

-- Scope 8.3: "the tests 3, 4, 15, 5, 6 and 16 go record by record from the front, within a record in this order". Of n
-- records:
unfoldable pub records_order : ℕ → List ℕ
records_order zero = []
records_order (suc n) = records_order n ++ 3 ∷ 4 ∷ 15 ∷ 5 ∷ 6 ∷ 16 ∷ []

unfoldable pub file_order : List ℕ → List ℕ
file_order file = 2 ∷ (records_order (record_count file) ++ 7 ∷ 8 ∷ [])

-- Scope 18.20: "18 is given, after 17, for method 4"
unfoldable pub free_order : ℕ → List ℕ
free_order m = cond (eqb m 4) (18 ∷ []) []

-- Scope 8.2: "The tests are made in the order of the numbers, but 14 directly after 8, 17 and then 18 directly after
-- 9, 12 before 11, 15 directly after 4, and 16 directly after 6 or, in lists, directly before 5": the number of each
-- test, 9 for each list that is lent and for the list of holds.
abbrev pub order : Call → List ℕ
order (TestJob g) = numbers (TestJob g)
order (ReadJob file es hs ws) = file_order file ++ 9 ∷ 9 ∷ 9 ∷ []
order (WriteJob g file) = 16 ∷ 5 ∷ 6 ∷ 7 ∷ 8 ∷ 9 ∷ 9 ∷ []
order (Measure g s) = 16 ∷ 5 ∷ 6 ∷ 7 ∷ 8 ∷ 9 ∷ 9 ∷ 11 ∷ []
order (Probe g B s) = 16 ∷ 5 ∷ 6 ∷ 7 ∷ 8 ∷ 9 ∷ 9 ∷ 17 ∷ 10 ∷ []
order (Heuristic g s) = 16 ∷ 5 ∷ 6 ∷ 7 ∷ 8 ∷ 9 ∷ 9 ∷ 18 ∷ []
order (Halving g s) = 16 ∷ 5 ∷ 6 ∷ 7 ∷ 8 ∷ 14 ∷ 9 ∷ 9 ∷ 18 ∷ []
order (Plan m g s t) = 1 ∷ 16 ∷ 5 ∷ 6 ∷ 7 ∷ 8 ∷ 9 ∷ 9 ∷ 9 ∷ 17 ∷ free_order m
order (WritePlan g s plan) = 16 ∷ 5 ∷ 6 ∷ 7 ∷ 8 ∷ 9 ∷ 9 ∷ 9 ∷ 11 ∷ []
order (Grade g plan) = numbers (Grade g plan)
order (ListJob file out) = numbers (ListJob file out)
order (PlanJob file m plan) = 1 ∷ (file_order file ++ 9 ∷ 17 ∷ free_order m)
order (GradePlan file plan grade) = file_order file ++ 9 ∷ 12 ∷ 11 ∷ 13 ∷ []

-- The lists and buffers that are lent to it for writing. What it only reads it cannot write: a `&[..]` of its
-- signature.
abbrev pub lent : Call → List (List ℕ)
lent (TestJob g) = []
lent (ReadJob file es hs ws) = es ∷ hs ∷ ws ∷ []
lent (WriteJob g file) = file ∷ []
lent (Measure g s) = []
lent (Probe g B s) = s ∷ []
lent (Heuristic g s) = s ∷ []
lent (Halving g s) = s ∷ []
lent (Plan m g s t) = s ∷ t ∷ []
lent (WritePlan g s plan) = plan ∷ []
lent (Grade g plan) = []
lent (ListJob file out) = out ∷ []
lent (PlanJob file m plan) = plan ∷ []
lent (GradePlan file plan grade) = grade ∷ []

-- It leaves these in their place. Of the work numbers of a plan this says what its contract does, and no more.
abbrev pub Leaves : Call → List (List ℕ) → Type 0
Leaves (TestJob g) left = left ≡ []
Leaves (ReadJob file es hs ws) left =
    left ≡ read_speeds file es hs ws ∷ read_holds file es hs ws ∷ read_weights file es hs ws ∷ []
Leaves (WriteJob g file) left = left ≡ write_bytes (edition_by g) (job_by g) file ∷ []
Leaves (Measure g s) left = left ≡ []
Leaves (Probe g B s) left = left ≡ probe_writes (job_by g) B s ∷ []
Leaves (Heuristic g s) left = left ≡ heuristic_writes (job_by g) s ∷ []
Leaves (Halving g s) left = left ≡ halving_writes (job_by g) s ∷ []
Leaves (Plan m g s t) left =
    (t' : List ℕ) × ScratchAfter (plan_refusal (job_by g) m (length s) (length t)) (job_by g) t t'
    × (left ≡ plan_writes (job_by g) m s t ∷ t' ∷ [])
Leaves (WritePlan g s plan) left = left ≡ write_plan_bytes (job_by g) s plan ∷ []
Leaves (Grade g plan) left = left ≡ []
Leaves (ListJob file out) left = left ≡ list_writes file out ∷ []
Leaves (PlanJob file m plan) left = left ≡ host_writes file m plan ∷ []
Leaves (GradePlan file plan grade) left = left ≡ host_grades file plan grade ∷ []
