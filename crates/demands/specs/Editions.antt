-- What the edition of a job changes and what it does not, over the answers of the calls and over what they leave.
-- Scope, section 17.
use Rattle.std.specs.Prelude.{ℕ, zero, suc, ◌+◌, ◌*◌, ◌/◌, ◌≤◌, ◌<◌, ◌^◌, ◌≡◌, Bool, true, false, cond, ◌&&◌, ◌||◌}
use Rattle.std.specs.Prelude.{List, [], ◌∷◌, ◌++◌, ◌≢◌, ◌↔◌, length, get_or, take, drop, Ok}
use Rattle.bound.specs.declared.Bound.{Bound}
use Rattle.bound.specs.Order.{over}
use Rattle.chain.specs.declared.Method.TheVariants.{Bidding}
use Rattle.chain.specs.Lists.{sum_to}
use Rattle.chain.specs.Job.{Edition, Job, tasks, last, speed_of, hold_of, held, part_weight, part_load, total_weight}
use Rattle.chain.specs.Job.{heaviest, fastest, slowest, at, busy}
use Rattle.chain.specs.Heuristic.{margin}
use Rattle.chain.specs.Plan.{plan_of, difference, allowance}
use Rattle.chain.specs.Refusal.{Test, test, speeds_test, weights_test, processors_test, tasks_test, holds_test}
use Rattle.chain.specs.Refusal.{first_refusal, nothing, refusal}
use Rattle.fields.specs.Field.{field_at}
use Rattle.jobs.specs.JobFile.{processor_kind, task_kind, startup_kind, records_bytes, no_hold, job_bytes}
use Rattle.jobs.specs.Parse.{record_count, kind_at, is_kind, blank, multiple_test, order_test, speed_test, weight_test}
use Rattle.jobs.specs.Parse.{speeds_of, weights_of, edition_in, job_in, file_refusal}
use Rattle.jobs.specs.Answers.{read_answer, read_speeds, read_holds, read_weights}
use Rattle.calls.specs.Answers.{probe_writes}
use Rattle.planfile.specs.Answers.{write_plan_bytes}
use Rattle.planner.specs.declared.Figures.{Figures}
use Rattle.planner.specs.Answers.{plan_answer}
use Rattle.planner.specs.HostCall.{host_writes}
use Rattle.demands.specs.Call.{ByLists, by_lists, edition_by, job_by, Call, TestJob, ReadJob, WriteJob, Measure, Probe}
use Rattle.demands.specs.Call.{Heuristic, Halving, Plan, WritePlan, Grade, ListJob, PlanJob, GradePlan, said, Leaves}
use Rattle.demands.specs.Demands.{number, Accepts, front}

-- A job by lists in the edition that this yes or no says, with this start-up work beside it;
abbrev pub in_edition : Bool → ℕ → ByLists → ByLists
in_edition second c g = by_lists second c g.speeds g.holds g.weights

-- a call by lists so, and one by a file as it is.
abbrev pub call_as : Bool → ℕ → Call → Call
call_as b c (TestJob g) = TestJob (in_edition b c g)
call_as b c (ReadJob file es hs ws) = ReadJob file es hs ws
call_as b c (WriteJob g file) = WriteJob (in_edition b c g) file
call_as b c (Measure g s) = Measure (in_edition b c g) s
call_as b c (Probe g B s) = Probe (in_edition b c g) B s
call_as b c (Heuristic g s) = Heuristic (in_edition b c g) s
call_as b c (Halving g s) = Halving (in_edition b c g) s
call_as b c (Plan m g s t) = Plan m (in_edition b c g) s t
call_as b c (WritePlan g s plan) = WritePlan (in_edition b c g) s plan
call_as b c (Grade g plan) = Grade (in_edition b c g) plan
call_as b c (ListJob file out) = ListJob file out
call_as b c (PlanJob file m plan) = PlanJob file m plan
call_as b c (GradePlan file plan grade) = GradePlan file plan grade

-- Two calls answer and leave the same.
pub record Same (call other : Call) : Type 0 where
  pub says : said call ≡ said other
  pub leaves : (left : List (List ℕ)) → Leaves call left ↔ Leaves other left

-- The edition itself is in the answer: in the bytes of a job file, and in the allowance of a plan.
abbrev pub names_edition : Call → Bool
names_edition (TestJob g) = false
names_edition (ReadJob file es hs ws) = false
names_edition (WriteJob g file) = true
names_edition (Measure g s) = false
names_edition (Probe g B s) = false
names_edition (Heuristic g s) = false
names_edition (Halving g s) = false
names_edition (Plan m g s t) = true
names_edition (WritePlan g s plan) = false
names_edition (Grade g plan) = false
names_edition (ListJob file out) = false
names_edition (PlanJob file m plan) = false
names_edition (GradePlan file plan grade) = false

-- A job as it was before there was a second edition: nothing in its loads, its tests, the promises, the allowances and
-- its file has a c.
pub record ByWeights (edition : Edition) (job : Job) : Type 0 where
  -- Scope 17.15: "every load is a weight"
  pub loads : (a b : ℕ) → part_load job a b ≡ part_weight job a b
  pub tests : refusal job nothing
      ≡ first_refusal
      (speeds_test job.speeds ∷ weights_test job.weights ∷ processors_test job.speeds ∷ tasks_test job.weights
      ∷ holds_test job ∷ [])
  pub close : margin job ≡ over (heaviest job) (slowest job)
  pub width : difference job
      ≡ cond (held job) (total_weight job) (heaviest job) * (fastest job * fastest job) / slowest job
  pub trials : allowance edition Bidding job ≡ last job * tasks job + 1
  pub bytes : job_bytes edition job
      ≡ records_bytes processor_kind (hold_of job) job.speeds ++ records_bytes task_kind no_hold job.weights

-- The tests of a file before there was a kind 3: number 3 for a kind that is not 1 or 2, and no 15 and 16.
unfoldable pub two_kinds : List ℕ → ℕ → Test
two_kinds file i = test 3 ((is_kind processor_kind file i || is_kind task_kind file i) && blank file i)

unfoldable pub former_records : List ℕ → ℕ → List Test
former_records file zero = []
former_records file (suc n) =
    former_records file n ++ two_kinds file n ∷ order_test file n ∷ speed_test file n ∷ weight_test file n ∷ []

unfoldable pub former_tests : List ℕ → List Test
former_tests file =
    multiple_test file
    ∷ (former_records file (record_count file) ++ processors_test (speeds_of file) ∷ tasks_test (weights_of file) ∷ [])

-- No record of the file is of kind 3, nor is one that is cut off.
abbrev pub NoStartup : List ℕ → Type 0
NoStartup file = (i : ℕ) → kind_at file i ≢ startup_kind

-- Such a file: its number is that of those tests, and its job is as it was.
pub record AsBefore (file : List ℕ) : Type 0 where
  pub refused : file_refusal file ≡ first_refusal (former_tests file)
  pub weights : ByWeights (edition_in file) (job_in file)

-- A plan's figures are those of another; its allowance too, on more than one processor.
pub record SameFigures (P : ℕ) (f g : Figures) : Type 0 where
  pub count : f.count ≡ g.count
  pub bottleneck : f.bottleneck ≡ g.bottleneck
  pub imbalance : f.imbalance ≡ g.imbalance
  pub allowance : 1 < P → f.allowance ≡ g.allowance

-- A job with c = 0, planned in the second edition and in the first with any c beside it.
pub record SamePlan (c m : ℕ) (g : ByLists) (s t : List ℕ) : Type 0 where
  pub gives : number (Plan m (in_edition true 0 g) s t) ≡ number (Plan m (in_edition false c g) s t)
  pub leaves : (left : List (List ℕ)) → Leaves (Plan m (in_edition true 0 g) s t) left
      ↔ Leaves (Plan m (in_edition false c g) s t) left
  pub figures : (f h : Figures)
      → plan_answer (edition_by (in_edition true 0 g)) (job_by (in_edition true 0 g)) m s t ≡ Ok f
      → plan_answer (edition_by (in_edition false c g)) (job_by (in_edition false c g)) m s t ≡ Ok h
      → SameFigures (length g.speeds) f h

-- Every entry of the list has 16 bits. Scope 18.2: "A hold has 16 bits".
abbrev pub Halves : List ℕ → Type 0
Halves hs = (p : ℕ) → get_or hs p 0 < 2 ^ 16

-- The file of a job, read into es, hs and ws: the edition, the start-up work that counts and the lists are those that
-- were written, the holds cut to P.
pub record ReadBack (g : ByLists) (es hs ws : List ℕ) : Type 0 where
  pub answer : read_answer (job_bytes (edition_by g) (job_by g)) (length es) (length hs) (length ws)
      ≡ Ok (record {
        second = g.second;
        startup = (job_by g).startup;
        processors = length g.speeds;
        tasks = length g.weights;
      })
  pub speeds : read_speeds (job_bytes (edition_by g) (job_by g)) es hs ws ≡ g.speeds ++ drop (length g.speeds) es
  pub holds : read_holds (job_bytes (edition_by g) (job_by g)) es hs ws
      ≡ take (length g.speeds) g.holds ++ drop (length g.speeds) hs
  pub weights : read_weights (job_bytes (edition_by g) (job_by g)) es hs ws ≡ g.weights ++ drop (length g.weights) ws

-- The load of processor p's record, as it is read from the bytes of a plan file.
abbrev pub load_field : List ℕ → ℕ → ℕ
load_field plan p = field_at plan (16 * p + 8)

-- The work that all machines with tiles start with.
abbrev pub startups : Job → List ℕ → ℕ
startups job s = job.startup * busy job s

pub record Editions : Type 0 where
  -- Scope 17.15: "What a call of the first edition answers and leaves is the same whatever c is given, and it is by
  -- weights alone"
  pub whatever : (c d : ℕ) (call : Call) → Same (call_as false c call) (call_as false d call)
  pub weights : (c : ℕ) (g : ByLists) → ByWeights (edition_by (in_edition false c g)) (job_by (in_edition false c g))
  pub former : (file : List ℕ) → NoStartup file → AsBefore file
  -- Scope 17.16: "With c = 0 a job of the second edition is answered as one of the first, but for the allowance of
  -- 17.8 and the bytes of its file."
  pub nought : (c : ℕ) (call : Call) → names_edition call ≡ false → Same (call_as true 0 call) (call_as false c call)
  pub nought_plan : (c m : ℕ) (g : ByLists) (s t : List ℕ) → SamePlan c m g s t
  -- Scope 17.14: "Each edition writes back its own bytes; jobs that are not the same have different files." (Of what
  -- was read: `again` of demand 2.)
  pub back : (g : ByLists) (es hs ws : List ℕ) → Halves g.holds → Accepts (TestJob g) → length g.speeds ≤ length es
      → length g.speeds ≤ length hs → length g.weights ≤ length ws → ReadBack g es hs ws
  pub one_job : (g h : ByLists) → Halves g.holds → Halves h.holds → Accepts (TestJob g) → Accepts (TestJob h)
      → job_bytes (edition_by g) (job_by g) ≡ job_bytes (edition_by h) (job_by h)
      → (edition_by g ≡ edition_by h) × (job_by g ≡ job_by h)
  -- Scope 17.7: "The loads of a plan file add up to Wtot and c for each machine that has tiles." Of the writer's file,
  -- and of the C call's.
  pub loads : (g : ByLists) (s plan : List ℕ) → Accepts (WritePlan g s plan)
      → sum_to (load_field (write_plan_bytes (job_by g) s plan)) (length g.speeds)
      ≡ total_weight (job_by g) + startups (job_by g) (front (job_by g) s)
  pub host_loads : (file plan : List ℕ) (m : ℕ) → Accepts (PlanJob file m plan)
      → sum_to (load_field (host_writes file m plan)) (length (speeds_of file))
      ≡ total_weight (job_in file) + startups (job_in file) (plan_of (job_in file))
  -- Scope 17.13: "Where a bound has no room for c, a machine takes no tile."
  pub no_room : (g : ByLists) (B : Bound) (s : List ℕ) → Accepts (Probe g B s) → (p : ℕ) → p < length g.speeds
      → B.load * speed_of (job_by g) p < (job_by g).startup * B.speed
      → at (front (job_by g) (probe_writes (job_by g) B s)) (suc p)
      ≡ at (front (job_by g) (probe_writes (job_by g) B s)) p
