-- The three demands, each one statement over the answers of the calls and over what they leave. Scope, section 10.
use Rattle.std.specs.Prelude.{ℕ, suc, ◌≤◌, ◌≡◌, ◌≢◌, ◌↔◌, T, length, take, drop, Ok}
use mathlib.Core.List.{List, [], ◌∷◌, ◌++◌, map, Memᴰ}
use Rattle.bound.specs.declared.Bound.{Bound}
use Rattle.bound.specs.Order.{plus, ◌≼◌}
use Rattle.chain.specs.declared.Method.{Method}
use Rattle.chain.specs.declared.Outcome.{Outcome}
use Rattle.chain.specs.declared.Outcome.TheVariants.{Fits}
use Rattle.chain.specs.Numbers.{chosen_of}
use Rattle.chain.specs.Job.{Edition, Job, processors, Partition, Within, bottleneck, ideal}
use Rattle.chain.specs.Heuristic.{margin}
use Rattle.chain.specs.Plan.{Best, MethodEnds, allowance, imbalance}
use Rattle.chain.specs.Refusal.{Test, each_between, first_refusal, FirstFailing}
use Rattle.fields.specs.Field.{Bytes}
use Rattle.refusals.specs.Inputs.{plan_needed}
use Rattle.refusals.specs.Answers.{said_by}
use Rattle.jobs.specs.declared.JobRead.{JobRead}
use Rattle.jobs.specs.Parse.{job_in}
use Rattle.jobs.specs.Answers.{read_answer, read_speeds, read_holds, read_weights, write_answer, write_bytes}
use Rattle.calls.specs.Answers.{probe_answer, probe_writes, heuristic_answer, heuristic_writes}
use Rattle.planfile.specs.PlanFile.{plan_bytes}
use Rattle.planner.specs.declared.Figures.{Figures}
use Rattle.planner.specs.Answers.{plan_answer, plan_writes}
use Rattle.planner.specs.HostCall.{host_writes}
use Rattle.demands.specs.Call.{ByLists, by_lists, edition_by, job_by, lists_in, Call, ReadJob, Probe, Heuristic, Plan}
use Rattle.demands.specs.Call.{PlanJob, said, values, tests, numbers, order, lent, Leaves}

-- The number that a call answers with; it is accepted where that is 0.
abbrev pub number : Call → ℕ
number call = (said call).number

abbrev pub Accepts : Call → Type 0
Accepts call = number call ≡ 0

-- Demand 1, of any call.
pub record DemandOne (call : Call) : Type 0 where
  -- Scope 10.1: "gets an answer or a refusal": these values where all tests pass, else the number of the first that
  -- fails.
  pub says : said call ≡ said_by (first_refusal (tests call)) (values call)
  -- The number is 0 or one of its row, all of which are from 1 to 18.
  pub listed : Memᴰ (number call) (0 ∷ numbers call)
  pub ranged : T (each_between 1 18 (numbers call))
  -- Scope 8.2: "The tests are made in the order of the numbers, but 14 directly after 8, 17 and then 18 directly after
  -- 9, 12 before 11, 15 directly after 4, and 16 directly after 6 or, in lists, directly before 5"
  pub ordered : map (λ t. t.number) (tests call) ≡ order call
  -- A number is given exactly where it is that of the first test that fails; 0 exactly where all pass.
  pub first : (n : ℕ) → n ≢ 0 → (number call ≡ n) ↔ FirstFailing (tests call) n
  pub accepted : Accepts call ↔ ((t : Test) → Memᴰ t (tests call) → T t.passes)
  -- Scope 8.1: "A refusal gives a number and nothing else, and every list or buffer that was lent stays as it was."
  pub nothing_else : number call ≢ 0 → (said call).values ≡ []
  pub kept : number call ≢ 0 → (left : List (List ℕ)) → Leaves call left → left ≡ lent call

-- The first P + 1 entries of a list of separators.
abbrev pub front : Job → List ℕ → List ℕ
front job s = take (suc (processors job)) s

-- Some division of the job stays within the bound.
abbrev pub SomeWithin : Job → Bound → Type 0
SomeWithin job B = (t : List ℕ) × Partition job t × Within job t B

-- The trial fits, whatever the number of machines that its walk came to.
abbrev pub Fitting : Outcome → Type 0
Fitting outcome = (n : ℕ) × (outcome ≡ Fits n)

-- An accepted trial of the job at the bound B, with the list s lent.
pub record Trial (job : Job) (B : Bound) (s : List ℕ) : Type 0 where
  pub outcome : Outcome
  pub answer : probe_answer job B s ≡ Ok outcome
  -- Scope 10.2: "A trial fits exactly where some division stays within its bound."
  pub exactly : Fitting outcome ↔ SomeWithin job B
  -- Scope 3.8: "what it writes is then a division"; and that stays within the bound.
  pub written : Fitting outcome
      → Partition job (front job (probe_writes job B s)) × Within job (front job (probe_writes job B s)) B

-- An accepted quick plan of the job, with the list s lent.
pub record QuickPlan (job : Job) (s : List ℕ) : Type 0 where
  pub bound : Bound
  pub answer : heuristic_answer job s ≡ Ok bound
  -- Scope 4.3: "The separators are written, and their bottleneck is the answer."
  pub partition : Partition job (front job (heuristic_writes job s))
  pub measured : bound ≡ bottleneck job (front job (heuristic_writes job s))
  -- Scope 10.3: "The quick plan's bottleneck is above the ideal by at most (heaviest weight + c) / slowest
  -- speed."
  pub close : bound ≼ plus (ideal job) (margin job)

-- The edition and the start-up work that reading answers, and as many entries of the lists that it leaves as it
-- answers, es, hs and ws being lent: as the call that writes takes them.
abbrev pub lists_read : List ℕ → List ℕ → List ℕ → List ℕ → JobRead → ByLists
lists_read file es hs ws read =
    by_lists read.second read.startup (take read.processors (read_speeds file es hs ws))
    (take read.processors (read_holds file es hs ws)) (take read.tasks (read_weights file es hs ws))

-- An accepted file, read into es, hs and ws, and the job that was read then written into a buffer. Scope 10.4: "A job
-- file that is written from what was read has the bytes that were read."
pub record WrittenBack (file es hs ws buffer : List ℕ) : Type 0 where
  pub read : JobRead
  pub answer : read_answer file (length es) (length hs) (length ws) ≡ Ok read
  pub written :
      let g = lists_read file es hs ws read in
      write_answer (edition_by g) (job_by g) (length buffer) ≡ Ok (length file)
  pub bytes :
      let g = lists_read file es hs ws read in
      write_bytes (edition_by g) (job_by g) buffer ≡ file ++ drop (length file) buffer

-- Demand 2, of accepted calls. The entries of a file are bytes.
pub record DemandTwo : Type 0 where
  pub trial : (g : ByLists) (B : Bound) (s : List ℕ) → Accepts (Probe g B s) → Trial (job_by g) B s
  pub quick : (g : ByLists) (s : List ℕ) → Accepts (Heuristic g s) → QuickPlan (job_by g) s
  pub again : (file es hs ws buffer : List ℕ) → Bytes file → Accepts (ReadJob file es hs ws)
      → length file ≤ length buffer
      → WrittenBack file es hs ws buffer

-- An accepted plan of the job, of this edition, by the method with the number m, with the lists s of separators and t
-- of work numbers lent.
pub record PlanLeft (edition : Edition) (job : Job) (m : ℕ) (s t : List ℕ) : Type 0 where
  pub figures : Figures
  pub answer : plan_answer edition job m s t ≡ Ok figures
  -- Scope 10.6: "Every other division has a bottleneck at least as great; where it is equal as a bound, each of its
  -- separators is at or before the plan's."
  pub best : Best job (front job (plan_writes job m s t))
  -- Scope 10.7: "The count of a plan is the moves or the trials that its own call made, and at most its allowance."
  pub method : Method
  pub called : chosen_of m ≡ Ok method
  pub found : Bound
  pub ended : MethodEnds method job figures.count found
  pub within : figures.count ≤ figures.allowance
  pub allows : figures.allowance ≡ allowance edition method job
  -- Scope 6.1: "the bottleneck of its separators and its imbalance"
  pub measured : figures.bottleneck ≡ bottleneck job (front job (plan_writes job m s t))
  pub exceeds : figures.imbalance ≡ imbalance job figures.bottleneck

-- An accepted C call: the plan file of these separators in front of the buffer, and behind it the bytes that were
-- there.
pub record HostLeft (file plan : List ℕ) (m : ℕ) (s : List ℕ) : Type 0 where
  pub best : Best (job_in file) s
  pub bytes : host_writes file m plan ≡ plan_bytes (job_in file) s ++ drop (plan_needed (job_in file)) plan

-- Demand 3, of accepted calls.
pub record DemandThree : Type 0 where
  pub planned : (m : ℕ) (g : ByLists) (s t : List ℕ) → Accepts (Plan m g s t)
      → PlanLeft (edition_by g) (job_by g) m s t
  -- Scope 10.5: "Every accepted plan of a job has the same separators, by whichever method." Whatever lists are lent.
  pub same : (m k : ℕ) (g : ByLists) (s t s' t' : List ℕ) → Accepts (Plan m g s t) → Accepts (Plan k g s' t')
      → front (job_by g) (plan_writes (job_by g) m s t) ≡ front (job_by g) (plan_writes (job_by g) k s' t')
  -- The C call has the best separators, which are those that any plan of the job leaves.
  pub host : (file plan : List ℕ) (m : ℕ) → Accepts (PlanJob file m plan) → (s : List ℕ) × HostLeft file plan m s
  pub host_same : (file plan : List ℕ) (m k : ℕ) (s t : List ℕ) → Accepts (PlanJob file m plan)
      → Accepts (Plan k (lists_in file) s t)
      → HostLeft file plan m (front (job_in file) (plan_writes (job_in file) k s t))
