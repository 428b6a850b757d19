-- What the holds of the machines change and what they do not, over the answers of the calls and over what they leave.
-- Scope, section 18.
use Rattle.std.specs.Prelude.{ℕ, suc, ◌+◌, ◌-◌, ◌*◌, ◌/◌, ◌≤◌, ◌<◌, ◌≡◌, true, false, ◌&&◌, ◌≢◌, ◌↔◌, T, eqb, leb}
use Rattle.std.specs.Prelude.{length, get_or, take}
use mathlib.Core.List.{List, ◌∷◌, ◌++◌, map, Memᴰ}
use Rattle.bound.specs.declared.Bound.{Bound}
use Rattle.bound.specs.Order.{le, ◌≼◌}
use Rattle.chain.specs.Lists.{sum_to, all}
use Rattle.chain.specs.Job.{Edition, startup_of, Job, free_job, tasks, processors, last, held, enough, part_load}
use Rattle.chain.specs.Job.{heaviest, fastest, slowest, part_bound, keeps, within, offer, at, Partition, bottleneck}
use Rattle.chain.specs.Job.{ideal}
use Rattle.chain.specs.Heuristic.{heuristic}
use Rattle.chain.specs.Halving.{Halvable}
use Rattle.chain.specs.Dynamic.{start_of}
use Rattle.chain.specs.Bisection.{first_ends}
use Rattle.chain.specs.Plan.{onward, partitions, difference}
use Rattle.chain.specs.Refusal.{Test, method_test, row_test, length_test, bound_test, is_partition, partition_test}
use Rattle.chain.specs.Refusal.{plan_length_test, joined_test, true_test, first_refusal, job_tests, Inputs, refusal}
use Rattle.fields.specs.Field.{Bytes}
use Rattle.refusals.specs.Inputs.{plan_record_size, scratch_lists}
use Rattle.jobs.specs.JobFile.{processor_kind, task_kind, no_hold, edition_bytes, records_bytes, job_bytes}
use Rattle.jobs.specs.Parse.{byte_at, blank, startup_in, speeds_of, weights_of, job_in, file_refusal}
use Rattle.calls.specs.Answers.{probe_writes}
use Rattle.planfile.specs.PlanFile.{plan_bytes, TruePlan}
use Rattle.planner.specs.Answers.{plan_writes}
use Rattle.texts.specs.Text.{refusal_line}
use Rattle.listing.specs.Listing.{listing}
use Rattle.demands.specs.Call.{ByLists, by_lists, edition_by, job_by, lists_in, Call, TestJob, ReadJob, WriteJob}
use Rattle.demands.specs.Call.{Measure, Probe, Heuristic, Halving, Plan, WritePlan, Grade, ListJob, PlanJob, GradePlan}
use Rattle.demands.specs.Demands.{number, Accepts, front, HostLeft}
use Rattle.demands.specs.Limit.{processors_in}
use Rattle.demands.specs.Editions.{Same}

-- The holds as a call by lists takes them. Scope 18.5: "A job has holds where any of them is not 0."
abbrev pub Held : ByLists → Type 0
Held g = (p : ℕ) × (p < length g.speeds) × (get_or g.holds p 0 ≢ 0)

-- Scope 18.18: "the holds are all limited and add up to less than N"
pub record Short (g : ByLists) : Type 0 where
  pub limited : (p : ℕ) → p < length g.speeds → 0 < get_or g.holds p 0
  pub less : sum_to (λ p. get_or g.holds p 0) (length g.speeds) < length g.weights

-- No list of separators is a division of the job.
abbrev pub Indivisible : Job → Type 0
Indivisible job = (s : List ℕ) → Partition job s → ⊥

-- What is tested before the holds passes: of a call that takes a job by lists and a list for its separators,
pub record Ready (g : ByLists) (s : List ℕ) : Type 0 where
  pub job : Accepts (TestJob g)
  pub separators : suc (length g.speeds) ≤ length s

-- of planning by the number m,
pub record PlanReady (m : ℕ) (g : ByLists) (s t : List ℕ) : Type 0 where
  pub low : 1 ≤ m
  pub high : m ≤ 4
  pub job : Accepts (TestJob g)
  pub separators : suc (length g.speeds) ≤ length s
  pub scratch : scratch_lists * suc (length g.weights) ≤ length t

-- and of the C call.
pub record HostReady (file : List ℕ) (m : ℕ) (plan : List ℕ) : Type 0 where
  pub low : 1 ≤ m
  pub high : m ≤ 4
  pub read : file_refusal file ≡ 0
  pub room : plan_record_size * length (speeds_of file) ≤ length plan

-- When a call for this job is refused with 17, where what it tests before is this.
pub record RefusesShort (call : Call) (g : ByLists) (Before : Type 0) : Type 0 where
  -- Scope 18.18: "17 is given exactly where the holds are all limited and add up to less than N, after 9"
  pub short : (number call ≡ 17) ↔ (Before × Short g)
  -- Scope 18.19: "That is exactly where no division keeps the holds."
  pub none : (number call ≡ 17) ↔ (Before × Indivisible (job_by g))

-- P + 1 separators, whatever the holds are. Scope 1.9: "A division is P + 1 separators, s0 = 0 ≤ s1 ≤ … ≤ sP = N."
pub record Dividing (g : ByLists) (s : List ℕ) : Type 0 where
  pub count : length s ≡ suc (length g.speeds)
  pub first : at s 0 ≡ 0
  pub grows : (p : ℕ) → p < length g.speeds → at s p ≤ at s (suc p)
  pub end : at s (length g.speeds) ≡ length g.weights

-- The separators keep the holds. Scope 18.6: "where the hold of a machine is not 0, its share has at most as many
-- tiles as the hold"
abbrev pub Keeping : ByLists → List ℕ → Type 0
Keeping g s = (p : ℕ) → p < length g.speeds → get_or g.holds p 0 ≢ 0 → at s (suc p) - at s p ≤ get_or g.holds p 0

-- A job by lists with this list of holds,
abbrev pub holding : List ℕ → ByLists → ByLists
holding hs g = by_lists g.second g.startup g.speeds hs g.weights

-- a call by lists so, and one by a file as it is.
abbrev pub call_holding : List ℕ → Call → Call
call_holding hs (TestJob g) = TestJob (holding hs g)
call_holding hs (ReadJob file es ks ws) = ReadJob file es ks ws
call_holding hs (WriteJob g file) = WriteJob (holding hs g) file
call_holding hs (Measure g s) = Measure (holding hs g) s
call_holding hs (Probe g B s) = Probe (holding hs g) B s
call_holding hs (Heuristic g s) = Heuristic (holding hs g) s
call_holding hs (Halving g s) = Halving (holding hs g) s
call_holding hs (Plan m g s t) = Plan m (holding hs g) s t
call_holding hs (WritePlan g s plan) = WritePlan (holding hs g) s plan
call_holding hs (Grade g plan) = Grade (holding hs g) plan
call_holding hs (ListJob file out) = ListJob file out
call_holding hs (PlanJob file m plan) = PlanJob file m plan
call_holding hs (GradePlan file plan grade) = GradePlan file plan grade

-- No hold is set, and every machine has one.
pub record Unheld (g : ByLists) : Type 0 where
  pub given : length g.speeds ≤ length g.holds
  pub none : (p : ℕ) → p < length g.speeds → get_or g.holds p 0 ≡ 0

-- The tests of a call by lists before there were holds, in order: 1; 16, 5, 6, 7, 8; 14; 9; 10; 12; 11; 13.
unfoldable pub tests_before : Job → Inputs → List Test
tests_before job inputs =
    map method_test inputs.methods ++ job_tests job ++ map row_test inputs.rows
    ++ map (λ l. length_test l.needed l.given) inputs.lists
    ++ map bound_test inputs.bounds ++ map plan_length_test inputs.plans ++ map (partition_test job) inputs.divisions
    ++ map (joined_test job) inputs.plans
    ++ map (true_test job) inputs.plans

-- A job as it was before there were holds: in every place where a definition asks for a hold, what stood there
-- without.
pub record Unlimited (job : Job) : Type 0 where
  -- Of a share, of a bid and an entry of the table, and of where j begins in it:
  pub shares : (p a b : ℕ) (B : Bound) → within job p a b B ≡ le (part_bound job p a b) B
  pub offers : (p a b : ℕ) → offer job p a b ≡ part_bound job p a b
  pub begins : (p i : ℕ) → start_of job p i ≡ 0
  -- Scope 1.9: "A division is P + 1 separators, s0 = 0 ≤ s1 ≤ … ≤ sP = N." Which are divisions, and all of them:
  pub divisions : (s : List ℕ) → is_partition job s
      ≡ (eqb (length s) (suc (processors job)) && eqb (at s 0) 0
      && all (λ p. leb (at s p) (at s (suc p))) (processors job) && eqb (at s (processors job)) (tasks job))
  pub every : partitions job ≡ map (λ s. 0 ∷ s) (onward (tasks job) (last job) 0)
  -- Scope 5.13: "its high end the bottleneck of the quick plan". Scope 6.3: "D is (heaviest + c) × fastest² / slowest,
  -- rounded down"
  pub high : (first_ends job).high ≡ bottleneck job (heuristic job)
  pub width : difference job ≡ (heaviest job + job.startup) * (fastest job * fastest job) / slowest job
  -- 17 and 18 are not given, nor is 9 for the list of holds: of a call that divides this job, or takes it without
  -- holds,
  pub enough-holds : 1 ≤ processors job → enough job ≡ true
  pub free : held job ≡ false
  pub numbers : (inputs : Inputs) → ((j : Job) → Memᴰ j inputs.keeping → j ≡ job)
      → ((j : Job) → Memᴰ j inputs.free → j ≡ job)
      → refusal job inputs ≡ first_refusal (tests_before job inputs)
  -- and bytes 1 to 3 of every record are zero.
  pub bytes : (edition : Edition) → job_bytes edition job
      ≡ edition_bytes edition
      ++ (records_bytes processor_kind no_hold job.speeds ++ records_bytes task_kind no_hold job.weights)

-- Bytes 2 and 3 of every record of the file are zero.
pub record BlankHolds (file : List ℕ) : Type 0 where
  pub second : (i : ℕ) → byte_at file i 2 ≡ 0
  pub third : (i : ℕ) → byte_at file i 3 ≡ 0

-- Such a file: its job has no holds, and number 3 is given for what it was given for before.
pub record BlankFile (file : List ℕ) : Type 0 where
  pub unheld : Unheld (lists_in file)
  pub job : job_in file ≡ free_job (startup_in file) (speeds_of file) (weights_of file)
  pub form : (i : ℕ)
      → blank file i ≡ (eqb (byte_at file i 1) 0 && eqb (byte_at file i 2) 0 && eqb (byte_at file i 3) 0)

-- What of a job is the same with other holds.
pub record Regardless (job other : Job) : Type 0 where
  pub ideals : ideal job ≡ ideal other
  pub loads : (a b : ℕ) → part_load job a b ≡ part_load other a b
  pub bottlenecks : (s : List ℕ) → bottleneck job s ≡ bottleneck other s
  pub files : (s : List ℕ) → plan_bytes job s ≡ plan_bytes other s

pub record Holdings : Type 0 where
  -- Scope 18.4: "A list of holds with fewer than P entries is refused with 9; a longer one is cut to P, and the
  -- entries behind are not looked at."
  pub few : (g : ByLists)
      → (number (TestJob g) ≡ 9) ↔ ((first_refusal (job_tests (job_by g)) ≡ 0) × (length g.holds < length g.speeds))
  pub behind : (hs ks : List ℕ) (call : Call) → take (processors_in call) hs ≡ take (processors_in call) ks
      → Same (call_holding hs call) (call_holding ks call)
  -- Scope 18.18: "in the trial, the four methods, the C call that plans and the listing"
  pub plan_short : (m : ℕ) (g : ByLists) (s t : List ℕ) → RefusesShort (Plan m g s t) g (PlanReady m g s t)
  pub trial_short : (g : ByLists) (B : Bound) (s : List ℕ) → RefusesShort (Probe g B s) g (Ready g s)
  pub host_short : (file : List ℕ) (m : ℕ) (plan : List ℕ)
      → RefusesShort (PlanJob file m plan) (lists_in file) (HostReady file m plan)
  pub list_short : (file : List ℕ)
      → (listing file ≡ refusal_line 17) ↔ ((file_refusal file ≡ 0) × Short (lists_in file))
  -- Scope 18.20: "18 is given, after 17, for method 4 or either quick plan on a job with holds; the quick plans do not
  -- make test 17."
  pub plan_held : (m : ℕ) (g : ByLists) (s t : List ℕ)
      → (number (Plan m g s t) ≡ 18) ↔ (PlanReady m g s t × (Short g → ⊥) × (m ≡ 4) × Held g)
  pub host_held : (file : List ℕ) (m : ℕ) (plan : List ℕ)
      → (number (PlanJob file m plan) ≡ 18)
      ↔ (HostReady file m plan × (Short (lists_in file) → ⊥) × (m ≡ 4) × Held (lists_in file))
  pub quick_held : (g : ByLists) (s : List ℕ) → (number (Heuristic g s) ≡ 18) ↔ (Ready g s × Held g)
  pub halving-held : (g : ByLists) (s : List ℕ)
      → (number (Halving g s) ≡ 18) ↔ (Halvable g.speeds × Ready g s × Held g)
  -- Scope 18.6: "A division keeps every hold". So do the divisions that an accepted plan and the C call leave,
  pub division : (g : ByLists) (s : List ℕ) → Partition (job_by g) s ↔ (Dividing g s × Keeping g s)
  pub planned : (m : ℕ) (g : ByLists) (s t : List ℕ) → Accepts (Plan m g s t)
      → Keeping g (front (job_by g) (plan_writes (job_by g) m s t))
  pub host : (file plan : List ℕ) (m : ℕ) → Accepts (PlanJob file m plan)
      → (s : List ℕ) × HostLeft file plan m s × Keeping (lists_in file) s
  -- and what a trial leaves, whether it fits or fails. Scope 18.8: "So in a trial a share also stops at the hold, and
  -- so does what the last machine reaches."
  pub tried : (g : ByLists) (B : Bound) (s : List ℕ) → Accepts (Probe g B s)
      → Keeping g (front (job_by g) (probe_writes (job_by g) B s))
  -- Scope 18.23: "Separators that break a hold are no division: measuring them and writing their plan file is refused
  -- with 11, and so is grading a stored plan that has them."
  pub measured : (g : ByLists) (s : List ℕ) → Ready g s → (Keeping g (front (job_by g) s) → ⊥)
      → number (Measure g s) ≡ 11
  pub written : (g : ByLists) (s plan : List ℕ) → Ready g s → plan_record_size * length g.speeds ≤ length plan
      → (Keeping g (front (job_by g) s) → ⊥)
      → number (WritePlan g s plan) ≡ 11
  pub graded : (g : ByLists) (plan : List ℕ) → Bytes plan → Accepts (Grade g plan)
      → (told : TruePlan (job_by g) plan) × Keeping g told.separators
  -- Scope 18.24: "No division that keeps the holds has a smaller bottleneck than the plan."
  pub least : (m : ℕ) (g : ByLists) (s t : List ℕ) → Accepts (Plan m g s t) → (u : List ℕ) → Dividing g u → Keeping g u
      → bottleneck (job_by g) (front (job_by g) (plan_writes (job_by g) m s t)) ≼ bottleneck (job_by g) u
  -- Scope 18.25: "A job without holds, all of them 0, is answered as before there were holds: the same separators,
  -- bounds, counts, allowances, numbers and bytes." All lists of nought are one job.
  pub unlimited : (g : ByLists) → Unheld g → Unlimited (job_by g)
  pub one : (g : ByLists) → Unheld g → job_by g ≡ free_job (startup_of (edition_by g)) g.speeds g.weights
  -- Scope 18.26: "A file whose bytes 2 and 3 are all zero is such a job."
  pub blank_file : (file : List ℕ) → BlankHolds file → BlankFile file
  -- Scope 18.27: "The ideal, the loads, the bottleneck of a given division and its plan file do not depend on the
  -- holds."
  pub regardless : (hs : List ℕ) (g : ByLists) → Regardless (job_by g) (job_by (holding hs g))
  -- Scope 18.28: "A hold of N or more cuts no share short"
  pub ample : (g : ByLists) (p a b : ℕ) → p < length g.speeds → length g.weights ≤ get_or g.holds p 0
      → b ≤ length g.weights
      → T (keeps (job_by g) p a b)
