-- Another limit of machines: what it would change, and that a job within both limits is answered alike. Scope, section
-- 15.
use Rattle.std.specs.Prelude.{ℕ, ◌≤◌, ◌≡◌, cond, ◌↔◌, T, eqb, length, take}
use mathlib.Core.List.{List, [], ◌∷◌, map, Memᴰ}
use Rattle.chain.specs.Limits.{max_processors}
use Rattle.chain.specs.Job.{Job, processors, speed_of, enough}
use Rattle.chain.specs.Probe as probing
use Rattle.chain.specs.Heuristic as guessing
use Rattle.chain.specs.Halving as splitting
use Rattle.chain.specs.Plan.{plan_of, Best}
use Rattle.chain.specs.Refusal.{Test, test, between, first_refusal}
use Rattle.refusals.specs.Answers.{Said, said_by, lent_after}
use Rattle.jobs.specs.JobFile.{job_bytes}
use Rattle.jobs.specs.Parse.{speeds_of, holds_of, weights_of, job_in, file_refusal}
use Rattle.planfile.specs.PlanFile.{plan_bytes}
use Rattle.grading.specs.Answers.{grade_values, read_grade}
use Rattle.planner.specs.Answers.{plan_writes, ScratchAfter}
use Rattle.listing.specs.Room.{room_for, listing_room}
use Rattle.listing.specs.Listing.{listing_of, listed_tests, intake_for, listing}
use Rattle.demands.specs.Call.{ByLists, edition_by, job_by, Call, TestJob, ReadJob, WriteJob, Measure, Probe}
use Rattle.demands.specs.Call.{Heuristic, Halving, Plan, WritePlan, Grade, ListJob, PlanJob, GradePlan, said, values}
use Rattle.demands.specs.Call.{tests, numbers, Leaves}
use Rattle.demands.specs.Demands.{Accepts, front}

-- How many machines the job of a call has.
abbrev pub processors_in : Call → ℕ
processors_in (TestJob g) = length g.speeds
processors_in (ReadJob file es hs ws) = length (speeds_of file)
processors_in (WriteJob g file) = length g.speeds
processors_in (Measure g s) = length g.speeds
processors_in (Probe g B s) = length g.speeds
processors_in (Heuristic g s) = length g.speeds
processors_in (Halving g s) = length g.speeds
processors_in (Plan m g s t) = length g.speeds
processors_in (WritePlan g s plan) = length g.speeds
processors_in (Grade g plan) = length g.speeds
processors_in (ListJob file out) = length (speeds_of file)
processors_in (PlanJob file m plan) = length (speeds_of file)
processors_in (GradePlan file plan grade) = length (speeds_of file)

-- Scope 15.1: "With a limit L number 7 is given where the machines are not 1 to L; every other test of a job stays."
-- One test, and the tests of a job that has so many machines.
abbrev pub limited : ℕ → ℕ → Test → Test
limited limit processors t = cond (eqb t.number 7) (test 7 (between 1 limit processors)) t

abbrev pub limited_to : ℕ → ℕ → List Test → List Test
limited_to limit processors ts = map (limited limit processors) ts

-- The number that a call gives with that limit, and what its answer says.
abbrev pub number_with : ℕ → Call → ℕ
number_with limit call = first_refusal (limited_to limit (processors_in call) (tests call))

abbrev pub said_with : ℕ → Call → Said
said_with limit call = said_by (number_with limit call) (values call)

-- It leaves these, by the number that it gives: where that is 0 what it writes, else what was lent.
abbrev pub LeavesBy : ℕ → Call → List (List ℕ) → Type 0
LeavesBy number (TestJob g) left = left ≡ []
LeavesBy number (ReadJob file es hs ws) left =
    left ≡ lent_after number (speeds_of file) es ∷ lent_after number (holds_of file) hs
    ∷ lent_after number (weights_of file) ws ∷ []
LeavesBy number (WriteJob g file) left = left ≡ lent_after number (job_bytes (edition_by g) (job_by g)) file ∷ []
LeavesBy number (Measure g s) left = left ≡ []
LeavesBy number (Probe g B s) left = left ≡ lent_after number (probing.walked (job_by g) B) s ∷ []
LeavesBy number (Heuristic g s) left = left ≡ lent_after number (guessing.heuristic (job_by g)) s ∷ []
LeavesBy number (Halving g s) left = left ≡ lent_after number (splitting.halving (job_by g)) s ∷ []
LeavesBy number (Plan m g s t) left =
    (t' : List ℕ) × ScratchAfter number (job_by g) t t' × (left ≡ lent_after number (plan_of (job_by g)) s ∷ t' ∷ [])
LeavesBy number (WritePlan g s plan) left =
    left ≡ lent_after number (plan_bytes (job_by g) (front (job_by g) s)) plan ∷ []
LeavesBy number (Grade g plan) left = left ≡ []
LeavesBy number (ListJob file out) left = left ≡ lent_after number (listing file) out ∷ []
LeavesBy number (PlanJob file m plan) left =
    left ≡ lent_after number (plan_bytes (job_in file) (plan_of (job_in file))) plan ∷ []
LeavesBy number (GradePlan file plan grade) left =
    left ≡ lent_after number (grade_values (read_grade (job_in file) plan)) grade ∷ []

-- With that limit.
abbrev pub LeavesWith : ℕ → Call → List (List ℕ) → Type 0
LeavesWith limit call left = LeavesBy (number_with limit call) call left

-- The call tests the number of machines. (Every call but the listing's: the room that it asks for and what it takes in
-- follow from the limit, so it has statements of its own below.)
abbrev pub Counts : Call → Type 0
Counts call = Memᴰ 7 (numbers call)

-- The listing of a file, what is taken in and refused being by that limit.
abbrev pub listing_with : ℕ → List ℕ → List ℕ
listing_with limit file =
    let judged = take (intake_for limit) file in
    listing_of (first_refusal (limited_to limit (length (speeds_of judged)) (listed_tests judged))) judged

-- A call answers and leaves with that limit what it does with ours.
pub record Alike (limit : ℕ) (call : Call) : Type 0 where
  pub says : said_with limit call ≡ said call
  pub leaves : (left : List (List ℕ)) → LeavesWith limit call left ↔ Leaves call left

pub record AnyLimit : Type 0 where
  -- So far it is only said in other words: with our own limit every call and every listing is what it is.
  pub ours : (call : Call) → Alike max_processors call
  pub ours_listing : (file : List ℕ) → listing_with max_processors file ≡ listing file
  -- Scope 15.2: "A call that tests the number of machines answers and leaves the same with every limit that its job is
  -- within."
  pub alike : (limit : ℕ) (call : Call) → Counts call → processors_in call ≤ limit
      → processors_in call ≤ max_processors → Alike limit call
  -- Scope 15.3: "A job of up to 96 machines that any other limit accepts is accepted, and keeps its plan." What is
  -- said and left of it is the same,
  pub kept : (limit : ℕ) (call : Call) → Counts call → processors_in call ≤ max_processors → number_with limit call ≡ 0
      → Accepts call × Alike limit call
  -- the plan that a call leaves is the definition's,
  pub plan : (m : ℕ) (g : ByLists) (s t : List ℕ) → Accepts (Plan m g s t)
      → front (job_by g) (plan_writes (job_by g) m s t) ≡ plan_of (job_by g)
  -- and that is the one best division of every job of machines with speeds above 0 and holds that are enough, however
  -- many they are.
  pub best : (job : Job) → 1 ≤ processors job → ((p : ℕ) → 1 ≤ speed_of job p) → T (enough job)
      → Best job (plan_of job) × ((d : List ℕ) → Best job d → d ≡ plan_of job)
  -- Scope 15.4: "An accepted file has the same listing with every limit that its job is within; a buffer with room by
  -- a greater limit has room by ours."
  pub listed : (limit : ℕ) (file : List ℕ) → file_refusal file ≡ 0 → length (speeds_of file) ≤ limit
      → listing_with limit file ≡ listing file
  pub room : (limit : ℕ) → max_processors ≤ limit → listing_room ≤ room_for limit
