-- The numbers that planning and the C call give, and the loads that the C call leaves.
-- Assumes nothing.
use Prim.Native.Nat.{ℕ, ◌+◌, ◌*◌}
use mathlib.Core.Path.{◌≡◌, refl, sym, ◌∙◌}
use mathlib.Core.Bool.{Bool, true, false, cond}
use mathlib.Core.List.{List, [], ◌∷◌, ◌++◌, map, Memᴰ}
use mathlib.Core.Logic.{◌≢◌, ◌↔◌}
use native.Mathlib.Omega.{arith}
use lib.Dec.{T, eqb, leb}
use lib.ListN.{length, drop}
use Rattle.chain.specs.Lists.{sum_to}
use Rattle.chain.specs.Job.{Edition, Job, Valid, processors, total_weight, busy, enough}
use Rattle.chain.specs.Refusal.{method_test, startup_test, speeds_test, weights_test, processors_test, tasks_test}
use Rattle.chain.specs.Refusal.{length_test, holds_test, enough_test, free_test, FirstFailing, job_tests, Inputs}
use Rattle.chain.specs.Refusal.{call_tests, refusal}
use Rattle.chain.specs.Plan.{plan_of}
use Rattle.chain.proofs.Demand.{plan_of_best}
use Rattle.chain.proofs.Parts.{valid_plannable}
use Rattle.chain.proofs.Refusals.{Numbered, numbered_nil, numbered_cons, numbered_append, gives, given_number}
use Rattle.chain.proofs.Refusals.{numbers_in, numbers-append, numbers_behind, numbers_more, append_accepted, pass_head}
use Rattle.chain.proofs.Refusals.{pass_skip}
use Rattle.fields.specs.Field.{field_at}
use Rattle.jobs.specs.Parse.{startup_in, job_in, file_tests, file_refusal}
use Rattle.jobs.proofs.Calls.{file_numbered}
use Rattle.jobs.proofs.Promises.{from_two, file_in}
use Rattle.jobs.proofs.RoundTrip.{accepted_valid}
use Rattle.planfile.specs.PlanFile.{plan_bytes}
use Rattle.planfile.proofs.Records.{length_plan}
use Rattle.planfile.proofs.Promises.{lent_loads_add_up}
use Rattle.refusals.specs.Inputs.{plan_needed, plan_lists, free_by, plan_inputs}
use Rattle.refusals.proofs.Lent.{lent_refused, lent-front}
use Rattle.planner.proofs.Laws.{holds_tested}
use Rattle.planner.specs.Answers.{planned_said, plan_refusal, plan_answer}
use Rattle.planner.proofs.Promises.{plan_number}
use Rattle.planner.specs.HostCall.{hold_tests, host_file_tests, host_tests, host_answer, bytes_after, host_writes}

-- Planning: 0, or one of 1, 16, 5 to 9, 17 and 18; that of the first test that fails.
module _ (edition : Edition) (job : Job) (m : ℕ) (s t : List ℕ) where
  pub plan_numbers : Memᴰ (planned_said (plan_answer edition job m s t)).number
      (0 ∷ 1 ∷ 16 ∷ 5 ∷ 6 ∷ 7 ∷ 8 ∷ 9 ∷ 17 ∷ 18 ∷ [])
  unfolding plan_refusal refusal call_tests job_tests method_test startup_test speeds_test weights_test processors_test tasks_test holds_test length_test enough_test free_test free_by
  plan_numbers =
      given_number ours (call_tests job (plan_inputs job m (length s) (length t))) (plan_number edition job m s t)
      (all (eqb m 4))
    where
      ours : List ℕ
      ours = 1 ∷ 16 ∷ 5 ∷ 6 ∷ 7 ∷ 8 ∷ 9 ∷ 17 ∷ 18 ∷ []

      -- Planning with these jobs for the last test.
      inputs : List Job → Inputs
      inputs free =
          record {
            methods = m ∷ [];
            rows = [];
            lists = (plan_lists job (length s) (length t)).lists;
            keeping = job ∷ [];
            free = free;
            bounds = [];
            divisions = [];
            plans = [];
          }

      all : (b : Bool) → T (numbers_in ours (call_tests job (inputs (cond b (job ∷ []) []))))
      all true = unfold call_tests job_tests method_test startup_test speeds_test weights_test processors_test
          tasks_test holds_test length_test enough_test free_test in tt
      all false = unfold call_tests job_tests method_test startup_test speeds_test weights_test processors_test
          tasks_test holds_test length_test enough_test in tt

  pub plan_gives : {n : ℕ} → n ≢ 0
      → ((planned_said (plan_answer edition job m s t)).number ≡ n) ↔ FirstFailing
      (call_tests job (plan_inputs job m (length s) (length t))) n
  unfolding plan_refusal refusal
  plan_gives h = gives (call_tests job (plan_inputs job m (length s) (length t))) (plan_number edition job m s t) h

-- The C call: 0, or one of 1 to 9, 15, 16, 17 and 18; that of the first test that fails.
module _ (file : List ℕ) (m lent : ℕ) where
  pub host_numbers : Memᴰ (host_answer file m lent) (0 ∷ 1 ∷ 2 ∷ 3 ∷ 4 ∷ 15 ∷ 5 ∷ 6 ∷ 16 ∷ 7 ∷ 8 ∷ 9 ∷ 17 ∷ 18 ∷ [])
  unfolding host_answer host_tests host_file_tests hold_tests method_test length_test enough_test free_test free_by
  host_numbers =
      given_number (1 ∷ ours) (host_tests file m lent) refl
      (numbers-append (1 ∷ ours) (file_tests file) (length_test (plan_needed (job_in file)) lent ∷ hold_tests m
      (job_in file))
      (numbers_more 1 ours (file_tests file) (numbers_behind from_two (17 ∷ 18 ∷ []) (file_tests file)
      (file_in file))) (free (eqb m 4)))
    where
      ours : List ℕ
      ours = from_two ++ 17 ∷ 18 ∷ []

      free : (b : Bool)
          → T (numbers_in (1 ∷ ours) (length_test (plan_needed (job_in file)) lent ∷ enough_test (job_in file) ∷ map
          free_test (cond b (job_in file ∷ []) [])))
      free true = unfold length_test enough_test free_test in tt
      free false = unfold length_test enough_test in tt

  pub host_gives : {n : ℕ} → n ≢ 0 → (host_answer file m lent ≡ n) ↔ FirstFailing (host_tests file m lent) n
  unfolding host_answer
  host_gives h = gives (host_tests file m lent) refl h

-- Where nothing refuses it, the C call leaves the bytes of the job's plan and those behind them, whichever method is called;
pub host_plan : (file plan : List ℕ) (m : ℕ) → host_answer file m (length plan) ≡ 0
    → host_writes file m plan ≡ plan_bytes (job_in file) (plan_of (job_in file)) ++ drop (plan_needed (job_in file))
    plan
unfolding host_writes bytes_after
host_plan file plan m e = lent-front (plan_bytes (job_in file) (plan_of (job_in file))) plan e
    (length_plan (job_in file) (plan_of (job_in file)))

-- so any two accepted calls with one file leave the same plan;
pub host_same : (file plan : List ℕ) (m k : ℕ) → host_answer file m (length plan) ≡ 0
    → host_answer file k (length plan) ≡ 0
    → host_writes file m plan ≡ host_writes file k plan
host_same file plan m k e h = host_plan file plan m e ∙ sym (host_plan file plan k h)

-- a refusal leaves the buffer as it was.
pub host_keeps : (file plan : List ℕ) (m : ℕ) → host_answer file m (length plan) ≢ 0 → host_writes file m plan ≡ plan
unfolding host_writes bytes_after
host_keeps file plan m h = lent_refused h (plan_bytes (job_in file) (plan_of (job_in file))) plan

-- Where nothing refuses it, the file is accepted, and holds a valid job.
pub host_file : (file : List ℕ) (m lent : ℕ) → host_answer file m lent ≡ 0 → file_refusal file ≡ 0
unfolding host_answer host_tests host_file_tests file_refusal method_test
host_file file m lent e =
    let numbered : Numbered (method_test m ∷ []) = numbered_cons (omega arith) numbered_nil in
    let front = (append_accepted (method_test m ∷ file_tests file)
    (length_test (plan_needed (job_in file)) lent ∷ hold_tests m (job_in file))
    (numbered_append numbered (file_numbered file)) e).0 in
    (append_accepted (method_test m ∷ []) (file_tests file) numbered front).1

pub host_valid : (file : List ℕ) (m lent : ℕ) → host_answer file m lent ≡ 0 → Valid (job_in file)
host_valid file m lent e = accepted_valid file (host_file file m lent e)

-- and its holds are enough.
pub host_enough : (file : List ℕ) (m lent : ℕ) → host_answer file m lent ≡ 0 → T (enough (job_in file))
unfolding host_answer host_tests host_file_tests method_test length_test
host_enough file m lent e =
    let numbered : Numbered (method_test m ∷ []) = numbered_cons (omega arith) numbered_nil in
    let behind =
    (append_accepted (method_test m ∷ file_tests file) (length_test (plan_needed (job_in file)) lent ∷ hold_tests m
    (job_in file)) (numbered_append numbered (file_numbered file)) e).1 in
    let room : T (leb (plan_needed (job_in file)) lent) =
    pass_head (length_test (plan_needed (job_in file)) lent) (hold_tests m (job_in file)) (omega arith) behind in
    (holds_tested (job_in file) m (sym (pass_skip (length_test (plan_needed (job_in file)) lent)
    (hold_tests m (job_in file)) room) ∙ behind)).0

-- Scope 17.7: "The loads of a plan file add up to Wtot and c for each machine that has tiles." As they are read from the buffer after the C
-- call.
pub host_loads_add_up : (file plan : List ℕ) (m : ℕ) → host_answer file m (length plan) ≡ 0
    → sum_to (λ p. field_at (host_writes file m plan) (16 * p + 8)) (processors (job_in file))
    ≡ total_weight (job_in file) + startup_in file * busy (job_in file) (plan_of (job_in file))
unfolding host_writes bytes_after
host_loads_add_up file plan m e =
    let v = host_valid file m (length plan) e in
    lent_loads_add_up plan v (plan_of_best (valid_plannable v (host_enough file m (length plan) e))).partition e
