-- The three demands hold: `demand_one`, `demand_two`, `demand_three`.
-- Assumes nothing.
use Prim.Native.Nat.{ℕ, zero, suc, ◌≤◌}
use mathlib.Core.Path.{◌≡◌, refl, sym, ap, ap₂, subst, ◌∙◌}
use mathlib.Core.Bool.{Bool, true, false, cond}
use mathlib.Core.List.{List, [], ◌∷◌, ◌++◌, map, Memᴰ}
use mathlib.Core.Logic.{◌≢◌, ◌↔◌}
use native.Mathlib.Omega.{arith}
use lib.Dec.{T, eqb}
use lib.ListN.{length}
use Rattle.std.specs.Prelude.{Result, Ok}
use Rattle.bound.specs.declared.Bound.{Bound}
use Rattle.chain.specs.declared.Refusal.{Refusal}
use Rattle.chain.specs.declared.Outcome.{Outcome}
use Rattle.chain.specs.declared.Outcome.TheVariants.{Fits}
use Rattle.chain.specs.Job.{Edition, startup_of, Job, job_of, bottleneck}
use Rattle.chain.specs.Plan.{plan_of, Best}
use Rattle.chain.specs.Probe as probing
use Rattle.chain.specs.Heuristic as guessing
use Rattle.chain.specs.Refusal.{Test, each_between, method_test, startup_test, speeds_test, weights_test}
use Rattle.chain.specs.Refusal.{processors_test, tasks_test, row_test, length_test, holds_test, enough_test, free_test}
use Rattle.chain.specs.Refusal.{bound_test, partition_test, plan_length_test, joined_test, true_test, first_refusal}
use Rattle.chain.specs.Refusal.{job_tests, plan_tests, Inputs, nothing, call_tests, refusal, measure_inputs}
use Rattle.chain.specs.Refusal.{halving_inputs}
use Rattle.chain.proofs.Numbers.{answered_ok}
use Rattle.chain.proofs.Demand.{plan_of_best}
use Rattle.chain.proofs.Parts.{valid_plannable}
use Rattle.chain.proofs.Refusals.{Numbered, numbered_nil, numbered_cons, numbered_append, numbered_map, call_numbered}
use Rattle.chain.proofs.Refusals.{plan_numbered, accepted_passes, passes_accepted, gives}
use Rattle.fields.specs.Field.{Bytes}
use Rattle.refusals.specs.Inputs.{plan_needed, plan_lists, free_by, probe_inputs, heuristic_inputs, plan_inputs}
use Rattle.refusals.specs.Inputs.{write_inputs, write_plan_inputs}
use Rattle.refusals.specs.Answers.{Said, said_by}
use Rattle.refusals.proofs.Answering.{said-alone, said-nothing, number_of_lem}
use Rattle.refusals.proofs.Lent.{lent_refused}
use Rattle.refusals.proofs.Promises.{job_numbers}
use Rattle.jobs.specs.JobFile.{job_bytes}
use Rattle.jobs.specs.Parse.{multiple_test, form_test, order_test, place_test, speed_test, weight_test, work_test}
use Rattle.jobs.specs.Parse.{record_tests, records_tests, record_count, second_in, value_at, speeds_of}
use Rattle.jobs.specs.Parse.{holds_of, weights_of, edition_in, job_in, file_tests}
use Rattle.jobs.specs.Answers.{read_in, read_tests, read_refusal, read_answer, read_speeds, read_holds, read_weights}
use Rattle.jobs.specs.Answers.{write_answer, write_bytes}
use Rattle.jobs.proofs.Calls.{file_numbered, read_numbered, read_said_lem, read_number, write_said, WrittenAgain}
use Rattle.jobs.proofs.Calls.{written_again}
use Rattle.jobs.proofs.Promises.{read_numbers, write_numbers}
use Rattle.calls.specs.Answers.{probe_answer, heuristic_answer}
use Rattle.calls.proofs.Promises.{measure_said, measure_numbers, heuristic-said, heuristic-number, heuristic-numbers}
use Rattle.calls.proofs.Promises.{heuristic-keeps, heuristic_promise, halving-said, halving-numbers, halving-keeps}
use Rattle.calls.proofs.Promises.{probe-said, probe-number, probe-numbers, probe-keeps, probe-fits_exactly}
use Rattle.calls.proofs.Promises.{probe_fitted}
use Rattle.planfile.specs.PlanFile.{plan_bytes, plan_read, grade_inputs}
use Rattle.planfile.specs.Answers.{write_plan_bytes}
use Rattle.planfile.proofs.Promises.{write_plan_said, write_plan_numbers}
use Rattle.grading.specs.Files.{grade_tests, grade_refusal, host_grade}
use Rattle.grading.proofs.Promises.{grade_said, grade_numbers, host_grade_numbers, host_grade_keeps}
use Rattle.planner.specs.declared.Figures.{Figures}
use Rattle.planner.specs.Answers.{plan_refusal, plan_answer, plan_writes}
use Rattle.planner.specs.HostCall.{hold_tests, host_file_tests, host_tests, host_answer}
use Rattle.planner.proofs.Promises.{plan_said, plan_number, plan_accepted, plan_keeps, given, accepted_best}
use Rattle.planner.proofs.Promises.{accepted_plan, accepted_count, accepted_separators}
use Rattle.planner.proofs.Numbers.{plan_numbers, host_numbers, host_plan, host_keeps, host_valid, host_enough}
use Rattle.listing.specs.Answers.{list_tests, list_refusal}
use Rattle.listing.proofs.Promises.{list_said, list_numbers, list_keeps}
use Rattle.jobs.proofs.Taken.{Taken, read_taken, taken_job}
use Rattle.parts.proofs.Lines.{edition_effective}
use Rattle.demands.specs.Call.{ByLists, edition_by, job_by, lists_in, Call, TestJob, ReadJob, WriteJob, Measure, Probe}
use Rattle.demands.specs.Call.{Heuristic, Halving, Plan, WritePlan, Grade, ListJob, PlanJob, GradePlan, said, values}
use Rattle.demands.specs.Call.{tests, numbers, records_order, file_order, free_order, order, lent, Leaves}
use Rattle.demands.specs.Demands.{number, Accepts, DemandOne, front, SomeWithin, Trial, QuickPlan, lists_read}
use Rattle.demands.specs.Demands.{WrittenBack, DemandTwo, PlanLeft, HostLeft, DemandThree}

-- Demand 1. What each call says;
says : (call : Call) → said call ≡ said_by (first_refusal (tests call)) (values call)
unfolding read_refusal refusal plan_refusal host_answer list_refusal host_grade grade_refusal
says (TestJob g) = said-nothing (refusal (job_by g) nothing)
says (ReadJob file es hs ws) = read_said_lem file (length es) (length hs) (length ws)
says (WriteJob g file) = write_said (edition_by g) (job_by g) (length file)
says (Measure g s) = measure_said (job_by g) s
says (Probe g B s) = probe-said (job_by g) B s
says (Heuristic g s) = heuristic-said (job_by g) s
says (Halving g s) = halving-said (job_by g) s
says (Plan m g s t) = plan_said (edition_by g) (job_by g) m s t
says (WritePlan g s plan) = write_plan_said (job_by g) s (length plan)
says (Grade g plan) = grade_said (job_by g) plan
says (ListJob file out) = list_said file out
says (PlanJob file m plan) = said-nothing (first_refusal (host_tests file m (length plan)))
says (GradePlan file plan grade) = said-nothing (first_refusal (grade_tests file plan (length grade ∷ [])))

-- its number is then that of the tests.
pub tested : (call : Call) → number call ≡ first_refusal (tests call)
tested call = number_of_lem (values call) (says call)

-- The numbers of tests one after the other.
abbrev numbers_of : List Test → List ℕ
numbers_of ts = map (λ t. t.number) ts

numbers_after : (ts us : List Test) → numbers_of (ts ++ us) ≡ numbers_of ts ++ numbers_of us
numbers_after [] us = refl
numbers_after (t ∷ ts) us = ap (λ (ns : List ℕ). t.number ∷ ns) (numbers_after ts us)

records_ordered : (file : List ℕ) (n : ℕ) → numbers_of (records_tests file n) ≡ records_order n
unfolding records_tests record_tests form_test order_test place_test speed_test weight_test work_test records_order
records_ordered file zero = refl
records_ordered file (suc n) =
    numbers_after (records_tests file n) (record_tests file n)
    ∙ ap (λ (ns : List ℕ). ns ++ 3 ∷ 4 ∷ 15 ∷ 5 ∷ 6 ∷ 16 ∷ []) (records_ordered file n)

file_ordered : (file : List ℕ) → numbers_of (file_tests file) ≡ file_order file
unfolding file_tests multiple_test processors_test tasks_test file_order
file_ordered file =
    ap (λ (ns : List ℕ). 2 ∷ ns)
    (numbers_after (records_tests file (record_count file))
    (processors_test (speeds_of file) ∷ tasks_test (weights_of file) ∷ [])
    ∙ ap (λ (ns : List ℕ). ns ++ 7 ∷ 8 ∷ []) (records_ordered file (record_count file)))

-- That of the holds, by method 4.
free_ordered : (m : ℕ) (job : Job) → numbers_of (map free_test (free_by m job)) ≡ free_order m
unfolding free_by free_order free_test
free_ordered m job = go (eqb m 4)
  where
    go : (b : Bool) → numbers_of (map free_test (cond b (job ∷ []) [])) ≡ cond b (18 ∷ []) []
    go true = unfold free_test in refl
    go false = refl

-- What planning takes beside the job, with these jobs for the test 18.
abbrev pub planning : ℕ → Job → ℕ → ℕ → List Job → Inputs
planning m job separators scratch free =
    record {
      methods = m ∷ [];
      rows = [];
      lists = (plan_lists job separators scratch).lists;
      keeping = job ∷ [];
      free = free;
      bounds = [];
      divisions = [];
      plans = [];
    }

plan_ordered : (m : ℕ) (job : Job) (separators scratch : ℕ)
    → numbers_of (call_tests job (plan_inputs job m separators scratch))
    ≡ 1 ∷ 16 ∷ 5 ∷ 6 ∷ 7 ∷ 8 ∷ 9 ∷ 9 ∷ 9 ∷ 17 ∷ free_order m
unfolding free_by free_order
plan_ordered m job separators scratch = go (eqb m 4)
  where
    go : (b : Bool) → numbers_of (call_tests job (planning m job separators scratch (cond b (job ∷ []) [])))
        ≡ 1 ∷ 16 ∷ 5 ∷ 6 ∷ 7 ∷ 8 ∷ 9 ∷ 9 ∷ 9 ∷ 17 ∷ cond b (18 ∷ []) []
    go true =
        unfold call_tests job_tests method_test startup_test speeds_test weights_test processors_test tasks_test
        holds_test length_test enough_test free_test in refl
    go false =
        unfold call_tests job_tests method_test startup_test speeds_test weights_test processors_test tasks_test
        holds_test length_test enough_test in refl

ordered : (call : Call) → numbers_of (tests call) ≡ order call
unfolding read_tests host_tests host_file_tests hold_tests list_tests grade_tests plan_tests call_tests job_tests
    method_test startup_test speeds_test weights_test processors_test tasks_test row_test length_test holds_test
    enough_test free_test bound_test partition_test plan_length_test joined_test true_test
ordered (TestJob g) = refl
ordered (ReadJob file es hs ws) =
    numbers_after (file_tests file) (length_test (length (weights_of file)) (length ws)
    ∷ length_test (length (speeds_of file)) (length es) ∷ length_test (length (holds_of file)) (length hs) ∷ [])
    ∙ ap (λ (ns : List ℕ). ns ++ 9 ∷ 9 ∷ 9 ∷ []) (file_ordered file)
ordered (WriteJob g file) = refl
ordered (Measure g s) = refl
ordered (Probe g B s) = refl
ordered (Heuristic g s) = refl
ordered (Halving g s) = refl
ordered (Plan m g s t) = plan_ordered m (job_by g) (length s) (length t)
ordered (WritePlan g s plan) = refl
ordered (Grade g plan) = refl
ordered (ListJob file out) = refl
ordered (PlanJob file m plan) =
    ap (λ (ns : List ℕ). 1 ∷ ns)
    (numbers_after (file_tests file) (length_test (plan_needed (job_in file)) (length plan)
    ∷ hold_tests m (job_in file))
    ∙ ap₂ (λ (ns ms : List ℕ). ns ++ 9 ∷ 17 ∷ ms) (file_ordered file) (free_ordered m (job_in file)))
ordered (GradePlan file plan grade) =
    numbers_after (file_tests file) (length_test 1 (length grade)
    ∷ plan_tests (job_in file) (plan_read (job_in file) plan))
    ∙ ap (λ (ns : List ℕ). ns ++ 9 ∷ 12 ∷ 11 ∷ 13 ∷ []) (file_ordered file)

-- It is one of the row, which are from 1 to 18.
listed : (call : Call) → Memᴰ (number call) (0 ∷ numbers call)
listed (TestJob g) = job_numbers (job_by g)
listed (ReadJob file es hs ws) = read_numbers file (length es) (length hs) (length ws)
listed (WriteJob g file) = write_numbers (edition_by g) (job_by g) (length file)
listed (Measure g s) = measure_numbers (job_by g) s
listed (Probe g B s) = probe-numbers (job_by g) B s
listed (Heuristic g s) = heuristic-numbers (job_by g) s
listed (Halving g s) = halving-numbers (job_by g) s
listed (Plan m g s t) = plan_numbers (edition_by g) (job_by g) m s t
listed (WritePlan g s plan) = write_plan_numbers (job_by g) s (length plan)
listed (Grade g plan) = grade_numbers (job_by g) plan
listed (ListJob file out) = list_numbers file out
listed (PlanJob file m plan) = host_numbers file m (length plan)
listed (GradePlan file plan grade) = host_grade_numbers file plan (length grade)

ranged : (call : Call) → T (each_between 1 18 (numbers call))
unfolding each_between
ranged (TestJob g) = tt
ranged (ReadJob file es hs ws) = tt
ranged (WriteJob g file) = tt
ranged (Measure g s) = tt
ranged (Probe g B s) = tt
ranged (Heuristic g s) = tt
ranged (Halving g s) = tt
ranged (Plan m g s t) = tt
ranged (WritePlan g s plan) = tt
ranged (Grade g plan) = tt
ranged (ListJob file out) = tt
ranged (PlanJob file m plan) = tt
ranged (GradePlan file plan grade) = tt

-- No test has the number 0.
pub numbered : (call : Call) → Numbered (tests call)
unfolding host_tests host_file_tests hold_tests list_tests grade_tests method_test length_test enough_test free_test
numbered (TestJob g) = call_numbered (job_by g) nothing
numbered (ReadJob file es hs ws) = read_numbered file (length es) (length hs) (length ws)
numbered (WriteJob g file) = call_numbered (job_by g) (write_inputs (edition_by g) (job_by g) (length file))
numbered (Measure g s) = call_numbered (job_by g) (measure_inputs (job_by g) s)
numbered (Probe g B s) = call_numbered (job_by g) (probe_inputs (job_by g) B (length s))
numbered (Heuristic g s) = call_numbered (job_by g) (heuristic_inputs (job_by g) (length s))
numbered (Halving g s) = call_numbered (job_by g) (halving_inputs (job_by g) (length s))
numbered (Plan m g s t) = call_numbered (job_by g) (plan_inputs (job_by g) m (length s) (length t))
numbered (WritePlan g s plan) = call_numbered (job_by g) (write_plan_inputs (job_by g) s (length plan))
numbered (Grade g plan) = call_numbered (job_by g) (grade_inputs (job_by g) plan)
numbered (ListJob file out) = numbered_cons (omega arith) numbered_nil
numbered (PlanJob file m plan) =
    numbered_cons (omega arith)
    (numbered_append (file_numbered file) (numbered_cons (omega arith)
    (numbered_cons (omega arith) (numbered_map free_test (λ j. omega arith) (free_by m (job_in file))))))
numbered (GradePlan file plan grade) =
    numbered_append (file_numbered file) (numbered_cons (omega arith)
    (plan_numbered (job_in file) (plan_read (job_in file) plan)))

kept : (call : Call) → first_refusal (tests call) ≢ 0 → (left : List (List ℕ)) → Leaves call left → left ≡ lent call
unfolding read_refusal refusal plan_refusal host_answer list_refusal host_grade grade_refusal read_speeds read_holds
    read_weights write_bytes write_plan_bytes
kept (TestJob g) h left e = e
kept (ReadJob file es hs ws) h left e =
    e ∙ ap₂ (λ (x y : List ℕ). x ∷ y ∷ read_weights file es hs ws ∷ []) (lent_refused h (speeds_of file) es)
    (lent_refused h (holds_of file) hs)
    ∙ ap (λ (x : List ℕ). es ∷ hs ∷ x ∷ []) (lent_refused h (weights_of file) ws)
kept (WriteJob g file) h left e =
    e ∙ ap (λ (x : List ℕ). x ∷ []) (lent_refused h (job_bytes (edition_by g) (job_by g)) file)
kept (Measure g s) h left e = e
kept (Probe g B s) h left e = e ∙ ap (λ (x : List ℕ). x ∷ []) (probe-keeps (job_by g) B s h)
kept (Heuristic g s) h left e = e ∙ ap (λ (x : List ℕ). x ∷ []) (heuristic-keeps (job_by g) s h)
kept (Halving g s) h left e = e ∙ ap (λ (x : List ℕ). x ∷ []) (halving-keeps (job_by g) s h)
kept (Plan m g s t) h left (t', a, e) =
    e ∙ ap₂ (λ (x y : List ℕ). x ∷ y ∷ []) (plan_keeps (job_by g) m s t h) (a.refused h)
kept (WritePlan g s plan) h left e =
    e ∙ ap (λ (x : List ℕ). x ∷ []) (lent_refused h (plan_bytes (job_by g) (front (job_by g) s)) plan)
kept (Grade g plan) h left e = e
kept (ListJob file out) h left e = e ∙ ap (λ (x : List ℕ). x ∷ []) (list_keeps file out h)
kept (PlanJob file m plan) h left e = e ∙ ap (λ (x : List ℕ). x ∷ []) (host_keeps file plan m h)
kept (GradePlan file plan grade) h left e = e ∙ ap (λ (x : List ℕ). x ∷ []) (host_grade_keeps file plan grade h)

pub demand_one : (call : Call) → DemandOne call
demand_one call =
    record {
      says = says call;
      listed = listed call;
      ranged = ranged call;
      ordered = ordered call;
      first = λ n h. gives (tests call) (tested call) h;
      accepted = (
        λ e. accepted_passes (tests call) (numbered call) (sym (tested call) ∙ e),
        λ p. tested call ∙ passes_accepted (tests call) p,
      );
      nothing_else =
          λ h. ap (λ (s : Said). s.values) (says call ∙ said-alone (λ z. h (tested call ∙ z)) (values call));
      kept = λ h. kept call (λ z. h (tested call ∙ z));
    }

-- Two values that are answered the same are the same.
pub ok_same : {A : Type 0} {x y : A} → ◌≡◌ {A = Result A Refusal} (Ok x) (Ok y) → x ≡ y
ok_same e = cc e

-- Demand 2. An accepted trial,
trial : (g : ByLists) (B : Bound) (s : List ℕ) → Accepts (Probe g B s) → Trial (job_by g) B s
unfolding probe_answer
trial g B s e =
    record {
      outcome = outcome;
      answer = answer;
      exactly = (
        λ f. exactly.0 (f.0, answer ∙ ap Ok f.1),
        λ w. let x = exactly.1 w in (x.0, ok_same (sym answer ∙ x.1)),
      );
      written = λ f. let w = probe_fitted (job_by g) B s (answer ∙ ap Ok f.1) in (w.partition, w.within);
    }
  where
    outcome : Outcome
    outcome = probing.probe (job_by g) B

    none : refusal (job_by g) (probe_inputs (job_by g) B (length s)) ≡ 0
    none = sym (probe-number (job_by g) B s) ∙ e

    answer : probe_answer (job_by g) B s ≡ Ok outcome
    answer = sym (answered_ok outcome none)

    exactly : ((n : ℕ) × (probe_answer (job_by g) B s ≡ Ok (Fits n))) ↔ SomeWithin (job_by g) B
    exactly = probe-fits_exactly (job_by g) B s none

-- an accepted quick plan,
quick : (g : ByLists) (s : List ℕ) → Accepts (Heuristic g s) → QuickPlan (job_by g) s
unfolding heuristic_answer
quick g s e =
    let bound = bottleneck (job_by g) (guessing.heuristic (job_by g)) in
    let answer : heuristic_answer (job_by g) s ≡ Ok bound =
    sym (answered_ok bound (sym (heuristic-number (job_by g) s) ∙ e)) in
    let h = heuristic_promise (job_by g) s answer in
    record { bound = bound; answer = answer; partition = h.partition; measured = h.measured; close = h.close }

-- and an accepted file, whose job is the one that was read.
again : (file es hs ws buffer : List ℕ) → Bytes file → Accepts (ReadJob file es hs ws) → length file ≤ length buffer
    → WrittenBack file es hs ws buffer
unfolding read_answer
again file es hs ws buffer b e l =
    record {
      read = read_in file;
      answer = answer;
      written = ap₂ (λ (d : Edition) (job : Job). write_answer d job (length buffer)) t.edition job_is ∙ w.answer;
      bytes = ap₂ (λ (d : Edition) (job : Job). write_bytes d job buffer) t.edition job_is ∙ w.bytes;
    }
  where
    answer : read_answer file (length es) (length hs) (length ws) ≡ Ok (read_in file)
    answer = sym (answered_ok (read_in file) (sym (read_number file (length es) (length hs) (length ws)) ∙ e))

    t : Taken file (read_speeds file es hs ws) (read_holds file es hs ws) (read_weights file es hs ws) (read_in file)
    t = read_taken file es hs ws refl answer refl refl refl

    job_is : job_by (lists_read file es hs ws (read_in file)) ≡ job_in file
    job_is =
        let g = lists_read file es hs ws (read_in file) in
        ap (λ (d : Edition). job_of (startup_of d) g.speeds g.holds g.weights) t.edition ∙ taken_job t

    w : WrittenAgain file buffer
    w = written_again file buffer b t.accepted l

pub demand_two : DemandTwo
demand_two = record { trial = trial; quick = quick; again = again }

-- Demand 3. Where nothing refuses planning, it answers with figures.
module _ (m : ℕ) (g : ByLists) (s t : List ℕ) (e : Accepts (Plan m g s t)) where
  figured : (f : Figures) × (plan_answer (edition_by g) (job_by g) m s t ≡ Ok f)
  figured = plan_accepted (edition_by g) (job_by g) m s t (sym (plan_number (edition_by g) (job_by g) m s t) ∙ e)

  pub left : front (job_by g) (plan_writes (job_by g) m s t) ≡ plan_of (job_by g)
  left = accepted_separators (edition_by g) (job_by g) m s t figured.1

  planned : PlanLeft (edition_by g) (job_by g) m s t
  planned =
      let answer = figured.1 in
      let h = given (edition_by g) (job_by g) m s t answer in
      let by = accepted_plan (edition_by g) (job_by g) m s t answer in
      record {
        figures = figured.0;
        answer = answer;
        best = subst (Best (job_by g)) (sym left) (accepted_best (edition_by g) (job_by g) m s t answer);
        method = h.method;
        called = h.chosen;
        found = by.found;
        ended = by.ended;
        within = accepted_count (edition_by g) (job_by g) m s t answer (record { counts = refl });
        allows = by.allows;
        measured = by.measured ∙ ap (bottleneck (job_by g)) (sym left);
        exceeds = by.exceeds;
      }

-- What reading answers, given to a call by lists, is the file's edition and its job.
pub lists_edition : (file : List ℕ) → edition_by (lists_in file) ≡ edition_in file
lists_edition file = edition_effective (second_in file) (value_at file 0)

pub lists_job : (file : List ℕ) → job_by (lists_in file) ≡ job_in file
lists_job file =
    ap (λ (d : Edition). job_of (startup_of d) (speeds_of file) (holds_of file) (weights_of file)) (lists_edition file)

host : (file plan : List ℕ) (m : ℕ) → Accepts (PlanJob file m plan) → HostLeft file plan m (plan_of (job_in file))
host file plan m e =
    record {
      best = plan_of_best (valid_plannable (host_valid file m (length plan) e) (host_enough file m (length plan) e));
      bytes = host_plan file plan m e;
    }

pub demand_three : DemandThree
demand_three =
    record {
      planned = planned;
      same = λ m k g s t s' t' e h. left m g s t e ∙ sym (left k g s' t' h);
      host = λ file plan m e. (plan_of (job_in file), host file plan m e);
      host_same = λ file plan m k s t e h.
          subst (λ (job : Job). HostLeft file plan m (front job (plan_writes job k s t))) (lists_job file)
          (subst (HostLeft file plan m) (sym (left k (lists_in file) s t h ∙ ap plan_of (lists_job file)))
          (host file plan m e));
    }
