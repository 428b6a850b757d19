-- A job is answered alike with every limit of machines that it is within: `any_limit`.
-- Assumes nothing.
use Prim.Native.Nat.{ℕ, zero, suc, ◌+◌, ◌*◌, ◌%◌, ◌≤◌, ◌<◌}
use mathlib.Core.Path.{◌≡◌, refl, sym, ap, ap₂, subst, ◌∙◌}
use mathlib.Core.Bool.{Bool, true, false, cond, ◌&&◌}
use mathlib.Core.List.Memᴰ
use mathlib.Core.List.{List, [], ◌∷◌, ◌++◌, map, map-append, Memᴰ}
use mathlib.Core.Logic.{◌↔◌, inl, inr}
use native.Mathlib.Omega.{arith}
use lib.Dec.{T, leb, eqb, leb→le}
use lib.ListN.{length, take}
use lib.Seq.{take_all}
use borrow.Author.Tests.{le-leb}
use Rattle.chain.specs.Limits.{max_processors}
use Rattle.chain.specs.Job.{Edition, First, Second, Job, processors, speed_of, enough}
use Rattle.chain.specs.Plan.{plan_of, Best}
use Rattle.chain.specs.Refusal.{Test, test, between, method_test, startup_test, speeds_test, weights_test}
use Rattle.chain.specs.Refusal.{processors_test, tasks_test, row_test, length_test, holds_test, enough_test, free_test}
use Rattle.chain.specs.Refusal.{bound_test, partition_test, plan_length_test, joined_test, true_test, first_refusal}
use Rattle.chain.specs.Refusal.{job_tests, plan_tests, call_tests, refusal}
use Rattle.chain.proofs.Best.{best_unique}
use Rattle.chain.proofs.Refusals.{Numbered, numbered_tail, pass_head, pass_skip}
use Rattle.chain.proofs.Tests.{and_right}
use Rattle.chain.proofs.Demand.{plan_of_best}
use Rattle.refusals.specs.Inputs.{head_records, plan_needed, free_by, plan_inputs}
use Rattle.refusals.specs.Answers.{said_by}
use Rattle.jobs.specs.Parse.{edition_in, multiple_test, form_test, order_test, place_test}
use Rattle.jobs.specs.Parse.{speed_test, weight_test, work_test, record_tests, records_tests, record_count, speeds_of}
use Rattle.jobs.specs.Parse.{holds_of, weights_of, job_in, file_tests, file_refusal}
use Rattle.jobs.specs.Answers.{read_tests, read_refusal, read_speeds, read_holds, read_weights, write_bytes}
use Rattle.jobs.proofs.Reading.{accepted_multiple, accepted_together, file_early}
use Rattle.jobs.proofs.RoundTrip.{accepted_valid}
use Rattle.calls.specs.Answers.{probe_writes, heuristic_writes, halving_writes}
use Rattle.planfile.specs.PlanFile.{plan_read}
use Rattle.planfile.specs.Answers.{write_plan_bytes}
use Rattle.grading.specs.Files.{grade_tests, grade_refusal, host_grade, host_grades}
use Rattle.planner.specs.Answers.{plan_refusal, plan_writes}
use Rattle.planner.specs.HostCall.{hold_tests, host_file_tests, host_tests, host_answer, bytes_after, host_writes}
use Rattle.listing.specs.Room.{room_for, listing_room}
use Rattle.listing.specs.Listing.{listing_of, listed_tests, listed_refusal, intake_for, intake, listing}
use Rattle.listing.specs.Answers.{list_tests, list_refusal, list_writes}
use Rattle.listing.proofs.Listings.{listed_whole}
use Rattle.demands.specs.Call.{job_by, Call, TestJob, ReadJob, WriteJob, Measure, Probe, Heuristic, Halving, Plan}
use Rattle.demands.specs.Call.{WritePlan, Grade, ListJob, PlanJob, GradePlan, values, tests, records_order, file_order}
use Rattle.demands.specs.Call.{free_order, order, Leaves}
use Rattle.demands.specs.Demands.{Accepts}
use Rattle.demands.specs.Limit.{processors_in, limited, limited_to, number_with, LeavesBy, Counts, listing_with, Alike}
use Rattle.demands.specs.Limit.{AnyLimit}
use Rattle.demands.proofs.Demands.{tested, planning, numbered, demand_one, left}

-- Tests that are within both limits are the same tests.
limits_same : {l m p : ℕ} → p ≤ l → p ≤ m → (ts : List Test) → limited_to l p ts ≡ limited_to m p ts
limits_same {l} {m} {p} h k ts =
    ap (λ (b : Bool). map (λ t. cond (eqb t.number 7) (test 7 (leb 1 p && b)) t) ts)
    (le-leb p l h ∙ sym (le-leb p m k))

-- The tests of records are as they are with every limit,
records_limited : (file : List ℕ) (l p n : ℕ) → limited_to l p (records_tests file n) ≡ records_tests file n
unfolding records_tests record_tests form_test order_test place_test speed_test weight_test work_test
records_limited file l p zero = refl
records_limited file l p (suc n) =
    map-append (limited l p) (records_tests file n) (record_tests file n)
    ∙ ap (λ (ts : List Test). ts ++ record_tests file n) (records_limited file l p n)

-- with our own those of a file,
file_ours : (file : List ℕ) → limited_to max_processors (length (speeds_of file)) (file_tests file) ≡ file_tests file
unfolding file_tests multiple_test processors_test tasks_test
file_ours file =
    let p = length (speeds_of file) in
    let n = record_count file in
    let counts = processors_test (speeds_of file) ∷ tasks_test (weights_of file) ∷ [] in
    ap (λ (ts : List Test). multiple_test file ∷ ts)
    (map-append (limited max_processors p) (records_tests file n) counts
    ∙ ap (λ (ts : List Test). ts ++ counts) (records_limited file max_processors p n))

-- with others behind them,
file_and : (file : List ℕ) (ts : List Test) → limited_to max_processors (length (speeds_of file)) ts ≡ ts
    → limited_to max_processors (length (speeds_of file)) (file_tests file ++ ts) ≡ file_tests file ++ ts
file_and file ts e =
    map-append (limited max_processors (length (speeds_of file))) (file_tests file) ts
    ∙ ap₂ (λ (us vs : List Test). us ++ vs) (file_ours file) e

-- and those of every call.
free_ours : (m p : ℕ) (job : Job) → limited_to max_processors p (map free_test (free_by m job))
    ≡ map free_test (free_by m job)
unfolding free_by
free_ours m p job = go (eqb m 4)
  where
    go : (b : Bool) → limited_to max_processors p (map free_test (cond b (job ∷ []) []))
        ≡ map free_test (cond b (job ∷ []) [])
    go true = unfold free_test in refl
    go false = refl

plan_ours : (m : ℕ) (job : Job) (separators scratch : ℕ)
    → limited_to max_processors (processors job) (call_tests job (plan_inputs job m separators scratch))
    ≡ call_tests job (plan_inputs job m separators scratch)
unfolding free_by
plan_ours m job separators scratch = go (eqb m 4)
  where
    go : (b : Bool) → limited_to max_processors (processors job)
        (call_tests job (planning m job separators scratch (cond b (job ∷ []) [])))
        ≡ call_tests job (planning m job separators scratch (cond b (job ∷ []) []))
    go true =
        unfold call_tests job_tests method_test startup_test speeds_test weights_test processors_test tasks_test
        holds_test length_test enough_test free_test in refl
    go false =
        unfold call_tests job_tests method_test startup_test speeds_test weights_test processors_test tasks_test
        holds_test length_test enough_test in refl

call_ours : (call : Call) → limited_to max_processors (processors_in call) (tests call) ≡ tests call
unfolding read_tests host_tests host_file_tests hold_tests list_tests grade_tests plan_tests call_tests job_tests
    method_test startup_test speeds_test weights_test processors_test tasks_test row_test length_test holds_test
    enough_test free_test bound_test partition_test plan_length_test joined_test true_test
call_ours (TestJob g) = refl
call_ours (ReadJob file es hs ws) =
    file_and file (length_test (length (weights_of file)) (length ws)
    ∷ length_test (length (speeds_of file)) (length es) ∷ length_test (length (holds_of file)) (length hs) ∷ []) refl
call_ours (WriteJob g file) = refl
call_ours (Measure g s) = refl
call_ours (Probe g B s) = refl
call_ours (Heuristic g s) = refl
call_ours (Halving g s) = refl
call_ours (Plan m g s t) = plan_ours m (job_by g) (length s) (length t)
call_ours (WritePlan g s plan) = refl
call_ours (Grade g plan) = refl
call_ours (ListJob file out) = refl
call_ours (PlanJob file m plan) =
    ap (λ (ts : List Test). method_test m ∷ ts)
    (file_and file (length_test (plan_needed (job_in file)) (length plan) ∷ hold_tests m (job_in file))
    (ap (λ (ts : List Test). length_test (plan_needed (job_in file)) (length plan) ∷ enough_test (job_in file) ∷ ts)
    (free_ours m (length (speeds_of file)) (job_in file))))
call_ours (GradePlan file plan grade) =
    file_and file (length_test 1 (length grade) ∷ plan_tests (job_in file) (plan_read (job_in file) plan)) refl

-- What a call leaves is by the number that it gives.
left_by : (call : Call) (left : List (List ℕ)) → LeavesBy (first_refusal (tests call)) call left ↔ Leaves call left
unfolding read_refusal refusal plan_refusal host_answer list_refusal host_grade grade_refusal read_speeds read_holds
    read_weights write_bytes probe_writes heuristic_writes halving_writes plan_writes write_plan_bytes list_writes
    bytes_after host_writes host_grades
left_by (TestJob g) lists = (λ e. e, λ e. e)
left_by (ReadJob file es hs ws) lists = (λ e. e, λ e. e)
left_by (WriteJob g file) lists = (λ e. e, λ e. e)
left_by (Measure g s) lists = (λ e. e, λ e. e)
left_by (Probe g B s) lists = (λ e. e, λ e. e)
left_by (Heuristic g s) lists = (λ e. e, λ e. e)
left_by (Halving g s) lists = (λ e. e, λ e. e)
left_by (Plan m g s t) lists = (λ e. e, λ e. e)
left_by (WritePlan g s plan) lists = (λ e. e, λ e. e)
left_by (Grade g plan) lists = (λ e. e, λ e. e)
left_by (ListJob file out) lists = (λ e. e, λ e. e)
left_by (PlanJob file m plan) lists = (λ e. e, λ e. e)
left_by (GradePlan file plan grade) lists = (λ e. e, λ e. e)

-- So where the number is the same all is.
alike_by : (limit : ℕ) (call : Call) → limited_to limit (processors_in call) (tests call) ≡ tests call
    → Alike limit call
alike_by limit call e =
    let n : number_with limit call ≡ first_refusal (tests call) = ap first_refusal e in
    record {
      says = ap (λ (k : ℕ). said_by k (values call)) n ∙ sym (demand_one call).says;
      leaves = λ left. subst (λ (k : ℕ). LeavesBy k call left ↔ Leaves call left) (sym n) (left_by call left);
    }

within_both : (limit : ℕ) (call : Call) → processors_in call ≤ limit → processors_in call ≤ max_processors
    → limited_to limit (processors_in call) (tests call) ≡ tests call
within_both limit call h k = limits_same {l = limit} {m = max_processors} h k (tests call) ∙ call_ours call

-- Accepted with a limit a job is within it, since its test 7 passes: of any tests,
module _ (l p : ℕ) where
  limited-number : (t : Test) → 0 < t.number → 0 < (limited l p t).number
  limited-number t h = go (eqb t.number 7)
    where
      go : (b : Bool) → 0 < (cond b (test 7 (between 1 l p)) t).number
      go true = omega arith
      go false = h

  limited-within : (ts : List Test) → Numbered ts → first_refusal (limited_to l p ts) ≡ 0
      → Memᴰ 7 (map (λ t. t.number) ts) → p ≤ l
  limited-within [] n e m = absurd (Memᴰ.not-nil m)
  limited-within (t ∷ ts) n e m =
      let h : T (limited l p t).passes =
      pass_head (limited l p t) (limited_to l p ts) (limited-number t (n.positive t (Memᴰ.head refl))) e in
      elim (Memᴰ.cases_cons m) [
        | inl k ↦
            leb→le p l (and_right (leb 1 p) (leb p l)
            (subst (λ (i : ℕ). T (cond (eqb i 7) (test 7 (between 1 l p)) t).passes) (sym k) h))
        | inr k ↦ limited-within ts (numbered_tail n) (sym (pass_skip (limited l p t) (limited_to l p ts) h) ∙ e) k
      ]

-- and of the calls that have it.
in_file : (file : List ℕ) → Memᴰ 7 (file_order file)
unfolding file_order
in_file file = Memᴰ.tail (Memᴰ.append_right (records_order (record_count file)) (Memᴰ.head refl))

in_job : {ns : List ℕ} → Memᴰ 7 (16 ∷ 5 ∷ 6 ∷ 7 ∷ ns)
in_job = Memᴰ.tail (Memᴰ.tail (Memᴰ.tail (Memᴰ.head refl)))

in_order : (call : Call) → Counts call → Memᴰ 7 (order call)
in_order (TestJob g) c = in_job
in_order (ReadJob file es hs ws) c = Memᴰ.append_left (9 ∷ 9 ∷ 9 ∷ []) (in_file file)
in_order (WriteJob g file) c = in_job
in_order (Measure g s) c = in_job
in_order (Probe g B s) c = in_job
in_order (Heuristic g s) c = in_job
in_order (Halving g s) c = in_job
in_order (Plan m g s t) c = Memᴰ.tail in_job
in_order (WritePlan g s plan) c = in_job
in_order (Grade g plan) c = in_job
in_order (ListJob file out) c = c
in_order (PlanJob file m plan) c = Memᴰ.tail (Memᴰ.append_left (9 ∷ 17 ∷ free_order m) (in_file file))
in_order (GradePlan file plan grade) c = Memᴰ.append_left (9 ∷ 12 ∷ 11 ∷ 13 ∷ []) (in_file file)

accepted_within : (limit : ℕ) (call : Call) → Counts call → number_with limit call ≡ 0 → processors_in call ≤ limit
accepted_within limit call c z =
    limited-within limit (processors_in call) (tests call) (numbered call) z
    (subst (Memᴰ 7) (sym (demand_one call).ordered) (in_order call c))

kept : (limit : ℕ) (call : Call) → Counts call → processors_in call ≤ max_processors → number_with limit call ≡ 0
    → Accepts call × Alike limit call
kept limit call c k z =
    let same = within_both limit call (accepted_within limit call c z) k in
    (tested call ∙ ap first_refusal (sym same) ∙ z, alike_by limit call same)

-- An accepted file has the records of its job and no byte more.
pub file_length : (file : List ℕ) → file_refusal file ≡ 0
    → length file ≡ 8 * (head_records (edition_in file) + (length (speeds_of file) + length (weights_of file)))
file_length file e =
    let r = file_early file e in
    let m : length file % 8 ≡ 0 = accepted_multiple file r in
    let t : head_records (edition_in file) + (length (speeds_of file) + length (weights_of file)) ≡ record_count file =
    accepted_together file r in
    omega (arith, m, t)

pub one_head : (edition : Edition) → head_records edition ≤ 1
unfolding head_records
one_head First = omega arith
one_head (Second c) = omega arith

-- The tests that a file is listed by are as they are with our limit,
listed_ours : (file : List ℕ) → limited_to max_processors (length (speeds_of file)) (listed_tests file)
    ≡ listed_tests file
unfolding listed_tests enough_test
listed_ours file = file_and file (enough_test (job_in file) ∷ []) refl

listed : (limit : ℕ) (file : List ℕ) → file_refusal file ≡ 0 → length (speeds_of file) ≤ limit
    → listing_with limit file ≡ listing file
unfolding intake file_refusal listed_refusal
listed limit file e h =
    let v = accepted_valid file e in
    let l = file_length file e in
    ap (λ (f : List ℕ). listing_of (first_refusal (limited_to limit (length (speeds_of f)) (listed_tests f))) f)
    (take_all (intake_for limit) file (omega (arith, l, one_head (edition_in file), v.tasks_limit)))
    ∙ ap (λ (ts : List Test). listing_of (first_refusal ts) file)
    (limits_same {l = limit} {m = max_processors} h v.processors_limit (listed_tests file) ∙ listed_ours file)
    ∙ listed_whole file (omega (arith, l, one_head (edition_in file), v.tasks_limit, v.processors_limit))

ours_listing : (file : List ℕ) → listing_with max_processors file ≡ listing file
unfolding intake listing listed_refusal
ours_listing file =
    let judged = take intake file in
    ap (λ (ts : List Test). listing_of (first_refusal ts) judged) (listed_ours judged)

best : (job : Job) → 1 ≤ processors job → ((p : ℕ) → 1 ≤ speed_of job p) → T (enough job)
    → Best job (plan_of job) × ((d : List ℕ) → Best job d → d ≡ plan_of job)
best job some positive enough-holds =
    let b : Best job (plan_of job) =
    plan_of_best (record { proper = record { some = some; positive = positive }; enough-holds = enough-holds }) in
    (b, λ d e. best_unique e b)

room : (limit : ℕ) → max_processors ≤ limit → listing_room ≤ room_for limit
unfolding listing_room
room limit h = omega arith

pub any_limit : AnyLimit
any_limit =
    record {
      ours = λ call. alike_by max_processors call (call_ours call);
      ours_listing = ours_listing;
      alike = λ limit call c h k. alike_by limit call (within_both limit call h k);
      kept = kept;
      plan = left;
      best = best;
      listed = listed;
      room = room;
    }
