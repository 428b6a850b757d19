-- What the edition of a job changes and what it does not: `editions`.
-- Assumes nothing.
use Prim.Native.Nat.{ℕ, zero, suc, ◌+◌, ◌*◌, ◌/◌, ◌≤◌, ◌<◌}
use mathlib.Core.Path.{◌≡◌, refl, sym, ap, subst, ◌∙◌}
use mathlib.Core.Bool.{Bool, true, false, not, cond, ◌&&◌, ◌||◌}
use mathlib.Core.List.{List, [], ◌∷◌, ◌++◌, append_assoc}
use native.Mathlib.Omega.{arith}
use native.Mathlib.Nat.{mul-le-mul_right}
use lib.Dec.{eqb}
use lib.ListN.{length}
use borrow.Author.Tests.{ne_eqb}
use Rattle.std.specs.Prelude.{Ok}
use Rattle.bound.specs.declared.Bound.{Bound}
use Rattle.bound.specs.Order.{over}
use Rattle.bound.proofs.Order.{make_lt}
use Rattle.chain.specs.Job.{Edition, First, Second, startup_of, edition_of, OfEdition, Job, job_of, tasks, processors}
use Rattle.chain.specs.Job.{last, speed_of, held, Valid, part_load, total_weight, heaviest, fastest, slowest}
use Rattle.chain.specs.Job.{part_bound, at}
use Rattle.chain.specs.declared.Method.{Method}
use Rattle.chain.specs.declared.Method.TheVariants.{Table, Bidding, Bisection, Nicol}
use Rattle.chain.specs.Limits.{max_startup}
use Rattle.chain.specs.Probe.{reach, separator}
use Rattle.chain.specs.Plan.{breadth, difference, bidding_allowance, allowance}
use Rattle.chain.specs.Refusal.{Test, between, startup_test, processors_test, tasks_test, first_refusal, job_tests}
use Rattle.chain.specs.Refusal.{call_tests, refusal}
use Rattle.chain.proofs.Cut.{holds_long}
use Rattle.chain.proofs.Parts.{load_plain, load_some}
use Rattle.chain.proofs.Refusals.{first_refusal_same}
use Rattle.chain.proofs.Walk.{reach_unique, separator_to, walked_at}
use Rattle.chain.proofs.Within.{within_empty, past_of}
use Rattle.refusals.specs.Inputs.{probe_inputs}
use Rattle.refusals.proofs.Accepted.{accepted}
use Rattle.jobs.specs.declared.JobRead.{JobRead}
use Rattle.jobs.specs.JobFile.{processor_kind, task_kind, startup_kind, job_bytes, ExactHolds}
use Rattle.jobs.specs.Parse.{record_count, multiple_test, speeds_of, holds_of, weights_of, kind_at, is_kind, blank}
use Rattle.jobs.specs.Parse.{second_in, edition_in, form_test, order_test, place_test, speed_test, weight_test}
use Rattle.jobs.specs.Parse.{work_test, record_tests, records_tests, value_at, file_tests, file_refusal}
use Rattle.jobs.proofs.Calls.{read_again}
use Rattle.jobs.proofs.RoundTrip.{first_bytes, given_exact, same_bytes}
use Rattle.calls.specs.Answers.{probe_writes}
use Rattle.calls.proofs.Promises.{probe-number, probe-front}
use Rattle.planfile.proofs.Promises.{write_plan_number, written_loads_add_up}
use Rattle.planner.specs.declared.Figures.{Figures}
use Rattle.planner.specs.Answers.{plan_figures}
use Rattle.planner.proofs.Promises.{plan_number, Given, given}
use Rattle.planner.proofs.Numbers.{host_loads_add_up}
use Rattle.demands.specs.Call.{ByLists, edition_by, job_by, Call, TestJob, ReadJob, WriteJob, Measure, Probe}
use Rattle.demands.specs.Call.{Heuristic, Halving, Plan, WritePlan, Grade, ListJob, PlanJob, GradePlan}
use Rattle.demands.specs.Demands.{Accepts, front}
use Rattle.demands.specs.Editions.{in_edition, call_as, Same, names_edition, ByWeights, two_kinds, former_records}
use Rattle.demands.specs.Editions.{former_tests, NoStartup, AsBefore, SameFigures, SamePlan, Halves, ReadBack}
use Rattle.demands.specs.Editions.{Editions}

-- The first edition does not look at c: all that a call says and leaves computes to the same.
whatever : (c d : ℕ) (call : Call) → Same (call_as false c call) (call_as false d call)
unfolding edition_of startup_of
whatever c d (TestJob g) = record { says = refl; leaves = λ left. (λ e. e, λ e. e) }
whatever c d (ReadJob file es hs ws) = record { says = refl; leaves = λ left. (λ e. e, λ e. e) }
whatever c d (WriteJob g file) = record { says = refl; leaves = λ left. (λ e. e, λ e. e) }
whatever c d (Measure g s) = record { says = refl; leaves = λ left. (λ e. e, λ e. e) }
whatever c d (Probe g B s) = record { says = refl; leaves = λ left. (λ e. e, λ e. e) }
whatever c d (Heuristic g s) = record { says = refl; leaves = λ left. (λ e. e, λ e. e) }
whatever c d (Halving g s) = record { says = refl; leaves = λ left. (λ e. e, λ e. e) }
whatever c d (Plan m g s t) = record { says = refl; leaves = λ left. (λ e. e, λ e. e) }
whatever c d (WritePlan g s plan) = record { says = refl; leaves = λ left. (λ e. e, λ e. e) }
whatever c d (Grade g plan) = record { says = refl; leaves = λ left. (λ e. e, λ e. e) }
whatever c d (ListJob file out) = record { says = refl; leaves = λ left. (λ e. e, λ e. e) }
whatever c d (PlanJob file m plan) = record { says = refl; leaves = λ left. (λ e. e, λ e. e) }
whatever c d (GradePlan file plan grade) = record { says = refl; leaves = λ left. (λ e. e, λ e. e) }

-- With c = 0 the two editions have the same job.
nought : (c : ℕ) (call : Call) → names_edition call ≡ false → Same (call_as true 0 call) (call_as false c call)
unfolding edition_of startup_of
nought c (TestJob g) n = record { says = refl; leaves = λ left. (λ e. e, λ e. e) }
nought c (ReadJob file es hs ws) n = record { says = refl; leaves = λ left. (λ e. e, λ e. e) }
nought c (WriteJob g file) n = absurd (let z : ◌≡◌ {A = ℕ} 0 1 = cc n in let y : ⊥ = omega arith in y)
nought c (Measure g s) n = record { says = refl; leaves = λ left. (λ e. e, λ e. e) }
nought c (Probe g B s) n = record { says = refl; leaves = λ left. (λ e. e, λ e. e) }
nought c (Heuristic g s) n = record { says = refl; leaves = λ left. (λ e. e, λ e. e) }
nought c (Halving g s) n = record { says = refl; leaves = λ left. (λ e. e, λ e. e) }
nought c (Plan m g s t) n = absurd (let z : ◌≡◌ {A = ℕ} 0 1 = cc n in let y : ⊥ = omega arith in y)
nought c (WritePlan g s plan) n = record { says = refl; leaves = λ left. (λ e. e, λ e. e) }
nought c (Grade g plan) n = record { says = refl; leaves = λ left. (λ e. e, λ e. e) }
nought c (ListJob file out) n = record { says = refl; leaves = λ left. (λ e. e, λ e. e) }
nought c (PlanJob file m plan) n = record { says = refl; leaves = λ left. (λ e. e, λ e. e) }
nought c (GradePlan file plan grade) n = record { says = refl; leaves = λ left. (λ e. e, λ e. e) }

-- Any job without start-up work, taken for one of the first edition, is by weights.
by_weights : (es hs ws : List ℕ) → ByWeights First (job_of 0 es hs ws)
unfolding difference allowance bidding_allowance refusal call_tests job_tests startup_test first_refusal max_startup
by_weights es hs ws =
    record {
      loads = load_plain (job_of 0 es hs ws) refl;
      tests = refl;
      close =
          ap (λ (n : ℕ). over n (slowest (job_of 0 es hs ws)))
          (let e : heaviest (job_of 0 es hs ws) + 0 ≡ heaviest (job_of 0 es hs ws) = omega arith in e);
      width =
          ap (λ (n : ℕ). n * (fastest (job_of 0 es hs ws) * fastest (job_of 0 es hs ws)) / slowest (job_of 0 es hs ws))
          (let e : breadth (job_of 0 es hs ws)
          ≡ cond (held (job_of 0 es hs ws)) (total_weight (job_of 0 es hs ws))
          (heaviest (job_of 0 es hs ws)) = omega arith in e);
      trials = refl;
      bytes = first_bytes (job_of 0 es hs ws);
    }

weights : (c : ℕ) (g : ByLists) → ByWeights (edition_by (in_edition false c g)) (job_by (in_edition false c g))
unfolding edition_of startup_of
weights c g = by_weights g.speeds g.holds g.weights

-- A file without a record of kind 3: record by record its tests give what the former ones do. Here b says that the
-- record is of kind 3.
without_startup : (k l b z o s w y x : Bool) (r : ℕ) → b ≡ false
    → cond ((k || l || b) && z) (cond o (cond (not b || y) (cond s (cond w (cond (not b || x) r 16) 6) 5) 15) 4) 3
    ≡ cond ((k || l) && z) (cond o (cond s (cond w r 6) 5) 4) 3
without_startup k l true z o s w y x r e = absurd (let n : ◌≡◌ {A = ℕ} 0 1 = cc e in let m : ⊥ = omega arith in m)
without_startup true l false z o s w y x r e = refl
without_startup false true false z o s w y x r e = refl
without_startup false false false z o s w y x r e = refl

module _ (file : List ℕ) (none : NoStartup file) where
  other_kind : (i : ℕ) → is_kind startup_kind file i ≡ false
  unfolding is_kind
  other_kind i = ne_eqb (kind_at file i) startup_kind (none i)

  abbrev former : ℕ → List Test
  former i = two_kinds file i ∷ order_test file i ∷ speed_test file i ∷ weight_test file i ∷ []

  record_same : (i : ℕ) (us : List Test) → first_refusal (record_tests file i ++ us) ≡ first_refusal (former i ++ us)
  unfolding record_tests form_test order_test place_test speed_test weight_test work_test two_kinds first_refusal
  record_same i us =
      without_startup (is_kind processor_kind file i) (is_kind task_kind file i) (is_kind startup_kind file i)
      (blank file i) (order_test file i).passes
      (speed_test file i).passes (weight_test file i).passes (eqb i 0) (between 0 max_startup (value_at file i))
      (first_refusal us) (other_kind i)

  records_same : (n : ℕ) (us : List Test) → first_refusal (records_tests file n ++ us)
      ≡ first_refusal (former_records file n ++ us)
  unfolding records_tests former_records
  records_same zero us = refl
  records_same (suc n) us =
      ap first_refusal (append_assoc (records_tests file n) (record_tests file n) us)
      ∙ records_same n (record_tests file n ++ us)
      ∙ first_refusal_same (former_records file n) (record_tests file n ++ us) (former n ++ us) (record_same n us)
      ∙ sym (ap first_refusal (append_assoc (former_records file n) (former n) us))

  first_of : edition_in file ≡ First
  unfolding edition_of second_in
  first_of = ap (λ (b : Bool). edition_of b (value_at file 0)) (other_kind 0)

  as_before : AsBefore file
  unfolding file_refusal file_tests former_tests startup_of
  as_before =
      record {
        refused =
            first_refusal_same (multiple_test file ∷ []) (records_tests file (record_count file) ++ ends)
            (former_records file (record_count file) ++ ends)
            (records_same (record_count file) ends);
        weights =
            subst (λ (d : Edition). ByWeights d
            (job_of (startup_of d) (speeds_of file) (holds_of file) (weights_of file))) (sym first_of)
            (by_weights (speeds_of file) (holds_of file) (weights_of file));
      }
    where
      ends : List Test
      ends = processors_test (speeds_of file) ∷ tasks_test (weights_of file) ∷ []

-- The figures of a plan with c = 0.
allowance_same : (k : Method) (job : Job) → 1 < processors job → allowance (Second 0) k job ≡ allowance First k job
unfolding allowance bidding_allowance
allowance_same Table job h = refl
allowance_same Bidding job h =
    ap (λ (b : Bool). cond b 2 (last job * tasks job + 1)) (ne_eqb (last job) 0 (λ z. omega arith))
allowance_same Bisection job h = refl
allowance_same Nicol job h = refl

figures_same : (k : Method) (job : Job) {f h : Figures} → f ≡ plan_figures (Second 0) k job
    → h ≡ plan_figures First k job → SameFigures (processors job) f h
unfolding plan_figures
figures_same k job {f} {h} e d =
    record {
      count = ap (λ (x : Figures). x.count) e ∙ sym (ap (λ (x : Figures). x.count) d);
      bottleneck = ap (λ (x : Figures). x.bottleneck) e ∙ sym (ap (λ (x : Figures). x.bottleneck) d);
      imbalance = ap (λ (x : Figures). x.imbalance) e ∙ sym (ap (λ (x : Figures). x.imbalance) d);
      allowance =
          λ l. ap (λ (x : Figures). x.allowance) e ∙ allowance_same k job l
          ∙ sym (ap (λ (x : Figures). x.allowance) d);
    }

nought_plan : (c m : ℕ) (g : ByLists) (s t : List ℕ) → SamePlan c m g s t
unfolding edition_of startup_of
nought_plan c m g s t =
    record {
      gives = plan_number (Second 0) job m s t ∙ sym (plan_number First job m s t);
      leaves = λ left. (λ e. e, λ e. e);
      figures = λ f h x y. both (given (Second 0) job m s t x) (given First job m s t y);
    }
  where
    job : Job
    job = job_of 0 g.speeds g.holds g.weights

    both : {f h : Figures} → Given (Second 0) job m s t f → Given First job m s t h → SameFigures (processors job) f h
    both {f} {h} x y =
        let same : x.method ≡ y.method = cc (sym x.chosen ∙ y.chosen) in
        figures_same x.method job x.figures (y.figures ∙ ap (λ (k : Method). plan_figures First k job) (sym same))

-- A yes or no is told by its edition.
told_second : (b d : Bool) (c e : ℕ) → edition_of b c ≡ edition_of d e → b ≡ d
unfolding edition_of
told_second true true c e h = refl
told_second true false c e h = absurd (let z : ◌≡◌ {A = ℕ} 0 1 = cc h in let y : ⊥ = omega arith in y)
told_second false true c e h = absurd (let z : ◌≡◌ {A = ℕ} 0 1 = cc h in let y : ⊥ = omega arith in y)
told_second false false c e h = refl

of_edition : (g : ByLists) → OfEdition (edition_by g) (job_by g)
of_edition g = record { counts = refl }

-- An accepted job is valid and has one hold of 16 bits for each processor.
valid_by : (g : ByLists) → Accepts (TestJob g) → Valid (job_by g)
valid_by g e = (accepted e).valid

exact_by : (g : ByLists) → Halves g.holds → Accepts (TestJob g) → ExactHolds (job_by g)
exact_by g b e =
    given_exact (startup_of (edition_by g)) g.speeds g.holds g.weights
    (holds_long (startup_of (edition_by g)) g.speeds g.holds g.weights (valid_by g e)) b

back : (g : ByLists) (es hs ws : List ℕ) → Halves g.holds → Accepts (TestJob g) → length g.speeds ≤ length es
    → length g.speeds ≤ length hs → length g.weights ≤ length ws → ReadBack g es hs ws
back g es hs ws b e h k l =
    let r = read_again (edition_by g) (job_by g) es hs ws (of_edition g) (valid_by g e) (exact_by g b e) h k l in
    record {
      answer =
          r.answer
          ∙ ap (λ (b : Bool). Ok (read_as b))
          (told_second r.second g.second (job_by g).startup g.startup r.same_edition);
      speeds = r.speeds;
      holds = r.holds;
      weights = r.weights;
    }
  where
    read_as : Bool → JobRead
    read_as b =
        record { second = b; startup = (job_by g).startup; processors = length g.speeds; tasks = length g.weights }

one_job : (g h : ByLists) → Halves g.holds → Halves h.holds → Accepts (TestJob g) → Accepts (TestJob h)
    → job_bytes (edition_by g) (job_by g) ≡ job_bytes (edition_by h) (job_by h)
    → (edition_by g ≡ edition_by h) × (job_by g ≡ job_by h)
one_job g h b c d e same =
    same_bytes (of_edition g) (valid_by g d) (exact_by g b d) (of_edition h) (valid_by h e) (exact_by h c e) same

-- A bound without room for the start-up work: no part with a task is within it.
reach_none : (job : Job) (p a : ℕ) (B : Bound) → a ≤ tasks job → B.load * speed_of job p < job.startup * B.speed
    → reach job p a B ≡ a
unfolding part_bound
reach_none job p a B h l =
    sym (reach_unique job p a a B (omega arith) h (within_empty job p a B)
    (λ k.
    past_of job p a (suc a)
    (make_lt (omega (arith, l, mul-le-mul_right B.speed (started k))))))
  where
    started : a < tasks job → job.startup ≤ part_load job a (suc a)
    started k = omega (arith, load_some job a (suc a) (omega arith) k)

no_room : (g : ByLists) (B : Bound) (s : List ℕ) → Accepts (Probe g B s) → (p : ℕ) → p < length g.speeds
    → B.load * speed_of (job_by g) p < (job_by g).startup * B.speed
    → at (front (job_by g) (probe_writes (job_by g) B s)) (suc p)
    ≡ at (front (job_by g) (probe_writes (job_by g) B s)) p
unfolding separator
no_room g B s e p h l =
    at_is (suc p) h ∙ reach_none job p (separator job B p) B (separator_to job B p) l ∙ sym (at_is p (omega arith))
  where
    job : Job
    job = job_by g

    none : refusal job (probe_inputs job B (length s)) ≡ 0
    none = sym (probe-number job B s) ∙ e

    at_is : (q : ℕ) → q ≤ processors job → at (front job (probe_writes job B s)) q ≡ separator job B q
    at_is q k = ap (λ (xs : List ℕ). at xs q) (probe-front job B s none) ∙ walked_at job B q k

pub editions : Editions
editions =
    record {
      whatever = whatever;
      weights = weights;
      former = as_before;
      nought = nought;
      nought_plan = nought_plan;
      back = back;
      one_job = one_job;
      loads =
          λ g s plan e. written_loads_add_up (job_by g) s plan
          (sym (write_plan_number (job_by g) s (length plan)) ∙ e);
      host_loads = λ file plan m e. host_loads_add_up file plan m e;
      no_room = no_room;
    }
