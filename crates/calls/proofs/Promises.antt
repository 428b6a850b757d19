-- What a caller may read off the answers of the four calls and off the list that they leave.
-- Assumes nothing.
use Prim.Native.Nat.{ℕ, suc, ◌+◌, ◌*◌, ◌≤◌, ◌<◌}
use mathlib.Core.Path.{◌≡◌, sym, ap, subst, ◌∙◌}
use mathlib.Core.Bool.{not}
use mathlib.Core.List.{List, [], ◌∷◌, ◌++◌, Memᴰ}
use mathlib.Core.Logic.{◌≢◌, ◌↔◌}
use lib.Dec.{T}
use lib.ListN.{length, take, drop}
use lib.Seq.{drop_at}
use Rattle.std.specs.Prelude.{Ok}
use Rattle.bound.specs.declared.Bound.{Bound}
use Rattle.bound.specs.Order.{plus, ◌≼◌, ◌≺◌}
use Rattle.chain.specs.Job.{Job, Valid, Partition, Within, processors, last, part_load, total_weight, heaviest, ideal}
use Rattle.chain.specs.Job.{at, bottleneck}
use Rattle.chain.specs.declared.Outcome.{Outcome}
use Rattle.chain.specs.declared.Outcome.TheVariants.{Fits, Fails}
use Rattle.chain.specs.Probe.{walk, walked, fits, next_bid, visited, probe}
use Rattle.chain.specs.Heuristic.{margin, heuristic}
use Rattle.chain.specs.Halving.{Halvable, halving}
use Rattle.chain.specs.Plan.{plan_of}
use Rattle.chain.specs.Refusal.{startup_test, speeds_test, weights_test, processors_test, tasks_test, row_test}
use Rattle.chain.specs.Refusal.{length_test, holds_test, enough_test, free_test, bound_test, partition_test}
use Rattle.chain.specs.Refusal.{FirstFailing, job_tests, Inputs, measure_inputs, halving_inputs, call_tests, refusal}
use Rattle.chain.specs.Numbers.{answered}
use Rattle.chain.proofs.Numbers.{answered_ok}
use Rattle.chain.proofs.Tests.{T_true}
use Rattle.chain.proofs.Refusals.{gives, given_number}
use Rattle.chain.proofs.Parts.{Proper, valid_proper, valid_plannable}
use Rattle.chain.proofs.Walk as walks
use Rattle.chain.proofs.NextBid as bids
use Rattle.chain.proofs.Within.{Free, free_of}
use Rattle.chain.proofs.Enough.{free_plannable}
use Rattle.chain.proofs.Heuristic.{heuristic_partition, heuristic_bound}
use Rattle.chain.proofs.Halving.{halving_partition, halving_bound, halving_greatest}
use Rattle.chain.proofs.Demand.{plan_of_best}
use Rattle.refusals.specs.Inputs.{probe_inputs, heuristic_inputs}
use Rattle.refusals.specs.Answers.{said_by, bound_values, lent_after}
use Rattle.refusals.proofs.Accepted.{accepted}
use Rattle.refusals.proofs.Answering.{answer_said_lem, number_of_lem}
use Rattle.refusals.proofs.Known.{refusal_known}
use Rattle.refusals.proofs.Lent.{lent_refused, lent-front}
use Rattle.refusals.proofs.Values.{answered_value}
use Rattle.calls.specs.Answers.{measured_said, outcome_values, probed_said, measure_answer, probe_answer, probe_writes}
use Rattle.calls.specs.Answers.{heuristic_answer, heuristic_writes, halving_answer, halving_writes}
use Rattle.parts.proofs.Front.{taken}
use Rattle.probe.proofs.Answer.{outcome_fits, fits_outcome, fails_outcome}

-- Measuring.
module _ (job : Job) (s : List ℕ) where
  -- The answer says the bottleneck, or the refusal's number.
  pub measure_said : measured_said (measure_answer job s)
      ≡ said_by (refusal job (measure_inputs job s)) (bound_values (bottleneck job (take (suc (processors job)) s)))
  unfolding measure_answer
  measure_said = answer_said_lem (refusal_known job (measure_inputs job s)) bound_values
      (bottleneck job (take (suc (processors job)) s))

  pub measure_number : (measured_said (measure_answer job s)).number ≡ refusal job (measure_inputs job s)
  measure_number = number_of_lem (bound_values (bottleneck job (take (suc (processors job)) s))) measure_said

  -- It is 0, 16, or one of 5 to 9 and 11;
  pub measure_numbers : Memᴰ (measured_said (measure_answer job s)).number (0 ∷ 16 ∷ 5 ∷ 6 ∷ 7 ∷ 8 ∷ 9 ∷ 11 ∷ [])
  unfolding refusal call_tests job_tests startup_test speeds_test weights_test processors_test tasks_test length_test holds_test partition_test
  measure_numbers = given_number (16 ∷ 5 ∷ 6 ∷ 7 ∷ 8 ∷ 9 ∷ 11 ∷ []) (call_tests job (measure_inputs job s))
      measure_number tt

  -- and that of the first test that fails.
  pub measure_gives : {n : ℕ} → n ≢ 0
      → ((measured_said (measure_answer job s)).number ≡ n) ↔ FirstFailing (call_tests job (measure_inputs job s)) n
  unfolding refusal
  measure_gives h = gives (call_tests job (measure_inputs job s)) measure_number h

  -- A bottleneck is given for a partition alone, and it is that partition's.
  pub measure_promise : {B : Bound} → measure_answer job s ≡ Ok B
      → Partition job (take (suc (processors job)) s) × (B ≡ bottleneck job (take (suc (processors job)) s))
  unfolding measure_answer
  measure_promise e =
      let m = answered_value (refusal job (measure_inputs job s)) (bottleneck job (take (suc (processors job)) s)) e in
      ((accepted m.0).divisions.0, m.1)

-- A call that divides the job by d: a bottleneck is given for d alone, and the list then begins with it.
module _ (job : Job) (s : List ℕ) (inputs : Inputs) (d : List ℕ) where
  record Divided (C : Bound) : Type 0 where
    passed : refusal job inputs ≡ 0
    measured : C ≡ bottleneck job d
    front : Partition job d → take (suc (processors job)) (lent_after (refusal job inputs) d s) ≡ d
    behind : Partition job d
        → drop (suc (processors job)) (lent_after (refusal job inputs) d s) ≡ drop (suc (processors job)) s

  divided : {C : Bound} → answered (refusal job inputs) (bottleneck job d) ≡ Ok C → Divided C
  divided {C} e =
      record {
        passed = m.0;
        measured = m.1;
        front = λ pa. taken d rest pa.count (written pa);
        behind = λ pa. ap (drop (suc (processors job))) (written pa) ∙ drop_at d rest (suc (processors job)) pa.count;
      }
    where
      m : (refusal job inputs ≡ 0) × (C ≡ bottleneck job d)
      m = answered_value (refusal job inputs) (bottleneck job d) e

      rest : List ℕ
      rest = drop (suc (processors job)) s

      written : Partition job d → lent_after (refusal job inputs) d s ≡ d ++ rest
      written pa = lent-front d s m.0 pa.count

-- The heuristic.
module _ (job : Job) (s : List ℕ) where
  pub heuristic-said : measured_said (heuristic_answer job s)
      ≡ said_by (refusal job (heuristic_inputs job (length s))) (bound_values (bottleneck job (heuristic job)))
  unfolding heuristic_answer
  heuristic-said = answer_said_lem (refusal_known job (heuristic_inputs job (length s))) bound_values
      (bottleneck job (heuristic job))

  pub heuristic-number : (measured_said (heuristic_answer job s)).number ≡ refusal job (heuristic_inputs job (length s))
  heuristic-number = number_of_lem (bound_values (bottleneck job (heuristic job))) heuristic-said

  -- 0, 16, one of 5 to 9, or 18; that of the first test that fails.
  pub heuristic-numbers : Memᴰ (measured_said (heuristic_answer job s)).number (0 ∷ 16 ∷ 5 ∷ 6 ∷ 7 ∷ 8 ∷ 9 ∷ 18 ∷ [])
  unfolding refusal call_tests job_tests startup_test speeds_test weights_test processors_test tasks_test length_test holds_test free_test
  heuristic-numbers = given_number (16 ∷ 5 ∷ 6 ∷ 7 ∷ 8 ∷ 9 ∷ 18 ∷ [])
      (call_tests job (heuristic_inputs job (length s))) heuristic-number tt

  pub heuristic_gives : {n : ℕ} → n ≢ 0
      → ((measured_said (heuristic_answer job s)).number ≡ n) ↔ FirstFailing
      (call_tests job (heuristic_inputs job (length s))) n
  unfolding refusal
  heuristic_gives h = gives (call_tests job (heuristic_inputs job (length s))) heuristic-number h

  -- A refusal leaves the list as it was.
  pub heuristic-keeps : refusal job (heuristic_inputs job (length s)) ≢ 0 → heuristic_writes job s ≡ s
  unfolding heuristic_writes
  heuristic-keeps h = lent_refused h (heuristic job) s

  -- The list then begins with a partition whose bottleneck is given; it is within (heaviest + c)/slowest of the ideal.
  pub record Guess (C : Bound) : Type 0 where
    pub partition : Partition job (take (suc (processors job)) (heuristic_writes job s))
    pub measured : C ≡ bottleneck job (take (suc (processors job)) (heuristic_writes job s))
    pub close : C ≼ plus (ideal job) (margin job)
    pub behind : drop (suc (processors job)) (heuristic_writes job s) ≡ drop (suc (processors job)) s

  pub heuristic_promise : {C : Bound} → heuristic_answer job s ≡ Ok C → Guess C
  unfolding heuristic_answer heuristic_writes
  heuristic_promise {C} e =
      record {
        partition = subst (Partition job) (sym (w.front pa)) pa;
        measured = w.measured ∙ ap (bottleneck job) (sym (w.front pa));
        close = subst (λ (B : Bound). B ≼ plus (ideal job) (margin job)) (sym w.measured)
            (heuristic_bound (valid_proper v) free);
        behind = w.behind pa;
      }
    where
      w : Divided job s (heuristic_inputs job (length s)) (heuristic job) C
      w = divided job s (heuristic_inputs job (length s)) (heuristic job) e

      v : Valid job
      v = (accepted w.passed).valid

      free : Free job
      free = free_of (accepted w.passed).free.0

      pa : Partition job (heuristic job)
      pa = heuristic_partition (valid_proper v) free

-- Halving the row.
module _ (job : Job) (s : List ℕ) where
  pub halving-said : measured_said (halving_answer job s)
      ≡ said_by (refusal job (halving_inputs job (length s))) (bound_values (bottleneck job (halving job)))
  unfolding halving_answer
  halving-said = answer_said_lem (refusal_known job (halving_inputs job (length s))) bound_values
      (bottleneck job (halving job))

  pub halving-number : (measured_said (halving_answer job s)).number ≡ refusal job (halving_inputs job (length s))
  halving-number = number_of_lem (bound_values (bottleneck job (halving job))) halving-said

  -- 0, 16, one of 5 to 9, 14 or 18; that of the first test that fails.
  pub halving-numbers : Memᴰ (measured_said (halving_answer job s)).number (0 ∷ 16 ∷ 5 ∷ 6 ∷ 7 ∷ 8 ∷ 14 ∷ 9 ∷ 18 ∷ [])
  unfolding refusal call_tests job_tests startup_test speeds_test weights_test processors_test tasks_test row_test length_test holds_test free_test
  halving-numbers = given_number (16 ∷ 5 ∷ 6 ∷ 7 ∷ 8 ∷ 14 ∷ 9 ∷ 18 ∷ [])
      (call_tests job (halving_inputs job (length s))) halving-number tt

  pub halving_gives : {n : ℕ} → n ≢ 0
      → ((measured_said (halving_answer job s)).number ≡ n) ↔ FirstFailing
      (call_tests job (halving_inputs job (length s))) n
  unfolding refusal
  halving_gives h = gives (call_tests job (halving_inputs job (length s))) halving-number h

  -- A refusal leaves the list as it was.
  pub halving-keeps : refusal job (halving_inputs job (length s)) ≢ 0 → halving_writes job s ≡ s
  unfolding halving_writes
  halving-keeps h = lent_refused h (halving job) s

  -- The list then begins with the halved row, a partition, whose bottleneck is given: P times its load is at most Wtot + heaviest × (P − 1) + c × P, and
  -- it is the greatest load; no plan has a greater bottleneck; one processor takes all.
  pub record Splits (C : Bound) : Type 0 where
    pub row : Halvable job.speeds
    pub front : take (suc (processors job)) (halving_writes job s) ≡ halving job
    pub partition : Partition job (halving job)
    pub measured : C ≡ bottleneck job (halving job)
    pub light : processors job * C.load ≤ total_weight job + heaviest job * last job + job.startup * processors job
    pub greatest : (p : ℕ) → p < processors job → part_load job (at (halving job) p) (at (halving job) (suc p)) ≤ C.load
    pub least : bottleneck job (plan_of job) ≼ C
    pub behind : drop (suc (processors job)) (halving_writes job s) ≡ drop (suc (processors job)) s

  pub halving_promise : {C : Bound} → halving_answer job s ≡ Ok C → Splits C
  unfolding halving_answer halving_writes
  halving_promise {C} e =
      record {
        row = row;
        front = w.front pa;
        partition = pa;
        measured = w.measured;
        light = subst (λ (B : Bound). processors job * B.load ≤ total_weight job + heaviest job * last job +
            job.startup * processors job) (sym w.measured) (halving_bound job row (valid_proper v));
        greatest = λ p h.
            subst (λ (B : Bound). part_load job (at (halving job) p) (at (halving job) (suc p)) ≤ B.load)
            (sym w.measured)
            (halving_greatest job row (valid_proper v) p h);
        least = subst (λ (B : Bound). bottleneck job (plan_of job) ≼ B) (sym w.measured)
            ((plan_of_best (free_plannable (valid_proper v) free)).least (halving job) pa);
        behind = w.behind pa;
      }
    where
      w : Divided job s (halving_inputs job (length s)) (halving job) C
      w = divided job s (halving_inputs job (length s)) (halving job) e

      v : Valid job
      v = (accepted w.passed).valid

      row : Halvable job.speeds
      row = (accepted w.passed).rows.0

      free : Free job
      free = free_of (accepted w.passed).free.0

      pa : Partition job (halving job)
      pa = halving_partition job row free

-- The probe.
module _ (job : Job) (B : Bound) (s : List ℕ) where
  tried : {outcome : Outcome} → answered (refusal job (probe_inputs job B (length s))) (probe job B) ≡ Ok outcome
      → (refusal job (probe_inputs job B (length s)) ≡ 0) × (outcome ≡ probe job B)
  tried e = answered_value (refusal job (probe_inputs job B (length s))) (probe job B) e

  pub probe-said : probed_said (probe_answer job B s) ≡ said_by (refusal job (probe_inputs job B (length s)))
      (outcome_values (probe job B))
  unfolding probe_answer
  probe-said = answer_said_lem (refusal_known job (probe_inputs job B (length s))) outcome_values (probe job B)

  pub probe-number : (probed_said (probe_answer job B s)).number ≡ refusal job (probe_inputs job B (length s))
  probe-number = number_of_lem (outcome_values (probe job B)) probe-said

  -- 0, 16, one of 5 to 9, 17 or 10; that of the first test that fails.
  pub probe-numbers : Memᴰ (probed_said (probe_answer job B s)).number (0 ∷ 16 ∷ 5 ∷ 6 ∷ 7 ∷ 8 ∷ 9 ∷ 17 ∷ 10 ∷ [])
  unfolding refusal call_tests job_tests startup_test speeds_test weights_test processors_test tasks_test length_test holds_test enough_test bound_test
  probe-numbers = given_number (16 ∷ 5 ∷ 6 ∷ 7 ∷ 8 ∷ 9 ∷ 17 ∷ 10 ∷ [])
      (call_tests job (probe_inputs job B (length s))) probe-number tt

  pub probe_gives : {n : ℕ} → n ≢ 0
      → ((probed_said (probe_answer job B s)).number ≡ n) ↔ FirstFailing
      (call_tests job (probe_inputs job B (length s))) n
  unfolding refusal
  probe_gives h = gives (call_tests job (probe_inputs job B (length s))) probe-number h

  -- A refusal leaves the list as it was.
  pub probe-keeps : refusal job (probe_inputs job B (length s)) ≢ 0 → probe_writes job B s ≡ s
  unfolding probe_writes
  probe-keeps h = lent_refused h (walked job B) s

  -- An accepted probe: the list then begins with how far each processor gets, whether it fits or not, and the entries behind stay.
  written : refusal job (probe_inputs job B (length s)) ≡ 0
      → probe_writes job B s ≡ walked job B ++ drop (suc (processors job)) s
  unfolding probe_writes
  written e = lent-front (walked job B) s e (walks.walked-length job B)

  pub probe-front : refusal job (probe_inputs job B (length s)) ≡ 0
      → take (suc (processors job)) (probe_writes job B s) ≡ walked job B
  probe-front e = taken (walked job B) (drop (suc (processors job)) s) (walks.walked-length job B) (written e)

  pub probe_behind : refusal job (probe_inputs job B (length s)) ≡ 0
      → drop (suc (processors job)) (probe_writes job B s) ≡ drop (suc (processors job)) s
  probe_behind e =
      ap (drop (suc (processors job))) (written e) ∙ drop_at (walked job B) (drop (suc (processors job)) s)
      (suc (processors job)) (walks.walked-length job B)

  -- Demand 2: an accepted probe fits exactly when some partition stays within the bound.
  pub probe-fits_exactly : refusal job (probe_inputs job B (length s)) ≡ 0
      → ((n : ℕ) × (probe_answer job B s ≡ Ok (Fits n))) ↔ ((t : List ℕ) × Partition job t × Within job t B)
  unfolding probe_answer
  probe-fits_exactly e =
      let f = walks.fits_exactly (valid_proper (accepted e).valid) B in (
        λ h. f.0 (fits_outcome job B (sym (tried h.1).1)).0,
        λ x. (
          visited job B,
          sym (answered_ok (probe job B) e)
              ∙ ap Ok (outcome_fits job B (T_true (fits job B) (f.1 x))),
        ),
      )

  -- A fit: it is a partition within the bound, and n is the number of processors that its walk came to.
  pub record Fitted (n : ℕ) : Type 0 where
    pub came : n ≡ visited job B
    pub separators : take (suc (processors job)) (probe_writes job B s) ≡ walk job B
    pub partition : Partition job (take (suc (processors job)) (probe_writes job B s))
    pub within : Within job (take (suc (processors job)) (probe_writes job B s)) B

  pub probe_fitted : {n : ℕ} → probe_answer job B s ≡ Ok (Fits n) → Fitted n
  unfolding probe_answer
  probe_fitted {n} e =
      record {
        came = m.2;
        separators = front;
        partition = subst (Partition job) (sym front) (walks.walk_partition ok B m.1);
        within = subst (λ (t : List ℕ). Within job t B) (sym front) (walks.walk-within job B m.1);
      }
    where
      m : (refusal job (probe_inputs job B (length s)) ≡ 0) × T (fits job B) × (n ≡ visited job B)
      m =
          let a = tried e in
          let f = fits_outcome job B (sym a.1) in
          (a.0, f.0, f.1)

      ok : Proper job
      ok = valid_proper (accepted m.0).valid

      front : take (suc (processors job)) (probe_writes job B s) ≡ walk job B
      front = probe-front m.0 ∙ walks.walked-walk ok B m.1

  -- A failure: the next bid is above the bound, and no partition stays within a smaller one.
  pub record Failed (C : Bound) : Type 0 where
    pub above : B ≺ C
    pub least : (D : Bound) → (t : List ℕ) → Partition job t → Within job t D → C ≼ D

  pub probe_failed : {C : Bound} → probe_answer job B s ≡ Ok (Fails C) → Failed C
  unfolding probe_answer
  probe_failed {C} e =
      record {
        above = subst (λ (D : Bound). B ≺ D) (sym m.2) (bids.next_above (valid_plannable v (accepted m.0).keeping.0) B
            m.1);
        least = λ D t pa w.
            subst (λ (E : Bound). E ≼ D) (sym m.2) (bids.next_least (valid_proper v) B D m.1
            (walks.partition_fits (valid_proper v) pa w));
      }
    where
      m : (refusal job (probe_inputs job B (length s)) ≡ 0) × T (not (fits job B)) × (C ≡ next_bid job B)
      m =
          let a = tried e in
          let f = fails_outcome job B (sym a.1) in
          (a.0, f.0, f.1)

      v : Valid job
      v = (accepted m.0).valid
