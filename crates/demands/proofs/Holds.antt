-- What the holds of the machines change and what they do not: `holdings`.
-- Assumes nothing.
use Prim.Native.Nat.{ℕ, zero, suc, ◌+◌, ◌-◌, ◌*◌, ◌/◌, ◌≤◌, ◌<◌}
use mathlib.Core.Path.{◌≡◌, refl, sym, ap, ap₂, subst, ◌∙◌}
use mathlib.Core.Bool.{Bool, true, false, not, cond, ◌&&◌, ◌||◌}
use mathlib.Core.List.{List, [], ◌∷◌, ◌++◌, map, append_assoc, append-nil, Memᴰ}
use mathlib.Core.Logic.{◌≢◌, ◌↔◌, ◌⊎◌, inl, inr}
use native.Mathlib.Omega.{arith}
use native.Mathlib.Decide.{dec_le, ℕ_discrete}
use lib.Dec.{T, eqb, leb, ltb, leb→le, le→leb, ltb→lt, lt→ltb}
use lib.ListN.{length, get_or, take, replicate}
use lib.Seq.{length-take-le, take_all, get_or-take}
use borrow.Author.Tests.{eq-eqb, ne_eqb}
use Rattle.bound.specs.declared.Bound.{Bound}
use Rattle.bound.specs.Order.{le, pick, greater, ◌≼◌}
use Rattle.chain.specs.Lists.{sum_to, all, each_of}
use Rattle.chain.specs.Job.{startup_of, Job, job_of, free_job, Valid, tasks, processors, last, speed_of, hold_of, held}
use Rattle.chain.specs.Job.{enough, part_of, part_load, total_weight, heaviest, fastest, slowest, part_bound, keeps}
use Rattle.chain.specs.Job.{within, at, Partition, all_kept, bound_at, bottleneck_to, bottleneck, ideal, widest}
use Rattle.chain.specs.Heuristic.{heuristic}
use Rattle.chain.specs.Halving.{Halvable}
use Rattle.chain.specs.Bisection.{first_ends}
use Rattle.chain.specs.Plan.{onward, those, partitions, difference}
use Rattle.chain.specs.Refusal.{Test, test, method_test, startup_test, speeds_test, weights_test, processors_test}
use Rattle.chain.specs.Refusal.{tasks_test, row_test, length_test, holds_test, enough_test, free_test, bound_test}
use Rattle.chain.specs.Refusal.{is_partition, partition_test, plan_length_test, joined_test, true_test, first_refusal}
use Rattle.chain.specs.Refusal.{job_tests, Inputs, nothing, with_method, with_row, lending, separators_needed}
use Rattle.chain.specs.Refusal.{call_tests, refusal}
use Rattle.chain.proofs.Cut.{cut_long, long_cut, holds_long, hold_at_lem}
use Rattle.chain.proofs.Tests.{T_of, T_true, and_left, and_right, and_both}
use Rattle.chain.proofs.Sums.{sum_same_below}
use Rattle.chain.proofs.Indices.{all-at, all_of}
use Rattle.chain.proofs.Parts.{Proper, valid_proper}
use Rattle.chain.proofs.Within.{Free, free_keeps, keeps_cases, keeps_unlimited, keeps-limited, within-keeps}
use Rattle.chain.proofs.Within.{offer_part}
use Rattle.chain.proofs.Table.{start_unlimited}
use Rattle.chain.proofs.Enough.{partition_enough, enough_exactly}
use Rattle.chain.proofs.Refusals.{Numbered, numbered_nil, numbered_cons, numbered_append, numbered_map, pass_head}
use Rattle.chain.proofs.Refusals.{pass_skip, first_refusal-append, first_refusal_before, first_refusal_same}
use Rattle.chain.proofs.Refusals.{refused_first, append_accepted, numbers_in, one_of, given_number, numbers-append}
use Rattle.chain.proofs.Refusals.{numbers_more, job_numbered, call_numbered, job_accepted, valid_holds}
use Rattle.chain.proofs.Refusals.{partition_test_lem}
use Rattle.chain.proofs.Halving.{row_test_lem}
use Rattle.fields.specs.Field.{Bytes}
use Rattle.refusals.specs.Inputs.{plan_needed, scratch_needed, list_inputs, free_by, plan_inputs}
use Rattle.refusals.specs.Answers.{alone, written_said}
use Rattle.refusals.proofs.Accepted.{accepted}
use Rattle.parts.proofs.Held.{one_set}
use Rattle.refusals.proofs.Holds.{one_free, some_processor}
use Rattle.jobs.specs.JobFile.{processor_kind, task_kind, no_hold, record_bytes, records_bytes, edition_bytes}
use Rattle.jobs.specs.JobFile.{job_bytes}
use Rattle.jobs.specs.Parse.{byte_at, is_kind, blank, edition_in, startup_in, speeds_of, holds_of, weights_of, job_in}
use Rattle.jobs.specs.Parse.{file_tests, file_refusal}
use Rattle.jobs.specs.Answers.{write_answer, write_bytes}
use Rattle.jobs.proofs.Calls.{file_numbered, valid_lists}
use Rattle.jobs.proofs.Promises.{from_two, file_in}
use Rattle.jobs.proofs.Reading.{holds-length}
use Rattle.jobs.proofs.RoundTrip.{free_read, accepted_valid}
use Rattle.calls.specs.Answers.{measured_said, probed_said, measure_answer, probe_answer, probe_writes}
use Rattle.calls.specs.Answers.{heuristic_answer, heuristic_writes, halving_answer, halving_writes}
use Rattle.calls.proofs.Promises.{measure_number, heuristic-number, halving-number, probe-number}
use Rattle.planfile.specs.PlanFile.{plan_record, plan_bytes_to, plan_bytes, TruePlan}
use Rattle.planfile.specs.Answers.{write_plan_answer, write_plan_bytes}
use Rattle.planfile.proofs.Promises.{write_plan_number}
use Rattle.grading.specs.Answers.{graded_said, grade_answer}
use Rattle.planner.specs.Answers.{planned_said, plan_refusal, plan_answer, plan_writes, ScratchAfter}
use Rattle.planner.specs.HostCall.{hold_tests, host_file_tests, host_tests, host_answer}
use Rattle.planner.proofs.Promises.{plan_number}
use Rattle.texts.specs.Text.{refusal_line}
use Rattle.listing.specs.Listing.{listed_tests, listed_refusal, intake, listing}
use Rattle.listing.proofs.Promises.{listing_refused}
use Rattle.demands.specs.Call.{ByLists, edition_by, job_by, lists_in, Call, TestJob, ReadJob, WriteJob, Measure, Probe}
use Rattle.demands.specs.Call.{Heuristic, Halving, Plan, WritePlan, Grade, ListJob, PlanJob, GradePlan}
use Rattle.demands.specs.Demands.{number, Accepts, front, HostLeft}
use Rattle.demands.specs.Limit.{processors_in}
use Rattle.demands.specs.Editions.{Same}
use Rattle.demands.specs.Holds.{Held, Short, Indivisible, Ready, PlanReady, HostReady, RefusesShort, Dividing, Keeping}
use Rattle.demands.specs.Holds.{holding, call_holding, Unheld, tests_before, Unlimited, BlankHolds, BlankFile}
use Rattle.demands.specs.Holds.{Regardless, Holdings}
use Rattle.demands.proofs.Demands.{planning, demand_three, lists_job}
use Rattle.demands.proofs.Grades.{grades}
use Rattle.demands.proofs.Halvings.{not_one}
use Rattle.demands.proofs.Limit.{file_length, one_head}
use Rattle.demands.proofs.Trials.{trials}

-- A number is given exactly where the tests before its own pass and its own fails, if no other test has that number:
-- those before and those behind have the numbers ns.
module _ (before after : List Test) (k : ℕ) (b : Bool) (ns : List ℕ) (numbered : Numbered before)
    (first : T (numbers_in ns before))
    (rest : T (numbers_in ns after)) (other : T (not (one_of (0 ∷ ns) k))) where
  exactly_at : {n : ℕ} → n ≡ first_refusal (before ++ test k b ∷ after)
      → (n ≡ k) ↔ ((first_refusal before ≡ 0) × (b ≡ false))
  exactly_at {n} is = (there, λ (z, f). is ∙ refused_first before (test k b) after numbered z f)
    where
      failed : (c : Bool) → first_refusal (test k c ∷ after) ≡ k → c ≡ false
      failed true e =
          absurd (not_one k (0 ∷ ns) other (given_number ns after (sym e ∙ pass_skip (test k true) after tt) rest))
      failed false e = refl

      there : n ≡ k → (first_refusal before ≡ 0) × (b ≡ false)
      there e =
          elim (ℕ_discrete (first_refusal before) 0) [
            | yes z ↦ (z, failed b (sym (first_refusal-append before (test k b ∷ after) numbered z) ∙ sym is ∙ e))
            | no z ↦ absurd (not_one k (0 ∷ ns) other
                (given_number ns before (sym e ∙ is ∙ first_refusal_before before (test k b ∷ after) z) first))
          ]

-- A test that is passed and one that is not.
not_both : {b : Bool} → b ≡ true → b ≡ false → ⊥
not_both {b} e f = let z : ◌≡◌ {A = ℕ} 0 1 = cc (sym e ∙ f) in omega arith

is_false : (b : Bool) → (T b → ⊥) → b ≡ false
is_false true h = absurd (h tt)
is_false false h = refl

not_false_is : (b : Bool) → not b ≡ false → b ≡ true
not_false_is true e = refl
not_false_is false e = sym e

and_true : (b : Bool) → (b && true) ≡ b
and_true true = refl
and_true false = refl

-- Every entry of a list is 0, or there is one that is not.
found : (xs : List ℕ) → (each_of (λ h. eqb h 0) xs ≡ true) ⊎ ((p : ℕ) × (p < length xs) × (get_or xs p 0 ≢ 0))
unfolding each_of
found [] = inl refl
found (x ∷ xs) =
    elim (ℕ_discrete x 0) [
      | no n ↦ inr (0, omega arith, n)
      | yes e ↦
          elim (found xs) [
            | inl f ↦ inl (ap₂ (λ (s t : Bool). s && t) (eq-eqb x 0 e) f)
            | inr (p, h, n) ↦ inr (suc p, omega arith, n)
          ]
    ]

-- The holds of a job by lists, whatever its start-up work is.
module _ (c : ℕ) (g : ByLists) where
  abbrev row : Job
  row = job_of c g.speeds g.holds g.weights

  abbrev P : ℕ
  P = length g.speeds

  at_hold : (p : ℕ) → p < P → get_or g.holds p 0 ≡ hold_of row p
  at_hold p h = hold_at_lem c g.speeds g.holds g.weights p h

  sums : sum_to (λ p. get_or g.holds p 0) P ≡ sum_to (hold_of row) P
  sums = sum_same_below P at_hold

  abbrev limits : ℕ → Bool
  limits p = ltb 0 (hold_of row p)

  -- They are not enough exactly where they fall short,
  short_exactly : (enough row ≡ false) ↔ Short g
  unfolding enough
  short_exactly = (
    λ e.
        let t : T (all limits P && ltb (sum_to (hold_of row) P) (length g.weights)) =
        T_of (not_false_is (all limits P && ltb (sum_to (hold_of row) P) (length g.weights)) e) in
        record {
          limited =
              λ p h. let l = ltb→lt 0 (hold_of row p)
              (all-at limits P (and_left (all limits P)
              (ltb (sum_to (hold_of row) P) (length g.weights)) t) p h) in omega (arith, at_hold p h, l);
          less =
              let l = ltb→lt (sum_to (hold_of row) P) (length g.weights)
              (and_right (all limits P) (ltb (sum_to (hold_of row) P) (length g.weights)) t) in omega (arith, sums, l);
        },
    λ s.
        ap not
        (T_true (all limits P && ltb (sum_to (hold_of row) P) (length g.weights))
        (and_both (all limits P) (ltb (sum_to (hold_of row) P) (length g.weights))
        (all_of limits P (λ p h. lt→ltb 0 (hold_of row p) (omega (arith, at_hold p h, s.limited p h))))
        (lt→ltb (sum_to (hold_of row) P) (length g.weights) (omega (arith, sums, s.less))))),
  )

  -- which is exactly where there is no division;
  none_exactly : Proper row → (enough row ≡ false) ↔ Indivisible row
  none_exactly ok = (
    λ e s w. not_both (T_true (enough row) (partition_enough row w)) e,
    λ h. is_false (enough row) (λ t. let s = (enough_exactly ok).0 t in h s.0 s.1),
  )

  -- some are set exactly where one is not 0.
  set_exactly : P ≤ length g.holds → (held row ≡ true) ↔ Held g
  unfolding held
  set_exactly long =
      (λ e. there e (found (take P g.holds)), λ (p, h, n). sym (one_set c g.speeds g.holds g.weights p h n))
    where
      there : not (each_of (λ h. eqb h 0) (take P g.holds)) ≡ true
          → (each_of (λ h. eqb h 0) (take P g.holds) ≡ true) ⊎
          ((p : ℕ) × (p < length (take P g.holds)) × (get_or (take P g.holds) p 0 ≢ 0)) → Held g
      there e (inl f) = absurd (not_both e (ap not f))
      there e (inr (p, h, n)) =
          let l : p < P = omega (arith, length-take-le P g.holds long) in
          (p, l, λ z. n (get_or-take P g.holds p 0 l ∙ z))

  -- Parts that keep the holds.
  keeping : (s : List ℕ) → ((p : ℕ) → p < P → T (keeps row p (at s p) (at s (suc p)))) → Keeping g s
  keeping s k p h n =
      elim (keeps_cases row p (at s p) (at s (suc p)) (k p h)) [
        | inl e ↦ absurd (n (at_hold p h ∙ e))
        | inr l ↦ omega (arith, at_hold p h, l)
      ]

-- 17 and 18 of a call that plans: the tests before, those of the holds behind. Neither number is among those before.
module _ (job : Job) (m : ℕ) (before : List Test) (numbered : Numbered before)
    (first : T (numbers_in (1 ∷ from_two) before)) where
  abbrev behind_by : List Job → List Test
  behind_by free = enough_test job ∷ map free_test free

  free_is : m ≡ 4 → free_by m job ≡ job ∷ []
  unfolding free_by
  free_is e = ap (λ (b : Bool). cond b (job ∷ []) []) (eq-eqb m 4 e)

  free_none : m ≢ 4 → free_by m job ≡ []
  unfolding free_by
  free_none h = ap (λ (b : Bool). cond b (job ∷ []) []) (ne_eqb m 4 h)

  module _ {n : ℕ} (is : n ≡ first_refusal (before ++ behind_by (free_by m job))) where
    seventeen : (n ≡ 17) ↔ ((first_refusal before ≡ 0) × (enough job ≡ false))
    unfolding enough_test free_test free_by
    seventeen =
        exactly_at before (map free_test (free_by m job)) 17 (enough job) (18 ∷ 1 ∷ from_two) numbered
        (numbers_more 18 (1 ∷ from_two) before first) (all_free (eqb m 4)) tt is
      where
        all_free : (b : Bool) → T (numbers_in (18 ∷ 1 ∷ from_two) (map free_test (cond b (job ∷ []) [])))
        all_free true = unfold free_test in tt
        all_free false = tt

    abbrev all_before : List Test
    all_before = before ++ enough_test job ∷ []

    all_numbered : Numbered all_before
    unfolding enough_test
    all_numbered = numbered_append numbered (numbered_cons (omega arith) numbered_nil)

    all_in : T (numbers_in (17 ∷ 1 ∷ from_two) all_before)
    unfolding enough_test
    all_in =
        numbers-append (17 ∷ 1 ∷ from_two) before (enough_test job ∷ [])
        (numbers_more 17 (1 ∷ from_two) before first) tt

    is_four : m ≡ 4 → n ≡ first_refusal (all_before ++ free_test job ∷ [])
    is_four e =
        is ∙ ap (λ (free : List Job). first_refusal (before ++ behind_by free)) (free_is e)
        ∙ ap first_refusal (sym (append_assoc before (enough_test job ∷ []) (free_test job ∷ [])))

    by_four : m ≡ 4 → (n ≡ 18) ↔ ((first_refusal all_before ≡ 0) × (not (held job) ≡ false))
    unfolding free_test
    by_four e = exactly_at all_before [] 18 (not (held job)) (17 ∷ 1 ∷ from_two) all_numbered all_in tt tt (is_four e)

    enough_before : (first_refusal all_before ≡ 0) ↔ ((first_refusal before ≡ 0) × (enough job ≡ true))
    unfolding enough_test
    enough_before = (
      λ z. let a = append_accepted before (enough_test job ∷ []) numbered z in (a.0, passed (enough job) a.1),
      λ (z, e). first_refusal-append before (enough_test job ∷ []) numbered z
          ∙ pass_skip (test 17 (enough job)) [] (T_of e) ∙ unfold first_refusal in refl,
    )
      where
        passed : (b : Bool) → first_refusal (test 17 b ∷ []) ≡ 0 → b ≡ true
        passed true e = refl
        passed false e = unfold first_refusal in absurd (let z : ⊥ = omega (arith, e) in z)

    eighteen : (n ≡ 18) ↔ ((first_refusal before ≡ 0) × (enough job ≡ true) × (m ≡ 4) × (held job ≡ true))
    eighteen = (
      λ e. elim (ℕ_discrete m 4) [ yes f ↦ with_four e f | no f ↦ absurd (without f e) ],
      λ (z, e, f, h). (by_four f).1 (enough_before.1 (z, e), ap not h),
    )
      where
        with_four : n ≡ 18 → m ≡ 4 → (first_refusal before ≡ 0) × (enough job ≡ true) × (m ≡ 4) × (held job ≡ true)
        with_four e f =
            let a = (by_four f).0 e in
            let b = enough_before.0 a.0 in
            (b.0, b.1, f, not_false_is (held job) a.1)

        without : m ≢ 4 → n ≡ 18 → ⊥
        without f e =
            not_one 18 (0 ∷ 17 ∷ 1 ∷ from_two) tt
            (given_number (17 ∷ 1 ∷ from_two) all_before
            (sym e ∙ is ∙ ap (λ (free : List Job). first_refusal (before ++ behind_by free)) (free_none f)) all_in)

-- A test is passed.
length_passes : (needed given : ℕ) → needed ≤ given → T (length_test needed given).passes
unfolding length_test
length_passes needed given h = le→leb needed given h

method_passes : (m : ℕ) → 1 ≤ m → m ≤ 4 → T (method_test m).passes
unfolding method_test
method_passes m l h = and_both (leb 1 m) (leb m 4) (le→leb 1 m l) (le→leb m 4 h)

-- What the tests before the holds say: by lists,
module _ (job : Job) where
  job_none : Valid job → refusal job nothing ≡ 0
  job_none v = sym (valid_lists job v)

  list_none : (lent : ℕ) → refusal job nothing ≡ 0 → separators_needed job ≤ lent
      → refusal job (list_inputs job lent) ≡ 0
  unfolding refusal call_tests job_tests
  list_none lent e h =
      first_refusal-append (call_tests job nothing) (length_test (separators_needed job) lent ∷ [])
      (call_numbered job nothing) e
      ∙ pass_skip (length_test (separators_needed job) lent) [] (length_passes (separators_needed job) lent h)
      ∙ unfold first_refusal in refl

  abbrev plan_before : ℕ → ℕ → ℕ → Inputs
  plan_before m a b = with_method m (lending (separators_needed job) a (lending (scratch_needed job) b nothing))

  plan_none : (m a b : ℕ) → 1 ≤ m → m ≤ 4 → refusal job nothing ≡ 0 → separators_needed job ≤ a
      → scratch_needed job ≤ b → refusal job (plan_before m a b) ≡ 0
  unfolding refusal call_tests job_tests
  plan_none m a b l k e x y =
      pass_skip (method_test m) (call_tests job nothing
      ++ length_test (separators_needed job) a ∷ length_test (scratch_needed job) b ∷ []) (method_passes m l k)
      ∙ first_refusal-append (call_tests job nothing)
      (length_test (separators_needed job) a ∷ length_test (scratch_needed job) b ∷ []) (call_numbered job nothing) e
      ∙ pass_skip (length_test (separators_needed job) a) (length_test (scratch_needed job) b ∷ [])
      (length_passes (separators_needed job) a x)
      ∙ pass_skip (length_test (scratch_needed job) b) [] (length_passes (scratch_needed job) b y)
      ∙ unfold first_refusal in refl

  plan_in_lem : (m a b : ℕ) → T (numbers_in (1 ∷ from_two) (call_tests job (plan_before m a b)))
  unfolding call_tests job_tests method_test startup_test speeds_test weights_test processors_test tasks_test
      holds_test length_test
  plan_in_lem m a b = tt

  plan_tests_lem : (m a b : ℕ) → call_tests job (plan_inputs job m a b)
      ≡ call_tests job (plan_before m a b) ++ enough_test job ∷ map free_test (free_by m job)
  unfolding free_by
  plan_tests_lem m a b = go (eqb m 4)
    where
      go : (t : Bool) → call_tests job (planning m job a b (cond t (job ∷ []) []))
          ≡ call_tests job (plan_before m a b) ++ enough_test job ∷ map free_test (cond t (job ∷ []) [])
      go true = unfold call_tests job_tests in refl
      go false = unfold call_tests job_tests in refl

-- and of the C call.
module _ (file : List ℕ) (m lent : ℕ) where
  room : Test
  room = length_test (plan_needed (job_in file)) lent

  host_before : List Test
  host_before = method_test m ∷ (file_tests file ++ room ∷ [])

  host_numbered : Numbered host_before
  unfolding host_before room method_test length_test
  host_numbered =
      numbered_cons (omega arith) (numbered_append (file_numbered file) (numbered_cons (omega arith) numbered_nil))

  host_in : T (numbers_in (1 ∷ from_two) host_before)
  unfolding host_before room method_test length_test
  host_in =
      numbers-append (1 ∷ from_two) (file_tests file) (room ∷ [])
      (numbers_more 1 from_two (file_tests file) (file_in file)) tt

  host_tests_lem : host_tests file m lent ≡ host_before
      ++ enough_test (job_in file) ∷ map free_test (free_by m (job_in file))
  unfolding host_tests host_file_tests hold_tests host_before room
  host_tests_lem =
      ap (λ (ts : List Test). method_test m ∷ ts)
      (sym (append_assoc (file_tests file) (room ∷ [])
      (enough_test (job_in file) ∷ map free_test (free_by m (job_in file)))))

-- Planning by lists: it is ready,
module _ (m : ℕ) (g : ByLists) (s t : List ℕ) where
  abbrev planned_before : Inputs
  planned_before = plan_before (job_by g) m (length s) (length t)

  plan_ready : (refusal (job_by g) planned_before ≡ 0) ↔ PlanReady m g s t
  plan_ready = (
    λ z.
        let a = accepted z in
        record {
          low = a.methods.0.0;
          high = a.methods.0.1;
          job = job_none (job_by g) a.valid;
          separators = a.lists.0;
          scratch = a.lists.1.0;
        },
    λ r. plan_none (job_by g) m (length s) (length t) r.low r.high r.job r.separators r.scratch,
  )

  plan_is : number (Plan m g s t) ≡ first_refusal
      (call_tests (job_by g) planned_before ++ enough_test (job_by g) ∷ map free_test (free_by m (job_by g)))
  unfolding plan_refusal refusal
  plan_is =
      plan_number (edition_by g) (job_by g) m s t
      ∙ ap first_refusal (plan_tests_lem (job_by g) m (length s) (length t))

  plan_seventeen : (number (Plan m g s t) ≡ 17)
      ↔ ((refusal (job_by g) planned_before ≡ 0) × (enough (job_by g) ≡ false))
  unfolding refusal
  plan_seventeen =
      seventeen (job_by g) m (call_tests (job_by g) planned_before) (call_numbered (job_by g) planned_before)
      (plan_in_lem (job_by g) m (length s) (length t)) plan_is

  plan_eighteen : (number (Plan m g s t) ≡ 18)
      ↔ ((refusal (job_by g) planned_before ≡ 0) × (enough (job_by g) ≡ true) × (m ≡ 4) × (held (job_by g) ≡ true))
  unfolding refusal
  plan_eighteen =
      eighteen (job_by g) m (call_tests (job_by g) planned_before) (call_numbered (job_by g) planned_before)
      (plan_in_lem (job_by g) m (length s) (length t)) plan_is

-- An accepted job by lists is valid, and its list of holds long enough.
job_valid : (g : ByLists) → Accepts (TestJob g) → Valid (job_by g)
job_valid g e = (accepted e).valid

job_long : (g : ByLists) → Accepts (TestJob g) → length g.speeds ≤ length g.holds
job_long g e = holds_long (startup_of (edition_by g)) g.speeds g.holds g.weights (job_valid g e)

-- With what is tested before, holds that are not enough are those that fall short and those that no division keeps.
refuses_short : (call : Call) (g : ByLists) (Before : Type 0) → (Before → Proper (job_by g))
    → (number call ≡ 17) ↔ (Before × (enough (job_by g) ≡ false))
    → RefusesShort call g Before
refuses_short call g Before proper (to, from) =
    record {
      short = (λ e. let a = to e in (a.0, (short_exactly c g).0 a.1), λ (b, s). from (b, (short_exactly c g).1 s));
      none = (
        λ e. let a = to e in (a.0, (none_exactly c g (proper a.0)).0 a.1),
        λ (b, d). from (b, (none_exactly c g (proper b)).1 d),
      );
    }
  where
    c : ℕ
    c = startup_of (edition_by g)

-- Enough holds do not fall short.
not_short : (c : ℕ) (g : ByLists) → (enough (job_of c g.speeds g.holds g.weights) ≡ true) ↔ (Short g → ⊥)
not_short c g =
    (λ e s. not_both e ((short_exactly c g).1 s), λ h. is_true (enough (row c g)) (λ f. h ((short_exactly c g).0 f)))
  where
    is_true : (b : Bool) → (b ≡ false → ⊥) → b ≡ true
    is_true true f = refl
    is_true false f = absurd (f refl)

plan_short : (m : ℕ) (g : ByLists) (s t : List ℕ) → RefusesShort (Plan m g s t) g (PlanReady m g s t)
plan_short m g s t =
    refuses_short (Plan m g s t) g (PlanReady m g s t) (λ r. valid_proper (job_valid g r.job)) (
      λ e. let a = (plan_seventeen m g s t).0 e in ((plan_ready m g s t).0 a.0, a.1),
      λ (r, e). (plan_seventeen m g s t).1 ((plan_ready m g s t).1 r, e),
    )

plan_held : (m : ℕ) (g : ByLists) (s t : List ℕ)
    → (number (Plan m g s t) ≡ 18) ↔ (PlanReady m g s t × (Short g → ⊥) × (m ≡ 4) × Held g)
plan_held m g s t = (
  λ e.
      let a = (plan_eighteen m g s t).0 e in
      let r = (plan_ready m g s t).0 a.0 in
      (r, (not_short c g).0 a.1, a.2, (set_exactly c g (job_long g r.job)).0 a.3),
  λ (r, h, f, w).
      (plan_eighteen m g s t).1 (
        (plan_ready m g s t).1 r,
        (not_short c g).1 h,
        f,
        (set_exactly c g (job_long g r.job)).1 w,
      ),
)
  where
    c : ℕ
    c = startup_of (edition_by g)

-- A call by lists that takes a list for its separators.
module _ (g : ByLists) (s : List ℕ) where
  list_ready : (refusal (job_by g) (list_inputs (job_by g) (length s)) ≡ 0) ↔ Ready g s
  list_ready = (
    λ z. let a = accepted z in record { job = job_none (job_by g) a.valid; separators = a.lists.0 },
    λ r. list_none (job_by g) (length s) r.job r.separators,
  )

  trial_short : (B : Bound) → RefusesShort (Probe g B s) g (Ready g s)
  trial_short B =
      refuses_short (Probe g B s) g (Ready g s) (λ r. valid_proper (job_valid g r.job)) (
        λ e. let a = tests.0 e in (list_ready.0 a.0, a.1),
        λ (r, e). tests.1 (list_ready.1 r, e),
      )
    where
      tests : (number (Probe g B s) ≡ 17) ↔ ((refusal (job_by g) (list_inputs (job_by g) (length s)) ≡ 0)
          × (enough (job_by g) ≡ false))
      tests =
          unfold refusal call_tests job_tests startup_test speeds_test weights_test processors_test tasks_test
          holds_test length_test enough_test bound_test in
          exactly_at (call_tests (job_by g) (list_inputs (job_by g) (length s))) (bound_test B ∷ []) 17
          (enough (job_by g)) (10 ∷ 1 ∷ from_two)
          (call_numbered (job_by g) (list_inputs (job_by g) (length s))) tt tt tt (probe-number (job_by g) B s)

  quick_held : (number (Heuristic g s) ≡ 18) ↔ (Ready g s × Held g)
  quick_held = (
    λ e. let a = tests.0 e in let r = list_ready.0 a.0 in (
      r,
      (set_exactly c g (job_long g r.job)).0 (not_false_is (held (job_by g)) a.1),
    ),
    λ (r, w). tests.1 (list_ready.1 r, ap not ((set_exactly c g (job_long g r.job)).1 w)),
  )
    where
      c : ℕ
      c = startup_of (edition_by g)

      tests : (number (Heuristic g s) ≡ 18) ↔ ((refusal (job_by g) (list_inputs (job_by g) (length s)) ≡ 0)
          × (not (held (job_by g)) ≡ false))
      tests =
          unfold refusal call_tests job_tests startup_test speeds_test weights_test processors_test tasks_test
          holds_test length_test free_test in
          exactly_at (call_tests (job_by g) (list_inputs (job_by g) (length s))) [] 18 (not (held (job_by g))) from_two
          (call_numbered (job_by g) (list_inputs (job_by g) (length s))) tt tt tt (heuristic-number (job_by g) s)

  -- Halving tests the row first.
  abbrev halving_before : Inputs
  halving_before = with_row g.speeds (list_inputs (job_by g) (length s))

  row_none : Halvable g.speeds → Ready g s → refusal (job_by g) halving_before ≡ 0
  unfolding refusal call_tests job_tests
  row_none h r =
      let job = job_by g in
      let v = job_valid g r.job in
      let ls = length_test (separators_needed job) (length s) ∷ [] in
      first_refusal-append (job_tests job) (row_test g.speeds ∷ holds_test job ∷ ls) (job_numbered job)
      (job_accepted.1 v)
      ∙ pass_skip (row_test g.speeds) (holds_test job ∷ ls) ((row_test_lem g.speeds).1 h)
      ∙ pass_skip (holds_test job) ls (valid_holds v)
      ∙ pass_skip (length_test (separators_needed job) (length s)) []
      (length_passes (separators_needed job) (length s) r.separators) ∙ unfold first_refusal in refl

  halving-held : (number (Halving g s) ≡ 18) ↔ (Halvable g.speeds × Ready g s × Held g)
  halving-held = (
    λ e.
        let a = tests.0 e in
        let b = accepted a.0 in
        let r : Ready g s = record { job = job_none (job_by g) b.valid; separators = b.lists.0 } in
        (b.rows.0, r, (set_exactly c g (job_long g r.job)).0 (not_false_is (held (job_by g)) a.1)),
    λ (h, r, w). tests.1 (row_none h r, ap not ((set_exactly c g (job_long g r.job)).1 w)),
  )
    where
      c : ℕ
      c = startup_of (edition_by g)

      tests : (number (Halving g s) ≡ 18) ↔ ((refusal (job_by g) halving_before ≡ 0) × (not (held (job_by g)) ≡ false))
      tests =
          unfold refusal call_tests job_tests startup_test speeds_test weights_test processors_test tasks_test
          row_test holds_test length_test free_test in
          exactly_at (call_tests (job_by g) halving_before) [] 18 (not (held (job_by g))) (14 ∷ from_two)
          (call_numbered (job_by g) halving_before) tt tt tt
          (halving-number (job_by g) s)

  -- Separators that break a hold, where all else passes.
  breaks : (Keeping g (front (job_by g) s) → ⊥) → is_partition (job_by g) (front (job_by g) s) ≡ false
  breaks h =
      is_false (is_partition (job_by g) (front (job_by g) s))
      (λ t. h (keeping (startup_of (edition_by g)) g (front (job_by g) s)
      ((partition_test_lem (job_by g) (front (job_by g) s)).0 t).kept))

  measured : Ready g s → (Keeping g (front (job_by g) s) → ⊥) → number (Measure g s) ≡ 11
  unfolding refusal call_tests job_tests partition_test
  measured r h =
      measure_number (job_by g) s
      ∙ refused_first (call_tests (job_by g) (list_inputs (job_by g) (length s))) (partition_test (job_by g) s) []
      (call_numbered (job_by g) (list_inputs (job_by g) (length s))) (list_ready.1 r) (breaks h)

  written : (plan : List ℕ) → Ready g s → plan_needed (job_by g) ≤ length plan → (Keeping g (front (job_by g) s) → ⊥)
      → number (WritePlan g s plan) ≡ 11
  unfolding refusal call_tests job_tests partition_test length_test
  written plan r l h =
      let job = job_by g in
      let lists = call_tests job (list_inputs job (length s)) in
      write_plan_number job s (length plan)
      ∙ first_refusal-append lists (length_test (plan_needed job) (length plan) ∷ partition_test job s ∷ [])
      (call_numbered job (list_inputs job (length s))) (list_ready.1 r)
      ∙ refused_first (length_test (plan_needed job) (length plan) ∷ []) (partition_test job s) []
      (numbered_cons (omega arith) numbered_nil)
      (pass_skip (length_test (plan_needed job) (length plan)) [] (length_passes (plan_needed job) (length plan) l)
      ∙ unfold first_refusal in refl) (breaks h)

-- The C call.
module _ (file : List ℕ) (m : ℕ) (plan : List ℕ) where
  abbrev lists : ByLists
  lists = lists_in file

  host_ready : (first_refusal (host_before file m (length plan)) ≡ 0) ↔ HostReady file m plan
  unfolding host_before room file_refusal
  host_ready = (
    λ z.
        let a = append_accepted (method_test m ∷ []) (file_tests file ++ room file m (length plan) ∷ []) one z in
        let b = append_accepted (file_tests file) (room file m (length plan) ∷ []) (file_numbered file) a.1 in
        let k = method_range a.0 in
        record { low = k.0; high = k.1; read = b.0; room = long_enough (plan_needed (job_in file)) (length plan) b.1 },
    λ r.
        pass_skip (method_test m) (file_tests file ++ room file m (length plan) ∷ []) (method_passes m r.low r.high)
        ∙ first_refusal-append (file_tests file) (room file m (length plan) ∷ []) (file_numbered file) r.read
        ∙ pass_skip (room file m (length plan)) [] (length_passes (plan_needed (job_in file)) (length plan) r.room)
        ∙ unfold first_refusal in refl,
  )
    where
      one : Numbered (method_test m ∷ [])
      one = unfold method_test in numbered_cons (omega arith) numbered_nil

      method_range : first_refusal (method_test m ∷ []) ≡ 0 → (1 ≤ m) × (m ≤ 4)
      method_range z =
          let t : T (leb 1 m && leb m 4) = unfold method_test in pass_head (method_test m) [] (omega arith) z in
          (leb→le 1 m (and_left (leb 1 m) (leb m 4) t), leb→le m 4 (and_right (leb 1 m) (leb m 4) t))

      long_enough : (needed given : ℕ) → first_refusal (length_test needed given ∷ []) ≡ 0 → needed ≤ given
      long_enough needed given z =
          unfold length_test in leb→le needed given (pass_head (length_test needed given) [] (omega arith) z)

  host_is : number (PlanJob file m plan) ≡ first_refusal
      (host_before file m (length plan) ++ enough_test (job_in file) ∷ map free_test (free_by m (job_in file)))
  unfolding host_answer
  host_is = ap first_refusal (host_tests_lem file m (length plan))

  host_seventeen : (number (PlanJob file m plan) ≡ 17)
      ↔ ((first_refusal (host_before file m (length plan)) ≡ 0) × (enough (job_in file) ≡ false))
  host_seventeen =
      seventeen (job_in file) m (host_before file m (length plan)) (host_numbered file m (length plan))
      (host_in file m (length plan)) host_is

  host_eighteen : (number (PlanJob file m plan) ≡ 18)
      ↔ ((first_refusal (host_before file m (length plan)) ≡ 0) × (enough (job_in file) ≡ true) × (m ≡ 4)
      × (held (job_in file) ≡ true))
  host_eighteen =
      eighteen (job_in file) m (host_before file m (length plan)) (host_numbered file m (length plan))
      (host_in file m (length plan)) host_is

  file_proper : HostReady file m plan → Proper (job_by lists)
  file_proper r = subst Proper (sym (lists_job file)) (valid_proper (accepted_valid file r.read))

  host_short : RefusesShort (PlanJob file m plan) lists (HostReady file m plan)
  host_short =
      refuses_short (PlanJob file m plan) lists (HostReady file m plan) file_proper (
        λ e. let a = host_seventeen.0 e in (host_ready.0 a.0, ap enough (lists_job file) ∙ a.1),
        λ (r, e). host_seventeen.1 (host_ready.1 r, sym (ap enough (lists_job file)) ∙ e),
      )

  host_held : (number (PlanJob file m plan) ≡ 18) ↔ (HostReady file m plan × (Short lists → ⊥) × (m ≡ 4) × Held lists)
  host_held = (
    λ e. let a = host_eighteen.0 e in (
      host_ready.0 a.0,
      (not_short (startup_in file) lists).0 a.1,
      a.2,
      (set_exactly (startup_in file) lists long).0 a.3,
    ),
    λ (r, h, f, w). host_eighteen.1 (
      host_ready.1 r,
      (not_short (startup_in file) lists).1 h,
      f,
      (set_exactly (startup_in file) lists long).1 w,
    ),
  )
    where
      long : length (speeds_of file) ≤ length (holds_of file)
      long = omega (arith, holds-length file)

-- The listing says 17 of an accepted file whose holds fall short, and of no other: a file that is longer than what is
-- taken in is refused before.
list_short : (file : List ℕ) → (listing file ≡ refusal_line 17) ↔ ((file_refusal file ≡ 0) × Short (lists_in file))
unfolding file_refusal
list_short file = (
  λ e.
      let a = (tests (take intake file)).0 ((listing_refused file {n = 17} (omega arith)).0 e) in
      subst (λ (f : List ℕ). (file_refusal f ≡ 0) × Short (lists_in f)) (whole a.0)
      (a.0, (short_exactly (startup_in (take intake file)) (lists_in (take intake file))).0 a.1),
  λ (e, s).
      (listing_refused file {n = 17} (omega arith)).1
      (ap listed_refusal (take_all intake file (omega (arith, below file e)))
      ∙ (tests file).1 (e, (short_exactly (startup_in file) (lists_in file)).1 s)),
)
  where
    tests : (f : List ℕ) → (listed_refusal f ≡ 17) ↔ ((first_refusal (file_tests f) ≡ 0) × (enough (job_in f) ≡ false))
    tests f =
        unfold listed_refusal listed_tests enough_test in
        exactly_at (file_tests f) [] 17 (enough (job_in f)) from_two (file_numbered f) (file_in f) tt tt refl

    below : (f : List ℕ) → file_refusal f ≡ 0 → length f < intake
    below f e =
        let v = accepted_valid f e in
        unfold intake in omega (arith, file_length f e, one_head (edition_in f), v.tasks_limit, v.processors_limit)

    whole : file_refusal (take intake file) ≡ 0 → take intake file ≡ file
    whole e =
        let l = below (take intake file) e in
        elim (dec_le (length file) intake) [
          | yes h ↦ take_all intake file h
          | no h ↦ absurd (omega (arith, l, length-take-le intake file (omega arith)))
        ]

-- A division is P + 1 separators that keep the holds.
division : (g : ByLists) (s : List ℕ) → Partition (job_by g) s ↔ (Dividing g s × Keeping g s)
division g s = (
  λ w. (record { count = w.count; first = w.first; grows = w.grows; end = w.end }, keeping c g s w.kept),
  λ (d, k). record { count = d.count; first = d.first; grows = d.grows; end = d.end; kept = each k },
)
  where
    c : ℕ
    c = startup_of (edition_by g)

    each : Keeping g s → (p : ℕ) → p < length g.speeds → T (keeps (job_by g) p (at s p) (at s (suc p)))
    each k p h =
        elim (ℕ_discrete (get_or g.holds p 0) 0) [
          | yes e ↦ keeps_unlimited (job_by g) p (at s p) (at s (suc p)) (sym (at_hold c g p h) ∙ e)
          | no n ↦ keeps-limited (job_by g) p (at s p) (at s (suc p)) (omega (arith, at_hold c g p h, k p h n))
        ]

least : (m : ℕ) (g : ByLists) (s t : List ℕ) → Accepts (Plan m g s t) → (u : List ℕ) → Dividing g u → Keeping g u
    → bottleneck (job_by g) (front (job_by g) (plan_writes (job_by g) m s t)) ≼ bottleneck (job_by g) u
least m g s t e u d k = (demand_three.planned m g s t e).best.least u ((division g u).1 (d, k))

-- What is left keeps the holds: of an accepted plan, of the C call, of a trial and of a plan file that is graded.
planned : (m : ℕ) (g : ByLists) (s t : List ℕ) → Accepts (Plan m g s t)
    → Keeping g (front (job_by g) (plan_writes (job_by g) m s t))
planned m g s t e =
    keeping (startup_of (edition_by g)) g (front (job_by g) (plan_writes (job_by g) m s t))
    (demand_three.planned m g s t e).best.partition.kept

host : (file plan : List ℕ) (m : ℕ) → Accepts (PlanJob file m plan)
    → (s : List ℕ) × HostLeft file plan m s × Keeping (lists_in file) s
host file plan m e =
    let h = demand_three.host file plan m e in
    (h.0, h.1, keeping (startup_in file) (lists_in file) h.0 h.1.best.partition.kept)

tried : (g : ByLists) (B : Bound) (s : List ℕ) → Accepts (Probe g B s)
    → Keeping g (front (job_by g) (probe_writes (job_by g) B s))
tried g B s e =
    let left = front (job_by g) (probe_writes (job_by g) B s) in
    keeping (startup_of (edition_by g)) g left
    (λ p h. within-keeps (job_by g) p (at left p) (at left (suc p)) B
    (((trials.trial g B s e).begins (processors (job_by g)) (omega arith)).each p h))

graded : (g : ByLists) (plan : List ℕ) → Bytes plan → Accepts (Grade g plan)
    → (told : TruePlan (job_by g) plan) × Keeping g told.separators
graded g plan b e =
    let told = (grades.graded g plan b e).told in
    (told, keeping (startup_of (edition_by g)) g told.separators told.division.kept)

-- A list of holds that is too short.
few : (g : ByLists) → (number (TestJob g) ≡ 9)
    ↔ ((first_refusal (job_tests (job_by g)) ≡ 0) × (length g.holds < length g.speeds))
few g = (λ e. let a = tests.0 e in (a.0, short a.1), λ (z, h). tests.1 (z, is_short h))
  where
    n : ℕ
    n = length g.speeds

    cut : ℕ
    cut = length (take n g.holds)

    tests : (number (TestJob g) ≡ 9) ↔ ((first_refusal (job_tests (job_by g)) ≡ 0) × (leb n cut ≡ false))
    tests =
        unfold refusal call_tests job_tests startup_test speeds_test weights_test processors_test tasks_test
        holds_test length_test in
        exactly_at (job_tests (job_by g)) [] 9 (leb n cut) (16 ∷ 5 ∷ 6 ∷ 7 ∷ 8 ∷ [])
        (job_numbered (job_by g)) tt tt tt refl

    short : leb n cut ≡ false → length g.holds < n
    short e =
        elim (dec_le n (length g.holds)) [
          | yes h ↦ absurd (not_both (T_true (leb n cut) (le→leb n cut (long_cut n g.holds h))) e)
          | no h ↦ omega arith
        ]

    is_short : length g.holds < n → leb n cut ≡ false
    is_short h =
        is_false (leb n cut) (λ t. let l : n ≤ length g.holds = cut_long n g.holds (leb→le n cut t) in omega arith)

-- Entries behind the first P make no other job.
module _ (g : ByLists) (hs ks : List ℕ) (same : take (length g.speeds) hs ≡ take (length g.speeds) ks) where
  same_job : job_by (holding hs g) ≡ job_by (holding ks g)
  same_job =
      ap (λ (l : List ℕ). record {
        startup = startup_of (edition_by g);
        weights = g.weights;
        speeds = g.speeds;
        holds = l;
      }) same

  same_left : (L : Job → Type 0) → L (job_by (holding hs g)) ↔ L (job_by (holding ks g))
  same_left L = (subst L same_job, subst L (sym same_job))

behind : (hs ks : List ℕ) (call : Call) → take (processors_in call) hs ≡ take (processors_in call) ks
    → Same (call_holding hs call) (call_holding ks call)
behind hs ks (TestJob g) e =
    record {
      says = ap (λ (job : Job). alone (refusal job nothing)) (same_job g hs ks e);
      leaves = λ left. (λ x. x, λ x. x);
    }
behind hs ks (ReadJob file es l ws) e = record { says = refl; leaves = λ left. (λ x. x, λ x. x) }
behind hs ks (WriteJob g file) e =
    record {
      says = ap (λ (job : Job). written_said (write_answer (edition_by g) job (length file))) (same_job g hs ks e);
      leaves = λ left. same_left g hs ks e (λ (job : Job). left ≡ write_bytes (edition_by g) job file ∷ []);
    }
behind hs ks (Measure g s) e =
    record {
      says = ap (λ (job : Job). measured_said (measure_answer job s)) (same_job g hs ks e);
      leaves = λ left. (λ x. x, λ x. x);
    }
behind hs ks (Probe g B s) e =
    record {
      says = ap (λ (job : Job). probed_said (probe_answer job B s)) (same_job g hs ks e);
      leaves = λ left. same_left g hs ks e (λ (job : Job). left ≡ probe_writes job B s ∷ []);
    }
behind hs ks (Heuristic g s) e =
    record {
      says = ap (λ (job : Job). measured_said (heuristic_answer job s)) (same_job g hs ks e);
      leaves = λ left. same_left g hs ks e (λ (job : Job). left ≡ heuristic_writes job s ∷ []);
    }
behind hs ks (Halving g s) e =
    record {
      says = ap (λ (job : Job). measured_said (halving_answer job s)) (same_job g hs ks e);
      leaves = λ left. same_left g hs ks e (λ (job : Job). left ≡ halving_writes job s ∷ []);
    }
behind hs ks (Plan m g s t) e =
    record {
      says = ap (λ (job : Job). planned_said (plan_answer (edition_by g) job m s t)) (same_job g hs ks e);
      leaves = λ left.
          same_left g hs ks e
          (λ (job : Job). (t' : List ℕ) × ScratchAfter (plan_refusal job m (length s) (length t)) job t t'
          × (left ≡ plan_writes job m s t ∷ t' ∷ []));
    }
behind hs ks (WritePlan g s plan) e =
    record {
      says = ap (λ (job : Job). written_said (write_plan_answer job s (length plan))) (same_job g hs ks e);
      leaves = λ left. same_left g hs ks e (λ (job : Job). left ≡ write_plan_bytes job s plan ∷ []);
    }
behind hs ks (Grade g plan) e =
    record {
      says = ap (λ (job : Job). graded_said (grade_answer job plan)) (same_job g hs ks e);
      leaves = λ left. (λ x. x, λ x. x);
    }
behind hs ks (ListJob file out) e = record { says = refl; leaves = λ left. (λ x. x, λ x. x) }
behind hs ks (PlanJob file m plan) e = record { says = refl; leaves = λ left. (λ x. x, λ x. x) }
behind hs ks (GradePlan file plan grade) e = record { says = refl; leaves = λ left. (λ x. x, λ x. x) }

-- Lists of nought: a list that begins so, and what is read from one.
abbrev zeros : ℕ → List ℕ
zeros n = replicate n 0

take_noughts : (n : ℕ) (hs : List ℕ) → n ≤ length hs → ((p : ℕ) → p < n → get_or hs p 0 ≡ 0) → take n hs ≡ zeros n
take_noughts zero hs l h = refl
take_noughts (suc n) [] l h = absurd (let z : ⊥ = omega arith in z)
take_noughts (suc n) (x ∷ hs) l h =
    ap₂ (λ (y : ℕ) (ys : List ℕ). y ∷ ys) (h 0 (omega arith))
    (take_noughts n hs (omega arith) (λ p k. h (suc p) (omega arith)))

at_noughts : (n p : ℕ) → get_or (zeros n) p 0 ≡ 0
at_noughts zero p = refl
at_noughts (suc n) zero = refl
at_noughts (suc n) (suc p) = at_noughts n p

each_noughts : (n : ℕ) → each_of (λ h. eqb h 0) (zeros n) ≡ true
unfolding each_of
each_noughts zero = refl
each_noughts (suc n) = each_noughts n

cut_noughts : (n : ℕ) → take n (zeros n) ≡ zeros n
cut_noughts zero = refl
cut_noughts (suc n) = ap (λ (l : List ℕ). 0 ∷ l) (cut_noughts n)

-- Lists of tests that give the same number, whatever follows.
record Alike (ts us : List Test) : Type 0 where
  same : (vs : List Test) → first_refusal (ts ++ vs) ≡ first_refusal (us ++ vs)

alike_then : {ts us : List Test} → Alike ts us → (ws : List Test) → Alike (ts ++ ws) (us ++ ws)
alike_then {ts} {us} h ws =
    record {
      same = λ vs. ap first_refusal (append_assoc ts ws vs) ∙ h.same (ws ++ vs)
          ∙ sym (ap first_refusal (append_assoc us ws vs));
    }

alike_trans : {ts us ws : List Test} → Alike ts us → Alike us ws → Alike ts ws
alike_trans h k = record { same = λ vs. h.same vs ∙ k.same vs }

alike_sym : {ts us : List Test} → Alike ts us → Alike us ts
alike_sym h = record { same = λ vs. sym (h.same vs) }

alike_end : {ts us : List Test} → Alike ts us → first_refusal ts ≡ first_refusal us
alike_end {ts} {us} h = sym (ap first_refusal (append-nil ts)) ∙ h.same [] ∙ ap first_refusal (append-nil us)

-- A test that passes makes no difference, nor does one of a job that is this one, nor any behind one that fails.
alike_passed : (ts : List Test) (t : Test) (us : List Test) → T t.passes → Alike (ts ++ t ∷ us) (ts ++ us)
alike_passed ts t us p =
    record {
      same = λ vs.
          ap first_refusal (append_assoc ts (t ∷ us) vs)
          ∙ first_refusal_same ts (t ∷ us ++ vs) (us ++ vs) (pass_skip t (us ++ vs) p)
          ∙ sym (ap first_refusal (append_assoc ts us vs));
    }

skip_jobs : (f : Job → Test) {job : Job} (js : List Job) (vs : List Test) → ((j : Job) → Memᴰ j js → j ≡ job)
    → T (f job).passes
    → first_refusal (map f js ++ vs) ≡ first_refusal vs
skip_jobs f [] vs h p = refl
skip_jobs f (j ∷ js) vs h p =
    pass_skip (f j) (map f js ++ vs) (subst (λ (k : Job). T (f k).passes) (sym (h j (Memᴰ.head refl))) p)
    ∙ skip_jobs f js vs (λ k m. h k (Memᴰ.tail m)) p

alike_jobs : (ts : List Test) (f : Job → Test) {job : Job} (js : List Job) → ((j : Job) → Memᴰ j js → j ≡ job)
    → T (f job).passes
    → Alike (ts ++ map f js) ts
alike_jobs ts f js h p =
    record {
      same = λ vs. ap first_refusal (append_assoc ts (map f js) vs)
          ∙ first_refusal_same ts (map f js ++ vs) vs (skip_jobs f js vs h p);
    }

alike_failed : (ts us : List Test) → first_refusal ts ≢ 0 → Alike (ts ++ us) ts
alike_failed ts us h =
    record {
      same = λ vs. ap first_refusal (append_assoc ts us vs) ∙ first_refusal_before ts (us ++ vs) h
          ∙ sym (first_refusal_before ts vs h);
    }

-- Records without holds.
same_records : (kind : ℕ) (f g : ℕ → ℕ) (vs : List ℕ) → ((i : ℕ) → f i ≡ g i)
    → records_bytes kind f vs ≡ records_bytes kind g vs
unfolding records_bytes
same_records kind f g [] h = refl
same_records kind f g (v ∷ vs) h =
    ap₂ (λ (a : ℕ) (l : List ℕ). record_bytes kind a v ++ l) (h 0)
    (same_records kind (λ i. f (suc i)) (λ i. g (suc i)) vs (λ i. h (suc i)))

-- All lists of separators, where each keeps the holds.
those-all : (f : List ℕ → Bool) → ((s : List ℕ) → f s ≡ true) → (ss : List (List ℕ)) → those f ss ≡ ss
unfolding those
those-all f h [] = refl
those-all f h (s ∷ ss) = ap₂ (λ (b : Bool) (l : List (List ℕ)). cond b (s ∷ l) l) (h s) (those-all f h ss)

module _ (g : ByLists) (none : Unheld g) where
  abbrev free_row : Job
  free_row = job_by g

  noughts : take (length g.speeds) g.holds ≡ zeros (length g.speeds)
  noughts = take_noughts (length g.speeds) g.holds none.given none.none

  one : job_by g ≡ free_job (startup_of (edition_by g)) g.speeds g.weights
  one =
      ap (λ (l : List ℕ). record {
        startup = startup_of (edition_by g);
        weights = g.weights;
        speeds = g.speeds;
        holds = l;
      })
      (noughts ∙ sym (cut_noughts (length g.speeds)))

  free : Free free_row
  unfolding hold_of
  free = record { none = λ p. ap (λ (l : List ℕ). get_or l p 0) noughts ∙ at_noughts (length g.speeds) p }

  no_hold_lem : held free_row ≡ false
  unfolding held
  no_hold_lem = ap (λ (l : List ℕ). not (each_of (λ h. eqb h 0) l)) noughts ∙ ap not (each_noughts (length g.speeds))

  kept : (p a b : ℕ) → keeps free_row p a b ≡ true
  kept p a b = T_true (keeps free_row p a b) (free_keeps free p a b)

  all_kept_lem : (s : List ℕ) → all_kept free_row s ≡ true
  unfolding all_kept
  all_kept_lem s =
      T_true _ (all_of (λ p. keeps free_row p (at s p) (at s (suc p))) (processors free_row)
      (λ p h. free_keeps free p (at s p) (at s (suc p))))

  is_enough : 1 ≤ processors free_row → enough free_row ≡ true
  is_enough h = sym (one_free (startup_of (edition_by g)) g.speeds g.holds g.weights 0 h (none.none 0 h))

  holds_pass : T (holds_test free_row).passes
  unfolding holds_test length_test
  holds_pass =
      le→leb (length g.speeds) (length (take (length g.speeds) g.holds))
      (long_cut (length g.speeds) g.holds none.given)

  -- The numbers are those of before: where there is a processor the new tests pass, else the job is refused before
  -- them.
  numbers : (inputs : Inputs) → ((j : Job) → Memᴰ j inputs.keeping → j ≡ free_row)
      → ((j : Job) → Memᴰ j inputs.free → j ≡ free_row)
      → refusal free_row inputs ≡ first_refusal (tests_before free_row inputs)
  unfolding refusal call_tests tests_before
  numbers inputs x y =
      alike_end (alike_then (alike_then (alike_then (alike_then (alike_then front_alike bs) ns) ds) js) ts)
    where
      ms : List Test
      ms = map method_test inputs.methods

      hd : List Test
      hd = ms ++ job_tests free_row

      rs : List Test
      rs = hd ++ map row_test inputs.rows

      ls : List Test
      ls = map (λ l. length_test l.needed l.given) inputs.lists

      ks : List Test
      ks = map enough_test inputs.keeping

      fs : List Test
      fs = map free_test inputs.free

      bs : List Test
      bs = map bound_test inputs.bounds

      ns : List Test
      ns = map plan_length_test inputs.plans

      ds : List Test
      ds = map (partition_test free_row) inputs.divisions

      js : List Test
      js = map (joined_test free_row) inputs.plans

      ts : List Test
      ts = map (true_test free_row) inputs.plans

      passing : 1 ≤ processors free_row → Alike (((rs ++ (holds_test free_row ∷ ls)) ++ ks) ++ fs) (rs ++ ls)
      passing h =
          alike_trans (alike_jobs ((rs ++ (holds_test free_row ∷ ls)) ++ ks) free_test inputs.free y
          (unfold free_test in T_of (ap not no_hold_lem)))
          (alike_trans (alike_jobs (rs ++ (holds_test free_row ∷ ls)) enough_test inputs.keeping x
          (unfold enough_test in T_of (is_enough h)))
          (alike_passed rs (holds_test free_row) ls holds_pass))

      failing : first_refusal hd ≢ 0 → Alike (((rs ++ (holds_test free_row ∷ ls)) ++ ks) ++ fs) (rs ++ ls)
      failing h =
          let row = alike_failed hd (map row_test inputs.rows) h in
          alike_trans (alike_then (alike_then (alike_then row (holds_test free_row ∷ ls)) ks) fs)
          (alike_trans (alike_then (alike_then (alike_failed hd (holds_test free_row ∷ ls) h) ks) fs)
          (alike_trans (alike_then (alike_failed hd ks h) fs)
          (alike_trans (alike_failed hd fs h) (alike_sym (alike_trans (alike_then row ls) (alike_failed hd ls h))))))

      refused : (processors free_row ≡ 0) → first_refusal hd ≢ 0
      refused z e =
          let a =
          append_accepted ms (job_tests free_row)
          (unfold method_test in numbered_map method_test (λ m. omega arith) inputs.methods) e in
          omega (arith, some_processor free_row a.1)

      front_alike : Alike (((rs ++ (holds_test free_row ∷ ls)) ++ ks) ++ fs) (rs ++ ls)
      front_alike =
          elim (dec_le 1 (processors free_row)) [ yes h ↦ passing h | no h ↦ failing (refused (omega arith)) ]

  unlimited : Unlimited free_row
  unfolding within first_ends difference is_partition partitions job_bytes
  unlimited =
      record {
        shares =
            λ p a b B. ap (λ (k : Bool). le (part_bound free_row p a b) B && k) (kept p a b)
            ∙ and_true (le (part_bound free_row p a b) B);
        offers = λ p a b. offer_part free_row p a b (free_keeps free p a b);
        begins = λ p i. start_unlimited free_row p i (free.none p);
        divisions = λ s.
            ap (λ (k : Bool). eqb (length s) (suc (processors free_row)) && eqb (at s 0) 0
            && all (λ p. leb (at s p) (at s (suc p))) (processors free_row)
            && eqb (at s (processors free_row)) (tasks free_row) && k) (all_kept_lem s)
            ∙ and_true _;
        every =
            those-all (all_kept free_row) all_kept_lem (map (λ s. 0 ∷ s) (onward (tasks free_row) (last free_row) 0));
        high = ap (λ (b : Bool). pick b (widest free_row) (bottleneck free_row (heuristic free_row))) no_hold_lem;
        width =
            ap
            (λ (b : Bool). (cond b (total_weight free_row) (heaviest free_row) + free_row.startup)
            * (fastest free_row * fastest free_row) / slowest free_row) no_hold_lem;
        enough-holds = is_enough;
        free = no_hold_lem;
        numbers = numbers;
        bytes = λ edition.
            ap (λ (l : List ℕ). edition_bytes edition ++ (l ++ records_bytes task_kind no_hold g.weights))
            (same_records processor_kind (hold_of free_row) no_hold g.speeds free.none);
      }

-- A file whose bytes 2 and 3 are zero.
blank_file : (file : List ℕ) → BlankHolds file → BlankFile file
unfolding blank
blank_file file z =
    record {
      unheld =
          record {
            given = omega (arith, holds-length file);
            none = λ p h.
                sym (get_or-take n (holds_of file) p 0 h) ∙ ap (λ (job : Job). get_or job.holds p 0) read
                ∙ ap (λ (l : List ℕ). get_or l p 0) (cut_noughts n)
                ∙ at_noughts n p;
          };
      job = read;
      form =
          λ i. form i (is_kind processor_kind file i) (eqb (byte_at file i 1) 0)
          (eq-eqb (byte_at file i 2) 0 (z.second i)) (eq-eqb (byte_at file i 3) 0 (z.third i));
    }
  where
    n : ℕ
    n = length (speeds_of file)

    read : job_in file ≡ free_job (startup_in file) (speeds_of file) (weights_of file)
    read = free_read file (record { second = z.second; third = z.third })

    form : (i : ℕ) (k b : Bool) {c d : Bool} → c ≡ true → d ≡ true → (b && (k || (c && d))) ≡ (b && c && d)
    form i true true e f = sym (ap₂ (λ (c d : Bool). c && d) e f)
    form i false true e f = refl
    form i k false e f = refl

-- Jobs that differ by their holds.
module _ (c : ℕ) (es hs ks ws : List ℕ) where
  abbrev job : Job
  job = job_of c es hs ws

  abbrev other : Job
  other = job_of c es ks ws

  same_bounds : (s : List ℕ) (p : ℕ) → bound_at job s p ≡ bound_at other s p
  unfolding bound_at part_bound part_load part_of speed_of
  same_bounds s p = refl

  same_bottleneck : (s : List ℕ) (p : ℕ) → bottleneck_to job s p ≡ bottleneck_to other s p
  unfolding bottleneck_to
  same_bottleneck s zero = same_bounds s 0
  same_bottleneck s (suc p) = ap₂ greater (same_bottleneck s p) (same_bounds s (suc p))

  same_record : (s : List ℕ) (p : ℕ) → plan_record job s p ≡ plan_record other s p
  unfolding plan_record part_load part_of speed_of
  same_record s p = refl

  same_file : (s : List ℕ) (p : ℕ) → plan_bytes_to job s p ≡ plan_bytes_to other s p
  unfolding plan_bytes_to
  same_file s zero = refl
  same_file s (suc p) = ap₂ (λ (k l : List ℕ). k ++ l) (same_file s p) (same_record s p)

  regardless_of : Regardless job other
  unfolding ideal part_load part_of bottleneck plan_bytes
  regardless_of =
      record {
        ideals = refl;
        loads = λ a b. refl;
        bottlenecks = λ s. same_bottleneck s (length es - 1);
        files = λ s. same_file s (length es);
      }

regardless : (hs : List ℕ) (g : ByLists) → Regardless (job_by g) (job_by (holding hs g))
regardless hs g = regardless_of (startup_of (edition_by g)) g.speeds g.holds hs g.weights

-- A hold of N or more.
ample : (g : ByLists) (p a b : ℕ) → p < length g.speeds → length g.weights ≤ get_or g.holds p 0 → b ≤ length g.weights
    → T (keeps (job_by g) p a b)
ample g p a b h l k = keeps-limited (job_by g) p a b (omega (arith, at_hold (startup_of (edition_by g)) g p h))

pub holdings : Holdings
holdings =
    record {
      few = few;
      behind = behind;
      plan_short = plan_short;
      trial_short = λ g B s. trial_short g s B;
      host_short = host_short;
      list_short = list_short;
      plan_held = plan_held;
      host_held = host_held;
      quick_held = quick_held;
      halving-held = halving-held;
      division = division;
      planned = planned;
      host = host;
      tried = tried;
      measured = measured;
      written = written;
      graded = graded;
      least = least;
      unlimited = unlimited;
      one = one;
      blank_file = blank_file;
      regardless = regardless;
      ample = ample;
    }
