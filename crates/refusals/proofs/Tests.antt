-- The tests of one kind, one by one, and those of each call, as the code makes them.
-- Assumes nothing.
use Prim.Native.Nat.{ℕ, ◌+◌, ◌*◌, ◌≤◌, ◌<◌}
use mathlib.Core.Path.{◌≡◌, refl, sym, ap, ◌∙◌}
use mathlib.Core.Bool.{Bool, true, false, ◌&&◌, not, cond}
use mathlib.Core.List.{List, [], ◌∷◌, ◌++◌, map}
use mathlib.Core.Logic.{◌≢◌}
use native.Mathlib.Omega.{arith}
use native.Mathlib.Numerals.{add-one}
use lib.Dec.{leb, eqb}
use lib.ListN.{length, get_or, take}
use borrow.Author.Tests.{le-leb, lt-leb, eq-eqb, ne_eqb, not-true, not-false}
use Rattle.bound.specs.declared.Bound.{Bound}
use Rattle.chain.specs.Limits.{max_startup, max_bound_load, max_bound_speed}
use Rattle.chain.specs.Lists.{power_of_two}
use Rattle.chain.specs.Job.{Edition, Job, job_of, tasks, processors}
use Rattle.chain.specs.Refusal.{Test, between, each_between, method_test, all_equal, startup_test, row_test, length_test, holds_test, enough_test, free_test, bound_test, is_partition, partition_test, first_refusal, job_tests, nothing, separators_needed, measure_inputs, halving_inputs, call_tests, refusal}
use Rattle.chain.proofs.Refusals.{numbered_nil, numbered_cons, first_decide, others_decide, job_numbered, call_numbered}
use Rattle.refusals.specs.Inputs.{record_size, scratch_lists, scratch_needed, plan_needed, head_records, bytes_needed, list_inputs, probe_inputs, heuristic_inputs, plan_lists, free_by, method_inputs, plan_inputs, write_inputs, write_plan_inputs}
use Rattle.refusals.proofs.Each.{between_low, between_high, between_in}
use Rattle.refusals.proofs.Steps.{fails, passes, passed-all}

-- The method.
pub method_low : (m : ℕ) → m < 1 → 1 ≡ first_refusal (method_test m ∷ [])
unfolding method_test
method_low m h = sym (fails 1 [] (between_low 1 4 m h))

pub method_high : (m : ℕ) → 4 < m → 1 ≡ first_refusal (method_test m ∷ [])
unfolding method_test
method_high m h = sym (fails 1 [] (between_high 1 4 m h))

pub method_in : (m : ℕ) → 1 ≤ m → m ≤ 4 → 0 ≡ first_refusal (method_test m ∷ [])
unfolding method_test
method_in m h k = sym (passes 1 [] (between_in 1 4 m h k) ∙ passed-all)

-- A length.
pub length_short : (needed given : ℕ) → given < needed → 9 ≡ first_refusal (length_test needed given ∷ [])
unfolding length_test
length_short needed given h = sym (fails 9 [] (lt-leb needed given h))

pub length-enough : (needed given : ℕ) → needed ≤ given → 0 ≡ first_refusal (length_test needed given ∷ [])
unfolding length_test
length-enough needed given h = sym (passes 9 [] (le-leb needed given h) ∙ passed-all)

-- A bound, m and n being the limits.
module _ (B : Bound) where
  speed_in : Bool
  speed_in = between 1 max_bound_speed B.speed

  load_in_lem : Bool
  load_in_lem = leb B.load max_bound_load

  judged : {x y : Bool} → load_in_lem ≡ x → speed_in ≡ y → (bound_test B).passes ≡ (x && y)
  unfolding bound_test load_in_lem speed_in
  judged e f = cc

  pub load_far : {m : ℕ} → max_bound_load ≡ m → m < B.load → 10 ≡ first_refusal (bound_test B ∷ [])
  unfolding bound_test load_in_lem
  load_far e h = sym (fails 10 [] (judged (lt-leb B.load max_bound_load (omega arith)) refl))

  module _ {m : ℕ} (limit : max_bound_load ≡ m) (near : B.load ≤ m) where
    load_in : load_in_lem ≡ true
    unfolding load_in_lem
    load_in = le-leb B.load max_bound_load (omega arith)

    pub speed_none : B.speed ≡ 0 → 10 ≡ first_refusal (bound_test B ∷ [])
    unfolding bound_test speed_in
    speed_none h = sym (fails 10 [] (judged load_in (between_low 1 max_bound_speed B.speed (omega arith))))

    module _ {n : ℕ} (limit' : max_bound_speed ≡ n) where
      pub speed_far : n < B.speed → 10 ≡ first_refusal (bound_test B ∷ [])
      unfolding bound_test speed_in
      speed_far h = sym (fails 10 [] (judged load_in (between_high 1 max_bound_speed B.speed (omega arith))))

      pub bound_in : B.speed ≢ 0 → B.speed ≤ n → 0 ≡ first_refusal (bound_test B ∷ [])
      unfolding bound_test speed_in
      bound_in h k = sym (passes 10 [] (judged load_in (between_in 1 max_bound_speed B.speed (omega arith) (omega arith))) ∙ passed-all)

-- A division, b being what the test of the separators says.
module _ (job : Job) (s : List ℕ) {b : Bool} (is : b ≡ is_partition job (take (separators_needed job) s)) where
  pub no_division : not b ≡ true → 11 ≡ first_refusal (partition_test job s ∷ [])
  unfolding partition_test
  no_division h = sym (fails 11 [] (sym is ∙ not-true b h))

  pub division : not b ≡ false → 0 ≡ first_refusal (partition_test job s ∷ [])
  unfolding partition_test
  division h = sym (passes 11 [] (sym is ∙ not-false b h) ∙ passed-all)

-- A row that is to be halved: all its speeds are the first one, b says; c, that their number is a power of two.
module _ (es : List ℕ) (some : 1 ≤ length es) {x : ℕ} (first : x ≡ get_or es 0 0) {b : Bool} (equal : b ≡ each_between x x es) where
  all_first : (ys : List ℕ) → 1 ≤ length ys → x ≡ get_or ys 0 0 → each_between x x ys ≡ all_equal ys
  unfolding each_between all_equal
  all_first [] h e = absurd (let z : ⊥ = omega arith in z)
  all_first (y ∷ ys) h e =
      ap (λ (t : Bool). t && each_between x x ys) (between_in x x y (omega arith) (omega arith)) ∙ ap (λ (k : ℕ). each_between k k ys) e

  equal_is : {t : Bool} → b ≡ t → all_equal es ≡ t
  equal_is e = sym (all_first es some first) ∙ sym equal ∙ e

  row_is : {t u : Bool} → all_equal es ≡ t → power_of_two (length es) ≡ u → (row_test es).passes ≡ (t && u)
  unfolding row_test
  row_is e f = cc

  pub row_unequal : b ≡ false → 14 ≡ first_refusal (row_test es ∷ [])
  unfolding row_test
  row_unequal h = sym (fails 14 [] (row_is (equal_is h) refl))

  module _ (h : b ≡ true) {c : Bool} (power : c ≡ power_of_two (length es)) where
    pub row_no_power : c ≡ false → 14 ≡ first_refusal (row_test es ∷ [])
    unfolding row_test
    row_no_power k = sym (fails 14 [] (row_is (equal_is h) (sym power ∙ k)))

    pub row_in : c ≡ true → 0 ≡ first_refusal (row_test es ∷ [])
    unfolding row_test
    row_in k = sym (passes 14 [] (row_is (equal_is h) (sym power ∙ k)) ∙ passed-all)

-- For `search`: at each return the law that its tests meet.
pub ruleset length_laws = (length_short, length-enough)

pub ruleset division_laws = (no_division, division)

-- The tests of each call, as the code makes them: n is what the first ones give, and k what the next ones do.
module _ (job : Job) where
  -- The job, then the list of its holds.
  pub all_job : {n : ℕ} → n ≡ first_refusal (job_tests job) → n ≢ 0 → n ≡ refusal job nothing
  unfolding refusal call_tests job_tests
  all_job e h = first_decide (job_tests job) (holds_test job ∷ []) e h

  pub all-holds : {n k : ℕ} → n ≡ first_refusal (job_tests job) → n ≡ 0 → k ≡ first_refusal (holds_test job ∷ []) → k ≡ refusal job nothing
  unfolding refusal call_tests job_tests
  all-holds e z f = others_decide (job_tests job) (holds_test job ∷ []) e (job_numbered job) z f

  -- Then the list of separators.
  module _ (lent : ℕ) {n : ℕ} (e : n ≡ refusal job nothing) where
    pub separators_job : n ≢ 0 → n ≡ refusal job (list_inputs job lent)
    unfolding refusal call_tests job_tests
    separators_job h = first_decide (call_tests job nothing) (length_test (separators_needed job) lent ∷ []) e h

    pub separators_list : n ≡ 0 → {k : ℕ} → k ≡ first_refusal (length_test (processors job + 1) lent ∷ []) → k ≡ refusal job (list_inputs job lent)
    unfolding refusal call_tests job_tests
    separators_list z f =
        others_decide (call_tests job nothing) (length_test (separators_needed job) lent ∷ []) e (call_numbered job nothing) z
        (f ∙ ap (λ (n : ℕ). first_refusal (length_test n lent ∷ [])) (add-one (processors job)))

  -- The tests of a quick plan past those of the job: the holds, the list of separators, no holds.
  module _ (lent : ℕ) where
    quick : List Test
    quick = holds_test job ∷ length_test (separators_needed job) lent ∷ free_test job ∷ []

    list_and_free : List Test
    list_and_free = (length_test (separators_needed job) lent ∷ []) ++ free_test job ∷ []

    module _ {n : ℕ} (e : n ≡ first_refusal (holds_test job ∷ [])) where
      pub quick_holds : n ≢ 0 → n ≡ first_refusal (holds_test job ∷ length_test (separators_needed job) lent ∷ free_test job ∷ [])
      unfolding list_and_free
      quick_holds h = first_decide (holds_test job ∷ []) list_and_free e h

      module _ (z : n ≡ 0) {k : ℕ} (f : k ≡ first_refusal (length_test (processors job + 1) lent ∷ [])) where
        lent_is : k ≡ first_refusal (length_test (separators_needed job) lent ∷ [])
        lent_is = f ∙ ap (λ (m : ℕ). first_refusal (length_test m lent ∷ [])) (add-one (processors job))

        past_holds : {l : ℕ} → l ≡ first_refusal list_and_free → l ≡ first_refusal (holds_test job ∷ length_test (separators_needed job) lent ∷ free_test job ∷ [])
        unfolding list_and_free holds_test length_test
        past_holds g = others_decide (holds_test job ∷ []) list_and_free e (numbered_cons (omega arith) numbered_nil) z g

        pub quick_list : k ≢ 0 → k ≡ first_refusal (holds_test job ∷ length_test (separators_needed job) lent ∷ free_test job ∷ [])
        unfolding list_and_free
        quick_list h = past_holds (first_decide (length_test (separators_needed job) lent ∷ []) (free_test job ∷ []) lent_is h)

        pub quick_free : k ≡ 0 → {l : ℕ} → l ≡ first_refusal (free_test job ∷ []) → l ≡ first_refusal (holds_test job ∷ length_test (separators_needed job) lent ∷ free_test job ∷ [])
        unfolding list_and_free length_test
        quick_free y g =
            past_holds (others_decide (length_test (separators_needed job) lent ∷ []) (free_test job ∷ []) lent_is (numbered_cons (omega arith) numbered_nil) y g)

    -- Halving the row: the job, then the row, then those.
    module _ {n : ℕ} (e : n ≡ first_refusal (job_tests job)) where
      row_and_quick : List Test
      row_and_quick = (row_test job.speeds ∷ []) ++ quick

      pub halving_job : n ≢ 0 → n ≡ refusal job (halving_inputs job lent)
      unfolding refusal call_tests job_tests quick row_and_quick
      halving_job h = first_decide (job_tests job) row_and_quick e h

      module _ (z : n ≡ 0) {k : ℕ} (f : k ≡ first_refusal (row_test job.speeds ∷ [])) where
        by_row_and_quick : {l : ℕ} → l ≡ first_refusal row_and_quick → l ≡ refusal job (halving_inputs job lent)
        unfolding refusal call_tests job_tests quick row_and_quick
        by_row_and_quick g = others_decide (job_tests job) row_and_quick e (job_numbered job) z g

        pub halving_row : k ≢ 0 → k ≡ refusal job (halving_inputs job lent)
        unfolding row_and_quick
        halving_row h = by_row_and_quick (first_decide (row_test job.speeds ∷ []) quick f h)

        pub halving_list : k ≡ 0 → {l : ℕ} → l ≡ first_refusal (holds_test job ∷ length_test (separators_needed job) lent ∷ free_test job ∷ [])
            → l ≡ refusal job (halving_inputs job lent)
        unfolding quick row_and_quick row_test
        halving_list y g =
            by_row_and_quick (others_decide (row_test job.speeds ∷ []) quick f (numbered_cons (omega arith) numbered_nil) y g)

  -- Any call that begins so: the job, its holds and the list of separators, then others.
  module _ {n : ℕ} (lent : ℕ) (us : List Test) (e : n ≡ refusal job (list_inputs job lent)) where
    by_list : n ≢ 0 → n ≡ first_refusal (call_tests job (list_inputs job lent) ++ us)
    unfolding refusal
    by_list h = first_decide (call_tests job (list_inputs job lent)) us e h

    by_others : n ≡ 0 → {k : ℕ} → k ≡ first_refusal us → k ≡ first_refusal (call_tests job (list_inputs job lent) ++ us)
    unfolding refusal
    by_others z f =
        others_decide (call_tests job (list_inputs job lent)) us e (call_numbered job (list_inputs job lent)) z f

  -- The heuristic: then no holds.
  module _ (lent : ℕ) {n : ℕ} (e : n ≡ refusal job (list_inputs job lent)) where
    pub heuristic_list : n ≢ 0 → n ≡ refusal job (heuristic_inputs job lent)
    unfolding refusal call_tests job_tests
    heuristic_list h = by_list lent (free_test job ∷ []) e h

    pub heuristic_free : n ≡ 0 → {k : ℕ} → k ≡ first_refusal (free_test job ∷ []) → k ≡ refusal job (heuristic_inputs job lent)
    unfolding refusal call_tests job_tests
    heuristic_free z f = by_others lent (free_test job ∷ []) e z f

  -- Measuring: then the division.
  module _ (s : List ℕ) {n : ℕ} (e : n ≡ refusal job (list_inputs job (length s))) where
    pub measure_list : n ≢ 0 → n ≡ refusal job (measure_inputs job s)
    unfolding refusal call_tests job_tests
    measure_list h = by_list (length s) (partition_test job s ∷ []) e h

    pub measure_division : n ≡ 0 → {k : ℕ} → k ≡ first_refusal (partition_test job s ∷ []) → k ≡ refusal job (measure_inputs job s)
    unfolding refusal call_tests job_tests
    measure_division z f = by_others (length s) (partition_test job s ∷ []) e z f

  -- The probe: then the holds, then the bound.
  module _ (B : Bound) (lent : ℕ) {n : ℕ} (e : n ≡ refusal job (list_inputs job lent)) where
    holds_and_bound : List Test
    holds_and_bound = (enough_test job ∷ []) ++ bound_test B ∷ []

    pub probe_list : n ≢ 0 → n ≡ refusal job (probe_inputs job B lent)
    unfolding refusal call_tests job_tests holds_and_bound
    probe_list h = by_list lent holds_and_bound e h

    module _ (z : n ≡ 0) {k : ℕ} (f : k ≡ first_refusal (enough_test job ∷ [])) where
      by_holds_and_bound : {l : ℕ} → l ≡ first_refusal holds_and_bound → l ≡ refusal job (probe_inputs job B lent)
      unfolding refusal call_tests job_tests holds_and_bound
      by_holds_and_bound g = by_others lent holds_and_bound e z g

      pub probe-holds : k ≢ 0 → k ≡ refusal job (probe_inputs job B lent)
      unfolding holds_and_bound
      probe-holds h = by_holds_and_bound (first_decide (enough_test job ∷ []) (bound_test B ∷ []) f h)

      pub probe_bound : k ≡ 0 → {l : ℕ} → l ≡ first_refusal (bound_test B ∷ []) → l ≡ refusal job (probe_inputs job B lent)
      unfolding holds_and_bound enough_test
      probe_bound y g =
          by_holds_and_bound (others_decide (enough_test job ∷ []) (bound_test B ∷ []) f (numbered_cons (omega arith) numbered_nil) y g)

  -- Planning, the method apart: then the work numbers, then the holds.
  module _ (separators scratch : ℕ) {n : ℕ} (e : n ≡ refusal job (list_inputs job separators)) where
    scratch_and_holds : List Test
    scratch_and_holds = (length_test (scratch_needed job) scratch ∷ []) ++ enough_test job ∷ []

    pub plan_list : n ≢ 0 → n ≡ refusal job (plan_lists job separators scratch)
    unfolding refusal call_tests job_tests scratch_and_holds
    plan_list h = by_list separators scratch_and_holds e h

    module _ (z : n ≡ 0) {k : ℕ} (f : k ≡ first_refusal (length_test (scratch_lists * (tasks job + 1)) scratch ∷ [])) where
      scratch_is : k ≡ first_refusal (length_test (scratch_needed job) scratch ∷ [])
      scratch_is = f ∙ ap (λ (n : ℕ). first_refusal (length_test (scratch_lists * n) scratch ∷ [])) (add-one (tasks job))

      by_scratch_and_holds : {l : ℕ} → l ≡ first_refusal scratch_and_holds → l ≡ refusal job (plan_lists job separators scratch)
      unfolding refusal call_tests job_tests scratch_and_holds
      by_scratch_and_holds g = by_others separators scratch_and_holds e z g

      pub plan_scratch : k ≢ 0 → k ≡ refusal job (plan_lists job separators scratch)
      unfolding scratch_and_holds
      plan_scratch h = by_scratch_and_holds (first_decide (length_test (scratch_needed job) scratch ∷ []) (enough_test job ∷ []) scratch_is h)

      pub plan_holds : k ≡ 0 → {l : ℕ} → l ≡ first_refusal (enough_test job ∷ []) → l ≡ refusal job (plan_lists job separators scratch)
      unfolding scratch_and_holds length_test
      plan_holds y g =
          by_scratch_and_holds
          (others_decide (length_test (scratch_needed job) scratch ∷ []) (enough_test job ∷ []) scratch_is (numbered_cons (omega arith) numbered_nil) y g)

  -- Planning by a method that is known: then, by method 4, no holds.
  module _ (m separators scratch : ℕ) {n : ℕ} (e : n ≡ refusal job (plan_lists job separators scratch)) where
    by_method : (b : Bool) → eqb m 4 ≡ b
        → refusal job (method_inputs job m separators scratch) ≡ first_refusal (call_tests job (plan_lists job separators scratch) ++ map free_test (cond b (job ∷ []) []))
    unfolding refusal call_tests job_tests free_by
    by_method true b = rw b
    by_method false b = rw b

    pub method_list : n ≢ 0 → n ≡ refusal job (method_inputs job m separators scratch)
    unfolding refusal
    method_list h =
        first_decide (call_tests job (plan_lists job separators scratch)) (map free_test (cond (eqb m 4) (job ∷ []) [])) e h ∙ sym (by_method (eqb m 4) refl)

    module _ (z : n ≡ 0) where
      past_lists : {k : ℕ} (b : Bool) → eqb m 4 ≡ b → k ≡ first_refusal (map free_test (cond b (job ∷ []) [])) → k ≡ refusal job (method_inputs job m separators scratch)
      unfolding refusal
      past_lists b h f =
          others_decide (call_tests job (plan_lists job separators scratch)) (map free_test (cond b (job ∷ []) [])) e (call_numbered job (plan_lists job separators scratch)) z f
          ∙ sym (by_method b h)

      pub method_free : {x : ℕ} → x ≡ m → x ≡ 4 → {k : ℕ} → k ≡ first_refusal (free_test job ∷ []) → k ≡ refusal job (method_inputs job m separators scratch)
      method_free f h g = past_lists true (eq-eqb m 4 (sym f ∙ h)) g

      pub method_other : {x : ℕ} → x ≡ m → x ≢ 4 → 0 ≡ refusal job (method_inputs job m separators scratch)
      method_other f h = past_lists false (ne_eqb m 4 (λ k. h (f ∙ k))) (sym passed-all)

  -- Planning by a number: the method, then those.
  module _ (m separators scratch : ℕ) where
    pub plan_unknown : 1 ≡ first_refusal (method_test m ∷ []) → 1 ≡ refusal job (plan_inputs job m separators scratch)
    unfolding refusal call_tests
    plan_unknown e = first_decide (method_test m ∷ []) (call_tests job (method_inputs job m separators scratch)) e (λ z. omega arith)

    pub plan_known : 0 ≡ first_refusal (method_test m ∷ []) → {n : ℕ} → n ≡ refusal job (method_inputs job m separators scratch)
        → n ≡ refusal job (plan_inputs job m separators scratch)
    unfolding refusal call_tests method_test
    plan_known e f =
        others_decide (method_test m ∷ []) (call_tests job (method_inputs job m separators scratch)) e (numbered_cons (omega arith) numbered_nil) refl f

  -- Writing a job file: the job, then the buffer.
  module _ (edition : Edition) (lent : ℕ) {n : ℕ} (e : n ≡ refusal job nothing) where
    pub write_job_tests : n ≢ 0 → n ≡ refusal job (write_inputs edition job lent)
    unfolding refusal call_tests job_tests
    write_job_tests h = first_decide (call_tests job nothing) (length_test (bytes_needed edition job) lent ∷ []) e h

    pub write_bytes_lem : n ≡ 0 → {h : ℕ} → h ≡ head_records edition → {k : ℕ} → k ≡ first_refusal (length_test (record_size * (h + (tasks job + processors job))) lent ∷ [])
        → k ≡ refusal job (write_inputs edition job lent)
    unfolding refusal call_tests job_tests
    write_bytes_lem z head f =
        others_decide (call_tests job nothing) (length_test (bytes_needed edition job) lent ∷ []) e (call_numbered job nothing) z
        (f ∙ ap (λ (h : ℕ). first_refusal (length_test (record_size * (h + (tasks job + processors job))) lent ∷ [])) head)

  -- Writing a plan file: the job and the separators, then the buffer, then the division.
  module _ (s : List ℕ) (lent : ℕ) {n : ℕ} (e : n ≡ refusal job (list_inputs job (length s))) where
    after : List Test
    after = (length_test (plan_needed job) lent ∷ []) ++ partition_test job s ∷ []

    pub write_plan_list : n ≢ 0 → n ≡ refusal job (write_plan_inputs job s lent)
    unfolding refusal call_tests job_tests after
    write_plan_list h = by_list (length s) after e h

    module _ (z : n ≡ 0) {k : ℕ} (f : k ≡ first_refusal (length_test (plan_needed job) lent ∷ [])) where
      by_after : {l : ℕ} → l ≡ first_refusal after → l ≡ refusal job (write_plan_inputs job s lent)
      unfolding refusal call_tests job_tests after
      by_after g = by_others (length s) after e z g

      pub write_plan_bytes_lem : k ≢ 0 → k ≡ refusal job (write_plan_inputs job s lent)
      unfolding after
      write_plan_bytes_lem h = by_after (first_decide (length_test (plan_needed job) lent ∷ []) (partition_test job s ∷ []) f h)

      pub write_plan_division : k ≡ 0 → {l : ℕ} → l ≡ first_refusal (partition_test job s ∷ []) → l ≡ refusal job (write_plan_inputs job s lent)
      unfolding after length_test
      write_plan_division y g =
          by_after (others_decide (length_test (plan_needed job) lent ∷ []) (partition_test job s ∷ []) f (numbered_cons (omega arith) numbered_nil) y g)

-- Writing a job file, whatever its edition: start-up work out of range gives 16, and none that is in range changes a test.
module _ (edition : Edition) (es hs ws : List ℕ) (lent : ℕ) where
  pub startup_far : {c : ℕ} → max_startup < c → 16 ≡ refusal (job_of c es hs ws) (write_inputs edition (job_of c es hs ws) lent)
  unfolding refusal call_tests job_tests startup_test
  startup_far {c} h = sym (fails 16 _ (lt-leb c max_startup h))

  pub startup_within : {c d n : ℕ} → c ≤ max_startup → d ≤ c → n ≡ refusal (job_of d es hs ws) (write_inputs edition (job_of d es hs ws) lent)
      → n ≡ refusal (job_of c es hs ws) (write_inputs edition (job_of c es hs ws) lent)
  unfolding refusal call_tests job_tests startup_test holds_test
  startup_within {c} {d} h k e =
      e ∙ passes 16 _ (le-leb d max_startup (omega arith)) ∙ sym (passes 16 _ (le-leb c max_startup h))
