-- A refusal's number is that of the first test that fails, and so one of the tests' numbers; lists are accepted exactly when they
-- make a valid job, and a list of separators exactly when it is a partition.
-- Assumes nothing.
use Prim.Native.Nat.{ℕ, zero, suc, ◌≤◌, ◌<◌}
use mathlib.Core.Path.{◌≡◌, refl, sym, ap, subst, ◌∙◌}
use mathlib.Core.Bool.{Bool, true, false, cond, ◌&&◌, ◌||◌}
use mathlib.Core.List.Memᴰ
use mathlib.Core.List.{List, [], ◌∷◌, ◌++◌, map, Memᴰ}
use mathlib.Core.Logic.{◌≢◌, ◌↔◌, inl, inr}
use native.Mathlib.Omega.{arith}
use native.Mathlib.Decide.{ℕ_discrete}
use lib.Dec.{T, leb, eqb, leb→le, le→leb, eqb→eq, eqb_refl, lit≤}
use lib.ListN.{length, get_or}
use Rattle.chain.specs.Limits.{max_tasks, max_weight, max_startup, max_processors, max_speed}
use Rattle.chain.specs.Lists.{all}
use Rattle.chain.specs.Job.{Job, tasks, processors, speed_of, keeps, part_load, Valid, at, Partition, all_kept}
use Rattle.chain.specs.Refusal.{Test, between, each_between, method_test, startup_test, speeds_test, weights_test, processors_test, tasks_test, row_test, length_test, holds_test, enough_test, free_test, bound_test, is_partition, partition_test, PlanRecords, separators_of, plan_length_test, joined, joined_test, true_at, true_test, first_refusal, FirstFailing, job_tests, Inputs, plan_tests, call_tests, refusal}
use Rattle.chain.proofs.Tests.{T_of, and_left, and_right, and_both}
use Rattle.chain.proofs.Indices.{all-at, all_of}

eq_test : (m n : ℕ) → m ≡ n → T (eqb m n)
eq_test m n e = subst (λ (k : ℕ). T (eqb m k)) e (eqb_refl m)

-- Every test of the list has a number above 0, so that 0 means accepted.
pub record Numbered (ts : List Test) : Type 0 where
  pub positive : (t : Test) → Memᴰ t ts → 0 < t.number

-- A list of no tests is numbered so.
pub numbered_nil : Numbered []
numbered_nil = record { positive = λ t m. absurd (Memᴰ.not-nil m) }

-- One test more.
pub numbered_cons : {t : Test} {ts : List Test} → 0 < t.number → Numbered ts → Numbered (t ∷ ts)
numbered_cons {t} {ts} h n =
    record { positive = λ u m. elim (Memᴰ.cases_cons m) [ inl e ↦ subst (λ (x : Test). 0 < x.number) (sym e) h | inr k ↦ n.positive u k ] }

-- Two lists of tests one after the other.
pub numbered_append : {ts us : List Test} → Numbered ts → Numbered us → Numbered (ts ++ us)
numbered_append {ts} {us} n k =
    record { positive = λ t m. elim (Memᴰ.append_cases ts m) [ inl h ↦ n.positive t h | inr h ↦ k.positive t h ] }

-- One kind of test, made of every input.
pub numbered_map : {A : Type 0} (f : A → Test) → ((a : A) → 0 < (f a).number) → (l : List A) → Numbered (map f l)
numbered_map f h l =
    record { positive = λ t m. let r = Memᴰ.of_map f l m in subst (λ (x : Test). 0 < x.number) r.2 (h r.0) }

pub numbered_tail : {t : Test} {ts : List Test} → Numbered (t ∷ ts) → Numbered ts
numbered_tail n = record { positive = λ u m. n.positive u (Memᴰ.tail m) }

-- The first test of a list passes and the others decide, or its number is given.
pub pass_head : (t : Test) (ts : List Test) → 0 < t.number → first_refusal (t ∷ ts) ≡ 0 → T t.passes
unfolding first_refusal
pass_head t ts h e = go t.passes e
  where
    go : (b : Bool) → cond b (first_refusal ts) t.number ≡ 0 → T b
    go true x = tt
    go false x = absurd (let z : ⊥ = omega arith in z)

pub pass_skip : (t : Test) (ts : List Test) → T t.passes → first_refusal (t ∷ ts) ≡ first_refusal ts
unfolding first_refusal
pass_skip t ts p = go t.passes p
  where
    go : (b : Bool) → T b → cond b (first_refusal ts) t.number ≡ first_refusal ts
    go true u = refl
    go false u = absurd u

fail_head : (t : Test) (ts : List Test) → t.passes ≡ false → first_refusal (t ∷ ts) ≡ t.number
unfolding first_refusal
fail_head t ts e = ap (λ (b : Bool). cond b (first_refusal ts) t.number) e

-- Where all tests pass, nothing is refused.
pub passes_accepted : (ts : List Test) → ((t : Test) → Memᴰ t ts → T t.passes) → first_refusal ts ≡ 0
unfolding first_refusal
passes_accepted [] h = refl
passes_accepted (t ∷ ts) h =
    pass_skip t ts (h t (Memᴰ.head refl)) ∙ passes_accepted ts (λ u m. h u (Memᴰ.tail m))

-- Where nothing is refused, all tests pass.
pub accepted_passes : (ts : List Test) → Numbered ts → first_refusal ts ≡ 0 → (t : Test) → Memᴰ t ts → T t.passes
accepted_passes [] n e u m = absurd (Memᴰ.not-nil m)
accepted_passes (t ∷ ts) n e u m =
    let p : T t.passes = pass_head t ts (n.positive t (Memᴰ.head refl)) e in
    elim (Memᴰ.cases_cons m) [
      | inl h ↦ subst (λ (x : Test). T x.passes) (sym h) p
      | inr h ↦ accepted_passes ts (numbered_tail n) (sym (pass_skip t ts p) ∙ e) u h
    ]

-- Where the first tests pass, the others decide.
pub passed-append : (ts us : List Test) → ((t : Test) → Memᴰ t ts → T t.passes) → first_refusal (ts ++ us) ≡ first_refusal us
passed-append [] us h = refl
passed-append (t ∷ ts) us h =
    pass_skip t (ts ++ us) (h t (Memᴰ.head refl)) ∙ passed-append ts us (λ u m. h u (Memᴰ.tail m))

-- Where nothing of the first tests is refused, the others decide.
pub first_refusal-append : (ts us : List Test) → Numbered ts → first_refusal ts ≡ 0 → first_refusal (ts ++ us) ≡ first_refusal us
first_refusal-append ts us n e = passed-append ts us (accepted_passes ts n e)

-- Where one of the first tests fails, it decides.
pub first_refusal_before : (ts us : List Test) → first_refusal ts ≢ 0 → first_refusal (ts ++ us) ≡ first_refusal ts
unfolding first_refusal
first_refusal_before [] us h = absurd (h refl)
first_refusal_before (t ∷ ts) us h = go t.passes h (first_refusal_before ts us)
  where
    go : (b : Bool) → cond b (first_refusal ts) t.number ≢ 0 → (first_refusal ts ≢ 0 → first_refusal (ts ++ us) ≡ first_refusal ts)
        → cond b (first_refusal (ts ++ us)) t.number ≡ cond b (first_refusal ts) t.number
    go true k below = below k
    go false k below = refl

-- What follows counts by the number that it gives.
pub first_refusal_same : (ts us vs : List Test) → first_refusal us ≡ first_refusal vs → first_refusal (ts ++ us) ≡ first_refusal (ts ++ vs)
unfolding first_refusal
first_refusal_same [] us vs e = e
first_refusal_same (t ∷ ts) us vs e = ap (λ (n : ℕ). cond t.passes n t.number) (first_refusal_same ts us vs e)

-- A test that fails after others that pass gives its number.
pub refused_first : (ts : List Test) (t : Test) (us : List Test) → Numbered ts → first_refusal ts ≡ 0 → t.passes ≡ false
    → first_refusal (ts ++ t ∷ us) ≡ t.number
refused_first ts t us n e f = first_refusal-append ts (t ∷ us) n e ∙ fail_head t us f

-- A number is given where its test is the first to fail,
pub failing_refused : {ts : List Test} {n : ℕ} → FirstFailing ts n → first_refusal ts ≡ n
failing_refused r =
    ap first_refusal (sym r.whole) ∙ passed-append r.before (r.failed ∷ r.after) r.passed ∙ fail_head r.failed r.after r.fails
    ∙ r.gives

-- and only there.
pub refused_failing : (ts : List Test) → first_refusal ts ≢ 0 → FirstFailing ts (first_refusal ts)
unfolding first_refusal
refused_failing [] h = absurd (h refl)
refused_failing (t ∷ ts) h = go t.passes refl h (refused_failing ts)
  where
    go : (b : Bool) → t.passes ≡ b → cond b (first_refusal ts) t.number ≢ 0 → (first_refusal ts ≢ 0 → FirstFailing ts (first_refusal ts))
        → FirstFailing (t ∷ ts) (cond b (first_refusal ts) t.number)
    go true e k below =
        let r = below k in
        record {
          before = t ∷ r.before;
          failed = r.failed;
          after = r.after;
          whole = ap (λ (l : List Test). t ∷ l) r.whole;
          passed = λ u m. elim (Memᴰ.cases_cons m) [ inl x ↦ subst (λ (y : Test). T y.passes) (sym x) (T_of e) | inr x ↦ r.passed u x ];
          fails = r.fails;
          gives = r.gives;
        }
    go false e k below =
        record { before = []; failed = t; after = ts; whole = refl; passed = λ u m. absurd (Memᴰ.not-nil m); fails = e; gives = refl }

-- A number that these tests give is n exactly when the first test to fail has the number n.
pub gives : (ts : List Test) {m n : ℕ} → m ≡ first_refusal ts → n ≢ 0 → (m ≡ n) ↔ FirstFailing ts n
gives ts e h = (
  λ k. subst (FirstFailing ts) (sym e ∙ k) (refused_failing ts (λ z. h (sym k ∙ e ∙ z))),
  λ f. e ∙ failing_refused f,
)

-- n is one of the numbers; every test has one of the numbers: by computing.
abbrev pub one_of : List ℕ → ℕ → Bool
one_of [] n = false
one_of (m ∷ ms) n = eqb n m || one_of ms n

abbrev pub numbers_in : List ℕ → List Test → Bool
numbers_in ns [] = true
numbers_in ns (t ∷ ts) = one_of ns t.number && numbers_in ns ts

one_of_lem : (ns : List ℕ) (n : ℕ) → T (one_of ns n) → Memᴰ n ns
one_of_lem [] n h = absurd h
one_of_lem (m ∷ ms) n h = go (eqb n m) refl h (one_of_lem ms n)
  where
    go : (b : Bool) → eqb n m ≡ b → T (b || one_of ms n) → (T (one_of ms n) → Memᴰ n ms) → Memᴰ n (m ∷ ms)
    go true e x below = Memᴰ.head (eqb→eq n m (T_of e))
    go false e x below = Memᴰ.tail (below x)

-- Tests that have one of these numbers each give 0 or one of them.
pub given_number : (ns : List ℕ) (ts : List Test) {n : ℕ} → n ≡ first_refusal ts → T (numbers_in ns ts) → Memᴰ n (0 ∷ ns)
unfolding first_refusal
given_number ns [] e h = Memᴰ.head e
given_number ns (t ∷ ts) {n} e h =
    go t.passes e (λ k. given_number ns ts k (and_right (one_of ns t.number) (numbers_in ns ts) h))
  where
    go : (b : Bool) → n ≡ cond b (first_refusal ts) t.number → (n ≡ first_refusal ts → Memᴰ n (0 ∷ ns)) → Memᴰ n (0 ∷ ns)
    go true k below = below k
    go false k below =
        Memᴰ.tail (Memᴰ.cast k (one_of_lem ns t.number (and_left (one_of ns t.number) (numbers_in ns ts) h)))

-- Two lists of tests one after the other, and one number more.
pub numbers-append : (ns : List ℕ) (ts us : List Test) → T (numbers_in ns ts) → T (numbers_in ns us) → T (numbers_in ns (ts ++ us))
numbers-append ns [] us h k = k
numbers-append ns (t ∷ ts) us h k =
    and_both (one_of ns t.number) (numbers_in ns (ts ++ us)) (and_left (one_of ns t.number) (numbers_in ns ts) h)
    (numbers-append ns ts us (and_right (one_of ns t.number) (numbers_in ns ts) h) k)

pub numbers_more : (m : ℕ) (ns : List ℕ) (ts : List Test) → T (numbers_in ns ts) → T (numbers_in (m ∷ ns) ts)
numbers_more m ns [] h = tt
numbers_more m ns (t ∷ ts) h =
    and_both (one_of (m ∷ ns) t.number) (numbers_in (m ∷ ns) ts) (go (eqb t.number m) (and_left (one_of ns t.number) (numbers_in ns ts) h))
    (numbers_more m ns ts (and_right (one_of ns t.number) (numbers_in ns ts) h))
  where
    go : (b : Bool) → T (one_of ns t.number) → T (b || one_of ns t.number)
    go true x = tt
    go false x = x

-- Numbers more, behind them.
one_behind : (ns ms : List ℕ) (n : ℕ) → T (one_of ns n) → T (one_of (ns ++ ms) n)
one_behind [] ms n h = absurd h
one_behind (k ∷ ks) ms n h = go (eqb n k) h (one_behind ks ms n)
  where
    go : (b : Bool) → T (b || one_of ks n) → (T (one_of ks n) → T (one_of (ks ++ ms) n)) → T (b || one_of (ks ++ ms) n)
    go true x below = tt
    go false x below = below x

pub numbers_behind : (ns ms : List ℕ) (ts : List Test) → T (numbers_in ns ts) → T (numbers_in (ns ++ ms) ts)
numbers_behind ns ms [] h = tt
numbers_behind ns ms (t ∷ ts) h =
    and_both (one_of (ns ++ ms) t.number) (numbers_in (ns ++ ms) ts)
    (one_behind ns ms t.number (and_left (one_of ns t.number) (numbers_in ns ts) h))
    (numbers_behind ns ms ts (and_right (one_of ns t.number) (numbers_in ns ts) h))

-- The tests of a job have numbers above 0.
pub job_numbered : (job : Job) → Numbered (job_tests job)
unfolding job_tests startup_test speeds_test weights_test processors_test tasks_test
job_numbered job =
    numbered_cons (omega arith) (numbered_cons (omega arith) (numbered_cons (omega arith) (numbered_cons (omega arith) (numbered_cons (omega arith) numbered_nil))))

-- The tests of a call have numbers above 0.
pub call_numbered : (job : Job) (inputs : Inputs) → Numbered (call_tests job inputs)
unfolding call_tests method_test row_test holds_test length_test enough_test free_test bound_test plan_length_test partition_test joined_test true_test
call_numbered job inputs =
    numbered_append
    (numbered_append
    (numbered_append
    (numbered_append
    (numbered_append
    (numbered_append
    (numbered_append
    (numbered_append
    (numbered_append (numbered_append (numbered_map method_test (λ m. omega arith) inputs.methods) (job_numbered job))
    (numbered_map row_test (λ es. omega arith) inputs.rows)) (numbered_cons (omega arith) (numbered_map (λ l. length_test l.needed l.given) (λ l. omega arith) inputs.lists)))
    (numbered_map enough_test (λ j. omega arith) inputs.keeping)) (numbered_map free_test (λ j. omega arith) inputs.free))
    (numbered_map bound_test (λ B. omega arith) inputs.bounds)) (numbered_map plan_length_test (λ s. omega arith) inputs.plans))
    (numbered_map (partition_test job) (λ s. omega arith) inputs.divisions))
    (numbered_map (joined_test job) (λ s. omega arith) inputs.plans)) (numbered_map (true_test job) (λ s. omega arith) inputs.plans)

pub plan_numbered : (job : Job) (plan : PlanRecords) → Numbered (plan_tests job plan)
unfolding plan_tests plan_length_test joined_test true_test
plan_numbered job plan =
    numbered_cons (omega arith) (numbered_cons (omega arith) (numbered_cons (omega arith) numbered_nil))

-- Every number of the list is in range exactly when every index reads one that is, the default included.
pub each_at : (lo hi d : ℕ) (xs : List ℕ) → lo ≤ d → d ≤ hi → T (each_between lo hi xs) → (i : ℕ) → (lo ≤ get_or xs i d) × (get_or xs i d ≤ hi)
unfolding each_between
each_at lo hi d [] h k t i = (h, k)
each_at lo hi d (x ∷ xs) h k t zero =
    let u : T (between lo hi x) = and_left (between lo hi x) (each_between lo hi xs) t in
    (leb→le lo x (and_left (leb lo x) (leb x hi) u), leb→le x hi (and_right (leb lo x) (leb x hi) u))
each_at lo hi d (x ∷ xs) h k t (suc i) = each_at lo hi d xs h k (and_right (between lo hi x) (each_between lo hi xs) t) i

pub each_of_lem : (lo hi d : ℕ) (xs : List ℕ) → ((i : ℕ) → lo ≤ get_or xs i d) → ((i : ℕ) → get_or xs i d ≤ hi) → T (each_between lo hi xs)
unfolding each_between
each_of_lem lo hi d [] h k = tt
each_of_lem lo hi d (x ∷ xs) h k =
    and_both (between lo hi x) (each_between lo hi xs) (and_both (leb lo x) (leb x hi) (le→leb lo x (h 0)) (le→leb x hi (k 0)))
    (each_of_lem lo hi d xs (λ i. h (suc i)) (λ i. k (suc i)))

module _ {job : Job} where
  accepted_valid : first_refusal (job_tests job) ≡ 0 → T (holds_test job).passes → Valid job
  unfolding job_tests startup_test speeds_test weights_test processors_test tasks_test speed_of max_speed holds_test length_test
  accepted_valid e h =
      record {
        startup_limit = leb→le job.startup max_startup (passes (startup_test job.startup) (Memᴰ.head refl));
        some_processor = leb→le 1 (processors job) (and_left (leb 1 (processors job)) (leb (processors job) max_processors) count);
        processors_limit = leb→le (processors job) max_processors (and_right (leb 1 (processors job)) (leb (processors job) max_processors) count);
        tasks_limit = leb→le (tasks job) max_tasks (passes (tasks_test job.weights) (Memᴰ.tail (Memᴰ.tail (Memᴰ.tail (Memᴰ.tail (Memᴰ.head refl))))));
        weights_limit = λ i. (each_at 0 max_weight 0 job.weights (omega arith) (omega arith) weights i).1;
        speeds_positive = λ p. (speed p).0;
        speeds_limit = λ p. (speed p).1;
        holds_given = leb→le (processors job) (length job.holds) h;
      }
    where
      passes : (t : Test) → Memᴰ t (job_tests job) → T t.passes
      passes = accepted_passes (job_tests job) (job_numbered job) e

      weights : T (each_between 0 max_weight job.weights)
      weights = passes (weights_test job.weights) (Memᴰ.tail (Memᴰ.tail (Memᴰ.head refl)))

      count : T (between 1 max_processors (processors job))
      count = passes (processors_test job.speeds) (Memᴰ.tail (Memᴰ.tail (Memᴰ.tail (Memᴰ.head refl))))

      speed : (p : ℕ) → (1 ≤ get_or job.speeds p 1) × (get_or job.speeds p 1 ≤ max_speed)
      speed = each_at 1 max_speed 1 job.speeds (omega arith) (lit≤ tt) (passes (speeds_test job.speeds) (Memᴰ.tail (Memᴰ.head refl)))

  valid_accepted : Valid job → first_refusal (job_tests job) ≡ 0
  unfolding job_tests startup_test speeds_test weights_test processors_test tasks_test speed_of first_refusal
  valid_accepted v =
      pass_skip (startup_test job.startup) (speeds_test es ∷ weights_test ws ∷ processors_test es ∷ tasks_test ws ∷ []) (le→leb job.startup max_startup v.startup_limit)
      ∙ pass_skip (speeds_test es) (weights_test ws ∷ processors_test es ∷ tasks_test ws ∷ []) (each_of_lem 1 max_speed 1 es v.speeds_positive v.speeds_limit)
      ∙ pass_skip (weights_test ws) (processors_test es ∷ tasks_test ws ∷ []) (each_of_lem 0 max_weight 0 ws (λ i. omega arith) v.weights_limit)
      ∙ pass_skip (processors_test es) (tasks_test ws ∷ []) (and_both (leb 1 (length es)) (leb (length es) max_processors) (le→leb 1 (length es) v.some_processor) (le→leb (length es) max_processors v.processors_limit))
      ∙ pass_skip (tasks_test ws) [] (le→leb (length ws) max_tasks v.tasks_limit)
    where
      ws : List ℕ
      ws = job.weights

      es : List ℕ
      es = job.speeds

-- The lists are accepted exactly when they make a valid job.
pub job_accepted : {job : Job}
    → (first_refusal (job_tests job) ≡ 0 → T (holds_test job).passes → Valid job) × (Valid job → first_refusal (job_tests job) ≡ 0)
job_accepted {job} = (accepted_valid {job = job}, valid_accepted)

pub valid_holds : {job : Job} → Valid job → T (holds_test job).passes
unfolding holds_test length_test
valid_holds {job} v = le→leb (processors job) (length job.holds) v.holds_given

-- A call is accepted exactly when all its tests pass.
pub call_accepted : (job : Job) (inputs : Inputs)
    → (refusal job inputs ≡ 0 → (t : Test) → Memᴰ t (call_tests job inputs) → T t.passes)
    × (((t : Test) → Memᴰ t (call_tests job inputs) → T t.passes) → refusal job inputs ≡ 0)
unfolding refusal
call_accepted job inputs =
    (accepted_passes (call_tests job inputs) (call_numbered job inputs), passes_accepted (call_tests job inputs))

-- Where nothing is refused of two lists of tests, nothing is of either.
pub append_accepted : (ts us : List Test) → Numbered ts → first_refusal (ts ++ us) ≡ 0 → (first_refusal ts ≡ 0) × (first_refusal us ≡ 0)
append_accepted ts us n e =
    elim (ℕ_discrete (first_refusal ts) 0) [
      | yes z ↦ (z, sym (first_refusal-append ts us n z) ∙ e)
      | no z ↦ absurd (z (sym (first_refusal_before ts us z) ∙ e))
    ]

-- A property of every entry of a list.
abbrev pub Each : {A : Type 0} → (A → Type 0) → List A → Type 0
Each P [] = Unit {0}
Each P (x ∷ xs) = P x × Each P xs

-- Where nothing is refused of one kind of test, made of every input, every input has what the test says.
pub map_accepted : {A : Type 0} (P : A → Type 0) (f : A → Test) → ((a : A) → 0 < (f a).number) → ((a : A) → T (f a).passes → P a) → (xs : List A)
    → first_refusal (map f xs) ≡ 0 → Each P xs
map_accepted P f pos g [] e = tt
map_accepted P f pos g (x ∷ xs) e =
    let p : T (f x).passes = pass_head (f x) (map f xs) (pos x) e in
    (g x p, map_accepted P f pos g xs (sym (pass_skip (f x) (map f xs) p) ∙ e))

-- Tests as code takes them, where n is what the first ones give: they decide, or the others do.
module _ {n : ℕ} (ts us : List Test) (tested : n ≡ first_refusal ts) where
  pub first_decide : n ≢ 0 → n ≡ first_refusal (ts ++ us)
  first_decide h = tested ∙ sym (first_refusal_before ts us (λ z. h (tested ∙ z)))

  pub others_decide : Numbered ts → n ≡ 0 → {m : ℕ} → m ≡ first_refusal us → m ≡ first_refusal (ts ++ us)
  others_decide k z e = e ∙ sym (first_refusal-append ts us k (sym tested ∙ z))

-- The test of a list of separators passes exactly when it is a partition.
pub partition_test_lem : (job : Job) (s : List ℕ) → (T (is_partition job s) → Partition job s) × (Partition job s → T (is_partition job s))
unfolding is_partition all_kept
partition_test_lem job s = (from, to)
  where
    len : Bool
    len = eqb (length s) (suc (processors job))

    zeroth : Bool
    zeroth = eqb (at s 0) 0

    grow : Bool
    grow = all (λ p. leb (at s p) (at s (suc p))) (processors job)

    final : Bool
    final = eqb (at s (processors job)) (tasks job)

    keep : Bool
    keep = all (λ p. keeps job p (at s p) (at s (suc p))) (processors job)

    from : T (len && zeroth && grow && final && keep) → Partition job s
    from t₀ =
        let t : T (len && zeroth && grow && final) = and_left (len && zeroth && grow && final) keep t₀ in
        let u : T (len && zeroth && grow) = and_left (len && zeroth && grow) final t in
        let v : T (len && zeroth) = and_left (len && zeroth) grow u in
        record {
          count = eqb→eq (length s) (suc (processors job)) (and_left len zeroth v);
          first = eqb→eq (at s 0) 0 (and_right len zeroth v);
          grows = λ p h. leb→le (at s p) (at s (suc p)) (all-at (λ p. leb (at s p) (at s (suc p))) (processors job) (and_right (len && zeroth) grow u) p h);
          end = eqb→eq (at s (processors job)) (tasks job) (and_right (len && zeroth && grow) final t);
          kept = all-at (λ p. keeps job p (at s p) (at s (suc p))) (processors job) (and_right (len && zeroth && grow && final) keep t₀);
        }

    to : Partition job s → T (len && zeroth && grow && final && keep)
    to w =
        and_both (len && zeroth && grow && final) keep
        (and_both (len && zeroth && grow) final
        (and_both (len && zeroth) grow (and_both len zeroth (eq_test (length s) (suc (processors job)) w.count) (eq_test (at s 0) 0 w.first))
        (all_of (λ p. leb (at s p) (at s (suc p))) (processors job) (λ p h. le→leb (at s p) (at s (suc p)) (w.grows p h))))
        (eq_test (at s (processors job)) (tasks job) w.end))
        (all_of (λ p. keeps job p (at s p) (at s (suc p))) (processors job) w.kept)

-- What the tests of a plan file ask: the length; the separators of a division, where the records begin and end; true loads and speeds.
pub record Told (job : Job) (plan : PlanRecords) : Type 0 where
  pub long : plan.given ≡ plan.needed
  pub division : Partition job (separators_of job plan)
  pub begins : (p : ℕ) → p < processors job → plan.from p ≡ at (separators_of job plan) p
  pub loads : (p : ℕ) → p < processors job → plan.load p ≡ part_load job (plan.from p) (plan.to p)
  pub speeds : (p : ℕ) → p < processors job → plan.speed p ≡ speed_of job p

-- They pass exactly where all that holds.
pub plan_accepted : (job : Job) (plan : PlanRecords) → (first_refusal (plan_tests job plan) ≡ 0 → Told job plan) × (Told job plan → first_refusal (plan_tests job plan) ≡ 0)
unfolding plan_tests plan_length_test joined joined_test true_at true_test
plan_accepted job plan = (from, to)
  where
    begun : ℕ → Bool
    begun p = eqb (plan.from p) (at (separators_of job plan) p)

    loaded : ℕ → Bool
    loaded p = eqb (plan.load p) (part_load job (plan.from p) (plan.to p))

    sped : ℕ → Bool
    sped p = eqb (plan.speed p) (speed_of job p)

    tests : List Test
    tests = plan_tests job plan

    from : first_refusal tests ≡ 0 → Told job plan
    from e =
        let passes : (t : Test) → Memᴰ t tests → T t.passes = accepted_passes tests (plan_numbered job plan) e in
        let l = passes (plan_length_test plan) (Memᴰ.head refl) in
        let j = passes (joined_test job plan) (Memᴰ.tail (Memᴰ.head refl)) in
        let t = passes (true_test job plan) (Memᴰ.tail (Memᴰ.tail (Memᴰ.head refl))) in
        record {
          long = eqb→eq plan.given plan.needed l;
          division = (partition_test_lem job (separators_of job plan)).0 (and_right (all begun (processors job)) (is_partition job (separators_of job plan)) j);
          begins = λ p h. eqb→eq _ _ (all-at begun (processors job) (and_left (all begun (processors job)) (is_partition job (separators_of job plan)) j) p h);
          loads = λ p h. eqb→eq _ _ (and_left (loaded p) (sped p) (all-at (λ p. loaded p && sped p) (processors job) t p h));
          speeds = λ p h. eqb→eq _ _ (and_right (loaded p) (sped p) (all-at (λ p. loaded p && sped p) (processors job) t p h));
        }

    to : Told job plan → first_refusal tests ≡ 0
    to w =
        pass_skip (plan_length_test plan) (joined_test job plan ∷ true_test job plan ∷ []) (eq_test plan.given plan.needed w.long)
        ∙ pass_skip (joined_test job plan) (true_test job plan ∷ [])
        (and_both (all begun (processors job)) (is_partition job (separators_of job plan))
        (all_of begun (processors job) (λ p h. eq_test _ _ (w.begins p h))) ((partition_test_lem job (separators_of job plan)).1 w.division))
        ∙ pass_skip (true_test job plan) []
        (all_of (λ p. loaded p && sped p) (processors job) (λ p h. and_both (loaded p) (sped p) (eq_test _ _ (w.loads p h)) (eq_test _ _ (w.speeds p h))))
        ∙ (unfold first_refusal in refl)
