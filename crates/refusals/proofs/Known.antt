-- The number that tests give is 0 or a refusal's.
-- Assumes nothing.
use Prim.Native.Nat.{ℕ, zero, suc, ◌≤◌}
use mathlib.Core.Path.{refl, sym, subst}
use mathlib.Core.Bool.{Bool, true, false, cond}
use mathlib.Core.List.Memᴰ
use mathlib.Core.List.{List, [], ◌∷◌, ◌++◌, map, Memᴰ}
use mathlib.Core.Logic.{inl, inr}
use native.Mathlib.Omega.{arith}
use lib.Dec.{eqb, eqb→eq}
use Rattle.chain.specs.Lists.{all}
use Rattle.chain.specs.Numbers.{code_of, refusal_of}
use Rattle.chain.specs.Job.{Job}
use Rattle.chain.specs.Refusal.{Test, method_test, startup_test, speeds_test, weights_test, processors_test, tasks_test, row_test, length_test, holds_test}
use Rattle.chain.specs.Refusal.{enough_test, free_test, bound_test, partition_test, PlanRecords, plan_length_test, joined_test, true_test}
use Rattle.chain.specs.Refusal.{first_refusal, job_tests, Inputs, plan_tests, call_tests, refusal}
use Rattle.chain.proofs.Indices.{all-at}
use Rattle.refusals.proofs.Answering.{Known}

-- Each number up to 18 is so.
pub known_most : (n : ℕ) → n ≤ 18 → Known n
unfolding all code_of refusal_of
known_most zero h k = absurd (k refl)
known_most (suc n) h k = eqb→eq (code_of (refusal_of (suc n))) (suc n) (all-at (λ i. eqb (code_of (refusal_of (suc i))) (suc i)) 18 tt n (omega arith))

-- Every test of the list has the number of a refusal.
pub record KnownTests (ts : List Test) : Type 0 where
  pub at_most : (t : Test) → Memᴰ t ts → t.number ≤ 18

pub tests_nil : KnownTests []
tests_nil = record { at_most = λ t m. absurd (Memᴰ.not-nil m) }

pub tests_cons : {t : Test} {ts : List Test} → t.number ≤ 18 → KnownTests ts → KnownTests (t ∷ ts)
tests_cons {t} {ts} h n =
    record { at_most = λ u m. elim (Memᴰ.cases_cons m) [ inl e ↦ subst (λ (x : Test). x.number ≤ 18) (sym e) h | inr k ↦ n.at_most u k ] }

pub tests_append : {ts us : List Test} → KnownTests ts → KnownTests us → KnownTests (ts ++ us)
tests_append {ts} {us} n k =
    record { at_most = λ t m. elim (Memᴰ.append_cases ts m) [ inl h ↦ n.at_most t h | inr h ↦ k.at_most t h ] }

pub tests_map : {A : Type 0} (f : A → Test) → ((a : A) → (f a).number ≤ 18) → (l : List A) → KnownTests (map f l)
tests_map f h l =
    record { at_most = λ t m. let r = Memᴰ.of_map f l m in subst (λ (x : Test). x.number ≤ 18) r.2 (h r.0) }

-- Such tests give 0 or the number of a refusal.
first_at_most : (ts : List Test) → KnownTests ts → first_refusal ts ≤ 18
unfolding first_refusal
first_at_most [] k = omega arith
first_at_most (t ∷ ts) k =
    go t.passes (k.at_most t (Memᴰ.head refl)) (first_at_most ts (record { at_most = λ u m. k.at_most u (Memᴰ.tail m) }))
  where
    go : (b : Bool) → t.number ≤ 18 → first_refusal ts ≤ 18 → cond b (first_refusal ts) t.number ≤ 18
    go true h l = l
    go false h l = h

pub known_first : (ts : List Test) → KnownTests ts → Known (first_refusal ts)
known_first ts k = known_most (first_refusal ts) (first_at_most ts k)

-- The tests of a job, those of a plan file, and those of a call.
pub job_known : (job : Job) → KnownTests (job_tests job)
unfolding job_tests startup_test speeds_test weights_test processors_test tasks_test
job_known job =
    tests_cons (omega arith) (tests_cons (omega arith) (tests_cons (omega arith) (tests_cons (omega arith) (tests_cons (omega arith) tests_nil))))

pub plan_known_tests : (job : Job) (plan : PlanRecords) → KnownTests (plan_tests job plan)
unfolding plan_tests plan_length_test joined_test true_test
plan_known_tests job plan = tests_cons (omega arith) (tests_cons (omega arith) (tests_cons (omega arith) tests_nil))

pub call_known : (job : Job) (inputs : Inputs) → KnownTests (call_tests job inputs)
unfolding call_tests method_test row_test holds_test length_test enough_test free_test bound_test plan_length_test partition_test joined_test true_test
call_known job inputs =
    tests_append
    (tests_append
    (tests_append
    (tests_append
    (tests_append
    (tests_append
    (tests_append
    (tests_append
    (tests_append (tests_append (tests_map method_test (λ m. omega arith) inputs.methods) (job_known job))
    (tests_map row_test (λ es. omega arith) inputs.rows))
    (tests_cons (omega arith) (tests_map (λ l. length_test l.needed l.given) (λ l. omega arith) inputs.lists)))
    (tests_map enough_test (λ j. omega arith) inputs.keeping)) (tests_map free_test (λ j. omega arith) inputs.free))
    (tests_map bound_test (λ B. omega arith) inputs.bounds)) (tests_map plan_length_test (λ s. omega arith) inputs.plans))
    (tests_map (partition_test job) (λ s. omega arith) inputs.divisions))
    (tests_map (joined_test job) (λ s. omega arith) inputs.plans)) (tests_map (true_test job) (λ s. omega arith) inputs.plans)

-- The number that a call by lists is refused with is 0 or a refusal's.
pub refusal_known : (job : Job) (inputs : Inputs) → Known (refusal job inputs)
unfolding refusal
refusal_known job inputs = known_first (call_tests job inputs) (call_known job inputs)
