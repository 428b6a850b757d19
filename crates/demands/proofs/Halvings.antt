-- What halving the row gives: `halvings`.
-- Assumes nothing.
use Prim.Native.Nat.{ℕ, suc, ◌≤◌}
use mathlib.Core.Path.{◌≡◌, refl, sym, ap, subst, ◌∙◌}
use mathlib.Core.Bool.{Bool, true, false, not, ◌||◌}
use mathlib.Core.List.Memᴰ
use mathlib.Core.List.{List, [], ◌∷◌, ◌++◌, Memᴰ}
use mathlib.Core.Logic.{◌↔◌, inl, inr}
use native.Mathlib.Omega.{arith}
use native.Mathlib.Decide.{ℕ_discrete}
use lib.Dec.{T, eqb}
use borrow.Author.Tests.{eq-eqb}
use lib.ListN.{length}
use Rattle.std.specs.Prelude.{Ok}
use Rattle.chain.specs.Job.{Job, Valid, Partition, part_load, at, bottleneck}
use Rattle.chain.specs.Halving.{Halvable}
use Rattle.chain.specs.Halving as splitting
use Rattle.chain.specs.Refusal.{Test, startup_test, speeds_test, weights_test, processors_test, tasks_test, row_test}
use Rattle.chain.specs.Refusal.{length_test, holds_test, free_test, first_refusal, job_tests, separators_needed}
use Rattle.chain.specs.Refusal.{halving_inputs, call_tests, refusal}
use Rattle.chain.proofs.Numbers.{answered_ok}
use Rattle.chain.proofs.Refusals.{pass_skip, first_refusal-append, first_refusal_before, refused_first, one_of}
use Rattle.chain.proofs.Refusals.{given_number, job_numbered, job_accepted}
use Rattle.chain.proofs.Halving.{row_test_lem, halving_one}
use Rattle.refusals.specs.Inputs.{heuristic_inputs}
use Rattle.refusals.proofs.Accepted.{accepted}
use Rattle.calls.specs.Answers.{halving_answer}
use Rattle.calls.proofs.Promises.{heuristic-number, halving-number, halving_promise}
use Rattle.demands.specs.Call.{ByLists, job_by, Heuristic, Halving}
use Rattle.demands.specs.Demands.{number, Accepts}
use Rattle.demands.specs.Halvings.{HalvedRow, Halvings}

halved : (g : ByLists) (s : List ℕ) → Accepts (Halving g s) → HalvedRow (job_by g) s
unfolding halving_answer
halved g s e =
    let job = job_by g in
    let bound = bottleneck job (splitting.halving job) in
    let answer : halving_answer job s ≡ Ok bound = sym (answered_ok bound (sym (halving-number job s) ∙ e)) in
    let h = halving_promise job s answer in
    record {
      bound = bound;
      answer = answer;
      separators = h.front;
      partition = subst (Partition job) (sym h.front) h.partition;
      measured = h.measured ∙ ap (bottleneck job) (sym h.front);
      greatest =
          λ p l. subst (λ (xs : List ℕ). part_load job (at xs p) (at xs (suc p)) ≤ bound.load) (sym h.front)
          (h.greatest p l);
      light = h.light;
      least = h.least;
      alone = λ k. h.front ∙ halving_one job h.row k;
    }

-- The tests of the call: those of the job, then the row's, those of the lists and that of the holds.
module _ (job : Job) (lent : ℕ) where
  lists_and_holds : List Test
  lists_and_holds = holds_test job ∷ length_test (separators_needed job) lent ∷ free_test job ∷ []

  row_and_list : List Test
  row_and_list = row_test job.speeds ∷ lists_and_holds

  tests_are : refusal job (halving_inputs job lent) ≡ first_refusal (job_tests job ++ row_and_list)
  unfolding refusal call_tests job_tests row_and_list lists_and_holds
  tests_are = refl

  -- Where the job is within its limits, the row and those behind decide.
  past_job : first_refusal (job_tests job) ≡ 0 → refusal job (halving_inputs job lent) ≡ first_refusal row_and_list
  past_job z = tests_are ∙ first_refusal-append (job_tests job) row_and_list (job_numbered job) z

  past_row : first_refusal (job_tests job) ≡ 0 → Halvable job.speeds
      → refusal job (halving_inputs job lent) ≡ first_refusal lists_and_holds
  unfolding row_and_list
  past_row z row = past_job z ∙ pass_skip (row_test job.speeds) lists_and_holds ((row_test_lem job.speeds).1 row)

  row_fails : first_refusal (job_tests job) ≡ 0 → (T (row_test job.speeds).passes → ⊥)
      → first_refusal (job_tests job ++ row_and_list) ≡ 14
  unfolding row_and_list row_test
  row_fails z none =
      refused_first (job_tests job) (row_test job.speeds) lists_and_holds (job_numbered job) z
      (go (row_test job.speeds).passes none)
    where
      go : (b : Bool) → (T b → ⊥) → b ≡ false
      go true h = absurd (h tt)
      go false h = refl

  -- So of the heuristic, without the row's test.
  list_is : refusal job (heuristic_inputs job lent) ≡ first_refusal (job_tests job ++ lists_and_holds)
  unfolding refusal call_tests job_tests lists_and_holds
  list_is = refl

  past_list : first_refusal (job_tests job) ≡ 0
      → refusal job (heuristic_inputs job lent) ≡ first_refusal lists_and_holds
  past_list z = list_is ∙ first_refusal-append (job_tests job) lists_and_holds (job_numbered job) z

  -- Once the job is valid and the row can be halved, the two calls give one number.
  same_list_lem : Valid job → Halvable job.speeds
      → refusal job (halving_inputs job lent) ≡ refusal job (heuristic_inputs job lent)
  same_list_lem v row = let z = job_accepted.1 v in past_row z row ∙ sym (past_list z)

accepts : (g : ByLists) (s : List ℕ) → Accepts (Halving g s) ↔ (Accepts (Heuristic g s) × Halvable g.speeds)
accepts g s = (
  λ e.
      let z = sym (halving-number job s) ∙ e in
      let a = accepted z in
      (heuristic-number job s ∙ sym (same_list_lem job (length s) a.valid a.rows.0) ∙ z, a.rows.0),
  λ (e, row).
      let z = sym (heuristic-number job s) ∙ e in
      halving-number job s ∙ same_list_lem job (length s) (accepted z).valid row ∙ z,
)
  where
    job : Job
    job = job_by g

-- A number that is none of these is none of them.
pub not_one : (n : ℕ) (ns : List ℕ) → T (not (one_of ns n)) → Memᴰ n ns → ⊥
not_one n [] t m = Memᴰ.not-nil m
not_one n (k ∷ ks) t m =
    elim (Memᴰ.cases_cons m) [ inl e ↦ equal (eqb n k) (eq-eqb n k e) t | inr i ↦ not_one n ks (other (eqb n k) t) i ]
  where
    equal : (b : Bool) → b ≡ true → T (not (b || one_of ks n)) → ⊥
    equal true e u = u
    equal false e u = let z : ◌≡◌ {A = ℕ} 0 1 = cc in omega arith

    other : (b : Bool) → T (not (b || one_of ks n)) → T (not (one_of ks n))
    other true u = absurd u
    other false u = u

-- 14 is no number of the job's tests, nor of those behind the row's.
job_number : (job : Job) → first_refusal (job_tests job) ≡ 14 → ⊥
unfolding job_tests startup_test speeds_test weights_test processors_test tasks_test
job_number job e =
    not_one 14 (0 ∷ 16 ∷ 5 ∷ 6 ∷ 7 ∷ 8 ∷ []) tt (given_number (16 ∷ 5 ∷ 6 ∷ 7 ∷ 8 ∷ []) (job_tests job) (sym e) tt)

list_number : (job : Job) (lent : ℕ) → first_refusal (lists_and_holds job lent) ≡ 14 → ⊥
unfolding lists_and_holds holds_test length_test free_test
list_number job lent e =
    not_one 14 (0 ∷ 9 ∷ 18 ∷ []) tt (given_number (9 ∷ 18 ∷ []) (lists_and_holds job lent) (sym e) tt)

refuses : (g : ByLists) (s : List ℕ) → (number (Halving g s) ≡ 14)
    ↔ ((first_refusal (job_tests (job_by g)) ≡ 0) × (Halvable g.speeds → ⊥))
refuses g s = (
  λ e. let z = within (sym (halving-number job s) ∙ e) in (
    z,
    λ row. list_number job (length s) (sym (past_row job (length s) z row) ∙ sym (halving-number job s) ∙ e),
  ),
  λ (z, none). halving-number job s ∙ tests_are job (length s) ∙ fourteen z none,
)
  where
    job : Job
    job = job_by g

    fourteen : first_refusal (job_tests job) ≡ 0 → (Halvable g.speeds → ⊥)
        → first_refusal (job_tests job ++ row_and_list job (length s)) ≡ 14
    fourteen z none = row_fails job (length s) z (λ t. none ((row_test_lem g.speeds).0 t))

    within : refusal job (halving_inputs job (length s)) ≡ 14 → first_refusal (job_tests job) ≡ 0
    within e =
        elim (ℕ_discrete (first_refusal (job_tests job)) 0) [
          | yes z ↦ z
          | no z ↦
              absurd (job_number job (sym (first_refusal_before (job_tests job) (row_and_list job (length s)) z)
              ∙ sym (tests_are job (length s)) ∙ e))
        ]

pub halvings : Halvings
halvings = record { halved = halved; accepted = accepts; refused = refuses }
