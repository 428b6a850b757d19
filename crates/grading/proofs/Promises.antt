-- What a caller may read off a grade: who is accepted, what best and valid mean, and what our own files get.
-- Assumes nothing.
use Prim.Native.Nat.{ℕ, ◌≤◌}
use mathlib.Core.Path.{◌≡◌, refl, sym, ap, ◌∙◌}
use mathlib.Core.Bool.{Bool, true, false, cond}
use mathlib.Core.List.{List, [], ◌∷◌, ◌++◌, Memᴰ}
use mathlib.Core.Logic.{◌≢◌, ◌↔◌}
use native.Mathlib.Omega.{arith}
use native.Mathlib.Decide.{dec_le}
use lib.Dec.{T}
use lib.ListN.{length, drop}
use Rattle.std.specs.Prelude.{Result, Ok}
use Rattle.bound.specs.Order.{◌≼◌, ◌≺◌}
use Rattle.chain.specs.declared.Refusal.{Refusal}
use Rattle.chain.specs.Numbers.{answered}
use Rattle.chain.specs.Job.{Job, Valid, enough, Partition, bottleneck}
use Rattle.chain.specs.Plan.{plan_of}
use Rattle.chain.specs.Grade.{unbeaten}
use Rattle.chain.specs.Refusal.{Test, separators_of, startup_test, speeds_test, weights_test, processors_test, tasks_test, holds_test, length_test, plan_length_test, joined_test, true_test, first_refusal, FirstFailing, job_tests, nothing, plan_tests, call_tests, refusal}
use Rattle.chain.proofs.Tests.{T_of, T_true}
use Rattle.chain.proofs.Parts.{valid_proper, valid_plannable}
use Rattle.chain.proofs.Demand.{plan_of_best}
use Rattle.chain.proofs.Grade.{unbeaten_exactly, plan_unbeaten, beaten_exactly}
use Rattle.chain.proofs.Refusals.{Numbered, numbered_nil, numbered_cons, call_numbered, plan_accepted, append_accepted, others_decide, gives, given_number, numbers-append, numbers_behind, first_refusal_same}
use Rattle.fields.specs.Field.{Bytes}
use Rattle.refusals.specs.Answers.{said_by}
use Rattle.refusals.proofs.Accepted.{accepted}
use Rattle.refusals.proofs.Answering.{answer_said_lem, number_of_lem}
use Rattle.refusals.proofs.Known.{refusal_known}
use Rattle.refusals.proofs.Tests.{length_short, length-enough}
use Rattle.refusals.proofs.Steps.{passes}
use Rattle.refusals.proofs.Lent.{lent-front, lent_refused}
use Rattle.jobs.specs.Parse.{job_in, file_tests, file_refusal}
use Rattle.jobs.proofs.Calls.{file_numbered, valid_lists}
use Rattle.jobs.proofs.Promises.{from_two, file_in}
use Rattle.jobs.proofs.RoundTrip.{accepted_valid}
use Rattle.planfile.specs.PlanFile.{plan_bytes, TruePlan, plan_read, grade_inputs}
use Rattle.planfile.proofs.Reading.{read_back, file_told, true_exactly}
use Rattle.grading.specs.declared.grades.Grade.{Grade}
use Rattle.grading.specs.Answers.{grade_values, graded_said, grade_of, read_grade, grade_answer}
use Rattle.grading.specs.Files.{grade_tests, grade_refusal, file_grade, lent_grade, host_grade, host_grades}

-- Room for a grade.
room_enough : (lent : ℕ) → first_refusal (length_test 1 lent ∷ []) ≡ 0 → 1 ≤ lent
room_enough lent e =
    elim (dec_le 1 lent) [ yes h ↦ h | no h ↦ let z = length_short 1 lent (omega arith) in absurd (omega (arith, e, z)) ]

-- By lists: the answer says the grade, or the refusal's number;
module _ (job : Job) (plan : List ℕ) where
  pub grade_said : graded_said (grade_answer job plan) ≡ said_by (refusal job (grade_inputs job plan)) (grade_values (read_grade job plan))
  unfolding grade_answer
  grade_said = answer_said_lem (refusal_known job (grade_inputs job plan)) grade_values (read_grade job plan)

  pub grade_number : (graded_said (grade_answer job plan)).number ≡ refusal job (grade_inputs job plan)
  grade_number = number_of_lem (grade_values (read_grade job plan)) grade_said

  -- 0, 16, or one of 5 to 9, 12, 11 and 13;
  pub grade_numbers : Memᴰ (graded_said (grade_answer job plan)).number (0 ∷ 16 ∷ 5 ∷ 6 ∷ 7 ∷ 8 ∷ 9 ∷ 12 ∷ 11 ∷ 13 ∷ [])
  unfolding refusal call_tests job_tests startup_test speeds_test weights_test processors_test tasks_test holds_test length_test plan_length_test joined_test true_test
  grade_numbers =
      given_number (16 ∷ 5 ∷ 6 ∷ 7 ∷ 8 ∷ 9 ∷ 12 ∷ 11 ∷ 13 ∷ []) (call_tests job (grade_inputs job plan)) grade_number tt

  -- that of the first test that fails.
  pub grade_gives : {n : ℕ} → n ≢ 0 → ((graded_said (grade_answer job plan)).number ≡ n) ↔ FirstFailing (call_tests job (grade_inputs job plan)) n
  unfolding refusal
  grade_gives h = gives (call_tests job (grade_inputs job plan)) grade_number h

  -- Nothing is refused exactly where nothing of the job is, and nothing of the plan file.
  pub grade_parts : (refusal job (grade_inputs job plan) ≡ 0) ↔ ((refusal job nothing ≡ 0) × (first_refusal (plan_tests job (plan_read job plan)) ≡ 0))
  unfolding refusal call_tests job_tests plan_tests
  grade_parts = (
    λ e. append_accepted (call_tests job nothing) (plan_tests job (plan_read job plan)) (call_numbered job nothing) e,
    λ (e, f). sym (others_decide (call_tests job nothing) (plan_tests job (plan_read job plan)) refl (call_numbered job nothing) e (sym f)),
  )

  -- Accepted exactly where the job is within the limits and the file is the plan file of some division of it.
  pub grade_accepts : Bytes plan → (refusal job (grade_inputs job plan) ≡ 0) ↔ (Valid job × TruePlan job plan)
  grade_accepts b = (
    λ e. let v = (accepted (grade_parts.0 e).0).valid in (v, (true_exactly v b).0 (grade_parts.0 e).1),
    λ (v, t). grade_parts.1 (sym (valid_lists job v), (true_exactly v b).1 t),
  )

  -- Where nothing refuses it, the answer is the grade of the separators that are read.
  pub grade_accepted : refusal job (grade_inputs job plan) ≡ 0 → grade_answer job plan ≡ Ok (grade_of job (separators_of job (plan_read job plan)))
  unfolding grade_answer answered read_grade
  grade_accepted e = ap (λ (n : ℕ). answered n (grade_of job (separators_of job (plan_read job plan)))) e

-- Best: no division has a smaller bottleneck. Valid: some division has.
module _ {job : Job} (v : Valid job) (s : List ℕ) where
  pub best_exactly : (grade_of job s ≡ Grade.Best) ↔ ((t : List ℕ) → Partition job t → bottleneck job s ≼ bottleneck job t)
  unfolding grade_of
  best_exactly = (
    λ e. (unbeaten_exactly (valid_proper v) s).0 (T_of (is_best (unbeaten job s) e)),
    λ h. ap (λ (b : Bool). cond b Grade.Best Grade.Valid) (T_true (unbeaten job s) ((unbeaten_exactly (valid_proper v) s).1 h)),
  )
    where
      is_best : (b : Bool) → cond b Grade.Best Grade.Valid ≡ Grade.Best → b ≡ true
      is_best true e = refl
      is_best false e = absurd (cc e)

  pub valid_exactly : T (enough job) → (grade_of job s ≡ Grade.Valid) ↔ ((t : List ℕ) × Partition job t × (bottleneck job t ≺ bottleneck job s))
  unfolding grade_of
  valid_exactly h = (
    λ e. (beaten_exactly (valid_plannable v h) s).0 (is_valid (unbeaten job s) e),
    λ x. ap (λ (b : Bool). cond b Grade.Best Grade.Valid) ((beaten_exactly (valid_plannable v h) s).1 x),
  )
    where
      is_valid : (b : Bool) → cond b Grade.Best Grade.Valid ≡ Grade.Valid → b ≡ false
      is_valid true e = absurd (cc e)
      is_valid false e = refl

-- The writer's file of any division is accepted, and has the grade of that division;
module _ {job : Job} (v : Valid job) {s : List ℕ} (w : Partition job s) where
  pub division_accepted : refusal job (grade_inputs job (plan_bytes job s)) ≡ 0
  division_accepted =
      (grade_parts job (plan_bytes job s)).1 (sym (valid_lists job v), (plan_accepted job (plan_read job (plan_bytes job s))).1 (file_told v w))

  pub division_graded : grade_answer job (plan_bytes job s) ≡ Ok (grade_of job s)
  division_graded = grade_accepted job (plan_bytes job s) division_accepted ∙ ap (λ (t : List ℕ). Ok (grade_of job t)) (read_back v w)

-- that of our own plan is best.
pub plan_graded : {job : Job} → Valid job → T (enough job) → grade_answer job (plan_bytes job (plan_of job)) ≡ Ok Grade.Best
unfolding grade_of
plan_graded {job} v e =
    division_graded v (plan_of_best (valid_plannable v e)).partition
    ∙ ap (λ (b : Bool). Ok (cond b Grade.Best Grade.Valid)) (plan_unbeaten (valid_plannable v e))

-- By files: 0, or one of 2 to 9, 15, 16, 12, 11 and 13; that of the first test that fails.
module _ (file plan : List ℕ) (lent : ℕ) where
  abbrev records : List Test
  records = plan_tests (job_in file) (plan_read (job_in file) plan)

  pub host_grade_numbers : Memᴰ (host_grade file plan lent) (0 ∷ 2 ∷ 3 ∷ 4 ∷ 15 ∷ 5 ∷ 6 ∷ 16 ∷ 7 ∷ 8 ∷ 9 ∷ 12 ∷ 11 ∷ 13 ∷ [])
  unfolding host_grade grade_refusal grade_tests plan_tests length_test plan_length_test joined_test true_test
  host_grade_numbers =
      given_number (from_two ++ 12 ∷ 11 ∷ 13 ∷ []) (grade_tests file plan (lent ∷ [])) refl
      (numbers-append (from_two ++ 12 ∷ 11 ∷ 13 ∷ []) (file_tests file) (length_test 1 lent ∷ records)
      (numbers_behind from_two (12 ∷ 11 ∷ 13 ∷ []) (file_tests file) (file_in file)) tt)

  pub host_grade_gives : {n : ℕ} → n ≢ 0 → (host_grade file plan lent ≡ n) ↔ FirstFailing (grade_tests file plan (lent ∷ [])) n
  unfolding host_grade grade_refusal
  host_grade_gives h = gives (grade_tests file plan (lent ∷ [])) refl h

  -- Nothing is refused exactly where the job file is accepted, there is room for the grade, and nothing of the plan file is refused.
  numbered_room : Numbered (length_test 1 lent ∷ [])
  unfolding length_test
  numbered_room = numbered_cons (omega arith) numbered_nil

  pub host_parts : (host_grade file plan lent ≡ 0) ↔ ((file_refusal file ≡ 0) × (1 ≤ lent) × (first_refusal records ≡ 0))
  unfolding host_grade grade_refusal grade_tests file_refusal
  host_parts = (there, back)
    where
      there : first_refusal (file_tests file ++ (length_test 1 lent ∷ records)) ≡ 0 → (first_refusal (file_tests file) ≡ 0) × (1 ≤ lent) × (first_refusal records ≡ 0)
      there e =
          let a = append_accepted (file_tests file) (length_test 1 lent ∷ records) (file_numbered file) e in
          let b = append_accepted (length_test 1 lent ∷ []) records numbered_room a.1 in
          (a.0, room_enough lent b.0, b.1)

      back : (first_refusal (file_tests file) ≡ 0) × (1 ≤ lent) × (first_refusal records ≡ 0) → first_refusal (file_tests file ++ (length_test 1 lent ∷ records)) ≡ 0
      back (e, h, f) =
          sym
          (others_decide (file_tests file) (length_test 1 lent ∷ records) refl (file_numbered file) e
          (others_decide (length_test 1 lent ∷ []) records (length-enough 1 lent h) numbered_room refl (sym f)))

  pub host_grade_accepts : Bytes plan → (host_grade file plan lent ≡ 0) ↔ ((file_refusal file ≡ 0) × (1 ≤ lent) × TruePlan (job_in file) plan)
  host_grade_accepts b = (
    λ e. let p = host_parts.0 e in (p.0, p.1, (true_exactly (accepted_valid file p.0) b).0 p.2),
    λ (e, h, t). host_parts.1 (e, h, (true_exactly (accepted_valid file e) b).1 t),
  )

  -- The C call refuses nothing that the call by lists accepts of the job that the file holds,
  pub host_grade_same : host_grade file plan lent ≡ 0 → refusal (job_in file) (grade_inputs (job_in file) plan) ≡ 0
  host_grade_same e =
      let p = host_parts.0 e in
      (grade_parts (job_in file) plan).1 (sym (valid_lists (job_in file) (accepted_valid file p.0)), p.2)

  pub host_grade_takes : file_refusal file ≡ 0 → 1 ≤ lent → refusal (job_in file) (grade_inputs (job_in file) plan) ≡ 0 → host_grade file plan lent ≡ 0
  host_grade_takes e h f = host_parts.1 (e, h, ((grade_parts (job_in file) plan).0 f).1)

-- and leaves its grade in the first byte; a refusal leaves the buffer.
module _ (file plan grade : List ℕ) where
  one_value : (g : Grade) → length (grade_values g) ≡ 1
  one_value Grade.Best = refl
  one_value Grade.Valid = refl

  pub host_grade_writes : host_grade file plan (length grade) ≡ 0 → host_grades file plan grade ≡ (graded_said (grade_answer (job_in file) plan)).values ++ drop 1 grade
  unfolding host_grades read_grade
  host_grade_writes e =
      lent-front (grade_values (read_grade (job_in file) plan)) grade e (one_value (read_grade (job_in file) plan))
      ∙ ap (λ (answer : Result Grade Refusal). (graded_said answer).values ++ drop 1 grade)
      (sym (grade_accepted (job_in file) plan (host_grade_same file plan (length grade) e)))

  pub host_grade_keeps : host_grade file plan (length grade) ≢ 0 → host_grades file plan grade ≡ grade
  unfolding host_grades
  host_grade_keeps h = lent_refused h (grade_values (read_grade (job_in file) plan)) grade

-- A caller who lends a byte makes the tests of one who lends nothing, and gets the same grade.
pub file_grade_lent : (file plan : List ℕ) → lent_grade file plan 1 ≡ file_grade file plan
unfolding lent_grade file_grade grade_refusal grade_tests length_test
file_grade_lent file plan =
    ap (λ (n : ℕ). answered n (read_grade (job_in file) plan)) (first_refusal_same (file_tests file) (length_test 1 1 ∷ tests) tests (passes 9 tests refl))
  where
    tests : List Test
    tests = plan_tests (job_in file) (plan_read (job_in file) plan)
