-- What grading answers at each of its ends.
-- Assumes nothing.
use Prim.Native.Nat.{ℕ, suc, ◌+◌, ◌≤◌, ◌<◌}
use mathlib.Core.Path.{◌≡◌, refl, sym, ap, ap₂, subst, ◌∙◌}
use mathlib.Core.Bool.{Bool, true, false, ◌&&◌, cond}
use mathlib.Core.List.{List, [], ◌∷◌, ◌++◌}
use mathlib.Core.Logic.{◌≢◌}
use native.Mathlib.Omega.{arith}
use native.Mathlib.Decide.{dec_le}
use lib.Dec.{T, eqb, eqb→eq}
use lib.ListN.{length, take, drop, set, get_or-append}
use borrow.Author.Tests.{ne_eqb, eq-eqb}
use Rattle.std.specs.Prelude.{Result, Ok, Err, IsErrAnd}
use Rattle.chain.specs.declared.Refusal.{Refusal}
use Rattle.chain.specs.declared.Refusal.TheVariants.{NoPartition, PlanLength, UntruePlan}
use Rattle.chain.specs.Numbers.{code_of, refusal_of, refused, answered}
use Rattle.chain.specs.Lists.{all}
use Rattle.chain.specs.Job.{Job, processors, speed_of, part_load, at, Partition}
use Rattle.chain.specs.Refusal.{Test, PlanRecords, separators_of, is_partition, length_test, plan_length_test, joined, joined_test, true_at, true_test, test, first_refusal, job_tests, nothing, plan_tests, call_tests, refusal}
use Rattle.chain.proofs.Numbers.{answered_err, err_nonzero}
use Rattle.chain.proofs.Tests.{T_of}
use Rattle.chain.proofs.Indices.{all-at, all_same}
use Rattle.chain.proofs.Refusals.{Numbered, numbered_nil, numbered_cons, call_numbered, partition_test_lem, first_decide, others_decide, append_accepted}
use Rattle.parts.proofs.Front.{taken}
use Rattle.refusals.specs.Inputs.{plan_needed}
use Rattle.refusals.specs.Answers.{lent_after}
use Rattle.refusals.proofs.Steps.{fails, passes}
use Rattle.refusals.proofs.Tests.{length_short}
use Rattle.refusals.proofs.Lent.{lent_kept, lent_accepted}
use Rattle.refusals.proofs.Answering.{Known, passed_on, answer_refused}
use Rattle.refusals.proofs.Known.{tests_cons, tests_append, known_first, plan_known_tests}
use Rattle.jobs.specs.Parse.{job_in, file_tests, file_refusal}
use Rattle.jobs.proofs.Calls.{file_numbered, file_known}
use Rattle.planfile.specs.PlanFile.{plan_read}
use Rattle.planfile.proofs.Reading.{read_length, read_next}
use Rattle.grading.specs.declared.grades.Grade.{Grade}
use denote.Enum.Declared.{tag_of}
use Rattle.grading.specs.contracts.grades.Grade.{the_type}
use Rattle.grading.specs.Inner.{tells_at, tells, told_grade}
use Rattle.grading.specs.Answers.{grade_values, grade_of, read_grade, plan_grade, grade_answer}
use Rattle.grading.specs.Files.{grade_tests, grade_refusal, lent_grade, host_grade, host_grades}

-- A refusal by its number.
refused_by : {n : ℕ} (e : Refusal) (g : Grade) → n ≡ code_of e → Err e ≡ answered n g
unfolding refused
refused_by e g h = answered_err {A = Grade} {B = Grade} {r = Err e} g refl (sym h)

-- Loads and speeds held against the separators, once these are taken.
pub told_untrue : (job : Job) (s plan : List ℕ) → false ≡ tells job s plan → Err UntruePlan ≡ told_grade job s plan
unfolding told_grade
told_untrue job s plan t = ap (λ (b : Bool). cond b (Ok (grade_of job (take (suc (processors job)) s))) (Err UntruePlan)) t

pub told_true : (job : Job) (s plan : List ℕ) {g : Grade} → g ≡ grade_of job (take (suc (processors job)) s) → true ≡ tells job s plan
    → Ok g ≡ told_grade job s plan
unfolding told_grade
told_true job s plan e t =
    ap Ok e ∙ ap (λ (b : Bool). cond b (Ok (grade_of job (take (suc (processors job)) s))) (Err UntruePlan)) t

module _ (job : Job) (plan : List ℕ) where
  abbrev file : PlanRecords
  file = plan_read job plan

  -- 12.
  pub grade_length : (length plan ≡ plan_needed job → ⊥) → Err PlanLength ≡ plan_grade job plan
  unfolding plan_grade plan_tests plan_length_test code_of
  grade_length h =
      refused_by PlanLength (read_grade job plan) (fails 12 (joined_test job file ∷ true_test job file ∷ []) (ne_eqb (length plan) (plan_needed job) h))

  module _ (long : length plan ≡ plan_needed job) where
    past_length : first_refusal (plan_tests job file) ≡ first_refusal (joined_test job file ∷ true_test job file ∷ [])
    unfolding plan_tests plan_length_test
    past_length = passes 12 (joined_test job file ∷ true_test job file ∷ []) (eq-eqb (length plan) (plan_needed job) long)

    -- 11, of a record that does not begin where the one before ends,
    pub grade_gap : false ≡ joined job file → Err NoPartition ≡ plan_grade job plan
    unfolding plan_grade joined_test code_of
    grade_gap j =
        refused_by NoPartition (read_grade job plan)
        (past_length ∙ fails 11 (true_test job file ∷ []) (ap (λ (c : Bool). c && is_partition job (separators_of job file)) (sym j)))

    module _ (j : true ≡ joined job file) (xs l : List ℕ) (is : xs ≡ separators_of job file ++ l) where
      pub front_is : take (suc (processors job)) xs ≡ separators_of job file
      front_is = taken (separators_of job file) l (read_length job file) is

      -- of separators that are no division,
      pub grade_no_division : false ≡ is_partition job (take (suc (processors job)) xs) → Err NoPartition ≡ plan_grade job plan
      unfolding plan_grade joined_test code_of
      grade_no_division d =
          refused_by NoPartition (read_grade job plan)
          (past_length ∙ fails 11 (true_test job file ∷ []) (ap₂ (λ (x y : Bool). x && y) (sym j) (ap (is_partition job) (sym front_is) ∙ sym d)))

      pub front_division : true ≡ is_partition job (take (suc (processors job)) xs) → Partition job (take (suc (processors job)) xs)
      front_division d = (partition_test_lem job (take (suc (processors job)) xs)).0 (T_of (sym d))

      begins : (p : ℕ) → p < processors job → file.from p ≡ at (separators_of job file) p
      begins p h =
          unfold joined in
          eqb→eq _ _ (all-at (λ p. eqb (file.from p) (at (separators_of job file) p)) (processors job) (T_of (sym j)) p h)

      at_front : (p : ℕ) → p ≤ processors job → at xs p ≡ at (separators_of job file) p
      at_front p h =
          ap (λ (l : List ℕ). at l p) is ∙ get_or-append (separators_of job file) l 0 p (omega (arith, read_length job file))

      told : all (true_at job file) (processors job) ≡ tells job xs plan
      unfolding tells tells_at true_at
      told =
          all_same (processors job)
          (λ p h.
          ap (λ (n : ℕ). eqb (file.load p) n && eqb (file.speed p) (speed_of job p))
          (ap₂ (part_load job) (begins p h ∙ sym (at_front p (omega arith)))
          (sym (read_next job file p h) ∙ sym (at_front (suc p) h))))

      -- else 13 and the grade.
      pub grade_told : {r : Result Grade Refusal} → true ≡ is_partition job (take (suc (processors job)) xs) → r ≡ told_grade job xs plan
          → r ≡ plan_grade job plan
      unfolding plan_grade joined_test true_test told_grade read_grade
      grade_told {r} d e =
          e ∙ ap (λ (s : List ℕ). cond (tells job xs plan) (Ok (grade_of job s)) (Err UntruePlan)) front_is
          ∙ ap (λ (t : Bool). cond t (Ok (grade_of job (separators_of job file))) (Err UntruePlan)) (sym told)
          ∙ go (all (true_at job file) (processors job))
          ∙ ap (λ (n : ℕ). answered n (grade_of job (separators_of job file)))
          (sym
          (past_length
          ∙ passes 11 (true_test job file ∷ []) (ap₂ (λ (x y : Bool). x && y) (sym j) (ap (is_partition job) (sym front_is) ∙ sym d))))
        where
          go : (t : Bool) → cond t (Ok (grade_of job (separators_of job file))) (Err UntruePlan)
              ≡ answered (first_refusal (test 13 t ∷ [])) (grade_of job (separators_of job file))
          go true = unfold answered first_refusal in refl
          go false = unfold answered first_refusal refusal_of in refl

  -- By lists: the job's refusal, or those of the plan file.
  pub lists_refused : {B : Type 0} {r : Result B Refusal} {e : Refusal} (q : Result Grade Refusal) → r ≡ Err e → IsErrAnd q (λ y. y ≡ e)
      → refused r ≡ refusal job nothing → q ≡ grade_answer job plan
  unfolding grade_answer refusal call_tests plan_tests job_tests
  lists_refused q f g h =
      answer_refused q (read_grade job plan) f g (first_decide (call_tests job nothing) (plan_tests job file) h (err_nonzero f refl))

  pub lists_graded : {n : ℕ} {r : Result Grade Refusal} → n ≡ refusal job nothing → n ≡ 0 → r ≡ plan_grade job plan → r ≡ grade_answer job plan
  unfolding grade_answer plan_grade refusal call_tests plan_tests job_tests
  lists_graded e z f =
      f ∙ ap (λ (k : ℕ). answered k (read_grade job plan)) (others_decide (call_tests job nothing) (plan_tests job file) e (call_numbered job nothing) z refl)

-- By files: the job file's refusal, the buffer's, or those of the plan file.
module _ (file plan : List ℕ) (lent : ℕ) where
  abbrev records : List Test
  records = plan_tests (job_in file) (plan_read (job_in file) plan)

  abbrev after : List Test
  after = length_test 1 lent ∷ records

  numbered_room : Numbered (length_test 1 lent ∷ [])
  unfolding length_test
  numbered_room = numbered_cons (omega arith) numbered_nil

  pub files_refused : {B : Type 0} {r : Result B Refusal} {e : Refusal} (q : Result Grade Refusal) → r ≡ Err e → IsErrAnd q (λ y. y ≡ e)
      → refused r ≡ file_refusal file → q ≡ lent_grade file plan lent
  unfolding lent_grade grade_refusal grade_tests file_refusal
  files_refused q f g h =
      answer_refused q (read_grade (job_in file) plan) f g (first_decide (file_tests file) after h (err_nonzero f refl))

  -- Once the job file is accepted:
  module _ (accepted : file_refusal file ≡ 0) where
    past_file : {n : ℕ} → n ≡ first_refusal after → n ≡ grade_refusal file plan (lent ∷ [])
    unfolding grade_refusal grade_tests file_refusal
    past_file e = others_decide (file_tests file) after refl (file_numbered file) accepted e

    pub room_refused : {B : Type 0} {r : Result B Refusal} {e : Refusal} (q : Result Grade Refusal) → r ≡ Err e → IsErrAnd q (λ y. y ≡ e)
        → refused r ≡ first_refusal (length_test 1 lent ∷ []) → q ≡ lent_grade file plan lent
    unfolding lent_grade
    room_refused q f g h =
        answer_refused q (read_grade (job_in file) plan) f g (past_file (first_decide (length_test 1 lent ∷ []) records h (err_nonzero f refl)))

    pub files_graded : {n : ℕ} {r : Result Grade Refusal} → n ≡ first_refusal (length_test 1 lent ∷ []) → n ≡ 0 → r ≡ plan_grade (job_in file) plan
        → r ≡ lent_grade file plan lent
    unfolding lent_grade plan_grade
    files_graded e z f =
        f ∙ ap (λ (k : ℕ). answered k (read_grade (job_in file) plan)) (past_file (others_decide (length_test 1 lent ∷ []) records e numbered_room z refl))

-- What an answer says of the number behind it: a grade comes with 0, a refusal is that number.
pub answered_accepts : {n : ℕ} {x y : Grade} → answered n x ≡ Ok y → (n ≡ 0) × (x ≡ y)
unfolding answered
answered_accepts {n} {x} {y} e = go (eqb n 0) refl e
  where
    go : (b : Bool) → eqb n 0 ≡ b → cond b (Ok x) (Err (refusal_of n)) ≡ Ok y → (n ≡ 0) × (x ≡ y)
    go true f h = (eqb→eq n 0 (T_of f), cc h)
    go false f h = absurd (cc h)

pub answered_refuses : {n : ℕ} (x : Grade) {e : Refusal} → Known n → answered n x ≡ Err e → (code_of e ≡ n) × (n ≢ 0)
unfolding answered
answered_refuses {n} x {e} known h = go (eqb n 0) refl h
  where
    go : (b : Bool) → eqb n 0 ≡ b → cond b (Ok x) (Err (refusal_of n)) ≡ Err e → (code_of e ≡ n) × (n ≢ 0)
    go true f g = absurd (cc g)
    go false f g =
        let some : n ≢ 0 = λ z. subst T (sym (eq-eqb n 0 z) ∙ f) tt in
        let same : refusal_of n ≡ e = cc g in
        (ap code_of (sym same) ∙ known some, some)

-- The C call, by the answer of grading the files.
module _ (file plan grade : List ℕ) where
  known : Known (host_grade file plan (length grade))
  unfolding host_grade grade_refusal grade_tests length_test
  known =
      known_first (grade_tests file plan (length grade ∷ []))
      (tests_append (file_known file) (tests_cons (omega arith) (plan_known_tests (job_in file) (plan_read (job_in file) plan))))

  -- A refusal is that of the call, and leaves the buffer.
  pub into_refused : {A : Type 0} {e : Refusal} (r : Result A Refusal) → lent_grade file plan (length grade) ≡ Err e
      → IsErrAnd r (λ y. y ≡ e) → (refused r ≡ host_grade file plan (length grade)) × (grade ≡ host_grades file plan grade)
  unfolding lent_grade host_grade host_grades refused
  into_refused {e = e} r is g =
      let h = answered_refuses (read_grade (job_in file) plan) known is in
      (ap refused (passed_on r g) ∙ h.0, lent_kept (grade_values (read_grade (job_in file) plan)) grade h.0 (λ z. h.1 (sym h.0 ∙ z)))

  -- A grade is put in front: there is room for it.
  module _ {g : Grade} (is : lent_grade file plan (length grade) ≡ Ok g) where
    none : host_grade file plan (length grade) ≡ 0
    unfolding lent_grade host_grade
    none = (answered_accepts is).0

    pub into_room : 1 ≤ length grade
    unfolding host_grade grade_refusal grade_tests
    into_room =
        let a = (append_accepted (file_tests file) (after file plan (length grade)) (file_numbered file) none).1 in
        let b =
        (append_accepted (length_test 1 (length grade) ∷ []) (plan_tests (job_in file) (plan_read (job_in file) plan)) (numbered_room file plan (length grade)) a).0
        in
        elim (dec_le 1 (length grade)) [ yes h ↦ h | no h ↦ let z = length_short 1 (length grade) (omega arith) in absurd (omega (arith, b, z)) ]

    pub into_graded : {v : ℕ} → grade_values g ≡ v ∷ []
        → (refused {A = Unit {0}} (Ok tt) ≡ host_grade file plan (length grade)) × (set grade 0 v ≡ host_grades file plan grade)
    unfolding lent_grade host_grades refused
    into_graded {v} e =
        (sym none, first grade into_room ∙ sym (lent_accepted (v ∷ []) grade) ∙ sym (ap₂ (λ (n : ℕ) (l : List ℕ). lent_after n l grade) none values))
      where
        values : grade_values (read_grade (job_in file) plan) ≡ v ∷ []
        values = ap grade_values (answered_accepts is).1 ∙ e

        first : (l : List ℕ) → 1 ≤ length l → set l 0 v ≡ (v ∷ []) ++ drop 1 l
        first [] h = absurd (let w : ⊥ = omega arith in w)
        first (x ∷ xs) h = refl

-- The byte of a grade.
pub grade_byte : (g : Grade) → grade_values g ≡ (tag_of the_type g + 1) ∷ []
grade_byte Grade.Best = refl
grade_byte Grade.Valid = refl
