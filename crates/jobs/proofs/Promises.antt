-- The numbers that reading and writing a job file give.
-- Assumes nothing.
use Prim.Native.Nat.{ℕ, zero, suc}
use mathlib.Core.List.{List, [], ◌∷◌, Memᴰ}
use lib.Dec.{T}
use lib.ListN.{length}
use Rattle.chain.specs.Job.{Edition, Job}
use Rattle.chain.specs.Refusal.{startup_test, speeds_test, weights_test, processors_test, tasks_test, length_test, holds_test, job_tests, call_tests, refusal}
use Rattle.chain.proofs.Refusals.{numbers_in, numbers-append, given_number}
use Rattle.refusals.specs.Inputs.{write_inputs}
use Rattle.refusals.specs.Answers.{written_said}
use Rattle.jobs.specs.Parse.{record_count, multiple_test, form_test, order_test, place_test, speed_test, weight_test, work_test, record_tests, records_tests, speeds_of, holds_of, weights_of, file_tests}
use Rattle.jobs.specs.Answers.{read_said, read_tests, read_refusal, read_answer, write_answer}
use Rattle.jobs.proofs.Calls.{read_number, write_number}

-- 2 to 9, with 15 beside 4 and 16 beside 6.
abbrev pub from_two : List ℕ
from_two = 2 ∷ 3 ∷ 4 ∷ 15 ∷ 5 ∷ 6 ∷ 16 ∷ 7 ∷ 8 ∷ 9 ∷ []

-- The tests of a file have these numbers.
module _ (file : List ℕ) where
  records_in_lem : (n : ℕ) → T (numbers_in from_two (records_tests file n))
  unfolding records_tests record_tests form_test order_test place_test speed_test weight_test work_test
  records_in_lem zero = tt
  records_in_lem (suc n) = numbers-append from_two (records_tests file n) (record_tests file n) (records_in_lem n) tt

  pub file_in : T (numbers_in from_two (file_tests file))
  unfolding file_tests multiple_test processors_test tasks_test
  file_in =
      numbers-append from_two (records_tests file (record_count file)) (processors_test (speeds_of file) ∷ tasks_test (weights_of file) ∷ [])
      (records_in_lem (record_count file)) tt

-- Reading: 0, or one of those.
pub read_numbers : (file : List ℕ) (lent_speeds lent_holds lent_weights : ℕ)
    → Memᴰ (read_said (read_answer file lent_speeds lent_holds lent_weights)).number (0 ∷ 2 ∷ 3 ∷ 4 ∷ 15 ∷ 5 ∷ 6 ∷ 16 ∷ 7 ∷ 8 ∷ 9 ∷ [])
unfolding read_refusal read_tests length_test
read_numbers file a b c =
    given_number from_two (read_tests file a b c) (read_number file a b c)
    (numbers-append from_two (file_tests file) (length_test (length (weights_of file)) c ∷ length_test (length (speeds_of file)) a ∷ length_test (length (holds_of file)) b ∷ []) (file_in file) tt)

-- Writing: 0, 16, or one of 5 to 9.
pub write_numbers : (edition : Edition) (job : Job) (lent : ℕ)
    → Memᴰ (written_said (write_answer edition job lent)).number (0 ∷ 16 ∷ 5 ∷ 6 ∷ 7 ∷ 8 ∷ 9 ∷ [])
unfolding refusal call_tests job_tests startup_test speeds_test weights_test processors_test tasks_test holds_test length_test
write_numbers edition job lent =
    given_number (16 ∷ 5 ∷ 6 ∷ 7 ∷ 8 ∷ 9 ∷ []) (call_tests job (write_inputs edition job lent)) (write_number edition job lent) tt
