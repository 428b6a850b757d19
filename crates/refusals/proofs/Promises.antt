-- The numbers that the test of a job gives.
-- Assumes nothing.
use mathlib.Core.Path.{refl}
use mathlib.Core.List.{[], ◌∷◌, Memᴰ}
use Rattle.chain.specs.Job.{Job}
use Rattle.chain.specs.Refusal.{startup_test, speeds_test, weights_test, processors_test, tasks_test, length_test, holds_test, job_tests, nothing, call_tests, refusal}
use Rattle.chain.proofs.Refusals.{given_number}

-- 0, 16, or one of 5 to 9.
pub job_numbers : (job : Job) → Memᴰ (refusal job nothing) (0 ∷ 16 ∷ 5 ∷ 6 ∷ 7 ∷ 8 ∷ 9 ∷ [])
unfolding refusal call_tests job_tests startup_test speeds_test weights_test processors_test tasks_test holds_test length_test
job_numbers job = given_number (16 ∷ 5 ∷ 6 ∷ 7 ∷ 8 ∷ 9 ∷ []) (call_tests job nothing) refl tt
