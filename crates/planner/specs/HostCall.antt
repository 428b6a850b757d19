-- What the C call answers and leaves in the plan buffer. Scope, sections 7 and 8.
use Rattle.std.specs.Prelude.{ℕ, ◌≡◌, List, ◌∷◌, ◌++◌, map, length}
use Rattle.chain.specs.Job.{Job}
use Rattle.chain.specs.Plan.{plan_of}
use Rattle.chain.specs.Refusal.{Test, method_test, length_test, enough_test, free_test, first_refusal}
use Rattle.jobs.specs.Parse.{job_in, file_tests}
use Rattle.refusals.specs.Inputs.{plan_needed, free_by}
use Rattle.refusals.specs.Answers.{lent_after}
use Rattle.planfile.specs.PlanFile.{plan_bytes}

-- The tests of the holds, by the number of the method: 17, and 18 for method 4.
unfoldable pub hold_tests : ℕ → Job → List Test
hold_tests m job = enough_test job ∷ map free_test (free_by m job)

-- The tests of the file, then (Scope 8.7: "16 × P bytes for a plan") that of a buffer of this length, then those of
-- the holds;
unfoldable pub host_file_tests : List ℕ → ℕ → ℕ → List Test
host_file_tests file m lent =
    file_tests file ++ length_test (plan_needed (job_in file)) lent ∷ hold_tests m (job_in file)

-- before them the method.
unfoldable pub host_tests : List ℕ → ℕ → ℕ → List Test
host_tests file m lent = method_test m ∷ host_file_tests file m lent

-- Scope 7.9: "gets 0 or the number of a refusal": by a method that is known, and by any number.
unfoldable pub file_answer : List ℕ → ℕ → ℕ → ℕ
file_answer file m lent = first_refusal (host_file_tests file m lent)

unfoldable pub host_answer : List ℕ → ℕ → ℕ → ℕ
host_answer file m lent = first_refusal (host_tests file m lent)

-- Scope 7.10: "The plan fills the first 16 × P bytes of the buffer; the bytes behind them stay." By the number of the
-- refusal.
unfoldable pub bytes_after : ℕ → List ℕ → List ℕ → List ℕ
bytes_after number file plan = lent_after number (plan_bytes (job_in file) (plan_of (job_in file))) plan

unfoldable pub file_writes : List ℕ → ℕ → List ℕ → List ℕ
file_writes file m plan = bytes_after (file_answer file m (length plan)) file plan

unfoldable pub host_writes : List ℕ → ℕ → List ℕ → List ℕ
host_writes file m plan = bytes_after (host_answer file m (length plan)) file plan

-- What is left once the file is accepted: the tests of the buffer and of the holds, and the plan's bytes.
pub record Host (m : ℕ) (job : Job) (plan plan' : List ℕ) (number : ℕ) : Type 0 where
  pub answered : number ≡ first_refusal (length_test (plan_needed job) (length plan) ∷ hold_tests m job)
  pub filled : plan' ≡ lent_after number (plan_bytes job (plan_of job)) plan
