-- What a caller may read off the answer of writing a plan file, and off the bytes that are written.
-- Assumes nothing.
use Prim.Native.Nat.{ℕ, suc, ◌+◌, ◌*◌, ◌≤◌}
use mathlib.Core.Path.{◌≡◌, ap, ◌∙◌}
use mathlib.Core.List.{List, [], ◌∷◌, ◌++◌, Memᴰ}
use mathlib.Core.Logic.{◌≢◌, ◌↔◌}
use native.Mathlib.Omega.{arith}
use lib.ListN.{length, take, drop, get_or-append}
use Rattle.chain.specs.Lists.{sum_to}
use Rattle.chain.specs.Job.{Job, Valid, processors, total_weight, Partition, busy}
use Rattle.chain.specs.Refusal.{startup_test, speeds_test, weights_test, processors_test, tasks_test, length_test, holds_test, partition_test, FirstFailing, job_tests, call_tests, refusal}
use Rattle.chain.proofs.Parts.{loads_add_up}
use Rattle.chain.proofs.Refusals.{gives, given_number}
use Rattle.chain.proofs.Sums.{sum_same_below}
use Rattle.fields.specs.Field.{field_size, field_at}
use Rattle.fields.proofs.Laws.{field_same}
use Rattle.refusals.specs.Inputs.{plan_needed, write_plan_inputs}
use Rattle.refusals.specs.Answers.{said_by, written_said, lent_after}
use Rattle.refusals.proofs.Accepted.{accepted}
use Rattle.refusals.proofs.Answering.{answer_said_lem, number_of_lem}
use Rattle.refusals.proofs.Known.{refusal_known}
use Rattle.refusals.proofs.Lent.{lent-front}
use Rattle.planfile.specs.PlanFile.{plan_bytes}
use Rattle.planfile.specs.Answers.{write_plan_answer, write_plan_bytes}
use Rattle.planfile.proofs.Records.{length_plan}
use Rattle.planfile.proofs.Fields.{plan_reads}

module _ (job : Job) (s : List ℕ) (lent : ℕ) where
  -- The answer says the count of bytes, or the refusal's number:
  pub write_plan_said : written_said (write_plan_answer job s lent) ≡ said_by (refusal job (write_plan_inputs job s lent)) (plan_needed job ∷ [])
  unfolding write_plan_answer
  write_plan_said = answer_said_lem (refusal_known job (write_plan_inputs job s lent)) (λ (count : ℕ). count ∷ []) (plan_needed job)

  pub write_plan_number : (written_said (write_plan_answer job s lent)).number ≡ refusal job (write_plan_inputs job s lent)
  write_plan_number = number_of_lem (plan_needed job ∷ []) write_plan_said

  -- 0, 16, or one of 5 to 9 and 11;
  pub write_plan_numbers : Memᴰ (written_said (write_plan_answer job s lent)).number (0 ∷ 16 ∷ 5 ∷ 6 ∷ 7 ∷ 8 ∷ 9 ∷ 11 ∷ [])
  unfolding refusal call_tests job_tests startup_test speeds_test weights_test processors_test tasks_test holds_test length_test partition_test
  write_plan_numbers =
      given_number (16 ∷ 5 ∷ 6 ∷ 7 ∷ 8 ∷ 9 ∷ 11 ∷ []) (call_tests job (write_plan_inputs job s lent)) write_plan_number tt

  -- that of the first test that fails.
  pub write_plan_gives : {n : ℕ} → n ≢ 0
      → ((written_said (write_plan_answer job s lent)).number ≡ n) ↔ FirstFailing (call_tests job (write_plan_inputs job s lent)) n
  unfolding refusal
  write_plan_gives h = gives (call_tests job (write_plan_inputs job s lent)) write_plan_number h

-- Scope 17.7: "The loads of a plan file add up to Wtot and c for each machine that has tiles." As they are read from its bytes,
pub file_loads_add_up : {job : Job} {s : List ℕ} → Valid job → Partition job s
    → sum_to (λ p. field_at (plan_bytes job s) (16 * p + 8)) (processors job) ≡ total_weight job + job.startup * busy job s
file_loads_add_up {job} v w = sum_same_below (processors job) (λ p h. (plan_reads v w p h).load) ∙ loads_add_up w

-- from a lent buffer with the file in front,
pub lent_loads_add_up : {job : Job} {s : List ℕ} {number : ℕ} (plan : List ℕ) → Valid job → Partition job s → number ≡ 0
    → sum_to (λ p. field_at (lent_after number (plan_bytes job s) plan) (16 * p + 8)) (processors job) ≡ total_weight job + job.startup * busy job s
lent_loads_add_up {job} {s} plan v w e =
    sum_same_below (processors job)
    (λ p h.
    ap (λ (l : List ℕ). field_at l (16 * p + 8)) (lent-front (plan_bytes job s) plan e (length_plan job s))
    ∙ field_before (plan_bytes job s) (drop (16 * processors job) plan) (16 * p + 8) (omega (arith, length_plan job s)))
    ∙ file_loads_add_up v w
  where
    -- The bytes behind a field are not read.
    field_before : (A B : List ℕ) (k : ℕ) → k + field_size ≤ length A → field_at (A ++ B) k ≡ field_at A k
    field_before A B k h = field_same (A ++ B) A k k (λ j l. get_or-append A B 0 (k + j) (omega arith))

-- and from the buffer that writing a plan leaves where nothing is refused.
pub written_loads_add_up : (job : Job) (s plan : List ℕ) → refusal job (write_plan_inputs job s (length plan)) ≡ 0
    → sum_to (λ p. field_at (write_plan_bytes job s plan) (16 * p + 8)) (processors job) ≡ total_weight job + job.startup * busy job (take (suc (processors job)) s)
unfolding write_plan_bytes
written_loads_add_up job s plan e = let a = accepted e in lent_loads_add_up plan a.valid a.divisions.0 e
