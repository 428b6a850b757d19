-- Laws for the C call: the order of its tests, and the bytes.
-- Assumes nothing.
use Prim.Native.Nat.{ℕ}
use mathlib.Core.Path.{◌≡◌, refl, sym, ap, subst, ◌∙◌}
use mathlib.Core.List.{List, [], ◌∷◌}
use mathlib.Core.Logic.{◌≢◌}
use native.Mathlib.Omega.{arith}
use lib.ListN.{length}
use Rattle.chain.specs.declared.Method.{Method}
use Rattle.std.specs.Prelude.{Ok}
use Rattle.chain.specs.Numbers.{number_of, chosen_of, refused}
use Rattle.chain.specs.Job.{Job}
use Rattle.chain.specs.Plan.{plan_of}
use Rattle.chain.specs.Refusal.{Test, method_test, length_test, first_refusal}
use Rattle.chain.proofs.Refusals.{numbered_nil, numbered_cons, first_decide, others_decide}
use Rattle.jobs.specs.Parse.{job_in, file_tests, file_refusal}
use Rattle.refusals.specs.Answers.{lent_after}
use Rattle.jobs.proofs.Calls.{file_numbered}
use Rattle.refusals.proofs.Methods.{method_refused, known_passes}
use Rattle.refusals.proofs.Lent.{lent_kept}
use Rattle.planfile.specs.PlanFile.{plan_bytes}
use Rattle.refusals.specs.Inputs.{plan_needed}
use Rattle.planner.specs.HostCall.{hold_tests, Host, host_file_tests, host_tests, file_answer, host_answer, bytes_after}
use Rattle.planner.specs.HostCall.{file_writes, host_writes}
use Rattle.planner.proofs.Laws.{known_number}

module _ (file : List ℕ) (m lent : ℕ) where
  abbrev after : List Test
  after = length_test (plan_needed (job_in file)) lent ∷ hold_tests m (job_in file)

  -- The file's refusal, or those after it.
  pub file_refused : file_refusal file ≢ 0 → file_refusal file ≡ file_answer file m lent
  unfolding file_refusal file_answer host_file_tests
  file_refused h = first_decide (file_tests file) after refl h

  pub file_read : file_refusal file ≡ 0 → {n : ℕ} → n ≡ first_refusal after → n ≡ file_answer file m lent
  unfolding file_refusal file_answer host_file_tests
  file_read h e = others_decide (file_tests file) after refl (file_numbered file) h e

  -- The method's refusal, or those.
  pub host_unknown : {n : ℕ} → refused (chosen_of m) ≡ n → n ≢ 0 → n ≡ host_answer file m lent
  unfolding host_answer host_tests
  host_unknown e h = first_decide (method_test m ∷ []) (host_file_tests file m lent) (sym e ∙ method_refused m) h

  pub host_known : {k : Method} → chosen_of m ≡ Ok k → file_answer file (number_of k) lent ≡ host_answer file m lent
  unfolding host_answer host_tests file_answer method_test
  host_known e =
      ap (λ (i : ℕ). first_refusal (host_file_tests file i lent)) (known_number m e)
      ∙ others_decide (method_test m ∷ []) (host_file_tests file m lent) (known_passes m e)
      (numbered_cons (omega arith) numbered_nil) refl refl

-- A refused call leaves the buffer.
pub bytes_stay : (file plan : List ℕ) {n number : ℕ} → n ≡ number → n ≢ 0 → plan ≡ bytes_after number file plan
unfolding bytes_after
bytes_stay file plan e h = lent_kept (plan_bytes (job_in file) (plan_of (job_in file))) plan e h

-- The job that was read is the file's: what the call answers and writes is by its definition.
pub file_done : (file : List ℕ) {g : Job} → file_refusal file ≡ 0 → g ≡ job_in file
    → {m : ℕ} {plan later : List ℕ} {k : ℕ} → Host m g plan later k
    → (k ≡ file_answer file m (length plan)) × (later ≡ file_writes file m plan)
unfolding file_writes bytes_after
file_done file accepted same {m} {plan} {later} {k} h =
    (is_k, host.filled ∙ ap (λ (j : ℕ). lent_after j (plan_bytes (job_in file) (plan_of (job_in file))) plan) is_k)
  where
    host : Host m (job_in file) plan later k
    host = subst (λ (job : Job). Host m job plan later k) same h

    is_k : k ≡ file_answer file m (length plan)
    is_k = file_read file m (length plan) accepted host.answered

-- A refusal of the file is the call's.
pub file_stays : (file plan : List ℕ) (m : ℕ) {n : ℕ} → n ≡ file_refusal file → n ≢ 0
    → (n ≡ file_answer file m (length plan)) × (plan ≡ file_writes file m plan)
unfolding file_writes
file_stays file plan m e h =
    let is = e ∙ file_refused file m (length plan) (λ z. h (e ∙ z)) in
    (is, bytes_stay file plan is h)

-- A method that is known answers and writes what its number does.
pub host_done : (file plan : List ℕ) (m : ℕ) {k : Method} → chosen_of m ≡ Ok k → {n : ℕ} {later : List ℕ}
    → n ≡ file_answer file (number_of k) (length plan)
    → later ≡ file_writes file (number_of k) plan
    → (n ≡ host_answer file m (length plan)) × (later ≡ host_writes file m plan)
unfolding file_writes host_writes
host_done file plan m known e f =
    let h = host_known file m (length plan) known in
    (e ∙ h, f ∙ ap (λ (n : ℕ). bytes_after n file plan) h)
