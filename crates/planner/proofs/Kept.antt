-- Laws for the C call once its file is read: the tests of the buffer and of the holds, and the bytes.
-- Assumes nothing.
use Prim.Native.Nat.{ℕ, suc, ◌≤◌}
use mathlib.Core.Path.{◌≡◌, sym, ap, ◌∙◌}
use mathlib.Core.Bool.{Bool, true, false, cond}
use mathlib.Core.List.{List, [], ◌∷◌, ◌++◌, map}
use mathlib.Core.Logic.{◌≢◌}
use native.Mathlib.Omega.{arith}
use borrow.Author.Tests.{eq-eqb, ne_eqb}
use lib.Dec.{eqb, leb→le}
use lib.ListN.{length, drop}
use Rattle.chain.specs.Job.{Job, processors}
use Rattle.chain.specs.Plan.{plan_of}
use Rattle.chain.specs.Refusal.{length_test, enough_test, free_test, first_refusal}
use Rattle.chain.proofs.Refusals.{numbered_nil, numbered_cons, first_decide, others_decide, pass_head}
use Rattle.refusals.proofs.Steps.{passed-all}
use Rattle.refusals.proofs.Lent.{lent_refused, lent_accepted}
use Rattle.planfile.specs.PlanFile.{plan_bytes}
use Rattle.planfile.proofs.Records.{length_plan, plan_take}
use Rattle.parts.proofs.Front.{taken}
use Rattle.refusals.specs.Inputs.{plan_needed, free_by}
use Rattle.planner.specs.HostCall.{hold_tests, Host}

-- The bytes of the plan, from a list with the plan's separators in front.
pub best_bytes : (job : Job) (s l rest : List ℕ) {bytes : List ℕ} → length (plan_of job) ≡ suc (processors job)
    → s ≡ plan_of job ++ l
    → bytes ≡ plan_bytes job s ++ rest → bytes ≡ plan_bytes job (plan_of job) ++ rest
best_bytes job s l rest h e f =
    f ∙ ap (λ (x : List ℕ). x ++ rest) (sym (plan_take job s) ∙ ap (plan_bytes job) (taken (plan_of job) l h e))

-- The tests of the holds, as the code makes them: 17, then 18 for method 4.
module _ (m : ℕ) (job : Job) {n : ℕ} (e : n ≡ first_refusal (enough_test job ∷ [])) where
  pub kept_short : n ≢ 0 → n ≡ first_refusal (hold_tests m job)
  unfolding hold_tests
  kept_short h = first_decide (enough_test job ∷ []) (map free_test (free_by m job)) e h

  past_enough : n ≡ 0 → (b : Bool) → eqb m 4 ≡ b → {k : ℕ} → k ≡ first_refusal (map free_test (cond b (job ∷ []) []))
      → k ≡ first_refusal (hold_tests m job)
  unfolding hold_tests enough_test free_by
  past_enough z b f g =
      others_decide (enough_test job ∷ []) (map free_test (cond b (job ∷ []) [])) e
      (numbered_cons (omega arith) numbered_nil) z g
      ∙ ap (λ (c : Bool). first_refusal (enough_test job ∷ map free_test (cond c (job ∷ []) []))) (sym f)

  pub kept_free : n ≡ 0 → m ≡ 4 → {k : ℕ} → k ≡ first_refusal (free_test job ∷ [])
      → k ≡ first_refusal (hold_tests m job)
  kept_free z h g = past_enough z true (eq-eqb m 4 h) g

  pub kept_other : n ≡ 0 → m ≢ 4 → 0 ≡ first_refusal (hold_tests m job)
  kept_other z h = past_enough z false (ne_eqb m 4 h) (sym passed-all)

-- A buffer that passes its test has room.
pub length_passed : (needed lent : ℕ) {n : ℕ} → n ≡ first_refusal (length_test needed lent ∷ []) → n ≡ 0 → needed ≤ lent
unfolding length_test
length_passed needed lent e z = leb→le needed lent (pass_head (length_test needed lent) [] (omega arith) (sym e ∙ z))

-- The tests of the buffer and of the holds, and the plan.
module _ (m : ℕ) (job : Job) (plan : List ℕ) where
  stays : {n : ℕ} → n ≢ 0 → n ≡ first_refusal (length_test (plan_needed job) (length plan) ∷ hold_tests m job)
      → Host m job plan plan n
  stays h e = record { answered = e; filled = sym (lent_refused h (plan_bytes job (plan_of job)) plan) }

  module _ {n : ℕ} (e : n ≡ first_refusal (length_test (plan_needed job) (length plan) ∷ [])) where
    pub host_short : n ≢ 0 → Host m job plan plan n
    host_short h = stays h (first_decide (length_test (plan_needed job) (length plan) ∷ []) (hold_tests m job) e h)

    module _ (z : n ≡ 0) {k : ℕ} (f : k ≡ first_refusal (hold_tests m job)) where
      past_length : k ≡ first_refusal (length_test (plan_needed job) (length plan) ∷ hold_tests m job)
      unfolding length_test
      past_length =
          others_decide (length_test (plan_needed job) (length plan) ∷ []) (hold_tests m job) e
          (numbered_cons (omega arith) numbered_nil) z f

      pub host_holds : k ≢ 0 → Host m job plan plan k
      host_holds h = stays h past_length

      pub host_full : k ≡ 0 → {later : List ℕ} → later ≡ plan_bytes job (plan_of job) ++ drop (plan_needed job) plan
          → Host m job plan later 0
      host_full y g =
          record {
            answered = sym y ∙ past_length;
            filled =
                g ∙ ap (λ (k : ℕ). plan_bytes job (plan_of job) ++ drop k plan) (sym (length_plan job (plan_of job)))
                ∙ sym (lent_accepted (plan_bytes job (plan_of job)) plan);
          }
