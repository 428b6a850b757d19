-- The tests of a job by lists, as the code takes them: u is the start-up work, b and c say that all speeds and all weights are in range,
-- l, m and n are the limits.
-- Assumes nothing.
use Prim.Native.Nat.{ℕ, ◌≤◌, ◌<◌}
use mathlib.Core.Path.{◌≡◌, refl, sym, ap, ◌∙◌}
use mathlib.Core.Bool.{Bool, true, false, not}
use mathlib.Core.List.{List, [], ◌∷◌}
use native.Mathlib.Omega.{arith}
use lib.Dec.{leb}
use lib.ListN.{length}
use borrow.Author.Tests.{le-leb, lt-leb, not-true, not-false}
use Rattle.chain.specs.Limits.{max_tasks, max_weight, max_startup, max_processors, max_speed}
use Rattle.chain.specs.Job.{job_of}
use Rattle.chain.specs.Refusal.{test, between, each_between, startup_test, speeds_test, weights_test, processors_test, tasks_test, first_refusal, job_tests}
use Rattle.refusals.proofs.Steps.{fails, passes}

module _ (ws hs es : List ℕ) {l : ℕ} (most : max_startup ≡ l) {u : ℕ} where
  pub startup_fails : l < u → 16 ≡ first_refusal (job_tests (job_of u es hs ws))
  unfolding job_tests startup_test
  startup_fails h = sym (fails 16 (speeds_test es ∷ weights_test ws ∷ processors_test es ∷ tasks_test ws ∷ []) (lt-leb u max_startup (omega arith)))

  past_startup : u ≤ l → first_refusal (job_tests (job_of u es hs ws)) ≡ first_refusal (speeds_test es ∷ weights_test ws ∷ processors_test es ∷ tasks_test ws ∷ [])
  unfolding job_tests startup_test
  past_startup h = passes 16 (speeds_test es ∷ weights_test ws ∷ processors_test es ∷ tasks_test ws ∷ []) (le-leb u max_startup (omega arith))

module _ (ws hs es : List ℕ) {l : ℕ} (most : max_startup ≡ l) {u : ℕ} (near : u ≤ l) {m : ℕ} (speed : max_speed ≡ m) {b : Bool} (speeds : b ≡ each_between 1 m es) where
  each_speed : {c : Bool} → b ≡ c → each_between 1 max_speed es ≡ c
  each_speed e = ap (λ (k : ℕ). each_between 1 k es) speed ∙ sym speeds ∙ e

  pub speeds_fail : not b ≡ true → 5 ≡ first_refusal (job_tests (job_of u es hs ws))
  unfolding speeds_test
  speeds_fail h = sym (past_startup ws hs es most near ∙ fails 5 (weights_test ws ∷ processors_test es ∷ tasks_test ws ∷ []) (each_speed (not-true b h)))

  module _ (h : not b ≡ false) {n : ℕ} (weight : max_weight ≡ n) {c : Bool} (weights : c ≡ each_between 0 n ws) where
    each_weight : {d : Bool} → c ≡ d → each_between 0 max_weight ws ≡ d
    each_weight e = ap (λ (k : ℕ). each_between 0 k ws) weight ∙ sym weights ∙ e

    past_speeds : first_refusal (job_tests (job_of u es hs ws)) ≡ first_refusal (weights_test ws ∷ processors_test es ∷ tasks_test ws ∷ [])
    unfolding speeds_test
    past_speeds = past_startup ws hs es most near ∙ passes 5 (weights_test ws ∷ processors_test es ∷ tasks_test ws ∷ []) (each_speed (not-false b h))

    pub weights_fail : not c ≡ true → 6 ≡ first_refusal (job_tests (job_of u es hs ws))
    unfolding weights_test
    weights_fail k = sym (past_speeds ∙ fails 6 (processors_test es ∷ tasks_test ws ∷ []) (each_weight (not-true c k)))

    pub counts_decide : not c ≡ false → {r : ℕ} → r ≡ first_refusal (test 7 (between 1 max_processors (length es)) ∷ test 8 (leb (length ws) max_tasks) ∷ [])
        → r ≡ first_refusal (job_tests (job_of u es hs ws))
    unfolding weights_test processors_test tasks_test
    counts_decide k e =
        e ∙ sym (past_speeds ∙ passes 6 (processors_test es ∷ tasks_test ws ∷ []) (each_weight (not-false c k)))

-- For `search`: at each return the law that its tests meet.
pub ruleset lists_laws = (startup_fails, speeds_fail, weights_fail, counts_decide, refl)
