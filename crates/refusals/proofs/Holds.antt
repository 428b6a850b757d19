-- The holds of a job by lists: the list as it is cut, and what the code finds in it.
-- Assumes nothing.
use Prim.Native.Nat.{ℕ, suc, ◌+◌, ◌≤◌, ◌<◌}
use mathlib.Core.Path.{◌≡◌, refl, sym, ap, ap₂, subst, ◌∙◌}
use mathlib.Core.Bool.{Bool, true, false, not, ◌&&◌}
use mathlib.Core.List.Memᴰ
use mathlib.Core.List.{List, [], ◌∷◌}
use native.Mathlib.Omega.{arith}
use native.Mathlib.Decide.{dec_le}
use native.Mathlib.Numerals.{add-one}
use lib.Dec.{leb, ltb, leb→le, le→leb, ltb→lt, lt→ltb}
use lib.ListN.{length, get_or, take}
use borrow.Author.Tests.{not-true, not-false, lt-ltb, le-ltb, le-leb, lt-leb}
use Rattle.chain.specs.Limits.{max_processors}
use Rattle.chain.specs.Lists.{sum_to, all}
use Rattle.chain.specs.Job.{Job, job_of, tasks, processors, Valid, hold_of, held, enough}
use Rattle.chain.specs.Refusal.{processors_test, length_test, holds_test, enough_test, free_test, first_refusal, job_tests}
use Rattle.chain.proofs.Cut.{cut_long, long_cut, hold_at_lem}
use Rattle.chain.proofs.Tests.{T_true, and_left, same_test}
use Rattle.chain.proofs.Indices.{all-at, all_of}
use Rattle.chain.proofs.Refusals.{pass_head, job_numbered, accepted_passes, job_accepted}
use Rattle.refusals.proofs.Steps.{fails, passes, passed-all}

module _ (c : ℕ) (es hs ws : List ℕ) where
  abbrev job : Job
  job = job_of c es hs ws

  -- The test of the list of holds is one of its length.
  pub holds-length : {r : ℕ} → r ≡ first_refusal (length_test (length es) (length hs) ∷ []) → r ≡ first_refusal (holds_test job ∷ [])
  unfolding holds_test length_test first_refusal
  holds-length e =
      e
      ∙ ap (λ (t : Bool). first_refusal (record { number = 9; passes = t } ∷ []))
      (same_test (leb (length es) (length hs)) (leb (length es) (length (take (length es) hs)))
      (λ t. le→leb (length es) (length (take (length es) hs)) (long_cut (length es) hs (leb→le (length es) (length hs) t)))
      (λ t. le→leb (length es) (length hs) (cut_long (length es) hs (leb→le (length es) (length (take (length es) hs)) t))))

  -- One processor has no limit, or all together decide.
  pub no_limit : (p : ℕ) → p < length es → hold_of job p ≡ 0 → true ≡ enough job
  unfolding enough
  no_limit p k e =
      sym (ap (λ (t : Bool). not (t && ltb (sum_to (hold_of job) (processors job)) (tasks job)))
      (same_test (all (λ p. ltb 0 (hold_of job p)) (processors job)) false
      (λ t. let l : 0 < hold_of job p = ltb→lt 0 (hold_of job p) (all-at (λ p. ltb 0 (hold_of job p)) (processors job) t p k) in omega arith)
      (λ x. absurd x)))

  pub one_free : (p : ℕ) → p < length es → get_or hs p 0 ≡ 0 → true ≡ enough job
  one_free p k e = no_limit p k (sym (hold_at_lem c es hs ws p k) ∙ e)

  pub all_decide : ((p : ℕ) → p < length es → 0 < hold_of job p) → {sum : ℕ} → sum ≡ sum_to (hold_of job) (length es) → leb (length ws) sum ≡ enough job
  unfolding enough
  all_decide h {sum} e =
      ap (leb (length ws)) e ∙ other (sum_to (hold_of job) (length es))
      ∙ sym (ap (λ (t : Bool). not (t && ltb (sum_to (hold_of job) (processors job)) (tasks job)))
      (T_true (all (λ p. ltb 0 (hold_of job p)) (processors job)) (all_of (λ p. ltb 0 (hold_of job p)) (processors job) (λ p k. lt→ltb 0 (hold_of job p) (h p k)))))
    where
      other : (n : ℕ) → leb (length ws) n ≡ not (ltb n (length ws))
      other n =
          elim (dec_le (length ws) n) [
            | yes k ↦ le-leb (length ws) n k ∙ sym (ap not (le-ltb n (length ws) k))
            | no k ↦ lt-leb (length ws) n (omega arith) ∙ sym (ap not (lt-ltb n (length ws) (omega arith)))
          ]

-- One hold more that is not 0, and the sum with it.
pub limited_more : (job : Job) (p : ℕ) → ((k : ℕ) → k < p → 0 < hold_of job k) → 0 < hold_of job p → (k : ℕ) → k < p + 1 → 0 < hold_of job k
limited_more job p h e k m =
    elim (dec_le (suc k) p) [ yes x ↦ h k x | no x ↦ subst (λ (i : ℕ). 0 < hold_of job i) (let z : p ≡ k = omega arith in z) e ]

pub sum_none : (f : ℕ → ℕ) → 0 ≡ sum_to f 0
unfolding sum_to
sum_none f = refl

pub sum_more : (f : ℕ → ℕ) (p : ℕ) {sum x : ℕ} → sum ≡ sum_to f p → x ≡ f p → sum + x ≡ sum_to f (p + 1)
unfolding sum_to
sum_more f p e g = ap₂ (λ (a b : ℕ). a + b) e g ∙ sym (ap (sum_to f) (add-one p))

-- The tests 17 and 18, b being what the code finds.
module _ (job : Job) {b : Bool} where
  pub too_few : b ≡ enough job → not b ≡ true → 17 ≡ first_refusal (enough_test job ∷ [])
  unfolding enough_test
  too_few e h = sym (fails 17 [] (sym e ∙ not-true b h))

  pub holds-enough : b ≡ enough job → not b ≡ false → 0 ≡ first_refusal (enough_test job ∷ [])
  unfolding enough_test
  holds-enough e h = sym (passes 17 [] (sym e ∙ not-false b h) ∙ passed-all)

  pub not_free : b ≡ held job → b ≡ true → 18 ≡ first_refusal (free_test job ∷ [])
  unfolding free_test
  not_free e h = sym (fails 18 [] (ap not (sym e ∙ h)))

  pub is_free : b ≡ held job → b ≡ false → 0 ≡ first_refusal (free_test job ∷ [])
  unfolding free_test
  is_free e h = sym (passes 18 [] (ap not (sym e ∙ h)) ∙ passed-all)

-- A job whose tests have passed has a processor; with that of its holds it is valid.
pub some_processor : (job : Job) → first_refusal (job_tests job) ≡ 0 → 1 ≤ processors job
unfolding job_tests processors_test
some_processor job e =
    leb→le 1 (processors job)
    (and_left (leb 1 (processors job)) (leb (processors job) max_processors)
    (accepted_passes (job_tests job) (job_numbered job) e (processors_test job.speeds) (Memᴰ.tail (Memᴰ.tail (Memᴰ.tail (Memᴰ.head refl))))))

pub tested_valid : {job : Job} {n : ℕ} → first_refusal (job_tests job) ≡ 0 → n ≡ first_refusal (holds_test job ∷ []) → n ≡ 0 → Valid job
unfolding holds_test length_test
tested_valid {job} e f z = job_accepted.0 e (pass_head (holds_test job) [] (omega arith) (sym f ∙ z))

pub ruleset enough_laws = (too_few, holds-enough)

pub ruleset free_laws = (not_free, is_free)
