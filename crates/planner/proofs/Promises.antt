-- Demand 3 of running code: what a caller may read off the answer of planning and off the lists that it leaves.
-- Assumes nothing.
use Prim.Native.Nat.{ℕ, suc, ◌+◌, ◌≤◌, ◌<◌}
use mathlib.Core.Path.{◌≡◌, refl, sym, ap, subst, ◌∙◌}
use mathlib.Core.Bool.{not}
use mathlib.Core.List.{List, ◌++◌}
use mathlib.Core.Logic.{◌≢◌, ◌↔◌}
use native.Mathlib.Omega.{arith}
use lib.Dec.{T}
use lib.ListN.{length, take, drop}
use lib.Seq.{drop_at}
use Rattle.std.specs.Prelude.{Result, Ok, Err}
use Rattle.chain.specs.declared.Method.{Method}
use Rattle.chain.specs.declared.Refusal.{Refusal}
use Rattle.chain.specs.Numbers.{chosen_of, code_of}
use Rattle.chain.specs.Refusal.{refusal}
use Rattle.chain.proofs.Numbers.{code_nonzero}
use Rattle.bound.specs.Order.{times, ◌≼◌, ◌≈◌}
use Rattle.chain.specs.Job.{Edition, OfEdition, Job, Valid, processors, total_weight, bound_at, bottleneck, ideal, held}
use Rattle.chain.specs.Plan.{plan_of, Best, MethodEnds, count_by, found_by, Plan, PlanBy}
use Rattle.refusals.specs.Inputs.{free_by, plan_inputs}
use Rattle.chain.proofs.Refusals.{Each}
use Rattle.chain.proofs.Parts.{valid_proper}
use Rattle.chain.proofs.Demand.{method_is, method_allowed, plan_of_best}
use Rattle.chain.proofs.Imbalance.{imbalance_none, division_least, division_nought, division_even}
use Rattle.refusals.proofs.Accepted.{accepted}
use Rattle.refusals.specs.Answers.{alone, said_by}
use Rattle.refusals.proofs.Answering.{answer_said_lem, said-nothing, number_of_lem}
use Rattle.refusals.proofs.Known.{refusal_known}
use Rattle.refusals.proofs.Values.{answered_value}
use Rattle.refusals.proofs.Lent.{lent_refused, lent-front}
use Rattle.parts.proofs.Front.{taken}
use Rattle.planner.specs.declared.Figures.{Figures}
use Rattle.planner.specs.Answers.{figure_values, planned_said, plan_refusal, plan_figures, chosen_answer, chosen_values}
use Rattle.planner.specs.Answers.{plan_answer, plan_writes, Tested}
use Rattle.planner.proofs.Laws.{walk_is_plan, plan_length, tested_plannable, taken_by, known_number, unknown_number}

-- The plan that an accepted call gives: the separators of the definition, with the figures that were answered.
abbrev pub plan_with : Job → Figures → Plan
plan_with job f =
    record {
      separators = plan_of job;
      count = f.count;
      allowed = f.allowance;
      bound = f.bottleneck;
      excess = f.imbalance;
    }

module _ (job : Job) (m : ℕ) (s t : List ℕ) where
  -- A refusal leaves the separators as they were.
  pub plan_keeps : plan_refusal job m (length s) (length t) ≢ 0 → plan_writes job m s t ≡ s
  unfolding plan_writes
  plan_keeps h = lent_refused h (plan_of job) s

  -- Where nothing refuses it, the job is within the limits.
  pub plan_valid : plan_refusal job m (length s) (length t) ≡ 0 → Valid job
  unfolding plan_refusal
  plan_valid z = (accepted z).valid

  -- and can be planned by the method.
  pub plan_tested : {k : Method} → chosen_of m ≡ Ok k → plan_refusal job m (length s) (length t) ≡ 0 → Tested k job
  unfolding plan_refusal
  plan_tested {k} e z =
      let a = accepted z in
      record {
        valid = a.valid;
        enough-holds = a.keeping.0;
        taken = taken_by k job (subst (λ (n : ℕ). Each (λ j. T (not (held j))) (free_by n job))
            (sym (known_number m e)) a.free);
      }

-- Of a job of this edition.
module _ (edition : Edition) (job : Job) (m : ℕ) (s t : List ℕ) where
  -- The answer says the figures by the method, or the refusal's number.
  pub plan_said : planned_said (plan_answer edition job m s t)
      ≡ said_by (plan_refusal job m (length s) (length t)) (chosen_values edition job (chosen_of m))
  unfolding plan_answer chosen_answer plan_refusal
  plan_said = go (chosen_of m) refl
    where
      go : (c : Result Method Refusal) → chosen_of m ≡ c
          → planned_said (chosen_answer edition job c (refusal job (plan_inputs job m (length s) (length t))))
          ≡ said_by (refusal job (plan_inputs job m (length s) (length t))) (chosen_values edition job c)
      go (Ok method) e = answer_said_lem (refusal_known job (plan_inputs job m (length s) (length t))) figure_values
          (plan_figures edition method job)
      go (Err unknown) e = ap alone (unknown_number edition job m s t e)
          ∙ said-nothing (refusal job (plan_inputs job m (length s) (length t)))

  pub plan_number : (planned_said (plan_answer edition job m s t)).number ≡ plan_refusal job m (length s) (length t)
  plan_number = number_of_lem (chosen_values edition job (chosen_of m)) plan_said

  -- A refusal is given with a number, and only where a test fails;
  pub plan_refused : {e : Refusal} → plan_answer edition job m s t ≡ Err e
      → (code_of e ≡ plan_refusal job m (length s) (length t)) × (code_of e ≢ 0)
  plan_refused {e} f = (
    sym (ap (λ (r : Result Figures Refusal). (planned_said r).number) f)
        ∙ plan_number,
    code_nonzero e,
  )

  -- where none fails, the call is accepted.
  pub plan_accepted : plan_refusal job m (length s) (length t) ≡ 0
      → (f : Figures) × (plan_answer edition job m s t ≡ Ok f)
  plan_accepted z = go (plan_answer edition job m s t) refl
    where
      go : (r : Result Figures Refusal) → plan_answer edition job m s t ≡ r
          → (f : Figures) × (plan_answer edition job m s t ≡ Ok f)
      go (Ok f) e = (f, e)
      go (Err unknown) e = let r = plan_refused e in absurd (r.1 (r.0 ∙ z))

  -- An accepted call: nothing refuses it, its number is a method's, and the figures are that method's.
  pub record Given (f : Figures) : Type 0 where
    pub none : plan_refusal job m (length s) (length t) ≡ 0
    pub method : Method
    pub chosen : chosen_of m ≡ Ok method
    pub figures : f ≡ plan_figures edition method job

  pub given : {f : Figures} → plan_answer edition job m s t ≡ Ok f → Given f
  unfolding plan_answer chosen_answer
  given {f} e = go (chosen_of m) refl e
    where
      go : (c : Result Method Refusal) → chosen_of m ≡ c
          → chosen_answer edition job c (plan_refusal job m (length s) (length t)) ≡ Ok f → Given f
      go (Ok k) x h =
          let p = answered_value (plan_refusal job m (length s) (length t)) (plan_figures edition k job) h in
          record { none = p.0; method = k; chosen = x; figures = p.1 }
      go (Err unknown) x h = let z : ◌≡◌ {A = ℕ} 0 1 = cc in absurd (let y : ⊥ = omega arith in y)

  module _ {f : Figures} (e : plan_answer edition job m s t ≡ Ok f) where
    valid : Valid job
    valid = plan_valid job m s t (given e).none

    tested : Tested (given e).method job
    tested = plan_tested job m s t (given e).chosen (given e).none

    -- No division has a smaller bottleneck; of an equal one each separator is at or before.
    pub accepted_best : Best job (plan_of job)
    accepted_best = plan_of_best (tested_plannable tested)

    -- The method that was called ends with the count answered.
    pub accepted_ends : MethodEnds (given e).method job f.count (found_by (given e).method job)
    unfolding plan_figures
    accepted_ends =
        subst (λ (g : Figures). MethodEnds (given e).method job g.count (found_by (given e).method job))
        (sym (given e).figures)
        (method_is (tested_plannable tested) (given e).method tested.taken)

    -- The plan is the method's, with every figure.
    pub accepted_plan : PlanBy edition (given e).method job (plan_with job f)
    unfolding plan_figures
    accepted_plan =
        let is = method_is (tested_plannable tested) (given e).method tested.taken in
        subst (λ (g : Figures). PlanBy edition (given e).method job (plan_with job g)) (sym (given e).figures)
        (record {
          taken = tested.taken;
          found = found_by (given e).method job;
          ended = is;
          walked = sym (walk_is_plan tested (count_by (given e).method job) (found_by (given e).method job) is);
          allows = refl;
          measured = refl;
          exceeds = refl;
        })

    -- The count is within the allowance.
    pub accepted_count : OfEdition edition job → f.count ≤ f.allowance
    unfolding plan_figures
    accepted_count of =
        subst (λ (g : Figures). g.count ≤ g.allowance) (sym (given e).figures)
        (method_allowed (tested_plannable tested) of (given e).method tested.taken (count_by (given e).method job)
        (found_by (given e).method job)
        (method_is (tested_plannable tested) (given e).method tested.taken))

    -- The imbalance is 0 where nothing weighs;
    pub accepted_weightless : total_weight job ≡ 0 → f.imbalance ≡ 0
    unfolding plan_figures
    accepted_weightless z =
        subst (λ (g : Figures). g.imbalance ≡ 0) (sym (given e).figures)
        (imbalance_none job (bottleneck job (plan_of job)) z)

    module _ (weighs : 0 < total_weight job) where
      -- else it is the least number of thousandths by which the ideal has to grow to be no less than the bottleneck.
      pub accepted_least : (n : ℕ) → (f.imbalance ≤ n) ↔ (times 1000 f.bottleneck ≼ times (1000 + n) (ideal job))
      unfolding plan_figures
      accepted_least n =
          subst (λ (g : Figures). (g.imbalance ≤ n) ↔ (times 1000 g.bottleneck ≼ times (1000 + n) (ideal job)))
          (sym (given e).figures)
          (division_least (valid_proper valid) weighs accepted_best.partition n)

      -- Scope 6.5: "With Wtot above 0 it is 0 exactly for a plan that meets the ideal: its bottleneck equals the ideal as a bound."
      pub accepted_nought : (f.imbalance ≡ 0) ↔ (f.bottleneck ≈ ideal job)
      unfolding plan_figures
      accepted_nought =
          subst (λ (g : Figures). (g.imbalance ≡ 0) ↔ (g.bottleneck ≈ ideal job)) (sym (given e).figures)
          (division_nought (valid_proper valid) weighs accepted_best.partition)

      -- So it is 0 exactly for an even row.
      pub accepted_even : (f.imbalance ≡ 0) ↔ ((p : ℕ) → p < processors job → bound_at job (plan_of job) p ≈ ideal job)
      unfolding plan_figures
      accepted_even =
          subst (λ (g : Figures). (g.imbalance ≡ 0) ↔ ((p : ℕ) → p < processors job
          → bound_at job (plan_of job) p ≈ ideal job))
          (sym (given e).figures) (division_even (valid_proper valid) weighs accepted_best.partition)

    pub accepted_written : plan_writes job m s t ≡ plan_of job ++ drop (suc (processors job)) s
    unfolding plan_writes
    accepted_written = lent-front (plan_of job) s (given e).none (plan_length valid)

    -- The first P + 1 separators are the plan's, and those behind stay.
    pub accepted_separators : take (suc (processors job)) (plan_writes job m s t) ≡ plan_of job
    accepted_separators = taken (plan_of job) (drop (suc (processors job)) s) (plan_length valid) accepted_written

    pub accepted_behind : drop (suc (processors job)) (plan_writes job m s t) ≡ drop (suc (processors job)) s
    accepted_behind =
        ap (drop (suc (processors job))) accepted_written
        ∙ drop_at (plan_of job) (drop (suc (processors job)) s) (suc (processors job)) (plan_length valid)

-- Any two accepted calls for a job, by whichever methods and with whichever lists, write the same separators, of either edition.
pub same_separators : (d e : Edition) (job : Job) (m k : ℕ) (s t s' t' : List ℕ) {f g : Figures}
    → plan_answer d job m s t ≡ Ok f → plan_answer e job k s' t' ≡ Ok g
    → take (suc (processors job)) (plan_writes job m s t) ≡ take (suc (processors job)) (plan_writes job k s' t')
same_separators d e job m k s t s' t' x y = accepted_separators d job m s t x
    ∙ sym (accepted_separators e job k s' t' y)
