-- How far a trial gets: `trials`.
-- Assumes nothing.
use Prim.Native.Nat.{ℕ, suc, ◌≤◌}
use mathlib.Core.Path.{◌≡◌, sym, ap, subst, ◌∙◌}
use mathlib.Core.List.{List, ◌++◌}
use native.Mathlib.Omega.{arith}
use lib.Dec.{T, eqb}
use lib.ListN.{length, drop}
use Rattle.std.specs.Prelude.{Ok}
use Rattle.bound.specs.declared.Bound.{Bound}
use Rattle.bound.specs.Order.{◌≼◌}
use Rattle.bound.proofs.Order.{speed_real}
use Rattle.chain.specs.declared.Outcome.TheVariants.{Fits}
use Rattle.chain.specs.Lists.{is_first}
use Rattle.chain.specs.Job.{Job, tasks, processors, at}
use Rattle.chain.specs.Probe.{separator, walk, walked, Begins, fits, visited, probe}
use Rattle.chain.specs.Plan.{plan_of}
use Rattle.chain.specs.Refusal.{refusal}
use Rattle.chain.proofs.Numbers.{answered_ok}
use Rattle.chain.proofs.Parts.{Proper, valid_proper}
use Rattle.chain.proofs.Tests.{T_true}
use Rattle.chain.proofs.Walk.{walked_at, walked-fits, walked-walk, walked_begins, walked_furthest, growing}
use Rattle.chain.proofs.Visited.{visited_first, visited_rest, visited_fewest, visited_falls}
use Rattle.refusals.specs.Inputs.{probe_inputs}
use Rattle.refusals.proofs.Accepted.{accepted}
use Rattle.probe.proofs.Answer.{outcome_fits, fits_outcome, fails_outcome}
use Rattle.calls.specs.Answers.{probe_answer, probe_writes}
use Rattle.calls.proofs.Promises.{probe-number, probe-front, probe_behind, probe_fitted}
use Rattle.planner.specs.Answers.{plan_writes}
use Rattle.planner.proofs.Promises.{plan_number, plan_accepted, accepted_written}
use Rattle.demands.specs.Call.{ByLists, edition_by, job_by, Probe, Plan}
use Rattle.demands.specs.Demands.{Accepts, front}
use Rattle.demands.specs.Trials.{TrialLeft, Trials}

-- No test refuses an accepted trial.
unrefused : (g : ByLists) (B : Bound) (s : List ℕ) → Accepts (Probe g B s)
    → refusal (job_by g) (probe_inputs (job_by g) B (length s)) ≡ 0
unrefused g B s e = sym (probe-number (job_by g) B s) ∙ e

-- An accepted trial,
trial : (g : ByLists) (B : Bound) (s : List ℕ) → Accepts (Probe g B s) → TrialLeft (job_by g) B s
unfolding probe_answer
trial g B s e =
    record {
      outcome = probe job B;
      answer = sym (answered_ok (probe job B) none);
      bids = λ C f. (fails_outcome job B f).1;
      separators = left;
      behind = probe_behind job B s none;
      fits = (
        λ f. ap (λ (l : List ℕ). at l (processors job)) left ∙ (walked-fits ok B).0 (fits_outcome job B f.1).0,
        λ f. (
          visited job B,
          outcome_fits job B
              (T_true (fits job B) ((walked-fits ok B).1 (sym (ap (λ (l : List ℕ). at l (processors job)) left) ∙ f))),
        ),
      );
      division = λ f. fitted (fits_outcome job B f.1).0;
      begins = λ p h. subst (Begins job B p) (sym left) (walked_begins job B p h);
      furthest = λ p t h b. subst (λ (l : List ℕ). at t p ≤ at l p) (sym left) (walked_furthest job B p t h b);
      machines = λ n f.
          let m = fits_outcome job B f in
          subst (λ (l : List ℕ). T (is_first (λ p. eqb (at l p) (tasks job)) n)) (sym (fitted m.0))
          (subst (λ (k : ℕ). T (is_first (λ p. eqb (at (walk job B) p) (tasks job)) k)) (sym m.1)
          (visited_first ok B).1);
      filled = λ n p f h l.
          let m = fits_outcome job B f in
          ap (λ (xs : List ℕ). at xs p) (fitted m.0) ∙ visited_rest ok B p (omega (arith, m.1)) l;
      fewest = λ n p t f h b x.
          let m = fits_outcome job B f in
          omega (arith, m.1, visited_fewest ok B m.0 p t h b x);
    }
  where
    job : Job
    job = job_by g

    none : refusal job (probe_inputs job B (length s)) ≡ 0
    none = unrefused g B s e

    ok : Proper job
    ok = valid_proper (accepted none).valid

    left : front job (probe_writes job B s) ≡ walked job B
    left = probe-front job B s none

    fitted : T (fits job B) → front job (probe_writes job B s) ≡ walk job B
    fitted f = left ∙ walked-walk ok B f

-- two of them, at a bound and at a greater one,
grows : (g : ByLists) (B C : Bound) (s t : List ℕ) → Accepts (Probe g B s) → Accepts (Probe g C t) → B ≼ C
    → (p : ℕ) → p ≤ processors (job_by g)
    → at (front (job_by g) (probe_writes (job_by g) B s)) p ≤ at (front (job_by g) (probe_writes (job_by g) C t)) p
grows g B C s t e f h p l =
    omega (
      arith,
      left B s e,
      left C t f,
      growing job
          (speed_real (omega (arith, (accepted (unrefused g B s e)).bounds.0.speed_positive))) h p,
    )
  where
    job : Job
    job = job_by g

    left : (D : Bound) (u : List ℕ) → Accepts (Probe g D u)
        → at (front job (probe_writes job D u)) p ≡ separator job D p
    left D u a = ap (λ (xs : List ℕ). at xs p) (probe-front job D u (unrefused g D u a)) ∙ walked_at job D p l

falls : (g : ByLists) (B C : Bound) (s t : List ℕ) → Accepts (Probe g B s) → Accepts (Probe g C t) → B ≼ C
    → (n m : ℕ) → probe_answer (job_by g) B s ≡ Ok (Fits n) → probe_answer (job_by g) C t ≡ Ok (Fits m) → m ≤ n
falls g B C s t e f h n m x y =
    let a = accepted (unrefused g B s e) in
    omega (
      arith,
      (probe_fitted (job_by g) B s x).came,
      (probe_fitted (job_by g) C t y).came,
      visited_falls (valid_proper a.valid) (speed_real (omega (arith, a.bounds.0.speed_positive))) h,
    )

-- and an accepted plan.
plan : (m : ℕ) (g : ByLists) (s t : List ℕ) → Accepts (Plan m g s t)
    → plan_writes (job_by g) m s t ≡ plan_of (job_by g) ++ drop (suc (processors (job_by g))) s
plan m g s t e =
    accepted_written (edition_by g) (job_by g) m s t
    (plan_accepted (edition_by g) (job_by g) m s t (sym (plan_number (edition_by g) (job_by g) m s t) ∙ e)).1

pub trials : Trials
trials = record { trial = trial; grows = grows; falls = falls; plan = plan }
