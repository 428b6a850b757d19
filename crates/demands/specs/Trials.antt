-- How far a trial gets, over the answer of the call and over what it leaves; and that a plan shows nothing of its
-- trials. Scope, section 3.
use Rattle.std.specs.Prelude.{ℕ, suc, ◌≤◌, ◌≡◌, List, ◌++◌, ◌↔◌, T, eqb, drop, Ok}
use Rattle.bound.specs.declared.Bound.{Bound}
use Rattle.bound.specs.Order.{◌≼◌}
use Rattle.chain.specs.declared.Outcome.{Outcome}
use Rattle.chain.specs.declared.Outcome.TheVariants.{Fits, Fails}
use Rattle.chain.specs.Lists.{is_first}
use Rattle.chain.specs.Job.{Job, tasks, processors, at}
use Rattle.chain.specs.Probe.{walk, walked, Begins, next_bid}
use Rattle.chain.specs.Plan.{plan_of}
use Rattle.calls.specs.Answers.{probe_answer, probe_writes}
use Rattle.planner.specs.Answers.{plan_writes}
use Rattle.demands.specs.Call.{ByLists, job_by, Probe, Plan}
use Rattle.demands.specs.Demands.{Accepts, front, Fitting}

-- An accepted trial of the job at the bound B, with the list s lent.
pub record TrialLeft (job : Job) (B : Bound) (s : List ℕ) : Type 0 where
  pub outcome : Outcome
  pub answer : probe_answer job B s ≡ Ok outcome
  -- Scope 3.4: "it answers with the least next bid"
  pub bids : (C : Bound) → outcome ≡ Fails C → C ≡ next_bid job B
  -- Scope 3.7: "Whether it fits or fails, a trial writes s0 = 0 to s(P−1) and, as sP, the greatest index .. that the
  -- last machine reaches"
  pub separators : front job (probe_writes job B s) ≡ walked job B
  -- Scope 8.5: "Entries behind those that a call needs stay."
  pub behind : drop (suc (processors job)) (probe_writes job B s) ≡ drop (suc (processors job)) s
  -- Scope 3.8: "It fits exactly where sP is N; what it writes is then a division, the one of 3.1 and 3.2."
  pub fits : Fitting outcome ↔ (at (front job (probe_writes job B s)) (processors job) ≡ tasks job)
  pub division : Fitting outcome → front job (probe_writes job B s) ≡ walk job B
  -- Scope 3.9: "However tiles are given from the first on, in order and within the bound, the first p machines get no
  -- further than sp." What is written is one such way.
  pub begins : (p : ℕ) → p ≤ processors job → Begins job B p (front job (probe_writes job B s))
  pub furthest : (p : ℕ) (t : List ℕ) → p ≤ processors job → Begins job B p t
      → at t p ≤ at (front job (probe_writes job B s)) p
  -- Scope 3.13: "the number of machines that its walk came to: the smallest p with sp = N, 0 without tiles". Of the
  -- separators written.
  pub machines : (n : ℕ) → outcome ≡ Fits n
      → T (is_first (λ p. eqb (at (front job (probe_writes job B s)) p) (tasks job)) n)
  -- Scope 3.12: "each separator behind is N"
  pub filled : (n p : ℕ) → outcome ≡ Fits n → n ≤ p → p ≤ processors job
      → at (front job (probe_writes job B s)) p ≡ tasks job
  -- Scope 3.14: "No fewer machines than these, counted from the first, can take all tiles in order within the bound."
  pub fewest : (n p : ℕ) (t : List ℕ) → outcome ≡ Fits n → p ≤ processors job → Begins job B p t → at t p ≡ tasks job
      → n ≤ p

pub record Trials : Type 0 where
  pub trial : (g : ByLists) (B : Bound) (s : List ℕ) → Accepts (Probe g B s) → TrialLeft (job_by g) B s
  -- Scope 3.10: "a plan leaves its own P + 1 separators, and behind them the entries that were there"
  pub plan : (m : ℕ) (g : ByLists) (s t : List ℕ) → Accepts (Plan m g s t)
      → plan_writes (job_by g) m s t ≡ plan_of (job_by g) ++ drop (suc (processors (job_by g))) s
  -- Scope 3.11: "With a bound at least as great, no separator that a trial writes is smaller."
  pub grows : (g : ByLists) (B C : Bound) (s t : List ℕ) → Accepts (Probe g B s) → Accepts (Probe g C t) → B ≼ C
      → (p : ℕ) → p ≤ processors (job_by g)
      → at (front (job_by g) (probe_writes (job_by g) B s)) p ≤ at (front (job_by g) (probe_writes (job_by g) C t)) p
  -- Scope 3.15: "With a bound at least as great, a trial that fits comes to no more machines."
  pub falls : (g : ByLists) (B C : Bound) (s t : List ℕ) → Accepts (Probe g B s) → Accepts (Probe g C t) → B ≼ C
      → (n m : ℕ) → probe_answer (job_by g) B s ≡ Ok (Fits n) → probe_answer (job_by g) C t ≡ Ok (Fits m) → m ≤ n
