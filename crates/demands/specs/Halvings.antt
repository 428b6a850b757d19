-- What halving the row gives, over the answer of the call and over what it leaves. Scope, section 16.
use Rattle.std.specs.Prelude.{ℕ, suc, ◌+◌, ◌*◌, ◌≤◌, ◌<◌, ◌≡◌, List, [], ◌∷◌, ◌↔◌, Ok}
use Rattle.bound.specs.declared.Bound.{Bound}
use Rattle.bound.specs.Order.{◌≼◌}
use Rattle.chain.specs.Job.{Job, tasks, processors, last, part_load, total_weight, heaviest, at, Partition, bottleneck}
use Rattle.chain.specs.Halving.{Halvable, halving}
use Rattle.chain.specs.Plan.{plan_of}
use Rattle.chain.specs.Refusal.{first_refusal, job_tests}
use Rattle.calls.specs.Answers.{halving_answer, halving_writes}
use Rattle.demands.specs.Call.{ByLists, job_by, Heuristic, Halving}
use Rattle.demands.specs.Demands.{number, Accepts, front}

-- An accepted halving of the job's row, with the list s lent.
pub record HalvedRow (job : Job) (s : List ℕ) : Type 0 where
  pub bound : Bound
  pub answer : halving_answer job s ≡ Ok bound
  -- Scope 16.6: "The separators are written, and their bottleneck is the answer."
  pub separators : front job (halving_writes job s) ≡ halving job
  pub partition : Partition job (front job (halving_writes job s))
  pub measured : bound ≡ bottleneck job (front job (halving_writes job s))
  -- Scope 16.7: "The greatest load is at most Wtot/P + heaviest × (P − 1)/P". Scope 17.6: "The greatest load of a
  -- halved row is at most c more than 16.7 says." The answer's load is the greatest, and it is so, times P.
  pub greatest : (p : ℕ) → p < processors job
      → part_load job (at (front job (halving_writes job s)) p) (at (front job (halving_writes job s)) (suc p))
      ≤ bound.load
  pub light : processors job * bound.load ≤ total_weight job + heaviest job * last job + job.startup * processors job
  -- Scope 16.8: "The bottleneck is no smaller than the plan's."
  pub least : bottleneck job (plan_of job) ≼ bound
  -- Scope 16.9: "One machine takes all tiles."
  pub alone : processors job ≡ 1 → front job (halving_writes job s) ≡ 0 ∷ tasks job ∷ []

pub record Halvings : Type 0 where
  pub halved : (g : ByLists) (s : List ℕ) → Accepts (Halving g s) → HalvedRow (job_by g) s
  -- Scope 16.11: "What the quick plan accepts is accepted where the row is such a one; a job within its limits whose
  -- row is none is refused with 14, whatever list is lent." No other call is accepted, and none other is refused with
  -- 14. (Within its limits: its tests 16 and 5 to 8 pass.)
  pub accepted : (g : ByLists) (s : List ℕ) → Accepts (Halving g s) ↔ (Accepts (Heuristic g s) × Halvable g.speeds)
  pub refused : (g : ByLists) (s : List ℕ)
      → (number (Halving g s) ≡ 14) ↔ ((first_refusal (job_tests (job_by g)) ≡ 0) × (Halvable g.speeds → ⊥))
