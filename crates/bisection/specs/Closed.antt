-- What bisection leaves in the lent list: the walk of its last trial that fitted, which may be the plan.
use Rattle.std.specs.Prelude.{ℕ, suc, ◌≡◌, Option, IfSome, List, T, take}
use Rattle.bound.specs.declared.Bound.{Bound}
use Rattle.chain.specs.Job.{Job, processors, bottleneck}
use Rattle.chain.specs.Probe.{walk, fits}
use Rattle.chain.specs.Plan.{plan_of}

-- The walk of a trial that fits stands in front of the list xs; B is its bottleneck.
pub record FitStands (job : Job) (B : Bound) (xs : List ℕ) : Type 0 where
  pub bound : Bound
  pub fitting : T (fits job bound)
  pub front : take (suc (processors job)) xs ≡ walk job bound
  pub measured : B ≡ bottleneck job (walk job bound)

-- The plan does.
pub record PlanStands (job : Job) (B : Bound) (xs : List ℕ) : Type 0 where
  pub front : take (suc (processors job)) xs ≡ plan_of job
  pub measured : B ≡ bottleneck job (plan_of job)

-- The first where a trial has fitted: its bottleneck is the high end.
abbrev pub Fitted : Job → Option Bound → Bound → List ℕ → Type 0
Fitted job fitted high xs = IfSome fitted (λ B. (B ≡ high) × FitStands job B xs)

-- The second where a bottleneck is given.
abbrev pub Closed : Job → Option Bound → List ℕ → Type 0
Closed job measured xs = IfSome measured (λ B. PlanStands job B xs)
