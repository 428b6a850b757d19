-- What bidding goes on from: a trial that failed.
use Rattle.std.specs.Prelude.{ℕ, ◌≤◌, ◌<◌, ◌≡◌, List, length, get_or}
use Rattle.bound.specs.declared.Bound.{Bound}
use Rattle.chain.specs.Ranges.{Lendable}
use Rattle.chain.specs.Job.{Job, processors, last}
use Rattle.chain.specs.Probe.{separator}
use Rattle.probe.specs.Walk.{Rejected}

-- The walk of a trial that failed, with this next bid, stands in front of the list.
pub record FailedWalk (job : Job) (next : Bound) (xs : List ℕ) : Type 0 where
  pub bound : Bound
  pub lendable : Lendable bound
  pub rejected : Rejected job bound next
  pub room : processors job < length xs
  pub each : (p : ℕ) → p ≤ last job → get_or xs p 0 ≡ separator job bound p
