use Prim.Native.Nat.{suc, ◌-◌, ◌<◌}
use mathlib.Core.Path.{◌≡◌}
use lib.ListN.{length}
use Rattle.chain.specs.Limits.{max_processors}
use Rattle.chain.specs.Lists.{digits}
use Rattle.chain.specs.Job.{processors}
use Rattle.chain.specs.Plan.{difference}
use Rattle.parts.specs.Kept.{KeptFrom}
use Rattle.parts.specs.Lent.{the}
use Rattle.bisection.specs.Closed.{Fitted}
use Rattle.bisection.proofs.Laws.{Halved}
use Rattle.bisection.proofs.bisect.Given as goal

abbrev pub invariant-loop-failed : goal.invariant-loop-failed
invariant-loop-failed l = record {
  halved : Halved (the l.line.job) l.low l.high l.rounds;
  kept : KeptFrom (suc (processors (the l.line.job))) l.initial.separators l.separators;
  room : processors (the l.line.job) < length l.separators;
  fitted : Fitted (the l.line.job) l.fitted l.high l.separators;
  failed_length : length l.failed ≡ suc max_processors;
  trial_length : length l.trial ≡ suc max_processors;
}

abbrev pub decreases-loop-failed : goal.decreases-loop-failed
decreases-loop-failed l = digits (difference (the l.line.job)) - l.rounds
