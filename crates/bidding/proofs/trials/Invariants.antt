use Prim.Native.Nat.{suc, ◌-◌, ◌<◌}
use Rattle.chain.specs.declared.Method.TheVariants.{Bidding}
use Rattle.chain.specs.Plan.{allowance}
use Rattle.chain.specs.Job.{Second, tasks, processors}
use Rattle.parts.specs.Lent.{the}
use Rattle.parts.specs.Kept.{KeptFrom}
use Rattle.bidding.specs.Blocks.{Laid, Known}
use Rattle.bidding.proofs.Laws.{Bidden}
use Rattle.bidding.proofs.trials.Given as goal

abbrev pub invariant-loop-visited : goal.invariant-loop-visited
invariant-loop-visited g l =
    record {
      bidden : Bidden (the l.line.job) l.bound l.failures;
      kept : KeptFrom (suc (processors (the l.line.job))) l.fn.separators l.separators;
      laid : 0 < tasks (the l.line.job) → Laid (the l.line.job) l.bound 0 l.separators;
      known : Known (the l.line.job) l.bound l.separators l.leasts;
    }

abbrev pub decreases-loop-visited : goal.decreases-loop-visited
decreases-loop-visited g l = allowance (Second l.line.job.startup) Bidding (the l.line.job) - l.failures
