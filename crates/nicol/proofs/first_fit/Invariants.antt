use Prim.Native.Nat.{suc, ◌-◌}
use Rattle.chain.specs.Job.{processors}
use Rattle.parts.specs.Kept.{KeptFrom}
use Rattle.parts.specs.Lent.{the}
use Rattle.nicol.proofs.Laws.{Halving}
use Rattle.nicol.proofs.first_fit.Given as goal

abbrev pub invariant-loop-low : goal.invariant-loop-low
invariant-loop-low l = record {
  halving : Halving (the l.line.job) l.p l.low l.high l.trials;
  kept : KeptFrom (suc (processors (the l.line.job))) l.initial.separators l.separators;
}

abbrev pub decreases-loop-low : goal.decreases-loop-low
decreases-loop-low l = l.high - l.low
