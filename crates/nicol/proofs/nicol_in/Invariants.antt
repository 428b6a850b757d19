use Prim.Native.Nat.{suc}
use Rattle.chain.specs.Job.{processors}
use Rattle.parts.specs.Kept.{KeptFrom}
use Rattle.parts.specs.Lent.{the}
use Rattle.nicol.proofs.Laws.{Searching}
use Rattle.nicol.proofs.nicol_in.Given as goal

abbrev pub invariant-loop-p : goal.invariant-loop-p
invariant-loop-p l = record {
  searching : Searching (the l.line.job) l.p l.a l.count l.least;
  kept : KeptFrom (suc (processors (the l.line.job))) l.initial.separators l.separators;
}
