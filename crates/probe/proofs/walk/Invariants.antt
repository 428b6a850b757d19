use Rattle.parts.specs.Lent.{the}
use Rattle.probe.proofs.Walked.{Walked}
use Rattle.probe.proofs.walk.Given as goal

abbrev pub invariant-loop-p : goal.invariant-loop-p
invariant-loop-p g l = Walked (the l.line.job) l.bound l.initial.separators l.separators l.p l.a l.best
