use Rattle.parts.specs.Lent.{the}
use Rattle.parts.proofs.Measure.{Measured}
use Rattle.parts.proofs.measure_parts.Given as goal

abbrev pub invariant-loop-p : goal.invariant-loop-p
invariant-loop-p l = Measured (the l.line.job) l.separators l.p l.greatest
