use Rattle.parts.specs.Lent.{the}
use Rattle.bidding.proofs.Resume.{Scanned}
use Rattle.bidding.proofs.parting.Given as goal

abbrev pub invariant-loop-processor : goal.invariant-loop-processor
invariant-loop-processor g l = Scanned (the l.line.job) l.next l.separators l.processor l.start l.least
