use Rattle.parts.specs.Lent.{the}
use Rattle.bidding.proofs.Blocks.{Going}
use Rattle.bidding.proofs.walk_block.Given as goal

abbrev pub invariant-loop-p : goal.invariant-loop-p
invariant-loop-p g l = Going (the l.line.job) l.bound l.initial.separators l.separators l.first l.stop l.p l.a l.was l.least
