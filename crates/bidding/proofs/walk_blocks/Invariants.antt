use Rattle.parts.specs.Lent.{the}
use Rattle.bidding.proofs.Trial.{Trial}
use Rattle.bidding.proofs.walk_blocks.Given as goal

abbrev pub invariant-loop-k : goal.invariant-loop-k
invariant-loop-k g l = Trial (the l.line.job) l.bound l.initial.separators l.separators l.initial.leasts l.leasts l.k l.a l.best
