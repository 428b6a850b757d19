use Rattle.parts.specs.Lent.{the}
use Rattle.grading.proofs.Laws.{Taking}
use Rattle.grading.proofs.take_separators.Given as goal

abbrev pub invariant-loop-p : goal.invariant-loop-p
invariant-loop-p l = Taking (the l.job) l.plan l.initial.separators l.separators l.joined l.p
