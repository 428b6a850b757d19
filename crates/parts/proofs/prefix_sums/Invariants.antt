use Rattle.parts.proofs.Laws.{Summed}
use Rattle.parts.proofs.prefix_sums.Given as goal

abbrev pub invariant-loop-i : goal.invariant-loop-i
invariant-loop-i l = Summed l.weights l.initial.sums l.sums l.i l.sum
