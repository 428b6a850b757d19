use Rattle.parts.proofs.Laws.{Total}
use Rattle.parts.proofs.total.Given as goal

abbrev pub invariant-loop-value : goal.invariant-loop-value
invariant-loop-value l = Total l.values l.value-index l.sum
