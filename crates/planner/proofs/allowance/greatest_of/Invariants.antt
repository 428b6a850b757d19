use Rattle.planner.proofs.Allowances.{Most}
use Rattle.planner.proofs.allowance.greatest_of.Given as goal

abbrev pub invariant-loop-value : goal.invariant-loop-value
invariant-loop-value l = Most l.values l.value-index l.most
