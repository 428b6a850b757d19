use Rattle.parts.specs.Lent.{the}
use Rattle.planfile.proofs.Records.{PuttingPlan}
use Rattle.planfile.proofs.put_plan.Given as goal

abbrev pub invariant-loop-p : goal.invariant-loop-p
invariant-loop-p l = PuttingPlan (the l.line.job) l.separators l.initial.plan l.plan l.p
