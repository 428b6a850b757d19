-- `put_plan` meets its contract: after p turns the first p records stand in the buffer.
use Rattle.parts.specs.Lent.{the}
use Rattle.planfile.proofs.Records.{plan_none, plan_next, plan_all}
use Rattle.planfile.proofs.put_plan.Goals as goal

pub loop-p-init : goal.loop-p-init
loop-p-init c = plan_none (the c.args.line.job) c.args.separators.now c.args.plan.now

pub loop-p-preserved : goal.loop-p-preserved
loop-p-preserved c = plan_next c.requires.room c.loop-p.invariant c.loop-p-test.true c.put_plan_record.ensures

pub returns : goal.returns
returns c = plan_all c.loop-p.invariant c.loop-p-test.false
