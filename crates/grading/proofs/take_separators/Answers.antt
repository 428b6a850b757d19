-- `take_separators` meets its contract: after p turns the first p + 1 separators are taken.
use mathlib.Core.Path.{ap}
use Rattle.parts.specs.Lent.{the}
use Rattle.grading.specs.declared.PlanRecord.{PlanRecord}
use Rattle.grading.proofs.Laws.{taking_none, taking_next, taken_all}
use Rattle.grading.proofs.take_separators.Goals as goal

pub loop-p-init : goal.loop-p-init
loop-p-init c =
    taking_none (the c.args.job) c.args.plan.now c.args.separators.now c.requires.room (ap (λ (r : PlanRecord). r.from) c.record_at.ensures)

pub loop-p-preserved : goal.loop-p-preserved
loop-p-preserved c = taking_next (the c.args.job) c.args.plan.now c.loop-p.invariant c.loop-p-test.true c.record_at-record.ensures

pub returns : goal.returns
returns c =
    let h = taken_all (the c.args.job) c.args.plan.now c.args.separators.now c.record_at.result.from c.loop-p.invariant c.loop-p-test.false in
    record { joined = h.0; separators = h.1 }
