-- `test_records` meets its contract: as long as the loop goes on, the records passed are accepted and counted.
use mathlib.Core.Path.{sym, ap, ◌∙◌}
use native.Mathlib.Omega.{arith}
use Rattle.chain.specs.Numbers.{refused}
use Rattle.refusals.proofs.Answering.{passed_on}
use Rattle.jobs.specs.Kinds.{kind_number}
use Rattle.jobs.proofs.AllRecords.{tested_none, tested_processor, tested_task, tested_startup, partial_told, record_told, all_told}
use Rattle.jobs.proofs.AllTasks.{tasks_told}
use Rattle.jobs.proofs.test_records.Goals as goal
use Rattle.jobs.proofs.test_records.Goals.{in-Processor, in-Task+else-tasks-eq0, in-Startup}

pub returns-then-file-ne0 : goal.returns-then-file-ne0
returns-then-file-ne0 c = partial_told c.args.file.now c.if-file-ne0.true

pub loop-i-init : goal.loop-i-init
loop-i-init c = tested_none c.if-file-ne0.false

pub test_record-requires : goal.test_record-requires
test_record-requires c = (c.loop-i-test.true, c.loop-i.invariant.tasks_are)

pub returns-in_err-kind : goal.returns-in_err-kind
returns-in_err-kind c =
    record_told c.args.file.now c.loop-i.invariant c.loop-i-test.true c.test_record.ensures.number c.in_err-kind.was
    (passed_on _ c.from_residual.ensures.1)

pub returns-then-all_tasks : goal.returns-then-all_tasks
returns-then-all_tasks c =
    tasks_told c.args.file.now c.loop-i.invariant c.if-tasks-eq0.true (omega arith) c.all_tasks.ensures c.if-all_tasks.true c.read_as.ensures

pub loop-i-preserved : goal.loop-i-preserved
unfolding refused kind_number
loop-i-preserved c =
    let passed = sym c.in_ok-kind.ensures.number in
    let kind = sym c.in_ok-kind.ensures.kind in
    elim c.match-kind.branch [
      | in-Processor w ↦
          tested_processor c.loop-i.invariant c.loop-i-test.true passed (kind ∙ ap kind_number w.in-Processor.is) w.processors-is w.tasks-is
      | in-Task+else-tasks-eq0 w ↦
          tested_task c.loop-i.invariant c.loop-i-test.true passed (kind ∙ ap kind_number w.in-Task.is) w.processors-is w.tasks-is
      | in-Startup w ↦
          tested_startup c.loop-i.invariant c.loop-i-test.true passed (kind ∙ ap kind_number w.in-Startup.is) w.processors-is w.tasks-is
    ]

pub returns : goal.returns
returns c = all_told c.args.file.now c.loop-i.invariant c.loop-i-test.false c.read_as-2.ensures
