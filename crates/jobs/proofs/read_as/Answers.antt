-- `read_as` meets its contract, edition by edition.
use mathlib.Core.Path.{ap₂}
use native.Mathlib.Omega.{arith}
use Rattle.jobs.proofs.AllRecords.{second_kind, startup_read, startup_none}
use Rattle.jobs.proofs.Passed.{kind_some}
use Rattle.jobs.proofs.read_as.Goals as goal

pub value_at-startup-requires : goal.value_at-startup-requires
value_at-startup-requires c =
    omega (arith, kind_some c.args.file.now (second_kind c.args.file.now c.is_second-second.ensures c.if-second.true))

pub returns-then-second : goal.returns-then-second
returns-then-second c =
    ap₂ (λ b v. record { second = b; startup = v; processors = c.args.processors; tasks = c.args.tasks }) c.is_second-second.ensures
    (startup_read c.args.file.now c.is_second-second.ensures c.if-second.true c.value_at-startup.ensures)

pub returns-else-second : goal.returns-else-second
returns-else-second c =
    ap₂ (λ b v. record { second = b; startup = v; processors = c.args.processors; tasks = c.args.tasks }) c.is_second-second.ensures
    (startup_none c.args.file.now c.is_second-second.ensures c.if-second.false)
