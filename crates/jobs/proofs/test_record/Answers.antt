-- `test_record` meets its contract: 3, then 4 and 5 of a processor, 6 of a task, 15 and 16 of the start-up work.
use mathlib.Core.Path.{refl, ap, ◌∙◌}
use mathlib.Core.Logic.{inl, inr}
use Rattle.std.specs.Prelude.{Err}
use Rattle.std.proofs.lemmas.Result.{err_from_is_err_and}
use Rattle.chain.specs.Limits.{max_weight, max_startup, max_speed}
use Rattle.chain.specs.Numbers.{code_of, refused}
use Rattle.jobs.specs.Kinds.{kind_number}
use Rattle.jobs.specs.Parse.{kind_at}
use Rattle.jobs.proofs.KindNumbers.{kind_told}
use Rattle.jobs.proofs.OneRecord.{kind_fails, not-blank, processor_late, processor_low, processor_high, processor_passes, task_high, task_passes, startup_late, startup_high, startup_passes}
use Rattle.jobs.proofs.test_record.Goals as goal

pub returns-in_err-kind-clause-number : goal.returns-in_err-kind-clause-number
returns-in_err-kind-clause-number c =
    let p = err_from_is_err_and c.from_residual.result c.from_residual.ensures.1 in
    kind_fails c.args.file.now c.args.i c.byte_at.ensures c.try_from.ensures c.in_err-kind.was (p.1 ∙ ap Err p.2)

pub blank_at-requires : goal.blank_at-requires
unfolding kind_at
blank_at-requires c = (c.requires.0, kind_told c.try_from.ensures c.in_ok-kind.was ∙ c.byte_at.ensures)

pub returns-then-not-blank_at-clause-number : goal.returns-then-not-blank_at-clause-number
unfolding refused code_of
returns-then-not-blank_at-clause-number c = not-blank c.args.file.now c.args.i c.blank_at.ensures c.if-not-blank_at.true

pub returns-in-Processor-clause-number : goal.returns-in-Processor-clause-number
unfolding kind_at kind_number refused code_of
returns-in-Processor-clause-number c =
    processor_late c.args.file.now c.args.i (kind_told c.try_from.ensures c.in_ok-kind.was ∙ c.byte_at.ensures)
    c.value_at-value.ensures c.blank_at.ensures c.requires.1 c.if-not-blank_at.false (ap kind_number c.in-Processor.is) c.if-tasks-gt0.true

pub returns-in-Processor-2-clause-number : goal.returns-in-Processor-2-clause-number
unfolding kind_at kind_number refused code_of max_speed
returns-in-Processor-2-clause-number c =
    let kind = kind_told c.try_from.ensures c.in_ok-kind.was ∙ c.byte_at.ensures in
    let one = ap kind_number c.in-Processor.is in
    elim c.if-value-gt-MAX_SPEED.either [
      | inl low ↦
          processor_low c.args.file.now c.args.i kind c.value_at-value.ensures c.blank_at.ensures c.requires.1 c.if-not-blank_at.false one
          c.if-tasks-gt0.false low
      | inr high ↦
          processor_high c.args.file.now c.args.i kind c.value_at-value.ensures c.blank_at.ensures c.requires.1 c.if-not-blank_at.false one
          c.if-tasks-gt0.false refl high.1
    ]

pub returns-in-Task-clause-number : goal.returns-in-Task-clause-number
unfolding kind_at kind_number refused code_of max_weight
returns-in-Task-clause-number c =
    task_high c.args.file.now c.args.i (kind_told c.try_from.ensures c.in_ok-kind.was ∙ c.byte_at.ensures)
    c.value_at-value.ensures c.blank_at.ensures c.if-not-blank_at.false (ap kind_number c.in-Task.is) refl c.if-value-gt-MAX_WEIGHT.true

pub returns-in-Startup-clause-number : goal.returns-in-Startup-clause-number
unfolding kind_at kind_number refused code_of
returns-in-Startup-clause-number c =
    startup_late c.args.file.now c.args.i (kind_told c.try_from.ensures c.in_ok-kind.was ∙ c.byte_at.ensures)
    c.value_at-value.ensures c.blank_at.ensures c.if-not-blank_at.false (ap kind_number c.in-Startup.is) c.if-i-gt0.true

pub returns-in-Startup-2-clause-number : goal.returns-in-Startup-2-clause-number
unfolding kind_at kind_number refused code_of max_startup
returns-in-Startup-2-clause-number c =
    startup_high c.args.file.now c.args.i (kind_told c.try_from.ensures c.in_ok-kind.was ∙ c.byte_at.ensures)
    c.value_at-value.ensures c.blank_at.ensures c.if-not-blank_at.false (ap kind_number c.in-Startup.is) c.if-i-gt0.false refl c.if-value-gt-MAX_STARTUP.true

pub returns-in_default-clause-number : goal.returns-in_default-clause-number
unfolding kind_at kind_number refused code_of max_speed
returns-in_default-clause-number c =
    processor_passes c.args.file.now c.args.i (kind_told c.try_from.ensures c.in_ok-kind.was ∙ c.byte_at.ensures)
    c.value_at-value.ensures c.blank_at.ensures c.requires.1 c.if-not-blank_at.false (ap kind_number c.in-Processor.is) c.if-tasks-gt0.false refl c.if-value-gt-MAX_SPEED.false.0 c.if-value-gt-MAX_SPEED.false.1

pub returns-in_default-2-clause-number : goal.returns-in_default-2-clause-number
unfolding kind_at kind_number refused code_of max_weight
returns-in_default-2-clause-number c =
    task_passes c.args.file.now c.args.i (kind_told c.try_from.ensures c.in_ok-kind.was ∙ c.byte_at.ensures)
    c.value_at-value.ensures c.blank_at.ensures c.if-not-blank_at.false (ap kind_number c.in-Task.is) refl c.if-value-gt-MAX_WEIGHT.false

pub returns-in_default-3-clause-number : goal.returns-in_default-3-clause-number
unfolding kind_at kind_number refused code_of max_startup
returns-in_default-3-clause-number c =
    startup_passes c.args.file.now c.args.i (kind_told c.try_from.ensures c.in_ok-kind.was ∙ c.byte_at.ensures)
    c.value_at-value.ensures c.blank_at.ensures c.if-not-blank_at.false (ap kind_number c.in-Startup.is) c.if-i-gt0.false refl c.if-value-gt-MAX_STARTUP.false

pub returns-in_default-clause-kind : goal.returns-in_default-clause-kind
unfolding kind_at
returns-in_default-clause-kind c =
    kind_told c.try_from.ensures c.in_ok-kind.was ∙ c.byte_at.ensures

pub returns-in_default-2-clause-kind : goal.returns-in_default-2-clause-kind
unfolding kind_at
returns-in_default-2-clause-kind c =
    kind_told c.try_from.ensures c.in_ok-kind.was ∙ c.byte_at.ensures

pub returns-in_default-3-clause-kind : goal.returns-in_default-3-clause-kind
unfolding kind_at
returns-in_default-3-clause-kind c =
    kind_told c.try_from.ensures c.in_ok-kind.was ∙ c.byte_at.ensures
