-- `blank_at` meets its contract: byte 1, then bytes 2 and 3 of a record that is not a processor's.
use mathlib.Core.Path.{◌∙◌}
use Rattle.jobs.proofs.OneRecord.{first_decides, processor_blank, second_decides, third_decides, processor_same}
use Rattle.jobs.proofs.blank_at.Goals as goal

pub returns-else-byte_at-eq0 : goal.returns-else-byte_at-eq0
returns-else-byte_at-eq0 c = first_decides c.args.file.now c.args.i c.byte_at.ensures c.if-byte_at-eq0.false

pub returns-then-eq : goal.returns-then-eq
returns-then-eq c =
    processor_blank c.args.file.now c.args.i (c.eq.ensures ∙ processor_same c.args.kind c.args.file.now c.args.i c.requires.1)
    c.byte_at.ensures c.if-byte_at-eq0.true c.if-eq.true

pub returns-else-byte_at-eq0-2 : goal.returns-else-byte_at-eq0-2
returns-else-byte_at-eq0-2 c =
    second_decides c.args.file.now c.args.i (c.eq.ensures ∙ processor_same c.args.kind c.args.file.now c.args.i c.requires.1)
    c.byte_at.ensures c.if-byte_at-eq0.true c.if-eq.false c.byte_at-else-eq.ensures c.if-byte_at-eq0-2.false

pub returns-then-byte_at-eq0-2 : goal.returns-then-byte_at-eq0-2
returns-then-byte_at-eq0-2 c =
    third_decides c.args.file.now c.args.i (c.eq.ensures ∙ processor_same c.args.kind c.args.file.now c.args.i c.requires.1)
    c.byte_at.ensures c.if-byte_at-eq0.true c.if-eq.false c.byte_at-else-eq.ensures c.if-byte_at-eq0-2.true
    c.byte_at-then-byte_at-eq0-2.ensures
