-- `tells_at` meets its contract: the load of the part, then the speed.
use mathlib.Core.Path.{refl, ◌∙◌}
use Rattle.parts.specs.Lent.{the}
use Rattle.parts.proofs.Laws.{speed_read, loads_to, prefix_load}
use Rattle.parts.proofs.Lines.{line_ready}
use Rattle.parts.proofs.Measure.{front_part}
use Rattle.grading.proofs.Laws.{load_read, load_told, load_untold}
use Rattle.grading.proofs.tells_at.Goals as goal

pub part_load-load-requires : goal.part_load-load-requires
part_load-load-requires c =
    let h = front_part c.args.separators.now c.requires.partition c.requires.processor refl refl in
    record { loadable = loads_to (line_ready c.args.line) h.1; a_le_b = h.0 }

pub returns-then-record-load : goal.returns-then-record-load
returns-then-record-load c =
    let a = c.args in
    let h = front_part a.separators.now c.requires.partition c.requires.processor refl refl in
    let load = load_read (the a.line.job) a.separators.now a.p (c.part_load-load.ensures ∙ prefix_load a.line.prefix _ _ h.0 h.1) in
    let speed = speed_read (the a.line.job) a.p c.requires.processor in
    load_told (the a.line.job) a.separators.now a.plan.now a.p c.record_at-record.ensures load speed c.if-record-load.true

pub returns-else-record-load : goal.returns-else-record-load
returns-else-record-load c =
    let a = c.args in
    let h = front_part a.separators.now c.requires.partition c.requires.processor refl refl in
    let load = load_read (the a.line.job) a.separators.now a.p (c.part_load-load.ensures ∙ prefix_load a.line.prefix _ _ h.0 h.1) in
    load_untold (the a.line.job) a.separators.now a.plan.now a.p c.record_at-record.ensures load c.if-record-load.false
