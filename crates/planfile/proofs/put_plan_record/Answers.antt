-- `put_plan_record` meets its contract: its four fields make the record.
use Prim.Native.Nat.{◌+◌, ◌*◌}
use mathlib.Core.Path.{refl, ap, ◌∙◌}
use mathlib.Core.List.{◌++◌}
use lib.ListN.{get_or, take, drop}
use Rattle.parts.specs.Lent.{the}
use Rattle.parts.proofs.Laws.{loads_to, prefix_load, speed_read}
use Rattle.parts.proofs.Lines.{line_ready}
use Rattle.parts.proofs.Measure.{front_part}
use Rattle.planfile.proofs.Records.{fields_none, fields_next, fields_all, record_fields}
use Rattle.planfile.proofs.put_plan_record.Goals as goal

pub part_load-load-requires : goal.part_load-load-requires
part_load-load-requires c =
    let h = front_part c.args.separators.now c.requires.partition c.requires.processor refl refl in
    record { loadable = loads_to (line_ready c.args.line) h.1; a_le_b = h.0 }

pub loop-i-init : goal.loop-i-init
loop-i-init c = fields_none _ (16 * c.args.p) c.args.plan.now c.requires.room

pub loop-i-preserved : goal.loop-i-preserved
loop-i-preserved c = fields_next _ (16 * c.args.p) c.args.plan.now c.requires.room c.loop-i.invariant c.loop-i-test.true c.put_field.ensures

pub returns : goal.returns
returns c =
    let s = c.args.separators.now in
    let p = c.args.p in
    let h = front_part s c.requires.partition c.requires.processor refl refl in
    let load = c.part_load-load.ensures ∙ prefix_load c.args.line.prefix (get_or s p 0) (get_or s (p + 1) 0) h.0 h.1 in
    fields_all _ (16 * p) c.args.plan.now c.requires.room c.loop-i.invariant c.loop-i-test.false
    ∙ ap (λ l. take (16 * p) c.args.plan.now ++ l ++ drop (16 * p + 16) c.args.plan.now)
    (record_fields (the c.args.line.job) s p load (speed_read (the c.args.line.job) p c.requires.processor))
