-- `measure_parts` meets its contract: the loop keeps `Measured`.
use mathlib.Core.Path.{◌∙◌}
use native.Mathlib.Omega.{arith}
use borrow.Author.Rules.{rules}
use Rattle.parts.specs.Lent.{the}
use Rattle.parts.proofs.Measure.{bottleneck-take, measured_start, measured_products, measured_turn, measured_end}
use Rattle.parts.proofs.measure_parts.Goals as goal

pub loop-p-init : goal.loop-p-init
loop-p-init c = measured_start c.args.line.job.valid c.args.separators.now c.bound_at-greatest.ensures

pub greater-greatest-requires : goal.greater-greatest-requires
greater-greatest-requires c =
    let h = measured_products c.args.line.job.valid c.args.separators.now c.loop-p.invariant c.bound_at.ensures in
    search rules

pub loop-p-preserved : goal.loop-p-preserved
loop-p-preserved c =
    measured_turn c.args.line.job.valid c.args.separators.now c.loop-p.invariant (omega arith) c.bound_at.ensures
    c.greater-greatest.ensures

pub returns : goal.returns
returns c =
    let job = c.args.line.job in
    let e = measured_end c.loop-p.invariant (omega arith) in
    record { value = e; of_front = e ∙ bottleneck-take (the job) c.args.separators.now job.valid.some_processor }
