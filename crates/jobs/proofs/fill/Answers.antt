-- `fill` meets its contract: after i turns the first i entries are what `entry` gave.
use Rattle.std.proofs.Common.{◌∙◌, arith, below_more}
use Rattle.jobs.proofs.Filling.{slice_get-set_same, slice_get-set_other}
use Rattle.jobs.proofs.fill.Goals as goal

pub loop-i-preserved : goal.loop-i-preserved
loop-i-preserved g c =
    below_more _ c.loop-i.i
    (λ k h.
    let before = c.loop-i.invariant k h in
    (before.0, slice_get-set_other c.loop-i.list c.loop-i.i k c.entry.result (omega arith) ∙ before.1, before.2))
    (c.entry.result, slice_get-set_same c.loop-i.list c.loop-i.i c.entry.result (omega arith), c.entry.ensures)

pub returns : goal.returns
returns g c i h = c.loop-i.invariant i (omega arith)
