-- `fill_row` meets its contract: as far as the hold j begins at 0, and everywhere where there is no limit.
use mathlib.Core.Path.{ap, ◌∙◌}
use native.Mathlib.Omega.{arith}
use native.Mathlib.Numerals.{add-one}
use Rattle.chain.specs.Job.{hold_of}
use Rattle.parts.specs.Lent.{the}
use Rattle.dynamic.proofs.Crossing.{free_unlimited, free_limited, begins_free, begins_limited}
use Rattle.dynamic.proofs.Laws.{filling_start, filling_end}
use Rattle.dynamic.proofs.NextRow.fill_row.Goals as goal
use Rattle.dynamic.proofs.NextRow.fill_row.Goals.{then-hold-eq0, else-hold-eq0}

pub fill-pointer-requires-clause-begins : goal.fill-pointer-requires-clause-begins
fill-pointer-requires-clause-begins c =
    let r = c.args.self in
    let job = the r.line.job in
    begins_free job r.p (c.hold_of-hold.ensures.value ∙ ap (hold_of job) (add-one r.p))
    (elim c.if-hold-eq0.branch [
      | then-hold-eq0 w ↦ free_unlimited w.if-hold-eq0.true w.free-is
      | else-hold-eq0 w ↦ free_limited w.if-hold-eq0.false (w.free-is ∙ w.min-free.ensures)
    ])

pub fill-pointer-requires-clause-filled : goal.fill-pointer-requires-clause-filled
fill-pointer-requires-clause-filled c = filling_start c.args.self.p c.requires.room (omega arith)

pub fill-requires-clause-begins : goal.fill-requires-clause-begins
fill-requires-clause-begins c =
    let r = c.args.self in
    let job = the r.line.job in
    begins_limited job r.p (c.hold_of-hold.ensures.value ∙ ap (hold_of job) (add-one r.p))
    (elim c.if-hold-eq0.branch [
      | then-hold-eq0 w ↦ free_unlimited w.if-hold-eq0.true w.free-is
      | else-hold-eq0 w ↦ free_limited w.if-hold-eq0.false (w.free-is ∙ w.min-free.ensures)
    ])
    (omega arith)

pub returns : goal.returns
returns c = filling_end c.args.self.line.job.valid c.fill-pointer.ensures c.fill.ensures (omega arith) (omega arith)
