-- `value_at` meets its contract: it takes the lesser of the two candidates, each by the greater of its two bounds.
use native.Mathlib.Omega.{arith}
use Rattle.chain.proofs.Ranges.{narrow_products}
use Rattle.chain.proofs.Parts.{valid_proper}
use Rattle.chain.proofs.Table.{crossing-le}
use Rattle.parts.specs.Lent.{the}
use Rattle.parts.proofs.Laws.{loads_to}
use Rattle.parts.proofs.Lines.{line_ready}
use Rattle.dynamic.proofs.Crossing.{row_read, crossing_later, value_here}
use Rattle.dynamic.proofs.Laws.{here_narrow, before_narrow, lesser_value}
use Rattle.dynamic.proofs.NextRow.value_at.Goals as goal

pub entry-here-requires : goal.entry-here-requires
entry-here-requires c =
    let r = c.args.self in
    omega (arith, r.row_before.room, crossing-le (valid_proper r.line.job.valid) r.p c.args.i, c.requires.index, c.requires.at_crossing)

pub returns-then-at-first : goal.returns-then-at-first
returns-then-at-first c =
    let r = c.args.self in
    let l = crossing-le (valid_proper r.line.job.valid) r.p c.args.i in
    value_here (the r.line.job) r.p c.args.i c.requires.at_crossing
    (row_read r.row_before (omega (arith, l, c.requires.index, c.requires.at_crossing)) c.entry-here.ensures)
    (omega (arith, c.requires.first_is))

-- Where the pointer is not where j begins, it is past it.
pub overflow_sub-at : goal.overflow_sub-at
overflow_sub-at c =
    let r = c.args.self in
    omega (arith, crossing_later (the r.line.job) r.p c.args.i c.requires.first_is c.requires.at_crossing c.if-at-first.false)

pub started_bound-part-requires : goal.started_bound-part-requires
started_bound-part-requires c =
    let r = c.args.self in
    record {
      loadable = loads_to (line_ready r.line) c.requires.index;
      a_le_b = omega (arith, crossing-le (valid_proper r.line.job.valid) r.p c.args.i, c.requires.at_crossing);
    }

pub lesser-requires : goal.lesser-requires
lesser-requires c =
    let r = c.args.self in
    let q = c.requires in
    let h = here_narrow (line_ready r.line) r.row_before q.index r.speed_is q.first_is q.at_crossing c.if-at-first.false c.entry-here.ensures
    c.started_bound-part.ensures.value in
    let k = before_narrow (line_ready r.line) r.row_before q.index r.speed_is q.first_is q.at_crossing c.if-at-first.false c.entry-here.ensures
    c.started_bound-part.ensures.value in
    search (narrow_products, h, k)

pub returns : goal.returns
returns c =
    let r = c.args.self in
    let q = c.requires in
    lesser_value (line_ready r.line) r.row_before q.index r.speed_is q.first_is q.at_crossing c.if-at-first.false c.entry-here.ensures
    c.started_bound-part.ensures.value c.lesser.ensures
