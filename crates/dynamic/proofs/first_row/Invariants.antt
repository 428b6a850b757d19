-- The loop fills the first i entries.
use Rattle.parts.specs.Lent.{the}
use Rattle.dynamic.specs.Rows.{RowAt}
use Rattle.dynamic.proofs.first_row.Given as goal

abbrev pub invariant-loop-i : goal.invariant-loop-i
invariant-loop-i l = RowAt (the l.line.job) l.row 0 l.i
