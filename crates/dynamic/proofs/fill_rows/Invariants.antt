-- The loop keeps `Tabling`.
use Rattle.parts.specs.Lent.{the}
use Rattle.dynamic.proofs.Laws.{Tabling}
use Rattle.dynamic.proofs.fill_rows.Given as goal

abbrev pub invariant-loop-p : goal.invariant-loop-p
invariant-loop-p l = Tabling (the l.line.job) l.before l.row l.p l.moves
