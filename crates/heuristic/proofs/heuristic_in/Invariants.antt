-- The loop keeps `Placed`.
use Rattle.parts.specs.Lent.{the}
use Rattle.heuristic.proofs.Laws.{Placed}
use Rattle.heuristic.proofs.heuristic_in.Given as goal

abbrev pub invariant-loop-p : goal.invariant-loop-p
invariant-loop-p l = Placed (the l.line.job) l.initial.separators l.separators l.all_speed l.weight l.p l.speed l.past l.s
