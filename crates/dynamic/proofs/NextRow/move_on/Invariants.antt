-- The loop keeps `Moving`.
use Prim.Native.Nat.{◌-◌}
use Rattle.parts.specs.Lent.{the}
use Rattle.dynamic.proofs.Laws.{Moving}
use Rattle.dynamic.proofs.NextRow.move_on.Given as goal

abbrev pub invariant-loop-startup : goal.invariant-loop-startup
invariant-loop-startup l = Moving (the l.self.line.job) l.self.p l.i l.initial.at l.initial.moves l.at l.moves

abbrev pub decreases-loop-startup : goal.decreases-loop-startup
decreases-loop-startup l = l.i - l.at
