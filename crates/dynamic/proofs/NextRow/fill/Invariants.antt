-- The loop keeps `FilledTo`.
use Prim.Native.Nat.{◌-◌}
use Rattle.parts.specs.Lent.{the}
use Rattle.dynamic.specs.Rows.{FilledTo}
use Rattle.dynamic.proofs.NextRow.fill.Given as goal

abbrev pub invariant-loop-i : goal.invariant-loop-i
invariant-loop-i g l =
    FilledTo (the l.self.line.job) l.row l.self.p l.i (l.initial.pointer.moves - l.initial.pointer.at) l.pointer.at l.pointer.moves
