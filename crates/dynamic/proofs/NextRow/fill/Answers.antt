-- `fill` meets its contract: the loop keeps `FilledTo`.
use Prim.Native.Nat.{suc}
use Rattle.dynamic.proofs.Crossing.{narrow_same, table_narrow}
use Rattle.dynamic.proofs.Laws.{begins_behind, begins_at_0, filling_movable, filling_turn}
use Rattle.dynamic.proofs.NextRow.fill.Goals as goal
use Rattle.dynamic.proofs.NextRow.fill.Goals.{then-this-ne0, else-this-ne0}

pub advance-pointer-requires : goal.advance-pointer-requires
advance-pointer-requires g c =
    let q = c.requires in
    filling_movable q.begins c.loop-i.auto.i c.loop-i-test.true c.args.self.line.job.valid c.loop-i.invariant q.moves_fit
    (elim c.if-this-ne0.branch [
      | then-this-ne0 w ↦ begins_behind q.begins c.loop-i.auto.i c.loop-i-test.true w.if-this-ne0.true w.first-is
      | else-this-ne0 w ↦ begins_at_0 q.begins c.loop-i.auto.i c.loop-i-test.true w.if-this-ne0.false w.first-is
    ])
    c.begin.ensures

pub put-requires-clause-narrow : goal.put-requires-clause-narrow
put-requires-clause-narrow g c =
    narrow_same c.value_at.ensures (table_narrow c.args.self.line.job.valid (suc c.args.self.p) c.loop-i.i)

pub loop-i-preserved : goal.loop-i-preserved
loop-i-preserved g c =
    filling_turn c.requires.begins c.loop-i.auto.i c.loop-i-test.true c.loop-i.invariant c.begin.ensures c.advance-pointer.ensures c.put.ensures
    c.value_at.ensures
