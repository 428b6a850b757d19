use Prim.Native.Nat.{◌*◌}
use Rattle.planfile.proofs.Records.{PuttingFields}
use Rattle.planfile.proofs.put_plan_record.Given as goal

abbrev pub invariant-loop-i : goal.invariant-loop-i
invariant-loop-i l = PuttingFields l.field-items (16 * l.p) l.initial.plan l.plan l.i
