use Prim.Native.Nat.{◌+◌}
use Rattle.parts.specs.Rising.{LastAtMost}
use Rattle.parts.proofs.last_counted.Given as goal

abbrev pub invariant-loop-x : goal.invariant-loop-x
invariant-loop-x l = LastAtMost l.xs l.low (l.low + l.x-index) l.cap l.last
