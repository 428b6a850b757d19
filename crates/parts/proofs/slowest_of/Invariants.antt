use Prim.Native.Nat.{◌+◌}
use Rattle.parts.proofs.Slowest.{Fewest}
use Rattle.parts.proofs.slowest_of.Given as goal

abbrev pub invariant-loop-speed : goal.invariant-loop-speed
invariant-loop-speed l = Fewest l.speeds (l.speed-index + 1) l.least
