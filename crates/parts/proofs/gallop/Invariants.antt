use Prim.Native.Nat.{◌+◌, ◌-◌, ◌≤◌}
use mathlib.Core.Path.{◌≡◌}
use lib.ListN.{get_or}
use Rattle.parts.specs.Rising.{near}
use Rattle.parts.proofs.gallop.Given as goal

abbrev pub invariant-loop-step : goal.invariant-loop-step
invariant-loop-step l = (l.a ≤ l.low) × (l.low ≤ l.n) × (l.step + l.a ≡ l.low + near) × (get_or l.xs l.low 0 ≤ l.cap)

abbrev pub decreases-loop-step : goal.decreases-loop-step
decreases-loop-step l = l.n - l.low
