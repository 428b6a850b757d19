use mathlib.Core.Path.{◌≡◌}
use mathlib.Core.Bool.{not}
use lib.ListN.{take}
use Rattle.parts.proofs.Held.{unset}
use Rattle.parts.proofs.any_hold.Given as goal

abbrev pub invariant-loop-hold : goal.invariant-loop-hold
invariant-loop-hold l = l.any ≡ not (unset (take l.hold-index l.hold-items))
