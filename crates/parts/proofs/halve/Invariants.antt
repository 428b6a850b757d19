use Rattle.parts.specs.Rising.{Rising, Spanned}
use Rattle.parts.proofs.halve.Given as goal

abbrev pub invariant-loop-step : goal.invariant-loop-step
invariant-loop-step l = Rising l.xs l.n × Spanned l.xs l.initial.low l.n l.cap l.low l.step

abbrev pub decreases-loop-step : goal.decreases-loop-step
decreases-loop-step l = l.step
