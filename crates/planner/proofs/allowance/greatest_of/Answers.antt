-- `greatest_of` meets its contract: the loop keeps `Most`.
use native.Mathlib.Omega.{arith}
use Rattle.planner.proofs.Allowances.{most_start, most_next, most_end}
use Rattle.planner.proofs.allowance.greatest_of.Goals as goal

pub loop-value-init : goal.loop-value-init
loop-value-init c = most_start c.args.values.now

pub loop-value-preserved : goal.loop-value-preserved
loop-value-preserved c = most_next c.loop-value.invariant (omega arith) c.max-most.ensures

pub returns : goal.returns
returns c = most_end c.loop-value.invariant (omega arith)
