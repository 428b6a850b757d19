-- `prefix_sums` meets its contract: the loop keeps `Summed`.
use native.Mathlib.Omega.{arith}
use lib.ListN.{length-set}
use Rattle.parts.proofs.Laws.{summed_start, summed_fits, summed_turn, summed_end}
use Rattle.parts.proofs.prefix_sums.Goals as goal

pub loop-i-init : goal.loop-i-init
loop-i-init c = summed_start c.args.weights.now c.args.sums.now (omega arith)

pub overflow_add-sum : goal.overflow_add-sum
overflow_add-sum c = record { fits = summed_fits c.requires.weights_bound c.loop-i.invariant }

pub loop-i-preserved : goal.loop-i-preserved
loop-i-preserved c =
    summed_turn (omega (arith, length-set c.args.sums.now 0 0)) c.loop-i.invariant c.loop-i-test.true

pub returns : goal.returns
returns c = summed_end c.args.sums.now c.requires.weights_in_bounds c.loop-i.invariant c.loop-i-test.false
