-- `first_row` meets its contract: the loop fills the first i entries.
use native.Mathlib.Omega.{arith}
use Rattle.chain.specs.Dynamic.{table_value}
use Rattle.chain.proofs.Ranges.{offer_narrow}
use Rattle.dynamic.proofs.Crossing.{narrow_same}
use Rattle.dynamic.proofs.Row.{row_stored}
use Rattle.dynamic.proofs.first_row.Goals as goal

pub put-requires-clause-narrow : goal.put-requires-clause-narrow
put-requires-clause-narrow c = narrow_same c.first_offer.ensures (offer_narrow c.args.line.job.valid 0 0 c.loop-i.i)

pub loop-i-preserved : goal.loop-i-preserved
unfolding table_value
loop-i-preserved c = row_stored c.loop-i.invariant (omega arith) c.put.ensures c.first_offer.ensures
