-- `entry` meets its contract.
use mathlib.Core.Path.{ap₂}
use Rattle.bound.specs.Order.{over}
use Rattle.dynamic.specs.Rows.{entry_at}
use Rattle.dynamic.proofs.entry.Goals as goal

pub returns : goal.returns
unfolding entry_at
returns c = ap₂ over c.from.ensures c.from-2.ensures
