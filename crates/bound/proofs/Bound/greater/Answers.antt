-- The test is the order's.
use Rattle.std.proofs.Common.{sym, ◌∙◌}
use Rattle.bound.proofs.Order.{greater_first, greater_second}
use Rattle.bound.proofs.Bound.greater.Goals as goal

pub returns-then-at_most : goal.returns-then-at_most
returns-then-at_most c = greater_first c.args.self c.args.other (sym c.at_most.ensures ∙ c.if-at_most.true)

pub returns-else-at_most : goal.returns-else-at_most
returns-else-at_most c = greater_second c.args.self c.args.other (sym c.at_most.ensures ∙ c.if-at_most.false)
