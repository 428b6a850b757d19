-- The test is the order's.
use Rattle.std.proofs.Common.{refl}
use Rattle.bound.specs.Order.{le}
use Rattle.bound.proofs.Bound.at_most.Goals as goal

pub returns : goal.returns
unfolding le
returns c = refl
