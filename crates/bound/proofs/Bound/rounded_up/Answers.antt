-- The quotient rounded up is std's.
use borrow.Author.Rules.{rules}
use Rattle.bound.proofs.Algebra.{rounded_is}
use Rattle.bound.proofs.Bound.rounded_up.Goals as goal

pub returns : goal.returns
returns c = search (rules, rounded_is)
