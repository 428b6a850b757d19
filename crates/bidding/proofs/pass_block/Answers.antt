-- `pass_block` meets its contract: a block that is passed by is as the walk would leave it.
use mathlib.Core.Path.{sym, ◌∙◌}
use Rattle.bound.proofs.Order.{false_lt}
use Rattle.bidding.proofs.Blocks.{passed_by}
use Rattle.bidding.proofs.pass_block.Goals as goal

pub returns-then-not-at_most : goal.returns-then-not-at_most
returns-then-not-at_most g c =
    let u = false_lt (sym c.at_most.ensures ∙ c.if-not-at_most.true) in
    passed_by c.args.line.job.valid c.requires.come c.requires.block.0 c.requires.block.1 c.if-start-separators.true c.requires.narrow u (c.requires.known u)
