-- `ideal_of` meets its contract.
use mathlib.Core.Path.{◌∙◌, ap₂}
use native.Mathlib.Omega.{arith}
use Rattle.bound.specs.Order.{over}
use Rattle.chain.specs.Job.{ideal, tasks}
use Rattle.chain.proofs.Parts.{weight_all}
use Rattle.parts.specs.Lent.{the}
use Rattle.parts.proofs.Laws.{speeds_add_up}
use Rattle.parts.proofs.ideal_of.Goals as goal

pub total-requires : goal.total-requires
total-requires c = speeds_add_up c.args.line.job.valid

pub returns : goal.returns
unfolding ideal
returns c =
    let line = c.args.line in
    ap₂ over (c.from.ensures ∙ line.prefix.sums (tasks (the line.job)) (omega arith) ∙ weight_all (the line.job)) c.total.ensures
