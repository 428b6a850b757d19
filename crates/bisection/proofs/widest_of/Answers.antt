-- `widest_of` meets its contract.
use Prim.Native.Nat.{◌+◌}
use mathlib.Core.Path.{ap₂, ◌∙◌}
use native.Mathlib.Omega.{arith}
use Rattle.bound.specs.Order.{over}
use Rattle.chain.specs.Job.{Job, tasks, widest}
use Rattle.chain.proofs.Parts.{weight_all}
use Rattle.parts.specs.Lent.{the}
use Rattle.bisection.proofs.widest_of.Goals as goal

pub returns : goal.returns
unfolding widest
returns c =
    let job : Job = the c.args.line.job in
    let weight = c.args.line.prefix.sums (tasks job) (omega arith) ∙ weight_all job in
    ap₂ over (ap₂ ◌+◌ (c.from.ensures ∙ weight) c.from-2.ensures) (c.from-3.ensures ∙ c.slowest_of.ensures)
