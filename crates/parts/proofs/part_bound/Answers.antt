-- `part_bound` meets its contract.
use mathlib.Core.Path.{ap₂, ◌∙◌}
use Rattle.bound.specs.Order.{over}
use Rattle.parts.proofs.part_bound.Goals as goal

pub returns : goal.returns
returns c = ap₂ over (c.from.ensures ∙ c.part_load.ensures) c.from-2.ensures
