-- `part_load` meets its contract: the start-up work counts where the part has tasks; else the weight is 0.
use native.Mathlib.Omega.{arith}
use Rattle.parts.specs.Prefix.{weight_between}
use Rattle.parts.proofs.Laws.{between_some, between_none}
use Rattle.parts.proofs.part_load.Goals as goal

pub part_weight-weight-requires : goal.part_weight-weight-requires
part_weight-weight-requires c =
    record { rising = c.requires.loadable.rising; a_le_b = c.requires.a_le_b }

pub overflow_add-result : goal.overflow_add-result
unfolding weight_between
overflow_add-result c = omega (arith, c.part_weight-weight.ensures, c.requires.loadable.fits)

pub returns-then-a-b : goal.returns-then-a-b
returns-then-a-b c =
    let a = c.args in
    between_some a.startup a.sums.now a.a a.b c.if-a-b.true c.part_weight-weight.ensures

pub returns-else-a-b : goal.returns-else-a-b
returns-else-a-b c =
    let a = c.args in
    between_none a.startup a.sums.now a.a a.b c.requires.a_le_b c.if-a-b.false c.part_weight-weight.ensures
