-- `part_weight` meets its contract: the entries grow, so the difference is one.
use mathlib.Core.Path.{refl}
use native.Mathlib.Omega.{arith}
use Rattle.parts.specs.Prefix.{weight_between}
use Rattle.parts.proofs.part_weight.Goals as goal

pub overflow_sub-result : goal.overflow_sub-result
overflow_sub-result c =
    c.requires.rising.up c.args.a c.args.b c.requires.a_le_b (omega arith)

pub returns : goal.returns
unfolding weight_between
returns c = refl
