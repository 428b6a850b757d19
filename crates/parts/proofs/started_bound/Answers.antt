-- `started_bound` meets its contract.
use mathlib.Core.Path.{ap, ap₂, ◌∙◌}
use Prim.Native.Nat.{ℕ, ◌+◌}
use native.Mathlib.Omega.{arith}
use Rattle.bound.specs.Order.{over}
use Rattle.parts.specs.Prefix.{weight_between}
use Rattle.parts.proofs.started_bound.Goals as goal

pub part_weight-requires : goal.part_weight-requires
part_weight-requires c =
    record { rising = c.requires.loadable.rising; a_le_b = c.requires.a_le_b }

pub overflow_add-startup : goal.overflow_add-startup
unfolding weight_between
overflow_add-startup c = omega (arith, c.part_weight.ensures, c.requires.loadable.fits)

pub returns : goal.returns
unfolding weight_between
returns c =
    record {
      value = ap₂ over (c.from.ensures ∙ ap (λ (n : ℕ). c.args.startup + n) c.part_weight.ensures) c.from-2.ensures;
      narrow = record { load_fits = omega (arith, c.from.ensures, c.part_weight.ensures, c.requires.loadable.fits); speed_fits = omega (arith, c.from-2.ensures) };
    }
