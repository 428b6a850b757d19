-- `each_between` meets its contract. The invariant: whether all before were in range, and what is left, decide together.
use mathlib.Core.Path.{refl}
use native.Mathlib.Omega.{arith}
use Rattle.refusals.proofs.Each.{each_next, each_end}
use Rattle.refusals.proofs.each_between.Goals as goal

pub loop-value-init : goal.loop-value-init
loop-value-init c = refl

pub loop-value-preserved : goal.loop-value-preserved
loop-value-preserved c =
    let a = c.args in
    each_next a.lo a.hi a.values.now c.loop-value.value-index (omega arith) c.loop-value.all c.loop-value.invariant c.and_between-all.ensures

pub returns : goal.returns
returns c =
    let a = c.args in
    each_end a.lo a.hi a.values.now c.loop-value.value-index (omega arith) c.loop-value.all c.loop-value.invariant
