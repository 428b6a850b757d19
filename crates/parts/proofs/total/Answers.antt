-- `total` meets its contract: the loop keeps `Total`.
use Prim.Native.Nat.{ℕ, ◌+◌}
use mathlib.Core.Path.{subst, sym}
use native.Mathlib.Omega.{arith}
use Rattle.parts.proofs.Laws.{Total, total_start, total_next, total_end, total_fits}
use Rattle.parts.proofs.total.Goals as goal

pub loop-value-init : goal.loop-value-init
loop-value-init c = total_start c.args.values.now

pub overflow_add-sum : goal.overflow_add-sum
overflow_add-sum c = omega (arith, c.from-sum.ensures, total_fits c.requires c.loop-value.invariant c.loop-value-test.true)

pub loop-value-preserved : goal.loop-value-preserved
loop-value-preserved c =
    subst (λ (v : ℕ). Total c.args.values.now (c.loop-value.value-index + 1) (c.loop-value.sum + v)) (sym c.from-sum.ensures)
    (total_next c.loop-value.invariant c.loop-value-test.true)

pub returns : goal.returns
returns c = total_end c.loop-value.invariant c.loop-value-test.false
