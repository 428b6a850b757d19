-- `halve` meets its contract: a halved step goes on, or the entry there is above the cap.
use Prim.Native.Nat.{◌-◌, ◌/◌}
use native.Mathlib.Omega.{arith}
use Rattle.parts.specs.Rising.{near}
use Rattle.parts.proofs.Search.{half_stays, half_goes, step_at_most}
use Rattle.parts.proofs.halve.Goals as goal
use Rattle.parts.proofs.halve.Goals.{else-step-n-via-then-step-n+else-xs-low, else-step-n-via-else-step-n}

pub loop-step-init : goal.loop-step-init
loop-step-init c = (c.requires.rising, c.requires.spanned)

pub loop-step-preserved-then-xs-low : goal.loop-step-preserved-then-xs-low
loop-step-preserved-then-xs-low c =
    (c.loop-step.invariant.0, half_goes c.loop-step.invariant.0 c.loop-step.invariant.1 (c.loop-step.step - c.loop-step.step / 2) (omega arith) (omega arith) (omega arith))

pub loop-step-preserved : goal.loop-step-preserved
loop-step-preserved c =
    let half = c.loop-step.step - c.loop-step.step / 2 in (
      c.loop-step.invariant.0,
      half_stays half c.loop-step.invariant.1 (
          λ h.
          elim c.else-step-n.branch [
            | else-step-n-via-then-step-n+else-xs-low w ↦ omega (arith, w.if-xs-low)
            | else-step-n-via-else-step-n w ↦ absurd (let z : ⊥ = omega (arith, w.if-step-n) in z)
          ]
          ),
    )

pub returns : goal.returns
returns c =
    step_at_most c.loop-step.invariant.0 c.loop-step.invariant.1 near (omega arith)
