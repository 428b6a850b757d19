-- `breadth_of` meets its contract, with holds and without.
use Prim.Native.Nat.{◌+◌}
use mathlib.Core.Path.{sym, ap, ap₂, ◌∙◌}
use mathlib.Core.Bool.{Bool, cond}
use native.Mathlib.Omega.{arith}
use Rattle.chain.specs.Job.{total_weight, heaviest}
use Rattle.chain.proofs.Ranges.{startup_total_fits}
use Rattle.parts.specs.Lent.{the}
use Rattle.planner.proofs.allowance.breadth_of.Goals as goal
use Rattle.planner.proofs.allowance.breadth_of.Goals.{then-any_hold, else-any_hold}

pub total-weight-requires : goal.total-weight-requires
total-weight-requires c = omega (arith, startup_total_fits c.args.job.valid)

pub overflow_add-result : goal.overflow_add-result
overflow_add-result c =
    let n = startup_total_fits c.args.job.valid in
    elim c.if-any_hold.branch [
      | then-any_hold w ↦ record { fits = omega (arith, n, w.weight-is, w.total-weight.ensures, c.from.ensures) }
      | else-any_hold w ↦ record { fits = omega (arith, w.weight-is, w.from-weight.ensures, c.from.ensures) }
    ]

pub returns : goal.returns
returns c =
    let job = the c.args.job in
    elim c.if-any_hold.branch [
      | then-any_hold w ↦
          ap₂ ◌+◌ (w.weight-is ∙ w.total-weight.ensures) c.from.ensures
          ∙ sym (ap (λ (t : Bool). cond t (total_weight job) (heaviest job) + job.startup)
          (sym c.any_hold.ensures ∙ w.if-any_hold.true))
      | else-any_hold w ↦
          ap₂ ◌+◌ (w.weight-is ∙ w.from-weight.ensures ∙ w.greatest_of.ensures) c.from.ensures
          ∙ sym (ap (λ (t : Bool). cond t (total_weight job) (heaviest job) + job.startup)
          (sym c.any_hold.ensures ∙ w.if-any_hold.false))
    ]
