-- `imbalance_of` meets its contract.
use mathlib.Core.Path.{sym, ◌∙◌}
use native.Mathlib.Omega.{arith}
use Rattle.bound.specs.Order.{over}
use Rattle.bound.proofs.Order.{nought_load, not-nought}
use Rattle.chain.proofs.Imbalance.{imbalance_none}
use Rattle.parts.specs.Lent.{the}
use Rattle.parts.proofs.Laws.{speeds_add_up}
use Rattle.planner.proofs.Imbalances.{known, divisor_fits, load_fits, no_less, excess_fits, sum_fits, divisor_positive}
use Rattle.planner.proofs.Imbalances.{imbalance_is}
use Rattle.planner.proofs.imbalance.imbalance_of.Goals as goal

pub total-requires : goal.total-requires
total-requires c = speeds_add_up c.args.job.valid

pub returns-then-is_nought : goal.returns-then-is_nought
returns-then-is_nought c =
    let ideal = over c.args.total c.total.result in
    let none = nought_load ideal (sym c.is_nought.ensures ∙ c.if-is_nought.true) in
    sym (imbalance_none (the c.args.job) c.args.bottleneck (sym c.requires.total ∙ none))

pub overflow_mul-load : goal.overflow_mul-load
overflow_mul-load c =
    record {
      fits = divisor_fits (known c.args.job.valid c.requires.total c.requires.small c.requires.above
          c.total.ensures);
    }

pub overflow_mul-excess : goal.overflow_mul-excess
overflow_mul-excess c =
    record {
      fits = load_fits (known c.args.job.valid c.requires.total c.requires.small c.requires.above
          c.total.ensures);
    }

pub overflow_sub-excess : goal.overflow_sub-excess
overflow_sub-excess c = no_less (known c.args.job.valid c.requires.total c.requires.small c.requires.above
    c.total.ensures)

pub overflow_mul-thousandths : goal.overflow_mul-thousandths
overflow_mul-thousandths c =
    record {
      fits = excess_fits (known c.args.job.valid c.requires.total c.requires.small c.requires.above
          c.total.ensures);
    }

pub rounded_up-requires : goal.rounded_up-requires
rounded_up-requires c =
    let k = known c.args.job.valid c.requires.total c.requires.small c.requires.above c.total.ensures in
    let ideal = over c.args.total c.total.result in
    (divisor_positive k (not-nought ideal (sym c.is_nought.ensures ∙ c.if-is_nought.false)), sum_fits k)

pub returns : goal.returns
returns c =
    let k = known c.args.job.valid c.requires.total c.requires.small c.requires.above c.total.ensures in
    let ideal = over c.args.total c.total.result in
    let weighs = not-nought ideal (sym c.is_nought.ensures ∙ c.if-is_nought.false) in
    imbalance_is k weighs (omega arith) (omega arith) c.rounded_up.ensures
