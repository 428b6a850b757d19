-- `test_method` meets its contract: the tests of planning, then by method 4 no holds.
use mathlib.Core.Path.{refl, sym, ◌∙◌}
use Rattle.chain.specs.Numbers.{refused, number_of}
use Rattle.parts.specs.Lent.{lent}
use Rattle.refusals.proofs.Methods.{nicol_true, nicol_false}
use Rattle.refusals.proofs.Tests.{method_list, method_free, method_other}
use Rattle.refusals.proofs.Exits.{stopped, went, free_lent}
use Rattle.refusals.proofs.test_method.Goals as goal
use Rattle.refusals.proofs.test_method.Goals.{then-eq+in_ok-test_free, else-eq}

pub returns-in_err-job-clause-number : goal.returns-in_err-job-clause-number
returns-in_err-job-clause-number c =
    let a = c.args in
    stopped _ c.in_err-job.was c.from_residual.ensures.1 (method_list (lent a.lists) (number_of a.method) a.separators a.scratch c.test_plan.ensures.number)

pub returns-in_err-test_free-clause-number : goal.returns-in_err-test_free-clause-number
returns-in_err-test_free-clause-number c =
    let a = c.args in
    stopped _ c.in_err-test_free.was c.from_residual-in_err-test_free.ensures.1
    (λ _. method_free (lent a.lists) (number_of a.method) a.separators a.scratch c.test_plan.ensures.number (went c.in_ok-job.was)
    refl (nicol_true a.method (sym c.eq.ensures ∙ c.if-eq.true)) (free_lent c.in_ok-job.ensures.job c.test_free.ensures))

pub returns-clause-number : goal.returns-clause-number
unfolding refused
returns-clause-number c =
    let a = c.args in
    elim c.if-eq.branch [
      | then-eq+in_ok-test_free w ↦
          method_free (lent a.lists) (number_of a.method) a.separators a.scratch c.test_plan.ensures.number (went c.in_ok-job.was)
          refl (nicol_true a.method (sym c.eq.ensures ∙ w.if-eq.true)) (free_lent c.in_ok-job.ensures.job w.in_ok-test_free.ensures)
      | else-eq w ↦
          method_other (lent a.lists) (number_of a.method) a.separators a.scratch c.test_plan.ensures.number (went c.in_ok-job.was)
          refl (nicol_false a.method (sym c.eq.ensures ∙ w.if-eq.false))
    ]
