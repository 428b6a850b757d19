-- `with_holds` meets its contract: a hold for each processor makes the job valid.
use mathlib.Core.Path.{sym, subst}
use Rattle.chain.specs.Job.{job_of, Valid}
use Rattle.chain.specs.Numbers.{refused}
use Rattle.refusals.proofs.Holds.{tested_valid}
use Rattle.refusals.proofs.Exits.{stopped, went}
use Rattle.refusals.proofs.with_holds.Goals as goal

pub returns-in_err-test_holds-clause-number : goal.returns-in_err-test_holds-clause-number
returns-in_err-test_holds-clause-number c =
    stopped _ c.in_err-test_holds.was c.from_residual.ensures.1 (λ _. c.test_holds.ensures)

pub invariant_of-result : goal.invariant_of-result
invariant_of-result c =
    let l = c.args.lists in
    subst (λ n. record { valid : Valid (job_of n l.speeds.now l.holds.now l.weights.now) }) (sym c.effective.ensures)
    (record { valid = tested_valid c.requires c.test_holds.ensures (went c.in_ok-test_holds.was) })

pub returns-clause-number : goal.returns-clause-number
unfolding refused
returns-clause-number c =
    c.in_ok-test_holds.ensures
