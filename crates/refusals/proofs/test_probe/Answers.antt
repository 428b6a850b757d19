-- `test_probe` meets its contract: the job and the list, then the holds, then the bound.
use Rattle.chain.specs.Numbers.{refused}
use Rattle.parts.specs.Lent.{lent}
use Rattle.refusals.proofs.Tests.{probe_list, probe-holds, probe_bound}
use Rattle.refusals.proofs.Exits.{stopped, went, enough_lent}
use Rattle.refusals.proofs.test_probe.Goals as goal

pub returns-in_err-divided-clause-number : goal.returns-in_err-divided-clause-number
returns-in_err-divided-clause-number c =
    let a = c.args in
    stopped _ c.in_err-divided.was c.from_residual.ensures.1 (probe_list (lent a.lists) a.bound a.separators c.test_separators.ensures.number)

pub returns-in_err-test_enough-clause-number : goal.returns-in_err-test_enough-clause-number
returns-in_err-test_enough-clause-number c =
    let a = c.args in
    stopped _ c.in_err-test_enough.was c.from_residual-in_err-test_enough.ensures.1
    (probe-holds (lent a.lists) a.bound a.separators c.test_separators.ensures.number (went c.in_ok-divided.was)
    (enough_lent c.in_ok-divided.ensures.job c.test_enough.ensures))

pub returns-in_err-test_bound-clause-number : goal.returns-in_err-test_bound-clause-number
returns-in_err-test_bound-clause-number c =
    let a = c.args in
    stopped _ c.in_err-test_bound.was c.from_residual-in_err-test_bound.ensures.1
    (λ _. probe_bound (lent a.lists) a.bound a.separators c.test_separators.ensures.number (went c.in_ok-divided.was)
    (enough_lent c.in_ok-divided.ensures.job c.test_enough.ensures) (went c.in_ok-test_enough.was) c.test_bound.ensures)

pub returns-clause-number : goal.returns-clause-number
unfolding refused
returns-clause-number c =
    let a = c.args in
    probe_bound (lent a.lists) a.bound a.separators c.test_separators.ensures.number (went c.in_ok-divided.was)
    (enough_lent c.in_ok-divided.ensures.job c.test_enough.ensures) (went c.in_ok-test_enough.was) c.in_ok-test_bound.ensures
