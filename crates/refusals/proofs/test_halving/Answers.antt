-- `test_halving` meets its contract: the job, then the row, then what a quick plan takes.
use Prim.Native.Nat.{◌+◌}
use mathlib.Core.Path.{sym, ◌∙◌}
use Rattle.chain.specs.Job.{processors}
use Rattle.chain.specs.Numbers.{refused}
use Rattle.parts.specs.Lent.{lent}
use Rattle.refusals.proofs.Holds.{some_processor}
use Rattle.refusals.proofs.Tests.{halving_job, halving_row, halving_list, quick_holds, quick_list, quick_free}
use Rattle.refusals.proofs.Exits.{stopped, went, free_lent, length_lent}
use Rattle.refusals.proofs.test_halving.Goals as goal

pub returns-in_err-test_lists-clause-number : goal.returns-in_err-test_lists-clause-number
returns-in_err-test_lists-clause-number c =
    let a = c.args in
    stopped _ c.in_err-test_lists.was c.from_residual.ensures.1 (halving_job (lent a.lists) a.separators c.test_lists.ensures)

pub test_row-requires : goal.test_row-requires
test_row-requires c = some_processor (lent c.args.lists) (sym c.test_lists.ensures ∙ went c.in_ok-test_lists.was)

pub returns-in_err-test_row-clause-number : goal.returns-in_err-test_row-clause-number
returns-in_err-test_row-clause-number c =
    let a = c.args in
    stopped _ c.in_err-test_row.was c.from_residual-in_err-test_row.ensures.1
    (halving_row (lent a.lists) a.separators c.test_lists.ensures (went c.in_ok-test_lists.was) c.test_row.ensures)

pub with_holds-requires : goal.with_holds-requires
with_holds-requires c = sym c.test_lists.ensures ∙ went c.in_ok-test_lists.was

pub returns-in_err-job-clause-number : goal.returns-in_err-job-clause-number
returns-in_err-job-clause-number c =
    let a = c.args in
    let job = lent a.lists in
    stopped _ c.in_err-job.was c.from_residual-in_err-job.ensures.1
    (λ h. halving_list job a.separators c.test_lists.ensures (went c.in_ok-test_lists.was) c.test_row.ensures (went c.in_ok-test_row.was)
    (quick_holds job a.separators c.with_holds.ensures.number h))

pub returns-in_err-test_length-clause-number : goal.returns-in_err-test_length-clause-number
returns-in_err-test_length-clause-number c =
    let a = c.args in
    let job = lent a.lists in
    stopped _ c.in_err-test_length.was c.from_residual-in_err-test_length.ensures.1
    (λ h. halving_list job a.separators c.test_lists.ensures (went c.in_ok-test_lists.was) c.test_row.ensures (went c.in_ok-test_row.was)
    (quick_list job a.separators c.with_holds.ensures.number (went c.in_ok-job.was)
    (length_lent c.in_ok-job.ensures.job (λ j. processors j + 1) a.separators c.test_length.ensures) h))

pub returns-in_err-test_free-clause-number : goal.returns-in_err-test_free-clause-number
returns-in_err-test_free-clause-number c =
    let a = c.args in
    let job = lent a.lists in
    stopped _ c.in_err-test_free.was c.from_residual-in_err-test_free.ensures.1
    (λ _. halving_list job a.separators c.test_lists.ensures (went c.in_ok-test_lists.was) c.test_row.ensures (went c.in_ok-test_row.was)
    (quick_free job a.separators c.with_holds.ensures.number (went c.in_ok-job.was)
    (length_lent c.in_ok-job.ensures.job (λ j. processors j + 1) a.separators c.test_length.ensures) (went c.in_ok-test_length.was)
    (free_lent c.in_ok-job.ensures.job c.test_free.ensures)))

pub returns-clause-number : goal.returns-clause-number
unfolding refused
returns-clause-number c =
    let a = c.args in
    let job = lent a.lists in
    halving_list job a.separators c.test_lists.ensures (went c.in_ok-test_lists.was) c.test_row.ensures (went c.in_ok-test_row.was)
    (quick_free job a.separators c.with_holds.ensures.number (went c.in_ok-job.was)
    (length_lent c.in_ok-job.ensures.job (λ j. processors j + 1) a.separators c.test_length.ensures) (went c.in_ok-test_length.was)
    (free_lent c.in_ok-job.ensures.job c.in_ok-test_free.ensures))
