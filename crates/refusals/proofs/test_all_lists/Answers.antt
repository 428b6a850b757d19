-- `test_all_lists` meets its contract: the job, then the list of holds.
use mathlib.Core.Path.{sym, ◌∙◌}
use Rattle.parts.specs.Lent.{lent}
use Rattle.refusals.proofs.Tests.{all_job, all-holds}
use Rattle.refusals.proofs.Exits.{stopped, went}
use Rattle.refusals.proofs.test_all_lists.Goals as goal

pub returns-in_err-test_lists-clause-number : goal.returns-in_err-test_lists-clause-number
returns-in_err-test_lists-clause-number c =
    stopped _ c.in_err-test_lists.was c.from_residual.ensures.1 (all_job (lent c.args.lists) c.test_lists.ensures)

pub with_holds-requires : goal.with_holds-requires
with_holds-requires c = sym c.test_lists.ensures ∙ went c.in_ok-test_lists.was

pub returns-clause-number : goal.returns-clause-number
returns-clause-number c =
    all-holds (lent c.args.lists) c.test_lists.ensures (went c.in_ok-test_lists.was) c.with_holds.ensures.number
