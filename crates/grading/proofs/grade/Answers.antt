-- `grade` meets its contract: the job, then the plan file.
use mathlib.Core.Path.{ap, ◌∙◌}
use Rattle.chain.specs.Job.{Job}
use Rattle.parts.specs.Lent.{lent}
use Rattle.parts.proofs.Lines.{lent_is}
use Rattle.refusals.proofs.Exits.{went}
use Rattle.grading.specs.Answers.{plan_grade}
use Rattle.grading.proofs.Answering.{lists_refused, lists_graded}
use Rattle.grading.proofs.grade.Goals as goal

pub returns-in_err-job : goal.returns-in_err-job
returns-in_err-job c =
    lists_refused (lent c.args.lists) c.args.plan.now c.from_residual.result c.in_err-job.was c.from_residual.ensures.1 c.test_all_lists.ensures.number

pub returns : goal.returns
returns c =
    lists_graded (lent c.args.lists) c.args.plan.now c.test_all_lists.ensures.number (went c.in_ok-job.was)
    (c.grade_in.ensures ∙ ap (λ (job : Job). plan_grade job c.args.plan.now) (lent_is c.in_ok-job.ensures.job))
