-- `grade_told` meets its contract: the prefix sums, the records, the grade.
use mathlib.Core.Path.{ap, ◌∙◌}
use native.Mathlib.Omega.{arith}
use lib.ListN.{take}
use Prim.Native.Nat.{suc}
use Rattle.chain.specs.Limits.{max_tasks}
use Rattle.chain.specs.Job.{processors}
use Rattle.parts.specs.declared.job.ValidJob.{ValidJob}
use Rattle.parts.specs.Lent.{the}
use Rattle.parts.proofs.Laws.{weights_fit}
use Rattle.parts.proofs.Lines.{sums_prefix}
use Rattle.grading.specs.Inner.{tells}
use Rattle.grading.specs.Answers.{grade_of}
use Rattle.grading.proofs.Answering.{told_untrue, told_true}
use Rattle.grading.proofs.grade_told.Goals as goal

pub prefix_sums-requires : goal.prefix_sums-requires
unfolding max_tasks
prefix_sums-requires c =
    let v = c.args.job.now.valid in
    record { weights_bound = weights_fit v; weights_in_bounds = omega (arith, v.tasks_limit) }

pub new-line-requires : goal.new-line-requires
new-line-requires c = sums_prefix _ c.prefix_sums.ensures

pub returns-then-not-tells_all : goal.returns-then-not-tells_all
returns-then-not-tells_all c =
    let a = c.args in
    told_untrue (the a.job.now) a.separators.now a.plan.now
    (c.if-not-tells_all.ensures ∙ ap (λ (job : ValidJob). tells (the job) a.separators.now a.plan.now) c.new-line.ensures.0)

pub returns : goal.returns
returns c =
    let a = c.args in
    told_true (the a.job.now) a.separators.now a.plan.now
    (c.grade_partition.ensures ∙ ap (λ (job : ValidJob). grade_of (the job) (take (suc (processors (the job))) a.separators.now)) c.new-line.ensures.0)
    (c.if-not-tells_all.ensures ∙ ap (λ (job : ValidJob). tells (the job) a.separators.now a.plan.now) c.new-line.ensures.0)
