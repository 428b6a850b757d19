-- `grade_in` meets its contract: the length, the separators, the records.
use native.Mathlib.Omega.{arith}
use Rattle.chain.specs.Limits.{max_processors}
use Rattle.parts.specs.Lent.{the}
use Rattle.grading.proofs.Answering.{grade_length, grade_gap, grade_no_division, front_division, grade_told}
use Rattle.grading.proofs.grade_in.Goals as goal
use Rattle.grading.proofs.grade_in.Goals.{then-not-take_separators-via-then-not-take_separators, then-not-take_separators-via-else-not-take_separators+then-not-is_partition}

pub overflow_mul-job : goal.overflow_mul-job
unfolding max_processors
overflow_mul-job c = omega (arith, c.args.job.now.valid.processors_limit)

pub returns-then-plan-job : goal.returns-then-plan-job
returns-then-plan-job c = grade_length (the c.args.job.now) c.args.plan.now (λ e. omega (arith, c.if-plan-job.true, e))

pub take_separators-requires-clause-room : goal.take_separators-requires-clause-room
unfolding max_processors
take_separators-requires-clause-room c = omega (arith, c.args.job.now.valid.processors_limit)

pub is_partition-requires : goal.is_partition-requires
unfolding max_processors
is_partition-requires c = omega (arith, c.args.job.now.valid.processors_limit, c.take_separators.auto.separators)

pub returns-then-not-take_separators : goal.returns-then-not-take_separators
returns-then-not-take_separators c =
    let long = c.if-plan-job.false in
    elim c.then-not-take_separators.branch [
      | then-not-take_separators-via-then-not-take_separators w ↦
          grade_gap (the c.args.job.now) c.args.plan.now long w.if-not-take_separators.ensures.joined
      | then-not-take_separators-via-else-not-take_separators+then-not-is_partition w ↦
          grade_no_division (the c.args.job.now) c.args.plan.now long w.if-not-take_separators.ensures.joined _ _
          w.if-not-take_separators.ensures.separators w.if-not-is_partition.ensures
    ]

pub grade_told-requires-clause-partition : goal.grade_told-requires-clause-partition
grade_told-requires-clause-partition c =
    let taken = c.if-not-take_separators.ensures in
    front_division (the c.args.job.now) c.args.plan.now c.if-plan-job.false taken.joined _ _ taken.separators c.if-not-is_partition.ensures

pub returns : goal.returns
returns c =
    let taken = c.if-not-take_separators.ensures in
    grade_told (the c.args.job.now) c.args.plan.now c.if-plan-job.false taken.joined _ _ taken.separators c.if-not-is_partition.ensures c.grade_told.ensures
