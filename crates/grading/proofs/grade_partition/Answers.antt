-- `grade_partition` meets its contract: the bottleneck is compared with the least.
use Rattle.chain.proofs.Enough.{partition_enough}
use Rattle.parts.proofs.Measure.{front_length}
use Rattle.grading.proofs.Laws.{measured_products, graded_best, graded_valid}
use Rattle.grading.proofs.grade_partition.Goals as goal

pub bisection_in-found-requires : goal.bisection_in-found-requires
bisection_in-found-requires c =
    record { enough = partition_enough _ c.requires; room = front_length c.args.separators.now c.requires }

pub at_most-requires : goal.at_most-requires
at_most-requires c =
    let found = c.bisection_in-found.ensures in
    measured_products c.args.line.job.valid c.requires c.measure_in-measured.ensures.of_front found.bisection_ends found.lendable

pub returns-then-at_most : goal.returns-then-at_most
returns-then-at_most c =
    let v = c.args.line.job.valid in
    graded_best v c.requires c.measure_in-measured.ensures.of_front c.bisection_in-found.ensures.bisection_ends c.at_most.ensures c.if-at_most.true

pub returns-else-at_most : goal.returns-else-at_most
returns-else-at_most c =
    let v = c.args.line.job.valid in
    graded_valid v c.requires c.measure_in-measured.ensures.of_front c.bisection_in-found.ensures.bisection_ends c.at_most.ensures c.if-at_most.false
