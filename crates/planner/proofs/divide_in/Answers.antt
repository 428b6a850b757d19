-- `divide_in` meets its contract: prefix sums, the method, the closing walk.
use Rattle.chain.proofs.Demand.{plan_of_best, method_unique}
use Rattle.parts.specs.Lent.{the}
use Rattle.parts.proofs.Front.{kept_trans}
use Rattle.parts.proofs.Laws.{weights_fit}
use Rattle.parts.proofs.Lines.{sums_prefix}
use Rattle.planner.proofs.Laws.{summed_kept, walk_is_plan, tested_plannable}
use Rattle.planner.proofs.divide_in.Goals as goal

pub prefix_sums-requires-clause-weights_bound : goal.prefix_sums-requires-clause-weights_bound
prefix_sums-requires-clause-weights_bound c = weights_fit c.args.job.valid

pub run_method-ended-requires-clause-sums : goal.run_method-ended-requires-clause-sums
run_method-ended-requires-clause-sums c = sums_prefix _ c.prefix_sums.ensures

pub close_walk-requires-clause-plan_walk : goal.close_walk-requires-clause-plan_walk
close_walk-requires-clause-plan_walk c =
    let ended = c.run_method-ended.result in
    rw (c.new.ensures.0) (walk_is_plan c.requires.tested ended.count ended.bound c.run_method-ended.ensures.method_ends)

pub close_walk-requires-clause-partition : goal.close_walk-requires-clause-partition
close_walk-requires-clause-partition c =
    rw (c.new.ensures.0) (plan_of_best (tested_plannable c.requires.tested)).partition

pub returns-clause-count : goal.returns-clause-count
returns-clause-count c =
    let ended = c.run_method-ended.result in
    let can = tested_plannable c.requires.tested in
    method_unique can c.args.method c.requires.tested.taken ended.count ended.bound
    c.run_method-ended.ensures.method_ends

pub returns-clause-scratch_kept : goal.returns-clause-scratch_kept
returns-clause-scratch_kept c =
    kept_trans (summed_kept (the c.args.job) c.args.scratch.now c.prefix_sums.ensures c.requires.scratch_room.sums)
    c.run_method-ended.ensures.scratch_kept
