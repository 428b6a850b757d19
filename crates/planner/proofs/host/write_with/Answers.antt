-- `write_with` meets its contract: the plan's separators, then its bytes.
use Prim.Native.Nat.{suc}
use mathlib.Core.Path.{◌≡◌, sym, ap, subst}
use mathlib.Core.List.{◌++◌}
use native.Mathlib.Omega.{arith}
use lib.ListN.{take, drop}
use Rattle.chain.specs.Limits.{max_processors}
use Rattle.chain.specs.Job.{Job, Partition, processors}
use Rattle.chain.specs.Plan.{plan_of}
use Rattle.chain.proofs.Demand.{plan_of_best}
use Rattle.refusals.specs.Inputs.{plan_needed}
use Rattle.parts.specs.Lent.{the}
use Rattle.parts.proofs.Front.{front_partition}
use Rattle.planfile.specs.PlanFile.{plan_bytes}
use Rattle.planner.proofs.Laws.{plan_length, tested_plannable}
use Rattle.planner.proofs.Kept.{best_bytes}
use Rattle.planner.proofs.host.write_with.Goals as goal

pub whole_as_slice-divide_in : goal.whole_as_slice-divide_in
whole_as_slice-divide_in g c = omega (arith, c.requires.small)

pub shared_whole_as_slice-new : goal.shared_whole_as_slice-new
shared_whole_as_slice-new g c = omega (arith, c.requires.small)

pub divide_in-requires-clause-separators_room : goal.divide_in-requires-clause-separators_room
unfolding max_processors
divide_in-requires-clause-separators_room g c = omega (arith, c.args.job.valid.processors_limit)

pub put_plan-requires-clause-partition : goal.put_plan-requires-clause-partition
put_plan-requires-clause-partition g c =
    let part = (plan_of_best (tested_plannable c.requires.tested)).partition in
    subst (λ (j : Job). Partition j (take (suc (processors j)) c.divide_in.new.separators))
    (sym (ap the c.new.ensures.0))
    (front_partition (plan_of (the c.args.job)) _ part c.divide_in.ensures.separators)

pub returns : goal.returns
returns g c =
    let same = ap the c.new.ensures.0 in
    let s = c.divide_in.new.separators in
    let bytes =
    subst (λ (j : Job). c.put_plan.new.plan ≡ plan_bytes j s ++ drop (plan_needed j) c.args.plan.now) same
    c.put_plan.ensures in
    best_bytes (the c.args.job) _ _ _ (plan_length c.args.job.valid) c.divide_in.ensures.separators bytes
