-- `list_method` meets its contract: the plan of the definition, and its line.
use mathlib.Core.Path.{sym}
use native.Mathlib.Omega.{arith}
use lib.Seq.{length-take-le}
use Rattle.chain.specs.Limits.{max_processors, max_tasks}
use Rattle.parts.specs.Lent.{edition}
use Rattle.listing.proofs.Listings.{method_put}
use Rattle.listing.proofs.list_method.Goals as goal

pub plan_in-figures-requires-clause-separators_room : goal.plan_in-figures-requires-clause-separators_room
unfolding max_processors
plan_in-figures-requires-clause-separators_room c = let v = c.args.job.valid in omega (arith, v.processors_limit)

pub plan_in-figures-requires-clause-scratch_room : goal.plan_in-figures-requires-clause-scratch_room
unfolding max_tasks
plan_in-figures-requires-clause-scratch_room c = let v = c.args.job.valid in omega (arith, v.tasks_limit)

pub slice_bounds-separators-end : goal.slice_bounds-separators-end
unfolding max_processors
slice_bounds-separators-end c = let v = c.args.job.valid in omega (arith, v.processors_limit)

pub slice_bounds-put_plan_line-end : goal.slice_bounds-put_plan_line-end
unfolding max_processors
slice_bounds-put_plan_line-end c =
    let v = c.args.job.valid in
    sym (length-take-le _ c.plan_in-figures.new.separators (omega (arith, v.processors_limit)))

pub returns-clause-put : goal.returns-clause-put
returns-clause-put c =
    let job = c.args.job in
    let f = c.plan_in-figures.ensures in
    method_put (edition job) c.args.method job.valid _ f.figures f.separators c.put_plan_line.ensures.put
