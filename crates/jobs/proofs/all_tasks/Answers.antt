-- `all_tasks` meets its contract: after j turns the first j records are tested.
use mathlib.Core.Path.{◌≡◌, refl, ap, ◌∙◌}
use native.Mathlib.Omega.{arith}
use Rattle.chain.specs.Limits.{max_weight}
use Rattle.jobs.specs.Inner.{plain_tasks}
use Rattle.jobs.proofs.AllTasks.{plain_next}
use Rattle.jobs.proofs.all_tasks.Goals as goal

pub loop-j-init : goal.loop-j-init
unfolding plain_tasks
loop-j-init c = refl

pub loop-j-preserved : goal.loop-j-preserved
unfolding max_weight
loop-j-preserved c =
    plain_next c.args.file.now c.args.from c.loop-j.j c.loop-j.invariant c.front_at.ensures c.and_between-all.ensures c.value_at.ensures refl
    c.and_between-all-in-loop-j.ensures

pub returns : goal.returns
returns c =
    c.loop-j.invariant ∙ ap (plain_tasks c.args.file.now c.args.from) (let e : c.loop-j.j ≡ c.args.count = omega arith in e)
