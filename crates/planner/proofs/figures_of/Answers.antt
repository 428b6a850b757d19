-- `figures_of` meets its contract, figure by figure.
use Rattle.parts.specs.Lent.{the, edition}
use Rattle.planner.proofs.Laws.{plan_small, plan_above, last_sum, figures_are_lem}
use Rattle.planner.proofs.figures_of.Goals as goal

pub imbalance_of-imbalance-requires : goal.imbalance_of-imbalance-requires
imbalance_of-imbalance-requires c =
    let v = c.args.job.valid in
    let enough = c.requires.tested.enough-holds in
    record {
      total = last_sum c.requires.sums c.from-total.ensures;
      small = plan_small v enough c.requires.bottleneck;
      above = plan_above v enough c.requires.bottleneck;
    }

pub returns : goal.returns
returns c =
    let a = c.allowance_of-allowance.ensures in
    let i = c.imbalance_of-imbalance.ensures in
    figures_are_lem (edition c.args.job) (the c.args.job) c.args.method c.requires.count a c.requires.bottleneck i
