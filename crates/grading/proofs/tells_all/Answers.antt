-- `tells_all` meets its contract: the records are tested one by one.
use mathlib.Core.Path.{◌∙◌}
use native.Mathlib.Omega.{arith}
use Rattle.chain.specs.Job.{processors}
use Rattle.std.proofs.Common.{rules}
use Rattle.std.proofs.lemmas.Iterator.{YieldsList-from_range}
use Rattle.std.proofs.lemmas.Iterator.Search.{all_from_yields_List}
use Rattle.parts.specs.Lent.{the}
use Rattle.grading.specs.Inner.{tells_at, tells}
use Rattle.grading.proofs.Laws.{range_all}
use Rattle.grading.proofs.tells_all.Goals as goal

pub returns : goal.returns
unfolding tells
returns c =
    let job = the c.args.line.job in
    all_from_yields_List (tells_at job c.args.separators.now c.args.plan.now) _ _ _ c.all.ensures.ran
    (YieldsList-from_range 0 (processors job) (processors job) (cc) (omega arith)) (λ x b q k. search (rules))
    ∙ range_all (tells_at job c.args.separators.now c.args.plan.now) (processors job)
