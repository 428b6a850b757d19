-- `test_holds` meets its contract: the length of the list that is cut to the processors.
use Rattle.refusals.proofs.Holds.{holds-length}
use Rattle.refusals.proofs.test_holds.Goals as goal

pub returns : goal.returns
returns c =
    let l = c.args.lists in
    holds-length _ l.speeds.now l.holds.now l.weights.now c.test_length.ensures
