-- `split_in` meets its contract: the first index past the middle of the part, then the nearest.
use Rattle.halving.proofs.Laws.{split_found}
use Rattle.halving.proofs.split_in.Goals as goal

pub returns : goal.returns
returns c = split_found c.args.sums.now c.args.a c.args.b c.from.ensures c.from-2.ensures c.nearest_in.ensures
