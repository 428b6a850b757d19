-- `nearest_in` meets its contract: the nearer of two, then the smallest index with its entry.
use Rattle.heuristic.proofs.Nearest.{nearer_found}
use Rattle.heuristic.proofs.nearest_in.Goals as goal

pub returns : goal.returns
returns c =
    nearer_found c.requires.rising c.requires.products.0 c.requires.past_from c.nearer_of-i.ensures c.first_level.ensures
