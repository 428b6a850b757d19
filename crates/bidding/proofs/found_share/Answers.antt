-- `found_share` meets its contract: what the search finds, and the bid there.
use native.Mathlib.Omega.{arith}
use Rattle.parts.specs.Lent.{the}
use Rattle.chain.proofs.Walk.{reach_from}
use Rattle.bidding.proofs.found_share.Goals as goal

pub bid_of-bid-requires-clause-place : goal.bid_of-bid-requires-clause-place
bid_of-bid-requires-clause-place g c =
    let a = c.args in
    (c.requires.place.0, omega (arith, c.part_end-end.ensures, reach_from (the a.line.job) a.p a.a a.bound), omega arith)
