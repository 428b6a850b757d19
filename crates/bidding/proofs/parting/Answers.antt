-- `parting` meets its contract: the scan keeps `Parted`.
use mathlib.Core.Path.{refl, sym, ◌∙◌}
use native.Mathlib.Omega.{arith}
use Rattle.chain.proofs.Ranges.{narrow_products}
use Rattle.bidding.proofs.Resume.{parted_start, parting_products, end_after, end_before, parted_turn, parted_reached, parted_ended}
use Rattle.bidding.proofs.parting.Goals as goal

pub loop-processor-init : goal.loop-processor-init
loop-processor-init g c = λ f. parted_start _ _ _

pub bid_of-bid-requires-clause-place : goal.bid_of-bid-requires-clause-place
bid_of-bid-requires-clause-place g c =
    let v = c.args.line.job.valid in
    let f = c.requires.failed in
    let w = c.loop-processor.invariant f in (
      omega arith,
      end_after v c.requires.enough f w c.loop-processor-test.true refl,
      end_before v c.requires.enough f w c.loop-processor-test.true refl,
    )

pub at_most-requires : goal.at_most-requires
at_most-requires g c = parting_products c.args.line.job.valid c.requires.enough c.requires.failed c.bid_of-bid.ensures.narrow

pub returns-then-at_most : goal.returns-then-at_most
returns-then-at_most g c =
    parted_reached c.args.line.job.valid c.requires.enough c.requires.failed (c.loop-processor.invariant c.requires.failed)

pub lesser-least-requires : goal.lesser-least-requires
lesser-least-requires g c =
    let n = (c.loop-processor.invariant c.requires.failed).small in
    let b = c.bid_of-bid.ensures.narrow in
    search (narrow_products, n, b)

pub loop-processor-preserved : goal.loop-processor-preserved
loop-processor-preserved g c =
    λ f.
    parted_turn c.args.line.job.valid c.requires.enough f (c.loop-processor.invariant f) c.loop-processor-test.true refl
    c.bid_of-bid.ensures.value c.bid_of-bid.ensures.narrow (sym c.at_most.ensures ∙ c.if-at_most.false) c.lesser-least.ensures

pub returns : goal.returns
returns g c =
    parted_ended c.args.line.job.valid c.requires.enough c.requires.failed (c.loop-processor.invariant c.requires.failed) c.loop-processor-test.false
