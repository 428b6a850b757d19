-- `walk_block` meets its contract: the loop keeps `Going`.
use mathlib.Core.Path.{refl}
use native.Mathlib.Omega.{arith}
use Rattle.chain.proofs.Ranges.{index_fits, narrow_products}
use Rattle.bidding.proofs.Blocks.{going_start, going_old, going_placed, going_turn, going_end}
use Rattle.bidding.proofs.walk_block.Goals as goal

pub loop-p-init : goal.loop-p-init
loop-p-init g c = going_start c.args.line.job.valid c.requires.come c.requires.block.0 refl

pub overflow_cast-separators : goal.overflow_cast-separators
overflow_cast-separators g c = record { fits = index_fits c.args.line.job.valid (omega (arith, c.loop-p.invariant.walked.left)) }

pub share_at-share-requires-clause-place : goal.share_at-share-requires-clause-place
share_at-share-requires-clause-place g c = (omega (arith, c.requires.block.1), c.loop-p.invariant.walked.left)

pub share_at-share-requires-clause-laid : goal.share_at-share-requires-clause-laid
share_at-share-requires-clause-laid g c =
    going_old c.args.line.job.valid c.requires.come c.loop-p.invariant (omega arith) c.requires.block.1 refl

pub returns-then-n-a : goal.returns-then-n-a
returns-then-n-a g c =
    going_placed c.args.line.job.valid c.requires.room c.requires.block.1 c.loop-p.invariant (omega arith) c.share_at-share.ensures c.if-n-a.true

pub lesser-least-requires : goal.lesser-least-requires
lesser-least-requires g c = narrow_products c.share_at-share.ensures.small c.loop-p.invariant.small

pub loop-p-preserved : goal.loop-p-preserved
loop-p-preserved g c =
    going_turn c.args.line.job.valid c.requires.room c.requires.block.1 c.loop-p.invariant (omega arith) c.share_at-share.ensures c.if-n-a.false
    refl c.lesser-least.ensures

pub returns : goal.returns
returns g c = going_end c.args.line.job.valid c.loop-p.invariant c.loop-p-test.false
