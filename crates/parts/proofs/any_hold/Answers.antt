-- `any_hold` meets its contract: the loop knows whether a hold so far is set.
use mathlib.Core.Path.{refl}
use lib.ListN.{length, take}
use Rattle.chain.specs.Lists.{each_of}
use Rattle.parts.proofs.Held.{any_next, any_end, any_held}
use Rattle.parts.proofs.any_hold.Goals as goal

pub loop-hold-init : goal.loop-hold-init
unfolding each_of
loop-hold-init c = refl

pub loop-hold-preserved : goal.loop-hold-preserved
loop-hold-preserved c =
    let job = c.args.job in
    any_next (take (length job.speeds.now) job.holds.now) c.loop-hold.hold-index c.loop-hold.invariant c.loop-hold-test.true

pub returns : goal.returns
returns c =
    let job = c.args.job in
    any_held job.startup job.speeds.now job.holds.now job.weights.now
    (any_end (take (length job.speeds.now) job.holds.now) c.loop-hold.hold-index c.loop-hold.invariant c.loop-hold-test.false)
