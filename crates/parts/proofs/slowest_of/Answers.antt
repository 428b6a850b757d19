-- `slowest_of` meets its contract: the loop keeps `Fewest`.
use Prim.Native.Nat.{min}
use mathlib.Core.Path.{ap, ◌∙◌}
use native.Mathlib.Omega.{arith}
use Rattle.parts.proofs.Slowest.{rest_length, rest_at, fewest_start, fewest_next, fewest_end}
use Rattle.parts.proofs.slowest_of.Goals as goal

pub loop-speed-init : goal.loop-speed-init
loop-speed-init c = fewest_start c.args.speeds.now c.requires

pub loop-speed-preserved : goal.loop-speed-preserved
loop-speed-preserved c =
    let xs = c.args.speeds.now in
    let i = c.loop-speed.speed-index in
    fewest_next c.loop-speed.invariant (omega (arith, rest_length xs))
    (c.min-least.ensures ∙ ap (min c.loop-speed.least) (rest_at xs i (omega (arith, rest_length xs))))

pub returns : goal.returns
returns c = fewest_end c.args.speeds.now c.loop-speed.invariant (omega (arith, rest_length c.args.speeds.now))
