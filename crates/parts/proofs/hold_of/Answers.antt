-- `hold_of` meets its contract: the list of holds is as long as that of the speeds, and below P it is not cut.
use mathlib.Core.Path.{◌∙◌}
use native.Mathlib.Omega.{arith}
use Rattle.chain.proofs.Cut.{holds_long, hold_at_lem}
use Rattle.parts.proofs.hold_of.Goals as goal

pub bounds-job-p : goal.bounds-job-p
bounds-job-p c =
    let job = c.args.job in
    omega (arith, holds_long job.startup job.speeds.now job.holds.now job.weights.now job.valid, c.requires)

pub returns-clause-value : goal.returns-clause-value
returns-clause-value c =
    let job = c.args.job in
    c.from.ensures ∙ hold_at_lem job.startup job.speeds.now job.holds.now job.weights.now c.args.p c.requires
