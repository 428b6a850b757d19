-- `walk_blocks` meets its contract: the loop keeps `Trial`.
use mathlib.Core.Path.{sym, ◌∙◌}
use native.Mathlib.Omega.{arith}
use Rattle.chain.proofs.Ranges.{index_fits, narrow_products, lent_finite}
use Rattle.parts.specs.Lent.{the}
use Rattle.probe.proofs.Walked.{reached_first, placed_first, begun_first, walked_end, answer_fits, answer_fails}
use Rattle.bidding.proofs.Trial.{trial_start, fits_leasts, trial_come, known_small, known_least}
use Rattle.bidding.proofs.Trial.{trial_placed, begun_placed, trial_turn, trial_last, trial_leasts}
use Rattle.bidding.proofs.walk_blocks.Goals as goal

-- Without tasks it fits at once.
pub returns-then-n-a-clause-value : goal.returns-then-n-a-clause-value
returns-then-n-a-clause-value g c =
    placed_first c.args.line.job.valid c.requires.room (reached_first (the c.args.line.job) c.args.bound c.args.separators.now) c.if-n-a.true

pub returns-then-n-a-clause-separators : goal.returns-then-n-a-clause-separators
returns-then-n-a-clause-separators g c =
    begun_first c.args.line.job.valid c.requires.room (reached_first (the c.args.line.job) c.args.bound c.args.separators.now) c.if-n-a.true

pub returns-then-n-a-clause-leasts : goal.returns-then-n-a-clause-leasts
returns-then-n-a-clause-leasts g c =
    fits_leasts c.args.bound
    (placed_first c.args.line.job.valid c.requires.room (reached_first (the c.args.line.job) c.args.bound c.args.separators.now) c.if-n-a.true)

pub loop-k-init : goal.loop-k-init
loop-k-init g c = trial_start (omega arith)

pub pass_block-point-requires-clause-come : goal.pass_block-point-requires-clause-come
pass_block-point-requires-clause-come g c =
    trial_come c.args.line.job.valid c.args.bound c.requires.room c.loop-k.invariant (omega (arith, c.div_ceil-k-end.ensures)) (c.requires.laid (omega arith))

pub pass_block-point-requires-clause-narrow : goal.pass_block-point-requires-clause-narrow
pass_block-point-requires-clause-narrow g c =
    known_small c.args.line.job.valid c.args.bound c.requires.room c.loop-k.invariant (omega (arith, c.div_ceil-k-end.ensures)) c.requires.known

pub pass_block-point-requires-clause-known : goal.pass_block-point-requires-clause-known
pass_block-point-requires-clause-known g c =
    known_least c.args.line.job.valid c.args.bound c.requires.room c.loop-k.invariant (omega (arith, c.div_ceil-k-end.ensures))
    c.requires.known (omega (arith, c.min-stop.ensures))

pub returns-then-n-a-2-clause-value : goal.returns-then-n-a-2-clause-value
returns-then-n-a-2-clause-value g c =
    trial_placed c.args.line.job.valid c.args.bound c.requires.room c.loop-k.invariant (omega (arith, c.div_ceil-k-end.ensures))
    (omega (arith, c.min-stop.ensures)) c.pass_block-point.ensures
    c.if-n-a-2.true

pub returns-then-n-a-2-clause-separators : goal.returns-then-n-a-2-clause-separators
returns-then-n-a-2-clause-separators g c =
    begun_placed c.args.line.job.valid c.args.bound c.requires.room c.loop-k.invariant (omega (arith, c.div_ceil-k-end.ensures))
    (omega (arith, c.min-stop.ensures)) c.pass_block-point.ensures
    c.if-n-a-2.true

pub returns-then-n-a-2-clause-leasts : goal.returns-then-n-a-2-clause-leasts
returns-then-n-a-2-clause-leasts g c =
    fits_leasts c.args.bound
    (trial_placed c.args.line.job.valid c.args.bound c.requires.room c.loop-k.invariant (omega (arith, c.div_ceil-k-end.ensures))
    (omega (arith, c.min-stop.ensures)) c.pass_block-point.ensures
    c.if-n-a-2.true)

pub lesser-best-requires : goal.lesser-best-requires
lesser-best-requires g c = narrow_products c.pass_block-point.ensures.small c.loop-k.invariant.walked.small

pub loop-k-preserved : goal.loop-k-preserved
loop-k-preserved g c =
    trial_turn c.args.line.job.valid c.args.bound c.requires.room c.loop-k.invariant (omega (arith, c.div_ceil-k-end.ensures))
    (omega (arith, c.min-stop.ensures)) c.pass_block-point.ensures
    c.requires.known c.if-n-a-2.false c.lesser-best.ensures

pub overflow_cast-separators : goal.overflow_cast-separators
overflow_cast-separators g c = record { fits = index_fits c.args.line.job.valid (omega (arith, c.loop-k.invariant.walked.left)) }

pub rest_of-rest-requires-clause-place : goal.rest_of-rest-requires-clause-place
rest_of-rest-requires-clause-place g c =
    (omega (arith, c.args.line.job.valid.some_processor), omega (arith, c.loop-k.invariant.walked.left))

pub returns-then-at_most-clause-value : goal.returns-then-at_most-clause-value
returns-then-at_most-clause-value g c =
    answer_fits c.args.line.job.valid c.requires.room
    (trial_last c.args.line.job.valid c.args.bound c.requires.room c.loop-k.invariant (omega (arith, c.div_ceil-k-end.ensures)))
    (omega arith) (lent_finite c.requires.lendable.0) c.rest_of-rest.ensures.value (sym c.at_most.ensures ∙ c.if-at_most.true)

pub returns-then-at_most-clause-separators : goal.returns-then-at_most-clause-separators
returns-then-at_most-clause-separators g c =
    walked_end c.args.line.job.valid c.requires.room
    (trial_last c.args.line.job.valid c.args.bound c.requires.room c.loop-k.invariant (omega (arith, c.div_ceil-k-end.ensures))) (omega arith)

pub returns-then-at_most-clause-leasts : goal.returns-then-at_most-clause-leasts
returns-then-at_most-clause-leasts g c =
    fits_leasts c.args.bound
    (answer_fits c.args.line.job.valid c.requires.room
    (trial_last c.args.line.job.valid c.args.bound c.requires.room c.loop-k.invariant (omega (arith, c.div_ceil-k-end.ensures)))
    (omega arith) (lent_finite c.requires.lendable.0) c.rest_of-rest.ensures.value (sym c.at_most.ensures ∙ c.if-at_most.true))

pub lesser-requires : goal.lesser-requires
lesser-requires g c = narrow_products c.rest_of-rest.ensures.narrow c.loop-k.invariant.walked.small

pub returns-clause-value : goal.returns-clause-value
returns-clause-value g c =
    answer_fails c.args.line.job.valid c.requires.room
    (trial_last c.args.line.job.valid c.args.bound c.requires.room c.loop-k.invariant (omega (arith, c.div_ceil-k-end.ensures)))
    (omega arith) (lent_finite c.requires.lendable.0) c.rest_of-rest.ensures.value (sym c.at_most.ensures ∙ c.if-at_most.false) c.lesser.ensures

pub returns-clause-separators : goal.returns-clause-separators
returns-clause-separators g c =
    walked_end c.args.line.job.valid c.requires.room
    (trial_last c.args.line.job.valid c.args.bound c.requires.room c.loop-k.invariant (omega (arith, c.div_ceil-k-end.ensures))) (omega arith)

pub returns-clause-leasts : goal.returns-clause-leasts
returns-clause-leasts g c =
    λ t. trial_leasts c.args.line.job.valid c.args.bound c.requires.room c.loop-k.invariant c.requires.known (omega (arith, c.div_ceil-k-end.ensures))
