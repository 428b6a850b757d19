-- `walk` meets its contract: the loop keeps `Walked`.
use mathlib.Core.Path.{sym, ◌∙◌}
use native.Mathlib.Omega.{arith}
use Rattle.chain.proofs.Ranges.{index_fits, narrow_products, lent_finite}
use Rattle.probe.proofs.Walked.{walked_start, walked_turn, walked_end, placed_first, begun_first, placed, begun_placed, answer_fits, answer_fails, rest_products, end_after}
use Rattle.probe.proofs.walk.Goals as goal

pub returns-then-n-a-clause-value : goal.returns-then-n-a-clause-value
returns-then-n-a-clause-value g c = placed_first c.args.line.now.job.valid c.requires.room c.requires.reached c.if-n-a.true

pub returns-then-n-a-clause-separators : goal.returns-then-n-a-clause-separators
returns-then-n-a-clause-separators g c = begun_first c.args.line.now.job.valid c.requires.room c.requires.reached c.if-n-a.true

pub loop-p-init : goal.loop-p-init
loop-p-init g c = walked_start c.requires.reached c.if-n-a.false

pub overflow_cast-separators : goal.overflow_cast-separators
overflow_cast-separators g c = record { fits = index_fits c.args.line.now.job.valid (omega (arith, c.loop-p.invariant.left)) }

pub part_end-end-requires-clause-place : goal.part_end-end-requires-clause-place
part_end-end-requires-clause-place g c = (omega arith, omega (arith, c.loop-p.invariant.left))

pub returns-then-n-end-clause-value : goal.returns-then-n-end-clause-value
returns-then-n-end-clause-value g c =
    placed c.args.line.now.job.valid c.requires.room c.loop-p.invariant (omega arith) c.part_end-end.ensures c.if-n-end.true

pub returns-then-n-end-clause-separators : goal.returns-then-n-end-clause-separators
returns-then-n-end-clause-separators g c =
    begun_placed c.args.line.now.job.valid c.requires.room c.loop-p.invariant (omega arith) c.part_end-end.ensures c.if-n-end.true

pub bid_of-requires-clause-place : goal.bid_of-requires-clause-place
bid_of-requires-clause-place g c =
    (omega arith, end_after c.args.line.now.job.valid c.requires.room c.loop-p.invariant c.part_end-end.ensures, c.if-n-end.false)

pub lesser-best-requires : goal.lesser-best-requires
lesser-best-requires g c =
    let h = narrow_products c.loop-p.invariant.small c.bid_of.ensures.narrow in
    (omega arith, omega arith)

pub loop-p-preserved : goal.loop-p-preserved
loop-p-preserved g c =
    walked_turn c.args.line.now.job.valid c.requires.room c.loop-p.invariant (omega arith) c.part_end-end.ensures c.if-n-end.false
    c.bid_of.ensures.value c.lesser-best.ensures

pub overflow_cast-separators-2 : goal.overflow_cast-separators-2
overflow_cast-separators-2 g c = record { fits = index_fits c.args.line.now.job.valid (omega (arith, c.loop-p.invariant.left)) }

pub rest_of-rest-requires-clause-place : goal.rest_of-rest-requires-clause-place
rest_of-rest-requires-clause-place g c = (omega (arith, c.args.line.now.job.valid.some_processor), omega (arith, c.loop-p.invariant.left))

pub at_most-requires : goal.at_most-requires
at_most-requires g c =
    let h = rest_products _ _ _ c.args.line.now.job.valid c.requires.lendable c.rest_of-rest.ensures.value in
    (omega arith, omega arith)

pub returns-then-at_most-clause-value : goal.returns-then-at_most-clause-value
returns-then-at_most-clause-value g c =
    answer_fits c.args.line.now.job.valid c.requires.room c.loop-p.invariant c.loop-p-test.false (lent_finite c.requires.lendable)
    c.rest_of-rest.ensures.value (sym c.at_most.ensures ∙ c.if-at_most.true)

pub returns-then-at_most-clause-separators : goal.returns-then-at_most-clause-separators
returns-then-at_most-clause-separators g c = walked_end c.args.line.now.job.valid c.requires.room c.loop-p.invariant c.loop-p-test.false

pub lesser-requires : goal.lesser-requires
lesser-requires g c =
    let h = narrow_products c.loop-p.invariant.small c.rest_of-rest.ensures.narrow in
    (omega arith, omega arith)

pub returns-clause-value : goal.returns-clause-value
returns-clause-value g c =
    answer_fails c.args.line.now.job.valid c.requires.room c.loop-p.invariant c.loop-p-test.false (lent_finite c.requires.lendable)
    c.rest_of-rest.ensures.value (sym c.at_most.ensures ∙ c.if-at_most.false) c.lesser.ensures

pub returns-clause-separators : goal.returns-clause-separators
returns-clause-separators g c = walked_end c.args.line.now.job.valid c.requires.room c.loop-p.invariant c.loop-p-test.false
