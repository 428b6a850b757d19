-- `enough_holds` meets its contract: the loop keeps the sum of the holds passed, none of them 0.
use mathlib.Core.Path.{◌≡◌, ap, ◌∙◌}
use native.Mathlib.Omega.{arith}
use lib.ListN.{length, length-take}
use Rattle.chain.specs.Limits.{max_processors}
use Rattle.chain.specs.Lists.{sum_to}
use Rattle.chain.specs.Job.{hold_of}
use Rattle.parts.specs.Lent.{the}
use Rattle.refusals.proofs.Holds.{no_limit, all_decide, limited_more, sum_none, sum_more}
use Rattle.refusals.proofs.enough_holds.Goals as goal

pub loop-hold-init : goal.loop-hold-init
loop-hold-init c =
    (omega arith, sum_none (hold_of (the c.args.job)), λ k h. absurd (let z : ⊥ = omega arith in z))

pub returns-then-hold-eq0 : goal.returns-then-hold-eq0
unfolding hold_of
returns-then-hold-eq0 c =
    let j = c.args.job in
    no_limit j.startup j.speeds.now j.holds.now j.weights.now c.loop-hold.hold-index
    (omega (arith, length-take (length j.speeds.now) j.holds.now)) c.if-hold-eq0.true

pub overflow_add-sum : goal.overflow_add-sum
unfolding max_processors
overflow_add-sum c =
    let j = c.args.job in omega (arith, length-take (length j.speeds.now) j.holds.now, j.valid.processors_limit)

pub loop-hold-preserved : goal.loop-hold-preserved
unfolding hold_of
loop-hold-preserved c = (
  omega arith,
  sum_more (hold_of (the c.args.job)) c.loop-hold.hold-index c.loop-hold.invariant.1 c.from-sum.ensures,
  limited_more (the c.args.job) c.loop-hold.hold-index c.loop-hold.invariant.2 (omega arith),
)

pub returns : goal.returns
returns c =
    let j = c.args.job in
    let all : c.loop-hold.hold-index ≡ length j.speeds.now = omega (arith, length-take (length j.speeds.now) j.holds.now, j.valid.holds_given) in
    all_decide j.startup j.speeds.now j.holds.now j.weights.now (λ k h. c.loop-hold.invariant.2 k (omega arith))
    (c.loop-hold.invariant.1 ∙ ap (sum_to (hold_of (the j))) all)
