-- `is_partition` meets its contract: the loop keeps that the pairs passed are good.
use mathlib.Core.Path.{refl, sym, ◌∙◌}
use native.Mathlib.Omega.{arith}
use native.Mathlib.Numerals.{add-one}
use Rattle.chain.proofs.Tests.{T_of, T-not-of}
use Rattle.parts.specs.Lent.{the}
use Rattle.refusals.proofs.Division.{not_first, not_grown, not_kept, end_decides, good_more}
use Rattle.refusals.proofs.is_partition.Goals as goal
use Rattle.refusals.proofs.is_partition.Goals.{then-b-a-via-then-b-a, then-b-a-via-else-b-a+then-not-keeps_hold}

pub returns-then-separators-ne0 : goal.returns-then-separators-ne0
returns-then-separators-ne0 c =
    not_first (the c.args.job) c.args.separators.now c.requires c.if-separators-ne0.true

pub loop-p-init : goal.loop-p-init
loop-p-init c = (c.if-separators-ne0.false, λ k h. absurd (let z : ⊥ = omega arith in z))

pub returns-then-b-a : goal.returns-then-b-a
returns-then-b-a c =
    let job = the c.args.job in
    let s = c.args.separators.now in
    elim c.then-b-a.branch [
      | then-b-a-via-then-b-a w ↦ not_grown job s c.requires c.loop-p.p c.loop-p-test.true (rw add-one at w.if-b-a.true)
      | then-b-a-via-else-b-a+then-not-keeps_hold w ↦
          not_kept job s c.requires c.loop-p.p c.loop-p-test.true (T-not-of (rw add-one at (sym w.keeps_hold.ensures ∙ w.if-not-keeps_hold.true)))
    ]

pub loop-p-preserved : goal.loop-p-preserved
loop-p-preserved c = (
  c.loop-p.invariant.0,
  good_more (the c.args.job) c.args.separators.now c.loop-p.p c.loop-p.invariant.1 refl refl c.if-b-a.false
      (T_of (sym c.keeps_hold.ensures ∙ c.if-not-keeps_hold.false)),
)

pub returns : goal.returns
returns c =
    end_decides (the c.args.job) c.args.separators.now c.requires c.loop-p.invariant.0 (λ k h. c.loop-p.invariant.1 k (omega arith))
