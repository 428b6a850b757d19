-- `share_at` meets its contract: a part that stays, or takes one task more, is the one that a search would find.
use Prim.Native.Nat.{ℕ, ◌+◌}
use mathlib.Core.Path.{sym, subst, ◌∙◌}
use native.Mathlib.Omega.{arith}
use lib.Dec.{T}
use Rattle.parts.specs.Lent.{the}
use Rattle.chain.specs.Job.{within}
use Rattle.chain.proofs.Ranges.{lent_finite}
use Rattle.bidding.proofs.Blocks.{share_ends, one_more}
use Rattle.bidding.proofs.share_at.Goals as goal

pub returns-then-not-at_most : goal.returns-then-not-at_most
returns-then-not-at_most g c =
    let a = c.args in
    share_ends (the a.line.job) a.p a.a a.old (omega (arith, c.requires.laid.0)) c.requires.laid.1
    (subst (λ (i : ℕ). T (within (the a.line.job) a.p i a.old a.bound)) (sym c.if-a-was.true) c.requires.laid.2)
    (sym c.at_most.ensures ∙ c.if-not-at_most.true) c.bid_of-bid.ensures.value c.bid_of-bid.ensures.narrow

pub returns-then-not-at_most-2 : goal.returns-then-not-at_most-2
returns-then-not-at_most-2 g c =
    let a = c.args in
    share_ends (the a.line.job) a.p a.a (a.old + 1) (omega (arith, c.requires.laid.0, c.if-a-was.true)) (omega arith)
    (one_more (the a.line.job) a.p a.a a.old (lent_finite c.requires.lendable.0) c.bid_of-bid.ensures.value (sym c.at_most.ensures ∙ c.if-not-at_most.false))
    (sym c.at_most-then-more-line.ensures ∙ c.if-not-at_most-2.true) c.bid_of-next.ensures.value c.bid_of-next.ensures.narrow
