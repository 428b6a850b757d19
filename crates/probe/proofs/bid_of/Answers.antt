-- `bid_of` meets its contract: the bid's part goes one task further, or there is no bid.
use Prim.Native.Nat.{◌+◌}
use mathlib.Core.Path.{sym, ◌∙◌}
use mathlib.Core.Bool.{not}
use lib.Dec.{T}
use native.Mathlib.Omega.{arith}
use Rattle.parts.specs.Lent.{the}
use Rattle.chain.specs.Job.{keeps}
use Rattle.chain.proofs.Tests.{T_of, T-not-of}
use Rattle.chain.proofs.Within.{offer_part, offer_none, free_of, free_keeps}
use Rattle.parts.proofs.Laws.{loads_to}
use Rattle.probe.proofs.Reach.{ready, unheld}
use Rattle.probe.proofs.Bids.{one_more, more_bound}
use Rattle.probe.proofs.bid_of.Goals as goal
use Rattle.probe.proofs.bid_of.Goals.{else-this-ne0-via-then-this-ne0+else-not-keeps_hold, else-this-ne0-via-else-this-ne0}

pub returns-then-not-keeps_hold-clause-value : goal.returns-then-not-keeps_hold-clause-value
returns-then-not-keeps_hold-clause-value g c =
    let a = c.args in
    let k : T (not (keeps (the a.line.job) a.p a.a (a.end + 1))) = T-not-of (sym c.keeps_hold.ensures ∙ c.if-not-keeps_hold.true) in
    one_more (the a.line.job) a.p a.a a.end (sym (offer_none (the a.line.job) a.p a.a (a.end + 1) k))

pub started_bound-requires-clause-loadable : goal.started_bound-requires-clause-loadable
started_bound-requires-clause-loadable g c = loads_to (ready c.args.line) (omega arith)

pub returns-clause-value : goal.returns-clause-value
returns-clause-value g c =
    let a = c.args in
    let job = the a.line.job in
    let k : T (keeps job a.p a.a (a.end + 1)) =
    elim c.else-this-ne0.branch [
      | else-this-ne0-via-then-this-ne0+else-not-keeps_hold w ↦ T_of (sym w.keeps_hold.ensures ∙ w.if-not-keeps_hold.false)
      | else-this-ne0-via-else-this-ne0 w ↦ free_keeps (free_of (unheld job c.requires.held_is w.if-this-ne0.false)) a.p a.a (a.end + 1)
    ] in
    one_more job a.p a.a a.end
    (more_bound (ready a.line) a.p a.a c.requires.place.0 a.end c.requires.place.1 c.requires.place.2 c.started_bound.ensures.value
    ∙ sym (offer_part job a.p a.a (a.end + 1) k))
