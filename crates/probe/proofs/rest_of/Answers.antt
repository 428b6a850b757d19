-- `rest_of` meets its contract.
use mathlib.Core.Path.{sym, ◌∙◌}
use mathlib.Core.Bool.{not}
use lib.Dec.{T}
use native.Mathlib.Omega.{arith}
use Rattle.parts.specs.Lent.{the}
use Rattle.chain.specs.Job.{tasks, keeps}
use Rattle.chain.proofs.Tests.{T_of, T-not-of}
use Rattle.chain.proofs.Within.{offer_part, offer_none, free_of, free_keeps}
use Rattle.parts.proofs.Laws.{loads_to}
use Rattle.probe.proofs.Reach.{ready, unheld}
use Rattle.probe.proofs.Bids.{part_narrow, rest_bound}
use Rattle.probe.proofs.rest_of.Goals as goal
use Rattle.probe.proofs.rest_of.Goals.{else-this-ne0-via-then-this-ne0+else-not-keeps_hold, else-this-ne0-via-else-this-ne0}

pub returns-then-not-keeps_hold-clause-value : goal.returns-then-not-keeps_hold-clause-value
returns-then-not-keeps_hold-clause-value g c =
    let a = c.args in
    let job = the a.line.job in
    let k : T (not (keeps job a.p a.a (tasks job))) = T-not-of (sym c.keeps_hold.ensures ∙ c.if-not-keeps_hold.true) in
    sym (offer_none job a.p a.a (tasks job) k)

pub part_bound-requires-clause-loadable : goal.part_bound-requires-clause-loadable
part_bound-requires-clause-loadable g c = loads_to (ready c.args.line) (omega arith)

pub returns-clause-value : goal.returns-clause-value
returns-clause-value g c =
    let a = c.args in
    let job = the a.line.job in
    let k : T (keeps job a.p a.a (tasks job)) =
    elim c.else-this-ne0.branch [
      | else-this-ne0-via-then-this-ne0+else-not-keeps_hold w ↦ T_of (sym w.keeps_hold.ensures ∙ w.if-not-keeps_hold.false)
      | else-this-ne0-via-else-this-ne0 w ↦ free_keeps (free_of (unheld job c.requires.held_is w.if-this-ne0.false)) a.p a.a (tasks job)
    ] in
    rest_bound (ready a.line) a.p a.a c.requires.place.0 c.requires.place.1 c.part_bound.ensures ∙ sym (offer_part job a.p a.a (tasks job) k)

pub returns-clause-narrow : goal.returns-clause-narrow
returns-clause-narrow g c =
    let a = c.args in
    part_narrow a.p a.a _ a.line.job.valid (rest_bound (ready a.line) a.p a.a c.requires.place.0 c.requires.place.1 c.part_bound.ensures)
