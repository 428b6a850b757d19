-- `kept_end` meets its contract: no limit, the hold, or the end that is given.
use Rattle.probe.proofs.Reach.{kept_free_is, kept_short_is, kept_long_is}
use Rattle.probe.proofs.kept_end.Goals as goal
use Rattle.probe.proofs.kept_end.Goals.{else-hold-ne0-via-then-hold-ne0+else-hold-end, else-hold-ne0-via-else-hold-ne0}

pub returns-then-hold-end : goal.returns-then-hold-end
returns-then-hold-end c = let a = c.args in kept_short_is a.hold a.a a.end c.if-hold-ne0.true c.if-hold-end.true

pub returns : goal.returns
returns c =
    let a = c.args in
    elim c.else-hold-ne0.branch [
      | else-hold-ne0-via-then-hold-ne0+else-hold-end w ↦ kept_long_is a.hold a.a a.end w.if-hold-ne0.true w.if-hold-end.false
      | else-hold-ne0-via-else-hold-ne0 w ↦ kept_free_is a.hold a.a a.end w.if-hold-ne0.false
    ]
