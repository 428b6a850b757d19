-- `keeps_hold` meets its contract: no limit, or the comparison.
use Prim.Native.Nat.{◌-◌}
use mathlib.Core.Path.{sym, ap, ◌∙◌}
use mathlib.Core.Bool.{Bool, ◌||◌}
use lib.Dec.{leb}
use borrow.Author.Tests.{eq-eqb, ne_eqb}
use Rattle.chain.specs.Job.{hold_of, keeps}
use Rattle.parts.specs.Lent.{the}
use Rattle.parts.proofs.keeps_hold.Goals as goal

pub returns-then-hold-eq0 : goal.returns-then-hold-eq0
unfolding keeps
returns-then-hold-eq0 c =
    let a = c.args in
    let hold = hold_of (the a.job) a.p in
    eq-eqb c.hold_of-hold.result 0 c.if-hold-eq0.true
    ∙ sym (ap (λ (t : Bool). t || leb (a.b - a.a) hold) (eq-eqb hold 0 (sym c.hold_of-hold.ensures.value ∙ c.if-hold-eq0.true)))

pub returns-else-hold-eq0 : goal.returns-else-hold-eq0
unfolding keeps
returns-else-hold-eq0 c =
    let a = c.args in
    let hold = hold_of (the a.job) a.p in
    ap (leb (a.b - a.a)) c.hold_of-hold.ensures.value
    ∙ sym (ap (λ (t : Bool). t || leb (a.b - a.a) hold) (ne_eqb hold 0 (λ z. c.if-hold-eq0.false (c.hold_of-hold.ensures.value ∙ z))))
