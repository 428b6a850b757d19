-- `part_end` meets its contract: the end by the bound, cut at the hold, is as far as the part reaches.
use Prim.Native.Nat.{ℕ}
use mathlib.Core.Path.{ap, ◌∙◌}
use Rattle.parts.specs.Lent.{the}
use Rattle.probe.specs.Walk.{kept_end}
use Rattle.probe.proofs.Reach.{kept_reach, free_reach, unheld}
use Rattle.probe.proofs.part_end.Goals as goal

pub returns-then-this-ne0 : goal.returns-then-this-ne0
returns-then-this-ne0 g c =
    let a = c.args in
    c.kept_end.ensures ∙ ap (λ (h : ℕ). kept_end h a.a c.bound_end-end.result) c.hold_of.ensures.value
    ∙ kept_reach (the a.line.job) a.p a.a c.bound_end-end.result a.bound c.bound_end-end.ensures

pub returns-else-this-ne0 : goal.returns-else-this-ne0
returns-else-this-ne0 g c =
    let a = c.args in
    free_reach (the a.line.job) a.p a.a c.bound_end-end.result a.bound (unheld (the a.line.job) c.requires.held_is c.if-this-ne0.false) c.bound_end-end.ensures
