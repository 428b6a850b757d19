-- `number_of` meets its contract.
use mathlib.Core.Path.{sym, ap, ◌∙◌}
use Rattle.chain.specs.Numbers.{refused}
use Rattle.answers.proofs.number_of.Goals as goal

pub returns-in-Ok : goal.returns-in-Ok
unfolding refused
returns-in-Ok c = sym (ap refused c.in-Ok.is)

pub returns-in-Err : goal.returns-in-Err
unfolding refused
returns-in-Err c = c.from.ensures ∙ sym (ap refused c.in-Err.is)
