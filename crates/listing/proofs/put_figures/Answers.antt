-- `put_figures` meets its contract: six numbers, one behind another.
use mathlib.Core.Path.{ap, ◌∙◌}
use Rattle.texts.specs.Text.{decimal, field}
use Rattle.listing.specs.Listing.{figures_text}
use Rattle.texts.proofs.Laws.{puts_then, puts_as}
use Rattle.listing.proofs.put_figures.Goals as goal

pub returns-clause-put : goal.returns-clause-put
unfolding figures_text
returns-clause-put c =
    let first = puts_as (ap decimal (c.from-2.ensures ∙ c.from.ensures)) c.put_number.ensures.put in
    let count = puts_as (ap field c.from-3.ensures) c.put_field.ensures.put in
    let allowance = puts_as (ap field c.from-4.ensures) c.put_field-2.ensures.put in
    let load = c.put_field-3.ensures.put in
    let speed = c.put_field-4.ensures.put in
    puts_then (puts_then (puts_then (puts_then (puts_then first count) allowance) load) speed) c.put_field-5.ensures.put
