-- `put_plan_line` meets its contract: the figures, the separators and the line feed.
use Rattle.texts.specs.Text.{text}
use Rattle.listing.specs.Listing.{plan_line}
use Rattle.texts.proofs.Laws.{puts_then}
use Rattle.listing.proofs.put_plan_line.Goals as goal

pub returns-clause-put : goal.returns-clause-put
unfolding text plan_line
returns-clause-put c = puts_then (puts_then c.put_figures.ensures.put c.put_fields.ensures.put) c.put_text.ensures
