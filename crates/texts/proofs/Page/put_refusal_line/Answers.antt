-- `put_refusal_line` meets its contract: the word with its number, and the line feed.
use mathlib.Core.Path.{ap}
use Rattle.texts.specs.Text.{text, labelled, refusal_line}
use Rattle.texts.proofs.Laws.{puts_then, puts_as}
use Rattle.texts.proofs.Page.put_refusal_line.Goals as goal

pub returns-clause-put : goal.returns-clause-put
unfolding text labelled refusal_line
returns-clause-put c =
    puts_then (puts_as (ap (labelled "refused") c.from.ensures) c.put_labelled.ensures.put) c.put_text.ensures
