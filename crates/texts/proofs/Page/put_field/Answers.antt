-- `put_field` meets its contract: a space, then the number.
use Rattle.texts.specs.Text.{text, field}
use Rattle.texts.proofs.Laws.{puts_then}
use Rattle.texts.proofs.Page.put_field.Goals as goal

pub returns-clause-put : goal.returns-clause-put
unfolding field text
returns-clause-put c = puts_then c.put_text.ensures c.put_number.ensures.put
