-- `put_labelled` meets its contract: the word, then its field.
use Rattle.texts.proofs.Laws.{puts_then}
use Rattle.texts.proofs.Page.put_labelled.Goals as goal

pub returns-clause-put : goal.returns-clause-put
returns-clause-put c = puts_then c.put_text.ensures c.put_field.ensures.put
