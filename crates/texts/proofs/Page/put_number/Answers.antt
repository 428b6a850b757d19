-- `put_number` meets its contract: the digits are those of the definition.
use Rattle.texts.proofs.Laws.{number-text, puts_as}
use Rattle.texts.proofs.Page.put_number.Goals as goal

pub returns-clause-put : goal.returns-clause-put
returns-clause-put c =
    puts_as (number-text c.decimal-count.ensures.len c.decimal-count.ensures.digits) c.put_text.ensures
