-- `put_counts_line` meets its contract: the three words with their numbers, and the line feed.
use mathlib.Core.Path.{ap}
use native.Mathlib.Omega.{arith}
use native.Mathlib.Nat.{lt_of_le_of_lt}
use Rattle.chain.proofs.Ranges.{loads_fit, total_weight_limit}
use Rattle.texts.specs.Text.{text, labelled}
use Rattle.listing.specs.Listing.{counts_line}
use Rattle.texts.proofs.Laws.{puts_then, puts_as}
use Rattle.listing.proofs.put_counts_line.Goals as goal

pub total-requires : goal.total-requires
total-requires c = lt_of_le_of_lt (total_weight_limit c.args.job.valid) (omega (arith, loads_fit))

pub returns-clause-put : goal.returns-clause-put
unfolding text labelled counts_line
returns-clause-put c =
    puts_then
    (puts_then (puts_then c.put_labelled.ensures.put c.put_labelled-2.ensures.put)
    (puts_as (ap (labelled " total") c.total.ensures) c.put_labelled-3.ensures.put))
    c.put_text.ensures
