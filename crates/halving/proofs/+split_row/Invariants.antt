-- `split_row` calls itself for the two halves of its row. The measure is how many separators are between.
use lib.ListN.{length}
use Rattle.halving.proofs.+split_row.Given as goal

abbrev pub decreases-split_row : goal.decreases-split_row
decreases-split_row l = length l.between.now
