-- `is_second` meets its contract: no byte, or the first record's kind.
use mathlib.Core.Path.{◌∙◌}
use lib.ListN.{length}
use borrow.Author.Tests.{le-ltb}
use Rattle.jobs.specs.Kinds.{kind_number}
use Rattle.jobs.proofs.AllRecords.{second_none, second_by}
use Rattle.jobs.proofs.is_second.Goals as goal

pub returns-then-file-gt0 : goal.returns-then-file-gt0
unfolding kind_number
returns-then-file-gt0 c = second_by c.args.file.now c.byte_at.ensures c.from.ensures

pub returns-else-file-gt0 : goal.returns-else-file-gt0
returns-else-file-gt0 c =
    le-ltb 0 (length c.args.file.now) c.if-file-gt0.false ∙ second_none c.args.file.now c.if-file-gt0.false
