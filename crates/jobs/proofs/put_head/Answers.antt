-- `put_head` meets its contract, edition by edition.
use Rattle.std.proofs.Common.{arith}
use Rattle.jobs.specs.Kinds.{kind_number}
use Rattle.jobs.proofs.Writing.{second_head, head_put, head_none}
use Rattle.jobs.proofs.put_head.Goals as goal

pub put_record-requires : goal.put_record-requires
put_record-requires c = omega (arith, c.requires, second_head c.args.job.startup c.if-job.true)

pub returns-then-job : goal.returns-then-job
unfolding kind_number
returns-then-job c = head_put c.args.job.startup c.args.file.now c.if-job.true c.put_record.ensures

pub returns-else-job : goal.returns-else-job
returns-else-job c = head_none c.args.job.startup c.args.file.now c.if-job.false
