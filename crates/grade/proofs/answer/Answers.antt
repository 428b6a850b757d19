-- `answer` meets its contract: what was put in front of the buffer is the line.
use Rattle.std.proofs.Common.{arith}
use Rattle.texts.proofs.Laws.{put_read}
use Rattle.grade.proofs.answer.Goals as goal

pub send-requires : goal.send-requires
send-requires g c = (put_read c.put_grade-n.ensures.put (omega arith)).0
