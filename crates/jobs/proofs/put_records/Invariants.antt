use lib.ListN.{get_or}
use Rattle.jobs.specs.Kinds.{kind_number}
use Rattle.jobs.proofs.Records.{Putting}
use Rattle.jobs.proofs.put_records.Given as goal

abbrev pub invariant-loop-i : goal.invariant-loop-i
invariant-loop-i g l = Putting (kind_number l.kind) (λ p. get_or l.holds p 0) l.values l.from l.initial.file l.file l.i
