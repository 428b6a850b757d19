use Rattle.jobs.proofs.AllRecords.{Tested}
use Rattle.jobs.proofs.test_records.Given as goal

abbrev pub invariant-loop-i : goal.invariant-loop-i
invariant-loop-i l = Tested l.file l.processors l.tasks l.i
