use mathlib.Core.Path.{◌≡◌}
use Rattle.jobs.specs.Inner.{plain_tasks}
use Rattle.jobs.proofs.all_tasks.Given as goal

abbrev pub invariant-loop-j : goal.invariant-loop-j
invariant-loop-j l = l.all ≡ plain_tasks l.file l.from l.j
