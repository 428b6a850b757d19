-- `test_counts` meets its contract: 7, then 8.
use native.Mathlib.Omega.{arith}
use mathlib.Core.Logic.{inl, inr}
use Rattle.chain.specs.Limits.{max_processors, max_tasks}
use Rattle.chain.specs.Numbers.{code_of, refused}
use Rattle.refusals.proofs.Counts.{no_processor, many_processors, many_tasks, counts_pass}
use Rattle.refusals.proofs.test_counts.Goals as goal

pub returns-then-processors-eq0 : goal.returns-then-processors-eq0
unfolding max_processors refused code_of
returns-then-processors-eq0 c =
    let a = c.args in
    elim c.then-processors-eq0.either [
      | inl none ↦ no_processor a.processors a.tasks none
      | inr many ↦ many_processors a.processors a.tasks many.1
    ]

pub returns-then-tasks-gt-MAX_TASKS : goal.returns-then-tasks-gt-MAX_TASKS
unfolding max_processors max_tasks refused code_of
returns-then-tasks-gt-MAX_TASKS c =
    let a = c.args in
    many_tasks a.processors a.tasks (omega arith) (omega arith) (omega arith)

pub returns : goal.returns
unfolding max_processors max_tasks refused code_of
returns c =
    let a = c.args in
    counts_pass a.processors a.tasks (omega arith) (omega arith) (omega arith)
