-- `test_lists` meets its contract: the start-up work, all speeds, then all weights, then the counts.
use Rattle.chain.specs.Limits.{max_startup, max_weight, max_speed}
use Rattle.chain.specs.Numbers.{code_of, refused}
use Rattle.refusals.proofs.ByLists.{lists_laws}
use Rattle.refusals.proofs.test_lists.Goals as goal

pub returns-then-effective-gt-MAX_STARTUP : goal.returns-then-effective-gt-MAX_STARTUP
unfolding max_startup refused code_of
returns-then-effective-gt-MAX_STARTUP c = rw (← c.effective.ensures) (search lists_laws)

pub returns-then-not-each_between : goal.returns-then-not-each_between
unfolding max_startup max_speed max_weight refused code_of
returns-then-not-each_between c = rw (← c.effective.ensures) (search lists_laws)

pub returns-then-not-each_between-2 : goal.returns-then-not-each_between-2
unfolding max_startup max_speed max_weight refused code_of
returns-then-not-each_between-2 c = rw (← c.effective.ensures) (search lists_laws)

pub returns : goal.returns
unfolding max_startup max_speed max_weight
returns c = rw (← c.effective.ensures) (search lists_laws)
