-- `first_level` meets its contract: prefix sums grow, so the one before b decides for all before it, and the last that is less
-- stands before the first that is not.
use mathlib.Core.Logic.{inl, inr}
use native.Mathlib.Omega.{arith}
use Rattle.heuristic.proofs.Laws.{level_first, level_all, level_after}
use Rattle.heuristic.proofs.first_level.Goals as goal

pub returns-then-sums-b : goal.returns-then-sums-b
returns-then-sums-b c =
    level_all c.requires.rising (omega arith) (omega arith)

pub returns-then-sums-a : goal.returns-then-sums-a
returns-then-sums-a c =
    level_after c.requires.rising (omega arith) (omega arith) (omega arith) c.last_far.ensures

pub returns-else-sums-a : goal.returns-else-sums-a
returns-else-sums-a c =
    level_first c.args.sums.now c.requires.a_le_b (inr (omega arith))

pub returns-else-a-b : goal.returns-else-a-b
returns-else-a-b c =
    level_first c.args.sums.now c.requires.a_le_b (inl (omega arith))
