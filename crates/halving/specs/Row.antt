-- The split of a part, read off the prefix sums.
use Rattle.std.specs.Prelude.{ℕ, ◌+◌, List}
use Rattle.chain.specs.Job.{at}
use Rattle.heuristic.specs.Target.{nearest_in}

-- The smallest index from a to b whose entry, doubled, is nearest to the two ends' sum.
unfoldable pub split_in : List ℕ → ℕ → ℕ → ℕ
split_in xs a b = nearest_in xs 2 (at xs a + at xs b) a b
