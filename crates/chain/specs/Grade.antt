-- When a division is the best that there is, whoever made it. Scope, section 14.
use Rattle.std.specs.Prelude.{Bool, true, ◌&&◌, List, [], ◌∷◌, ℕ}
use Rattle.bound.specs.Order.{le}
use Rattle.chain.specs.Job.{Job, bottleneck}
use Rattle.chain.specs.Plan.{partitions}

-- f holds of every list.
unfoldable pub every : (List ℕ → Bool) → List (List ℕ) → Bool
every f [] = true
every f (s ∷ ss) = f s && every f ss

-- Scope 14.4: "no division of the job has a smaller bottleneck": the bottleneck of s is at most that of each of them. Our own plan is
-- not named.
unfoldable pub unbeaten : Job → List ℕ → Bool
unbeaten job s = every (λ t. le (bottleneck job s) (bottleneck job t)) (partitions job)
