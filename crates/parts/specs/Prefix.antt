-- Prefix sums, over which the walk, the heuristic, the table and measuring work.
use Rattle.std.specs.Prelude.{ℕ, suc, ◌+◌, ◌-◌, ◌≤◌, ◌<◌, ◌^◌, ◌≡◌, cond, List, ltb, length, get_or, take}
use Rattle.chain.specs.Lists.{sum, tabulate}
use Rattle.chain.specs.Job.{Job, Valid, tasks, part_weight}
use Rattle.parts.specs.Rising.{Rising}

-- The prefix sums of the weights: W(1,0), W(1,1), .. W(1,N).
unfoldable pub prefixes : List ℕ → List ℕ
prefixes ws = tabulate (λ i. sum (take i ws)) (suc (length ws))

-- The weight of the part from a to b, read off the prefix sums,
unfoldable pub weight_between : List ℕ → ℕ → ℕ → ℕ
weight_between xs a b = get_or xs b 0 - get_or xs a 0

-- and its load: with the start-up work c where it has tasks.
unfoldable pub load_between : ℕ → List ℕ → ℕ → ℕ → ℕ
load_between c xs a b = cond (ltb a b) (c + weight_between xs a b) 0

-- The loads of the parts up to b can be read: the list's entries grow, and with the start-up work c they fit 32 bits.
pub record Loadable (c : ℕ) (xs : List ℕ) (b : ℕ) : Type 0 where
  pub rising : Rising xs b
  pub fits : c + get_or xs b 0 < 2 ^ 32

-- The list begins with the job's prefix sums.
pub record Prefix (job : Job) (xs : List ℕ) : Type 0 where
  pub enough : tasks job < length xs
  pub sums : (i : ℕ) → i ≤ tasks job → get_or xs i 0 ≡ part_weight job 0 i

-- What a line has: a job within the limits, and its prefix sums.
pub record Ready (job : Job) (xs : List ℕ) : Type 0 where
  pub valid : Valid job
  pub prefix : Prefix job xs
