-- A walk on its way: where it stands, and what it has seen; and what a failed one leaves.
use Rattle.std.specs.Prelude.{ℕ, suc, ◌+◌, ◌-◌, ◌≤◌, ◌<◌, ◌≡◌, not, cond, List, ◌++◌, T, eqb, ltb, get_or, drop}
use Rattle.bound.specs.declared.Bound.{Bound}
use Rattle.bound.specs.Order.{◌≼◌, ◌≺◌, least_below}
use Rattle.chain.specs.Ranges.{Narrow}
use Rattle.chain.specs.Lists.{tabulate}
use Rattle.chain.specs.Job.{Job, tasks, last, part_bound}
use Rattle.chain.specs.Probe.{separator, fits, bid, next_bid, visited}
use Rattle.probe.specs.declared.Point.{Point}

-- How far the part of processor p from a on goes by the bound alone: r is the greatest index from a to N whose
-- part's bound is at most B.
pub record EndsBy (job : Job) (p a : ℕ) (B : Bound) (r : ℕ) : Type 0 where
  pub from : a ≤ r
  pub to : r ≤ tasks job
  pub below : part_bound job p a r ≼ B
  pub above : r < tasks job → B ≺ part_bound job p a (suc r)

-- The end of a part from a on that would go to b: there, or where the hold h ends it.
unfoldable pub kept_end : ℕ → ℕ → ℕ → ℕ
kept_end h a b = cond (eqb h 0) b (cond (ltb h (b - a)) (a + h) b)

-- The least bid of the processors below p, infinite of none.
abbrev pub least_before : Job → Bound → ℕ → Bound
least_before job B p = least_below (bid job B) p

-- The list xs with the separators of the processors that the walk came to in front.
unfoldable pub begun : Job → Bound → List ℕ → List ℕ
begun job B xs = tabulate (separator job B) (visited job B) ++ drop (visited job B) xs

-- The walk at the bound B has come to this point with a task left before each processor so far, and the separators
-- before it stand in the list xs.
pub record Reached (job : Job) (B : Bound) (xs : List ℕ) (point : Point) : Type 0 where
  pub to : point.processor ≤ last job
  pub start_is : point.start ≡ separator job B point.processor
  pub least_is : point.least ≡ least_before job B point.processor
  pub small : Narrow point.least
  pub left : (k : ℕ) → k < point.processor → separator job B k < tasks job
  pub before : (k : ℕ) → k < point.processor → get_or xs k 0 ≡ separator job B k

-- The trial at the bound fails, with this next bid.
pub record Rejected (job : Job) (B next : Bound) : Type 0 where
  pub failed : T (not (fits job B))
  pub bids : next ≡ next_bid job B
