-- A walk on its way through blocks of processors, and what it takes from the walk before.
use Rattle.std.specs.Prelude.{ℕ, suc, ◌+◌, ◌-◌, ◌*◌, ◌≤◌, ◌<◌, ◌≡◌, List, T, length, get_or}
use Rattle.bound.specs.declared.Bound.{Bound}
use Rattle.bound.specs.Order.{over, ◌≺◌, least_below}
use Rattle.chain.specs.Ranges.{Narrow}
use Rattle.chain.specs.Job.{Job, tasks, last, within, offer}
use Rattle.chain.specs.Probe.{reach, separator, bid}
use Rattle.probe.specs.declared.Point.{Point}
use Rattle.bidding.specs.declared.Share.{Share}

-- A block has so many processors.
abbrev pub block : ℕ
block = 8

-- The least of f a to f (a + n - 1), infinite of none.
abbrev pub least_from : (ℕ → Bound) → ℕ → ℕ → Bound
least_from f a n = least_below (λ i. f (a + i)) n

-- The bid of processor p for one task more than the list of separators gives it.
abbrev pub laid_bid : Job → List ℕ → ℕ → Bound
laid_bid job xs p = offer job p (get_or xs p 0) (suc (get_or xs (suc p) 0))

-- The list's parts from processor p on, but the last one's, are within the bound, with a task left after each.
pub record Laid (job : Job) (B : Bound) (p : ℕ) (xs : List ℕ) : Type 0 where
  pub grows : (k : ℕ) → p ≤ k → k < last job → get_or xs k 0 ≤ get_or xs (suc k) 0
  pub inside : (k : ℕ) → p ≤ k → k < last job → get_or xs (suc k) 0 < tasks job
  pub each : (k : ℕ) → p ≤ k → k < last job → T (within job k (get_or xs k 0) (get_or xs (suc k) 0) B)

-- The walk at B has come before processor p with a task left: its separators before p stand in the list, and those
-- from p on are laid.
pub record Come (job : Job) (B : Bound) (xs : List ℕ) (p a : ℕ) : Type 0 where
  pub to : p ≤ last job
  pub start_is : a ≡ separator job B p
  pub left : a < tasks job
  pub before : (k : ℕ) → k < p → get_or xs k 0 ≡ separator job B k
  pub laid : Laid job B p xs

-- The walk at B goes from processor p to e, or to where every task is placed. The list was xs and is ys. In r is
-- where it stands, and the least bid of the processors passed.
pub record Passes (job : Job) (B : Bound) (xs ys : List ℕ) (p e : ℕ) (r : Point) : Type 0 where
  pub from : p ≤ r.processor
  pub to : r.processor ≤ e
  pub start_is : r.start ≡ separator job B r.processor
  pub left : (k : ℕ) → k < r.processor → separator job B k < tasks job
  pub same : length ys ≡ length xs
  pub done : (k : ℕ) → k < r.processor → get_or ys k 0 ≡ separator job B k
  pub rest : (k : ℕ) → r.processor ≤ k → get_or ys k 0 ≡ get_or xs k 0
  pub small : Narrow r.least
  pub all : r.start < tasks job → (r.processor ≡ e) × (r.least ≡ least_from (bid job B) p (e - p))

-- How far processor p's part from a on goes, and its bid for one more task, if there is one.
pub record Shared (job : Job) (p a : ℕ) (B : Bound) (r : Share) : Type 0 where
  pub end_is : r.end ≡ reach job p a B
  pub bid_is : r.end < tasks job → r.bid ≡ offer job p a (suc r.end)
  pub small : Narrow r.bid

-- The least of f over block k.
abbrev pub least_in : Job → (ℕ → Bound) → ℕ → Bound
least_in job f k = least_from f (block * k) ((last job - (last job - (block * k + block))) - block * k)

-- The bound of block k in a list, any bound past the end.
abbrev pub bound_of : List Bound → ℕ → Bound
bound_of leasts k = get_or leasts k (over 0 0)

-- What is known of the bids of the walk before, xs: each block's bound in the list is its least bid, where it is
-- above B.
pub record Known (job : Job) (B : Bound) (xs : List ℕ) (leasts : List Bound) : Type 0 where
  pub room : last job ≤ block * length leasts
  pub small : (k : ℕ) → block * k < last job → Narrow (bound_of leasts k)
  pub each : (k : ℕ) → block * k < last job → B ≺ bound_of leasts k → bound_of leasts k ≡ least_in job (laid_bid job xs) k

-- The list has the least bid of each block of the walk at B.
pub record Leasts (job : Job) (B : Bound) (leasts : List Bound) : Type 0 where
  pub room : last job ≤ block * length leasts
  pub each : (k : ℕ) → block * k < last job → bound_of leasts k ≡ least_in job (bid job B) k
