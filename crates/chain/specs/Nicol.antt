-- Nicol's search. Scope 5.17 to 5.22.
use Rattle.std.specs.Prelude.{ℕ, zero, suc, ◌+◌, ◌-◌, ◌/◌, ◌<◌, Bool, true, false, not, T, eqb, ltb}
use Rattle.bound.specs.declared.Bound.{Bound}
use Rattle.bound.specs.Order.{pick, least_to}
use Rattle.chain.specs.Lists.{smallest_from}
use Rattle.chain.specs.Job.{Job, tasks, last, part_bound}
use Rattle.chain.specs.Probe.{fits}

-- Scope 5.17: "a trial at the bound of the share that ends at j fits". The part from a to j on processor p.
unfoldable pub fits_at : Job → ℕ → ℕ → ℕ → Bool
fits_at job p a j = fits job (part_bound job p a j)

-- Scope 5.17: "the smallest j, from where the share of p starts to N". Here that start is a.
unfoldable pub first_fit : Job → ℕ → ℕ → ℕ
first_fit job p a = smallest_from (fits_at job p a) a (tasks job - a)

-- Scope 5.18: "The share of machine 1 starts before the first tile; p keeps the tiles before j, and there the share of the next machine
-- starts." (j is past the start of the part, so that there is an index before it, unless the empty part fits: there the search ends.)
unfoldable pub start_on : Job → ℕ → ℕ
start_on job zero = 0
start_on job (suc p) = first_fit job p (start_on job p) - 1

-- Scope 5.19: "That bound is a candidate; the last candidate is that of all that remains, on the last machine".
unfoldable pub candidate_on : Job → ℕ → Bound
candidate_on job p =
    let a = start_on job p in
    pick (ltb p (last job)) (part_bound job p a (first_fit job p a)) (part_bound job p a (tasks job))

-- Scope 5.19: "the bottleneck is the least candidate"
unfoldable pub least_candidate : Job → Bound
least_candidate job = least_to (candidate_on job) (last job)

-- Scope 5.20: "Where the empty share fits"
unfoldable pub empty_fits : Job → ℕ → Bool
empty_fits job p = let a = start_on job p in fits_at job p a a

-- The search comes to processor p: no empty part before it fits.
pub record Comes (job : Job) (p : ℕ) : Type 0 where
  pub none : (q : ℕ) → q < p → T (not (empty_fits job q))

-- Scope 5.21: "a range of indices", by its two ends.
pub record Range : Type 0 where
  pub low : ℕ
  pub high : ℕ

-- Scope 5.21: "a trial is made at its middle, rounded down; a fit puts the high end there, a failure puts the low end just past it"
unfoldable pub next_range : Job → ℕ → ℕ → Range → Range
next_range job p a R =
    let m = (R.low + R.high) / 2 in
    elim (fits_at job p a m) [ true ↦ record { low = R.low; high = m } | false ↦ record { low = suc m; high = R.high } ]

-- The range after k trials. Scope 5.21: "first from the share's start to N"
unfoldable pub range_after : Job → ℕ → ℕ → ℕ → Range
range_after job p a zero = record { low = a; high = tasks job }
range_after job p a (suc k) = next_range job p a (range_after job p a k)

-- Scope 5.21: "until the two ends meet"
unfoldable pub single : Range → Bool
single R = eqb R.low R.high

-- The range of processor p is one index after k trials.
unfoldable pub settled : Job → ℕ → ℕ → Bool
settled job p k = single (range_after job p (start_on job p) k)
