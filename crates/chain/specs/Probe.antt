-- The greedy walk, the probe ("trial") and the next bid. Scope, section 3.
use Rattle.std.specs.Prelude.{ℕ, zero, suc, ◌-◌, ◌≤◌, ◌<◌, ◌≡◌, Bool, true, false, List, [], ◌∷◌, ◌++◌, T, eqb, ltb}
use Rattle.bound.specs.declared.Bound.{Bound}
use Rattle.bound.specs.Order.{pick, least_to}
use Rattle.chain.specs.declared.Outcome.{Outcome}
use Rattle.chain.specs.declared.Outcome.TheVariants.{Fits, Fails}
use Rattle.chain.specs.Lists.{tabulate, greatest_from, smallest_from}
use Rattle.chain.specs.Job.{Job, tasks, processors, last, within, offer, at}

-- Scope 3.1: "sp is the greatest index from s(p−1) to N whose share is within the bound"
unfoldable pub reach : Job → ℕ → ℕ → Bound → ℕ
reach job p a B = greatest_from (λ b. within job p a b B) a (tasks job - a)

-- The walk's separators, one after the other.
unfoldable pub separator : Job → Bound → ℕ → ℕ
separator job B zero = 0
separator job B (suc p) = reach job p (separator job B p) B

-- Scope 3.1: "Each machine p before the last takes all it can". Scope 3.2: "The last machine takes what is left."
unfoldable pub walk : Job → Bound → List ℕ
walk job B = tabulate (separator job B) (suc (last job)) ++ (tasks job ∷ [])

-- Scope 3.7: "Whether it fits or fails, a trial writes s0 = 0 to s(P−1) and, as sP, the greatest index from s(P−1) to N that the last
-- machine reaches within the bound."
unfoldable pub walked : Job → Bound → List ℕ
walked job B = tabulate (separator job B) (suc (processors job))

-- Scope 3.9: "However tiles are given from the first on, in order and within the bound": t says how, to the first p machines.
pub record Begins (job : Job) (B : Bound) (p : ℕ) (t : List ℕ) : Type 0 where
  pub first : at t 0 ≡ 0
  pub grows : (k : ℕ) → k < p → at t k ≤ at t (suc k)
  pub inside : at t p ≤ tasks job
  pub each : (k : ℕ) → k < p → T (within job k (at t k) (at t (suc k)) B)

-- Scope 3.3: "The trial fits where the last share is within the bound"
unfoldable pub fits : Job → Bound → Bool
fits job B = within job (last job) (separator job B (last job)) (tasks job) B

-- Scope 3.5: "A machine before the last bids its share with the next tile added; the last bids what is left."
unfoldable pub bid : Job → Bound → ℕ → Bound
bid job B p =
    let a = separator job B p in
    pick (ltb p (last job)) (offer job p a (suc (separator job B (suc p)))) (offer job p a (tasks job))

-- Scope 3.6: "Of equal bids the one of the first machine in the row is taken." The least bid of the processors 0 to p.
abbrev pub least_bid_to : Job → Bound → ℕ → Bound
least_bid_to job B p = least_to (bid job B) p

-- Scope 3.4: "the least next bid"
unfoldable pub next_bid : Job → Bound → Bound
next_bid job B = least_bid_to job B (last job)

-- Scope 3.13: "the number of machines that its walk came to: the smallest p with sp = N, 0 without tiles". The walk ends with N, so there is one.
unfoldable pub visited : Job → Bound → ℕ
visited job B = smallest_from (λ p. eqb (at (walk job B) p) (tasks job)) 0 (processors job)

-- The answer of a probe: it fits (Scope 3.13: "A trial that fits also answers with the number of machines that its walk came to"), or it
-- fails (Scope 3.4: "it answers with the least next bid").
unfoldable pub probe : Job → Bound → Outcome
probe job B = elim (fits job B) [ true ↦ Fits (visited job B) | false ↦ Fails (next_bid job B) ]
