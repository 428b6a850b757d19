-- Bisection. Scope 5.12 to 5.16.
use Rattle.std.specs.Prelude.{ℕ, zero, suc, Bool, true, false, ◌&&◌}
use Rattle.bound.specs.Order.{le, pick, middle}
use Rattle.chain.specs.declared.Ends.{Ends}
use Rattle.chain.specs.Job.{Job, held, ideal, widest, bottleneck}
use Rattle.chain.specs.Probe.{walk, fits, next_bid}
use Rattle.chain.specs.Heuristic.{heuristic}

-- Scope 5.13: "its low end is the least next bid of that trial, its high end the bottleneck of the quick plan". Scope 18.16: "Of a
-- job with holds the high end of bisection starts at (Wtot + c)/slowest, not at the bottleneck of the quick plan."
unfoldable pub first_ends : Job → Ends
first_ends job = record { low = next_bid job (ideal job); high = pick (held job) (widest job) (bottleneck job (heuristic job)) }

-- Scope 5.15: "a trial at half the sum of the ends: a fit puts the high end at that division's bottleneck, a failure puts the low end at
-- the next bid"
unfoldable pub next_ends : Job → Ends → Ends
next_ends job E =
    let M = middle E.low E.high in
    elim (fits job M)
    [ true ↦ record { low = E.low; high = bottleneck job (walk job M) } | false ↦ record { low = next_bid job M; high = E.high } ]

-- The ends after k rounds.
unfoldable pub ends : Job → ℕ → Ends
ends job zero = first_ends job
ends job (suc k) = next_ends job (ends job k)

-- Scope 5.14: "until the two ends meet, equal as bounds"
unfoldable pub meet : Ends → Bool
meet E = le E.low E.high && le E.high E.low
