-- Bidding. Scope 5.10 and 5.11.
use Rattle.std.specs.Prelude.{ℕ, zero, suc}
use Rattle.bound.specs.declared.Bound.{Bound}
use Rattle.chain.specs.Job.{Job, ideal}
use Rattle.chain.specs.Probe.{next_bid}

-- Scope 5.10: "Bidding tries the ideal, then each trial's least next bid": the bound of its trial k, counted from 0.
unfoldable pub bidding : Job → ℕ → Bound
bidding job zero = ideal job
bidding job (suc k) = next_bid job (bidding job k)
