-- How large the bounds are that the code meets.
use Rattle.std.specs.Prelude.{◌≤◌, ◌<◌, ◌^◌}
use Rattle.bound.specs.declared.Bound.{Bound}
use Rattle.chain.specs.Limits.{max_load, max_speed, max_bound_load, max_bound_speed}

-- A bound as parts, bottlenecks and bids have it.
pub record Small (B : Bound) : Type 0 where
  pub load_small : B.load ≤ max_load
  pub speed_positive : 1 ≤ B.speed
  pub speed_small : B.speed ≤ max_speed

-- Scope 2.9: "A bound that a caller lends has a load of 0 to 100,000,000,000,000 and a speed of 1 to 1,000,000,000."
pub record Lendable (B : Bound) : Type 0 where
  pub load_lent : B.load ≤ max_bound_load
  pub speed_positive : 1 ≤ B.speed
  pub speed_lent : B.speed ≤ max_bound_speed

-- Both numbers fit 32 bits, so that two such bounds can be compared.
pub record Narrow (B : Bound) : Type 0 where
  pub load_fits : B.load < 2 ^ 32
  pub speed_fits : B.speed < 2 ^ 32
