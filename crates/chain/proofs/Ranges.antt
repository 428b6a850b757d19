-- Every number of a valid job's bounds is small, and every product that the code forms fits 64 bits.
-- Only the lemmas of the first part open the limits; the others cite them by name.
-- Assumes nothing.
use Prim.Native.Nat.{ℕ, suc, ◌+◌, ◌-◌, ◌*◌, ◌^◌, ◌≤◌, ◌<◌}
use mathlib.Core.Bool.{Bool, true, false, cond, ◌&&◌}
use mathlib.Core.List.{List}
use native.Mathlib.Omega.{arith}
use native.Mathlib.Nat.{le_trans, lt_of_le_of_lt, mul-le-mul, mul-le-mul_left, mul-le-mul_right, one-le-mul, add-le-add}
use lib.Dec.{T, leb, leb→le, le→leb, lit<, lit≤}
use Rattle.bound.specs.declared.Bound.{Bound}
use Rattle.bound.specs.Order.{nought, infinite, lesser, middle, Finite}
use Rattle.bound.proofs.Order.{lesser_cases}
use Rattle.chain.specs.Limits.{max_tasks, max_weight, max_startup, max_load, max_processors, max_speed, max_bound_load, max_bound_speed}
use Rattle.chain.specs.Ranges.{Small, Lendable, Narrow}
use Rattle.chain.specs.Lists.{sum_to}
use Rattle.chain.specs.Job.{Job, tasks, processors, speed_of, Valid, part_weight, part_load, total_weight, total_speed, heaviest, fastest, held, part_bound, offer, at, bound_at, bottleneck, ideal, widest}
use Rattle.chain.specs.Probe.{bid, next_bid}
use Rattle.chain.specs.Plan.{breadth}
use Rattle.chain.specs.Refusal.{bound_test}
use Rattle.chain.proofs.Sums.{sum-le, sum_limit}
use Rattle.chain.proofs.Parts.{valid_proper, weight_le_total, load_le}
use Rattle.chain.proofs.Within.{offer_cases}
use Rattle.chain.proofs.Extremes.{default_le, greatest_cases, slowest_positive, speed_slowest}
use Rattle.chain.proofs.Ideal as ideals
use Rattle.chain.proofs.Bottleneck.{bottleneck_cases}
use Rattle.chain.proofs.NextBid.{bid_cases, next_cases}
use Rattle.chain.proofs.Tests.{and_left, and_right, and_both}

-- The limits: what their numbers come to. Loads fit 32 bits,
pub loads_fit : max_load < 2 ^ 32
unfolding max_load max_tasks max_weight max_startup
loads_fit = lit< tt

-- (of all tasks together, and so of one)
weights_loads : max_tasks * max_weight ≤ max_load
unfolding max_load
weights_loads = omega arith

breadth_load : max_weight + max_startup ≤ max_load
unfolding max_load max_tasks max_weight max_startup
breadth_load = lit≤ tt

-- and so do indices,
tasks_fit : max_tasks < 2 ^ 32
unfolding max_tasks
tasks_fit = lit< tt

pub index_fits : {job : Job} {i : ℕ} → Valid job → i ≤ tasks job → i < 2 ^ 32
index_fits v h = lt_of_le_of_lt (le_trans h v.tasks_limit) tasks_fit

-- and processors,
processors_fit : max_processors < 2 ^ 32
unfolding max_processors
processors_fit = lit< tt

pub processor_fits : {job : Job} {p : ℕ} → Valid job → p ≤ processors job → p < 2 ^ 32
processor_fits v h = lt_of_le_of_lt (le_trans h v.processors_limit) processors_fit

-- and speeds,
pub speeds_fit : max_speed < 2 ^ 32
unfolding max_speed
speeds_fit = lit< tt

-- and all speed together.
pub total_speed_fits : max_processors * max_speed < 2 ^ 32
unfolding max_processors max_speed
total_speed_fits = lit< tt

lent_load_fits : max_bound_load < 2 ^ 64
unfolding max_bound_load
lent_load_fits = lit< tt

lent_speed_fits : max_bound_speed < 2 ^ 64
unfolding max_bound_speed
lent_speed_fits = lit< tt

load_lendable : max_load ≤ max_bound_load
unfolding max_load max_tasks max_weight max_startup max_bound_load
load_lendable = lit≤ tt

speed_lendable : max_speed ≤ max_bound_speed
unfolding max_speed max_bound_speed
speed_lendable = lit≤ tt

total_speed_lendable : max_processors * max_speed ≤ max_bound_speed
unfolding max_processors max_speed max_bound_speed
total_speed_lendable = lit≤ tt

middle_load_lendable : max_load * max_speed + max_load * max_speed ≤ max_bound_load
unfolding max_load max_tasks max_weight max_startup max_speed max_bound_load
middle_load_lendable = lit≤ tt

middle_speed_lendable : 2 * (max_speed * max_speed) ≤ max_bound_speed
unfolding max_speed max_bound_speed
middle_speed_lendable = lit≤ tt

load_by_lent_speed : max_load * max_bound_speed < 2 ^ 64
unfolding max_load max_tasks max_weight max_startup max_bound_speed
load_by_lent_speed = lit< tt

lent_load_by_speed : max_bound_load * max_speed < 2 ^ 64
unfolding max_bound_load max_speed
lent_load_by_speed = lit< tt

load_by_speed : max_load * max_speed < 2 ^ 64
unfolding max_load max_tasks max_weight max_startup max_speed
load_by_speed = lit< tt

load_by_total_speed : max_load * (max_processors * max_speed) < 2 ^ 64
unfolding max_load max_tasks max_weight max_startup max_processors max_speed
load_by_total_speed = lit< tt

thousand_loads : 1000 * (max_load * (max_processors * max_speed)) < 2 ^ 64
unfolding max_load max_tasks max_weight max_startup max_processors max_speed
thousand_loads = lit< tt

load_by_speeds : max_load * (max_speed * max_speed) < 2 ^ 64
unfolding max_load max_tasks max_weight max_startup max_speed
load_by_speeds = lit< tt

-- The infinite bound is no number.
not_finite : Finite infinite → ⊥
not_finite f = omega (arith, f.speed_positive)

module _ {job : Job} (v : Valid job) where
  -- All weight is within the limit of a load.
  total_weight_small : total_weight job ≤ max_tasks * max_weight
  total_weight_small = le_trans (sum_limit job.weights 0 max_weight v.weights_limit) (mul-le-mul_right max_weight v.tasks_limit)

  pub total_weight_limit : total_weight job ≤ max_load
  total_weight_limit = le_trans total_weight_small weights_loads

  -- All weight and the start-up work fit 32 bits.
  pub startup_total_fits : job.startup + total_weight job < 2 ^ 32
  unfolding max_load
  startup_total_fits = omega (arith, total_weight_small, v.startup_limit, loads_fit)

  -- No part weighs more than all tasks.
  pub weight_limit : (a b : ℕ) → part_weight job a b ≤ total_weight job
  weight_limit a b = weight_le_total job a b

  -- Every load is within the limit of a load.
  pub load_limit : (a b : ℕ) → part_load job a b ≤ max_load
  unfolding max_load
  load_limit a b = omega (arith, load_le job a b, weight_limit a b, total_weight_small, v.startup_limit)

  -- All speed is within its limit.
  pub total_speed_limit : total_speed job ≤ max_processors * max_speed
  unfolding speed_of
  total_speed_limit = le_trans (sum_limit job.speeds 1 max_speed v.speeds_limit) (mul-le-mul_right max_speed v.processors_limit)

  -- All speed is above 0.
  pub total_speed_positive : 1 ≤ total_speed job
  total_speed_positive = ideals.total_speed_positive (valid_proper v)

  -- The speeds of the first p processors together.
  pub speeds_to_limit : (p : ℕ) → p ≤ processors job → sum_to (speed_of job) p ≤ max_processors * max_speed
  speeds_to_limit p h =
      le_trans (sum-le {f = speed_of job} max_speed v.speeds_limit p) (mul-le-mul_right max_speed (le_trans h v.processors_limit))

  -- The heaviest task is within the limit of a weight.
  pub heaviest_limit : heaviest job ≤ max_weight
  heaviest_limit = greatest_cases (λ w. w ≤ max_weight) job.weights v.weights_limit

  -- The fastest processor is within the limit of a speed.
  pub fastest_limit : fastest job ≤ max_speed
  unfolding speed_of
  fastest_limit =
      greatest_cases (λ e. e ≤ max_speed) job.speeds (λ p. le_trans (default_le job.speeds p 1) (v.speeds_limit p))

  -- Every part's bound is small.
  pub part_small : (p a b : ℕ) → Small (part_bound job p a b)
  unfolding part_bound
  part_small p a b = record { load_small = load_limit a b; speed_positive = v.speeds_positive p; speed_small = v.speeds_limit p }

  -- Every bound of a partition's part is small.
  pub bound_small : (s : List ℕ) (p : ℕ) → Small (bound_at job s p)
  unfolding bound_at
  bound_small s p = part_small p (at s p) (at s (suc p))

  -- Every bottleneck is small.
  pub bottleneck_small : (s : List ℕ) → Small (bottleneck job s)
  bottleneck_small s = bottleneck_cases (valid_proper v) Small s (λ p h. bound_small s p)

  -- All weight and the start-up work on the slowest processor are small.
  pub widest_small : Small (widest job)
  unfolding widest max_load
  widest_small =
      record {
        load_small = omega (arith, total_weight_small, v.startup_limit);
        speed_positive = slowest_positive job (valid_proper v);
        speed_small = le_trans (speed_slowest job 0 v.some_processor) (v.speeds_limit 0);
      }

  -- Every offer that is a number is small.
  pub offer_small : (p a b : ℕ) → Finite (offer job p a b) → Small (offer job p a b)
  offer_small p a b = offer_cases job (λ C. Finite C → Small C) p a b (λ k f. part_small p a b) (λ k f. absurd (not_finite f))

  -- Every bid that is a number is small.
  pub bid_small : (B : Bound) (p : ℕ) → Finite (bid job B p) → Small (bid job B p)
  bid_small B p = bid_cases job B (λ C. Finite C → Small C) p (offer_small p)

  -- Every next bid that is a number is small.
  pub next_bid_small : (B : Bound) → Finite (next_bid job B) → Small (next_bid job B)
  next_bid_small B = next_cases job B (λ C. Finite C → Small C) (λ p h. bid_small B p)

  -- The ideal can be lent.
  pub ideal_lendable : Lendable (ideal job)
  unfolding ideal
  ideal_lendable =
      record {
        load_lent = le_trans total_weight_limit load_lendable;
        speed_positive = total_speed_positive;
        speed_lent = le_trans total_speed_limit total_speed_lendable;
      }

  -- The products of the heuristic, for every index i and every p up to the number of processors.
  pub heuristic_products : (i p : ℕ) → p ≤ processors job
      → (part_weight job 0 i * total_speed job < 2 ^ 64) × (total_weight job * sum_to (speed_of job) p < 2 ^ 64)
  heuristic_products i p h = (
    lt_of_le_of_lt (mul-le-mul (le_trans (weight_limit 0 i) total_weight_limit) total_speed_limit) load_by_total_speed,
    lt_of_le_of_lt (mul-le-mul total_weight_limit (speeds_to_limit p h)) load_by_total_speed,
  )

  -- The product of bisection's allowance.
  pub breadth_limit : breadth job ≤ max_load
  unfolding max_load
  breadth_limit = go (held job)
    where
      go : (t : Bool) → cond t (total_weight job) (heaviest job) + job.startup ≤ max_tasks * max_weight + max_startup
      go true = omega (arith, total_weight_small, v.startup_limit)
      go false = le_trans (add-le-add heaviest_limit v.startup_limit) breadth_load

  pub difference_product : breadth job * (fastest job * fastest job) < 2 ^ 64
  difference_product = lt_of_le_of_lt (mul-le-mul breadth_limit (mul-le-mul fastest_limit fastest_limit)) load_by_speeds

-- The dividend of the imbalance of a small bound fits.
pub imbalance_product : {B : Bound} {job : Job} → Small B → Valid job → 1000 * (B.load * total_speed job) < 2 ^ 64
imbalance_product s v = lt_of_le_of_lt (mul-le-mul_left 1000 (mul-le-mul s.load_small (total_speed_limit v))) thousand_loads

-- The divisor of the imbalance of a small bound fits.
pub imbalance_divisor : {B : Bound} {job : Job} → Small B → Valid job → total_weight job * B.speed < 2 ^ 64
imbalance_divisor s v = lt_of_le_of_lt (mul-le-mul (total_weight_limit v) s.speed_small) load_by_speed

-- A small bound's numbers fit 32 bits.
pub small_fits : {B : Bound} → Small B → (B.load < 2 ^ 32) × (B.speed < 2 ^ 32)
small_fits s = (lt_of_le_of_lt s.load_small loads_fit, lt_of_le_of_lt s.speed_small speeds_fit)

-- A lent bound's numbers fit 64 bits.
pub lendable_fits : {B : Bound} → Lendable B → (B.load < 2 ^ 64) × (B.speed < 2 ^ 64)
lendable_fits s = (lt_of_le_of_lt s.load_lent lent_load_fits, lt_of_le_of_lt s.speed_lent lent_speed_fits)

-- A lent bound is a number.
pub lent_finite : {B : Bound} → Lendable B → Finite B
lent_finite l = record { speed_positive = l.speed_positive }

-- A small bound can be lent.
pub small_lendable : {B : Bound} → Small B → Lendable B
small_lendable s =
    record {
      load_lent = le_trans s.load_small load_lendable;
      speed_positive = s.speed_positive;
      speed_lent = le_trans s.speed_small speed_lendable;
    }

-- Nought can be lent.
pub nought_lendable : Lendable nought
unfolding max_bound_speed
nought_lendable = record { load_lent = omega arith; speed_positive = omega arith; speed_lent = lit≤ tt }

-- The midpoint of two small bounds can be lent.
pub middle_lendable : {B C : Bound} → Small B → Small C → Lendable (middle B C)
middle_lendable s t =
    record {
      load_lent = le_trans (add-le-add (mul-le-mul s.load_small t.speed_small) (mul-le-mul t.load_small s.speed_small)) middle_load_lendable;
      speed_positive = one-le-mul (omega arith) (one-le-mul s.speed_positive t.speed_positive);
      speed_lent = le_trans (mul-le-mul_left 2 (mul-le-mul s.speed_small t.speed_small)) middle_speed_lendable;
    }

-- The products of a comparison of a small bound, and of any offer, with one that can be lent.
pub probe_products : {B C : Bound} → Small B → Lendable C → (B.load * C.speed < 2 ^ 64) × (C.load * B.speed < 2 ^ 64)
probe_products s t = (
  lt_of_le_of_lt (mul-le-mul s.load_small t.speed_lent) load_by_lent_speed,
  lt_of_le_of_lt (mul-le-mul t.load_lent s.speed_small) lent_load_by_speed,
)

pub offer_products : {job : Job} {B : Bound} → Valid job → (p a b : ℕ) → Lendable B
    → ((offer job p a b).load * B.speed < 2 ^ 64) × (B.load * (offer job p a b).speed < 2 ^ 64)
offer_products {job} {B} v p a b l =
    offer_cases job (λ C. (C.load * B.speed < 2 ^ 64) × (B.load * C.speed < 2 ^ 64)) p a b (λ t. probe_products (part_small v p a b) l)
    (λ t. (omega (arith, (lendable_fits l).1), omega arith))

-- The products of a comparison of two small bounds.
pub small_products : {B C : Bound} → Small B → Small C → (B.load * C.speed < 2 ^ 64) × (C.load * B.speed < 2 ^ 64)
small_products s t = probe_products s (small_lendable t)

-- A small bound is narrow, and so are the infinite one, every offer and the lesser of two narrow ones.
pub small_narrow : {B : Bound} → Small B → Narrow B
small_narrow s = record { load_fits = (small_fits s).0; speed_fits = (small_fits s).1 }

pub infinite_narrow : Narrow infinite
infinite_narrow = record { load_fits = lit< tt; speed_fits = lit< tt }

pub offer_narrow : {job : Job} → Valid job → (p a b : ℕ) → Narrow (offer job p a b)
offer_narrow {job} v p a b = offer_cases job Narrow p a b (λ t. small_narrow (part_small v p a b)) (λ t. infinite_narrow)

pub lesser_narrow : {B C : Bound} → Narrow B → Narrow C → Narrow (lesser B C)
lesser_narrow {B} {C} b c = lesser_cases Narrow B C b c

-- The products of a comparison of two narrow bounds.
pub narrow_products : {B C : Bound} → Narrow B → Narrow C → (B.load * C.speed < 2 ^ 64) × (C.load * B.speed < 2 ^ 64)
narrow_products b c = (product b.load_fits c.speed_fits, product c.load_fits b.speed_fits)
  where
    product : {m n : ℕ} → m < 2 ^ 32 → n < 2 ^ 32 → m * n < 2 ^ 64
    product {m} {n} h k =
        let a : m ≤ 2 ^ 32 - 1 = omega arith in
        let b : n ≤ 2 ^ 32 - 1 = omega arith in
        lt_of_le_of_lt (mul-le-mul a b) (lit< tt)

-- The midpoint's load and speed, as they are computed.
pub middle_products : {B C : Bound} → Small B → Small C
    → (B.load * C.speed + C.load * B.speed < 2 ^ 64) × (2 * (B.speed * C.speed) < 2 ^ 64)
middle_products s t = lendable_fits (middle_lendable s t)

-- A lent bound passes its test exactly when it is within the limits.
pub lendable_test : (B : Bound) → (T (bound_test B).passes → Lendable B) × (Lendable B → T (bound_test B).passes)
unfolding bound_test
lendable_test B = (from, to)
  where
    load : Bool
    load = leb B.load max_bound_load

    low : Bool
    low = leb 1 B.speed

    high : Bool
    high = leb B.speed max_bound_speed

    from : T (load && (low && high)) → Lendable B
    from t =
        let u : T (low && high) = and_right load (low && high) t in
        record {
          load_lent = leb→le B.load max_bound_load (and_left load (low && high) t);
          speed_positive = leb→le 1 B.speed (and_left low high u);
          speed_lent = leb→le B.speed max_bound_speed (and_right low high u);
        }

    to : Lendable B → T (load && (low && high))
    to l =
        and_both load (low && high) (le→leb B.load max_bound_load l.load_lent)
        (and_both low high (le→leb 1 B.speed l.speed_positive) (le→leb B.speed max_bound_speed l.speed_lent))
