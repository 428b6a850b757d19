-- Bisection: the ends never cross, their gap is at least halved by each round, and unequal ends are at least 1/fastest² apart;
-- so it ends at the least bound that fits, after at most digits(D) rounds.
-- Assumes nothing.
use Prim.Native.Nat.{ℕ, zero, suc, ◌+◌, ◌*◌, ◌^◌, ◌≤◌, ◌<◌}
use mathlib.Core.Path.{◌≡◌, refl, subst}
use mathlib.Core.Bool.{Bool, true, false, not, cond}
use mathlib.Core.List.{List}
use native.Mathlib.Omega.{arith}
use native.Mathlib.Nat.{mul-le-mul, mul-le-mul_right, mul-le-mul_left, le_of_mul-le-mul_right, one-le-mul, le-div_iff_mul-le}
use lib.Dec.{T}
use Rattle.bound.specs.declared.Bound.{Bound}
use Rattle.bound.specs.Order.{over, le, pick, ◌≼◌, ◌≺◌, plus, times, middle, Finite}
use Rattle.bound.proofs.Order.{open_le, make_le, open_lt, lt-le, le_trans, speed_real, finite_real}
use Rattle.bound.proofs.Algebra.{plus_mono}
use Rattle.chain.specs.Lists.{is_first, digits}
use Rattle.chain.specs.Job.{Edition, Job, held, total_weight, heaviest, fastest, slowest, part_load, part_bound, at, bound_at, bottleneck, ideal, widest}
use Rattle.chain.specs.Probe.{walk, fits, next_bid}
use Rattle.chain.specs.Heuristic.{heuristic}
use Rattle.chain.specs.declared.Ends.{Ends}
use Rattle.chain.specs.Bisection.{first_ends, next_ends, ends, meet}
use Rattle.chain.specs.Plan.{breadth, difference, allowance}
use Rattle.chain.specs.declared.Method.TheVariants.{Bisection}
use Rattle.chain.proofs.Tests.{T_of, T-not-of, and_right, and_fails}
use Rattle.chain.proofs.Parts.{Proper, Plannable, load_le, weight_le_total}
use Rattle.chain.proofs.Within.{free_of, offer-limited, parts_within}
use Rattle.chain.proofs.Indices.{first_fails, first_exists}
use Rattle.chain.proofs.Bottleneck.{bottleneck_finite, bottleneck-le, bottleneck_cases}
use Rattle.chain.proofs.Walk.{walk_partition, walk-within, partition_fits, bottleneck-fits, fits_raise}
use Rattle.chain.proofs.Enough.{some_partition}
use Rattle.chain.proofs.NextBid.{bid_cases, next_cases, next_above, next_finite, next_least}
use Rattle.chain.proofs.Best.{Least}
use Rattle.chain.proofs.Extremes.{slowest_positive, speed_slowest, speed_fastest}
use Rattle.chain.proofs.Ideal.{total_speed_positive}
use Rattle.chain.proofs.Heuristic.{heuristic_partition, heuristic_bound}
use Rattle.chain.proofs.Digits.{digits_least}

-- n times the gap between low and high is at most the width.
pub record Gap (n : ℕ) (low high width : Bound) : Type 0 where
  pub closes : times n high ≼ plus (times n low) width

-- The gap at the start; it is halved when the high end comes to the middle or below, and when the low end comes there or above.
pub gap_start : {low high ideal width : Bound} → 0 < ideal.speed → 0 < width.speed → ideal ≼ low → high ≼ plus ideal width → Gap 1 low high width
gap_start {low} {high} {ideal} {width} p q h k =
    record {
      closes =
          let x : high ≼ plus low width = le_trans (speed_real (one-le-mul p q)) k (plus_mono h (make_le (omega arith))) in
          make_le (omega (arith, open_le x));
    }

pub gap_high : {n : ℕ} {low high new width : Bound} → 0 < low.speed → 0 < high.speed → new ≼ middle low high → Gap n low high width
    → Gap (2 * n) low new width
gap_high {n} {low} {high} {new} {width} p q h g =
    record {
      closes =
          make_le
          (le_of_mul-le-mul_right {k = high.speed}
          (omega
          (arith, mul-le-mul_right (n * width.speed) (open_le h), mul-le-mul_right new.speed (open_le g.closes)))
          q);
    }

pub gap_low : {n : ℕ} {low high new width : Bound} → 0 < low.speed → 0 < high.speed → middle low high ≼ new → Gap n low high width
    → Gap (2 * n) new high width
gap_low {n} {low} {high} {new} {width} p q h g =
    record {
      closes =
          make_le
          (le_of_mul-le-mul_right {k = low.speed}
          (omega
          (arith, mul-le-mul_right (n * width.speed) (open_le h), mul-le-mul_right new.speed (open_le g.closes)))
          p);
    }

-- Ends that are apart, with speeds of at most f, are at least 1/f² apart.
pub gap_apart : {n h s f : ℕ} {low high : Bound} → low.speed ≤ f → high.speed ≤ f → low ≺ high → Gap n low high (over h s) → n * s ≤ h * (f * f)
gap_apart {n} {h} {s} {f} {low} {high} p q l g =
    omega
    (arith, mul-le-mul_right (n * s) (open_lt l), open_le g.closes, mul-le-mul_left h (mul-le-mul p q))

-- A number with the speed of a processor.
pub record OfProcessor (job : Job) (B : Bound) : Type 0 where
  pub finite : Finite B
  pub limited : B.speed ≤ fastest job

-- How far the ends are apart at most when bisection begins.
abbrev pub width : Job → Bound
width job = over (breadth job) (slowest job)

-- What holds of the ends: they are bounds of parts, low is at most every bound that fits, high fits, and the gap.
pub record Bracket (job : Job) (n : ℕ) (E : Ends) : Type 0 where
  pub low_speed : OfProcessor job E.low
  pub high_speed : OfProcessor job E.high
  pub low_below : (C : Bound) → T (fits job C) → E.low ≼ C
  pub high_fits : T (fits job E.high)
  pub gap : Gap n E.low E.high (width job)

pub bottleneck_speed : {job : Job} → Proper job → (s : List ℕ) → OfProcessor job (bottleneck job s)
unfolding bound_at part_bound
bottleneck_speed {job} ok s =
    record {
      finite = bottleneck_finite ok s;
      limited = bottleneck_cases ok (λ B. B.speed ≤ fastest job) s (λ p h. speed_fastest job p h);
    }

widest_speed : {job : Job} → Proper job → OfProcessor job (widest job)
unfolding widest
widest_speed {job} ok =
    record {
      finite = record { speed_positive = slowest_positive job ok };
      limited = omega (arith, speed_slowest job 0 ok.some, speed_fastest job 0 ok.some);
    }

-- A first trial is within the allowance.
pub first_allowed : (edition : Edition) (job : Job) → 1 ≤ allowance edition Bisection job
unfolding allowance
first_allowed edition job = omega arith

-- The ends never cross.
pub low_high : {job : Job} {n : ℕ} {E : Ends} → Bracket job n E → E.low ≼ E.high
low_high {job} {n} {E} b = b.low_below E.high b.high_fits

-- Ends that do not meet are apart.
pub apart : {job : Job} {n : ℕ} {E : Ends} → Bracket job n E → T (not (meet E)) → E.low ≺ E.high
unfolding meet
apart {job} {n} {E} b t = record { fails = and_fails (le E.low E.high) (le E.high E.low) (low_high b).holds t }

pub met : {E : Ends} → T (meet E) → E.high ≼ E.low
unfolding meet
met {E} t = record { holds = and_right (le E.low E.high) (le E.high E.low) t }

module _ {job : Job} (can : Plannable job) where
  pub next_speed : (B : Bound) → T (not (fits job B)) → OfProcessor job (next_bid job B)
  next_speed B t =
      record {
        finite = next_finite can B t;
        limited =
            next_cases job B (λ C. C.speed ≤ fastest job)
            (λ p h. bid_cases job B (λ C. C.speed ≤ fastest job) p (λ a b. offer-limited job p a b (omega (arith, can.proper.some))));
      }

  -- The high end begins within the width of the ideal.
  pub first_close : (first_ends job).high ≼ plus (ideal job) (width job)
  unfolding first_ends widest
  first_close = go (held job) refl
    where
      go : (t : Bool) → held job ≡ t
          → pick t (widest job) (bottleneck job (heuristic job)) ≼ plus (ideal job) (over (cond t (total_weight job) (heaviest job) + job.startup) (slowest job))
      go true e = make_le (omega arith)
      go false e = heuristic_bound can.proper (free_of (T-not-of e))

  -- Every partition is within all weight and the start-up work on the slowest processor, so that fits.
  pub widest_fits : T (fits job (widest job))
  unfolding widest bound_at part_bound
  widest_fits =
      let s = some_partition can in
      partition_fits can.proper s.1
      (parts_within job s.1
      (λ p h.
      let a = at s.0 p in
      let b = at s.0 (suc p) in
      let l : part_load job a b ≤ total_weight job + job.startup = omega (arith, load_le job a b, weight_le_total job a b) in
      make_le (mul-le-mul l (speed_slowest job p h))))

  -- The high end is a number with the speed of a processor, and fits.
  high_end : OfProcessor job (first_ends job).high × T (fits job (first_ends job).high)
  unfolding first_ends
  high_end = go (held job) refl
    where
      ok : Proper job
      ok = can.proper

      go : (t : Bool) → held job ≡ t
          → OfProcessor job (pick t (widest job) (bottleneck job (heuristic job))) × T (fits job (pick t (widest job) (bottleneck job (heuristic job))))
      go true e = (widest_speed ok, widest_fits)
      go false e = (bottleneck_speed ok (heuristic job), bottleneck-fits ok (heuristic_partition ok (free_of (T-not-of e))))

  pub bracket_start : T (not (fits job (ideal job))) → Bracket job 1 (first_ends job)
  unfolding first_ends ideal
  bracket_start t =
      record {
        low_speed = next_speed (ideal job) t;
        high_speed = high_end.0;
        low_below = λ C f. next_least can.proper (ideal job) C t f;
        high_fits = high_end.1;
        gap =
            gap_start (total_speed_positive can.proper) (slowest_positive job can.proper) (lt-le (next_above can (ideal job) t))
            first_close;
      }

  -- A round keeps all that, and halves the gap.
  pub bracket_turn : {n : ℕ} {E : Ends} → Bracket job n E → Bracket job (2 * n) (next_ends job E)
  unfolding next_ends
  bracket_turn {n} {E} b = go (fits job M) refl
    where
      M : Bound
      M = middle E.low E.high

      go : (t : Bool) → fits job M ≡ t
          → Bracket job (2 * n)
          (elim t
          [ true ↦ record { low = E.low; high = bottleneck job (walk job M) } | false ↦ record { low = next_bid job M; high = E.high } ])
      go true e =
          let f : T (fits job M) = T_of e in
          record {
            low_speed = b.low_speed;
            high_speed = bottleneck_speed can.proper (walk job M);
            low_below = b.low_below;
            high_fits = bottleneck-fits can.proper (walk_partition can.proper M f);
            gap =
                gap_high b.low_speed.finite.speed_positive b.high_speed.finite.speed_positive
                (bottleneck-le can.proper (walk-within job M f)) b.gap;
          }
      go false e =
          let f : T (not (fits job M)) = T-not-of e in
          record {
            low_speed = next_speed M f;
            high_speed = b.high_speed;
            low_below = λ C g. next_least can.proper M C f g;
            high_fits = b.high_fits;
            gap =
                gap_low b.low_speed.finite.speed_positive b.high_speed.finite.speed_positive (lt-le (next_above can M f))
                b.gap;
          }

  pub bracket_after : T (not (fits job (ideal job))) → (k : ℕ) → Bracket job (2 ^ k) (ends job k)
  unfolding ends
  bracket_after t zero = bracket_start t
  bracket_after t (suc k) =
      subst (λ (n : ℕ). Bracket job n (next_ends job (ends job k))) (let e : 2 * 2 ^ k ≡ 2 ^ suc k = omega arith in e)
      (bracket_turn (bracket_after t k))

  -- Round k + 1 is made only where 2ᵏ is at most D, so k is below digits(D).
  pub rounds_below : T (not (fits job (ideal job))) → (k : ℕ) → T (not (meet (ends job k))) → k < digits (difference job)
  unfolding difference
  rounds_below t k m =
      let b : Bracket job (2 ^ k) (ends job k) = bracket_after t k in
      digits_least (difference job) k
      ((le-div_iff_mul-le (slowest_positive job can.proper)).1
      (gap_apart b.low_speed.limited b.high_speed.limited (apart b m) b.gap))

  -- Bisection ends, within digits(D) rounds.
  pub bisection_ends : T (not (fits job (ideal job))) → (k : ℕ) × (k ≤ digits (difference job)) × T (is_first (λ j. meet (ends job j)) k)
  bisection_ends t =
      first_exists (λ j. meet (ends job j)) (digits (difference job))
      (λ h.
      let x : digits (difference job) < digits (difference job) = rounds_below t (digits (difference job)) (h (digits (difference job)) (omega arith)) in
      omega arith)

  -- So the trials, the first included, are within the allowance.
  pub bisection_allowed : (edition : Edition) → T (not (fits job (ideal job))) → (k : ℕ) → T (is_first (λ j. meet (ends job j)) k)
      → suc k ≤ allowance edition Bisection job
  unfolding allowance
  bisection_allowed edition t zero f = omega arith
  bisection_allowed edition t (suc k) f =
      omega (arith, rounds_below t k (first_fails (λ j. meet (ends job j)) (suc k) f k (omega arith)))

  -- Where the ends meet, they are at the least bound that fits.
  pub bisection_least : T (not (fits job (ideal job))) → (k : ℕ) → T (meet (ends job k)) → Least job (ends job k).low
  bisection_least t k m =
      let b : Bracket job (2 ^ k) (ends job k) = bracket_after t k in
      record {
        finite = b.low_speed.finite;
        fitting = fits_raise job (finite_real b.high_speed.finite) (met m) b.high_fits;
        least = b.low_below;
      }
