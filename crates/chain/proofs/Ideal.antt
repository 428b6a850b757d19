-- The ideal is a number and at most every bound that some partition stays within, every bottleneck among them: the
-- loads of all parts add up to at least the weight of all tasks. Where a bottleneck meets it, every part does.
-- Assumes nothing.
use Prim.Native.Nat.{ℕ, zero, suc, ◌+◌, ◌-◌, ◌*◌, ◌≤◌, ◌<◌}
use mathlib.Core.Path.{◌≡◌, ap, ◌∙◌}
use mathlib.Core.List.{List}
use mathlib.Core.Logic.{◌↔◌}
use native.Mathlib.Omega.{arith}
use native.Mathlib.Decide.{dec_le}
use native.Mathlib.Nat.{mul-le-mul_right}
use Rattle.bound.specs.declared.Bound.{Bound}
use Rattle.bound.specs.Order.{◌≼◌, ◌≈◌, Finite}
use Rattle.bound.proofs.Order.{open_le, make_le, le_trans}
use Rattle.chain.specs.Lists.{sum_to}
use Rattle.chain.specs.Job.{Job, tasks, processors, last, speed_of, part_weight, total_weight, total_speed, part_bound, at, Partition, bound_at, bottleneck, ideal, Within}
use Rattle.chain.proofs.Sums.{sum_is_sum_to}
use Rattle.chain.proofs.Parts.{Proper, weight_split, weight_empty, weight_all, load_plain, weight_le_load}
use Rattle.chain.proofs.Within.{bounds_within}
use Rattle.chain.proofs.Bottleneck.{processors-last, bottleneck_real, part_le-bottleneck, within-bottleneck, bottleneck_cases}

-- All speed is the sum of the speeds of the processors.
pub total_speed_is : (job : Job) → total_speed job ≡ sum_to (speed_of job) (processors job)
unfolding speed_of
total_speed_is job = sum_is_sum_to job.speeds 1

-- A part's bound against another, over its weight.
part_le : (job : Job) {B : Bound} (s : List ℕ) (p : ℕ) → bound_at job s p ≼ B
    → part_weight job (at s p) (at s (suc p)) * B.speed ≤ B.load * speed_of job p
unfolding bound_at part_bound
part_le job {B} s p h =
    omega (arith, open_le h, mul-le-mul_right B.speed (weight_le_load job (at s p) (at s (suc p))))

module _ {job : Job} (ok : Proper job) where
  -- All speed is above 0.
  pub total_speed_positive : 0 < total_speed job
  unfolding sum_to
  total_speed_positive =
      rw (total_speed_is job, processors-last ok) (omega (arith, ok.positive (last job)))

  -- So the ideal is a number.
  pub ideal_finite : Finite (ideal job)
  unfolding ideal
  ideal_finite = record { speed_positive = total_speed_positive }

  -- Without start-up work a single processor's part of all tasks is within it.
  pub ideal-single : job.startup ≡ 0 → last job ≡ 0 → part_bound job 0 0 (tasks job) ≼ ideal job
  unfolding ideal part_bound sum_to
  ideal-single c e =
      make_le
      (omega (
        arith,
        ap (λ (w : ℕ). w * total_speed job) (load_plain job c 0 (tasks job) ∙ weight_all job),
        ap (λ (v : ℕ). total_weight job * v) (total_speed_is job ∙ ap (sum_to (speed_of job)) (processors-last ok ∙ ap suc e)),
      ))

  module _ {s : List ℕ} {B : Bound} (part : Partition job s) (w : Within job s B) where
    -- What the first processors' parts weigh together.
    first_parts : (p : ℕ) → p ≤ processors job → part_weight job 0 (at s p) * B.speed ≤ B.load * sum_to (speed_of job) p
    unfolding sum_to
    first_parts zero h = rw (part.first, weight_empty job 0) (omega arith)
    first_parts (suc p) h =
        rw (weight_split job 0 (at s p) (at s (suc p)) (omega arith) (part.grows p h))
        (omega (arith, first_parts p (omega arith), part_le job s p (bounds_within job w p h)))

    -- The ideal is at most every bound that some partition stays within.
    pub ideal-within : ideal job ≼ B
    unfolding ideal
    ideal-within =
        make_le (rw (← weight_all job, ← part.end, total_speed_is job) (first_parts (processors job) (omega arith)))

    -- What a processor's part lacks of the bound.
    abbrev lack : ℕ → ℕ
    lack q = B.load * speed_of job q - part_weight job (at s q) (at s (suc q)) * B.speed

    -- The first processors' parts weigh less by what one of them lacks.
    parts_lack : (q p : ℕ) → q < p → p ≤ processors job
        → part_weight job 0 (at s p) * B.speed + lack q ≤ B.load * sum_to (speed_of job) p
    unfolding sum_to
    parts_lack q zero l h = absurd (let z : ⊥ = omega arith in z)
    parts_lack q (suc p) l h =
        rw (weight_split job 0 (at s p) (at s (suc p)) (omega arith) (part.grows p h))
        (elim (dec_le (suc q) p) [ yes k ↦ omega (arith, parts_lack q p k (omega arith), here) | no k ↦ itself (omega arith) ])
      where
        here : part_weight job (at s p) (at s (suc p)) * B.speed ≤ B.load * speed_of job p
        here = part_le job s p (bounds_within job w p h)

        itself : q ≡ p
            → (part_weight job 0 (at s p) + part_weight job (at s p) (at s (suc p))) * B.speed + lack q
            ≤ B.load * (sum_to (speed_of job) p + speed_of job p)
        itself e =
            let same : lack q ≡ lack p = ap lack e in
            omega (arith, same, here, first_parts p (omega arith))

    -- So where the bound is no more than the ideal, no part lacks anything of it.
    pub ideal_tight : B ≼ ideal job → (q : ℕ) → q < processors job → B ≼ bound_at job s q
    unfolding ideal bound_at part_bound
    ideal_tight le q l =
        make_le (omega (arith, all, open_le le, mul-le-mul_right B.speed (weight_le_load job (at s q) (at s (suc q)))))
      where
        all : total_weight job * B.speed + lack q ≤ B.load * total_speed job
        all = rw (← weight_all job, ← part.end, total_speed_is job) (parts_lack q (processors job) l (omega arith))

  -- The ideal is at most every bottleneck.
  pub ideal_least : (s : List ℕ) → Partition job s → ideal job ≼ bottleneck job s
  ideal_least s part = ideal-within part (within-bottleneck ok part)

  -- A bottleneck meets the ideal exactly where every part does: the row is even.
  pub even_exactly : (s : List ℕ) → Partition job s
      → (bottleneck job s ≈ ideal job) ↔ ((p : ℕ) → p < processors job → bound_at job s p ≈ ideal job)
  even_exactly s part = (
    λ h p l. record {
      to = le_trans (bottleneck_real ok s) (part_le-bottleneck ok s p l) h.to;
      from = le_trans (bottleneck_real ok s) h.from (ideal_tight part (within-bottleneck ok part) h.to p l);
    },
    λ h. bottleneck_cases ok (λ C. C ≈ ideal job) s h,
  )
