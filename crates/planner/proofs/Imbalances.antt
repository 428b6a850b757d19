-- The numbers of the imbalance fit 64 bits.
-- Assumes nothing.
use Prim.Native.Nat.{ℕ, ◌+◌, ◌-◌, ◌*◌, ◌≤◌, ◌<◌, ◌^◌}
use mathlib.Core.Path.{◌≡◌, sym, ap, ap₂, subst, subst₂, ◌∙◌}
use native.Mathlib.Omega.{arith}
use native.Mathlib.Nat.{one-le-mul}
use Rattle.bound.specs.declared.Bound.{Bound}
use Rattle.bound.specs.Order.{over, rounded_up, ◌≼◌}
use Rattle.bound.proofs.Order.{open_le}
use Rattle.chain.specs.Ranges.{Small}
use Rattle.chain.specs.Job.{Job, Valid, total_weight, total_speed, ideal}
use Rattle.chain.specs.Plan.{imbalance}
use Rattle.chain.proofs.Ranges.{imbalance_product, imbalance_divisor}
use Rattle.chain.proofs.Imbalance.{imbalance_some}

-- What is known of a bottleneck B, a total t and a sum of speeds e: they are the job's, and B is no less than the ideal.
pub record Known (job : Job) (B : Bound) (t e : ℕ) : Type 0 where
  pub valid : Valid job
  pub small : Small B
  pub above : ideal job ≼ B
  pub is_t : t ≡ total_weight job
  pub is_e : e ≡ total_speed job

pub known : {job : Job} {B : Bound} {t e : ℕ} → Valid job → t ≡ total_weight job → Small B → ideal job ≼ B
    → e ≡ total_speed job → Known job B t e
known v x s a y = record { valid = v; small = s; above = a; is_t = x; is_e = y }

module _ {job : Job} {B : Bound} {t e : ℕ} (k : Known job B t e) where
  pub divisor_fits : t * B.speed < 2 ^ 64
  divisor_fits = subst (λ (n : ℕ). n * B.speed < 2 ^ 64) (sym k.is_t) (imbalance_divisor k.small k.valid)

  product_fits : 1000 * (B.load * e) < 2 ^ 64
  product_fits = subst (λ (n : ℕ). 1000 * (B.load * n) < 2 ^ 64) (sym k.is_e) (imbalance_product k.small k.valid)

  pub no_less : t * B.speed ≤ B.load * e
  unfolding ideal
  no_less = subst₂ (λ (n m : ℕ). n * B.speed ≤ B.load * m) (sym k.is_t) (sym k.is_e) (open_le k.above)

  pub load_fits : B.load * e < 2 ^ 64
  load_fits = omega (arith, product_fits)

  pub excess_fits : 1000 * (B.load * e - t * B.speed) < 2 ^ 64
  excess_fits = omega (arith, product_fits)

  -- What is divided, and what is added to round it up.
  pub sum_fits : 1000 * (B.load * e - t * B.speed) + t * B.speed < 2 ^ 64
  sum_fits = omega (arith, product_fits, no_less)

  pub divisor_positive : (t ≡ 0 → ⊥) → 0 < t * B.speed
  divisor_positive h = one-le-mul {a = t} (omega arith) k.small.speed_positive

  -- By the two numbers that code rounds.
  pub imbalance_is : {n d r : ℕ} → (t ≡ 0 → ⊥) → n ≡ 1000 * (B.load * e - t * B.speed) → d ≡ t * B.speed
      → r ≡ rounded_up (over n d)
      → r ≡ imbalance job B
  imbalance_is {n} {d} {r} h x y z =
      z
      ∙ ap₂ (λ (a b : ℕ). rounded_up (over a b)) (x ∙ ap₂ (λ (a b : ℕ). 1000 * (B.load * b - a * B.speed)) k.is_t
      k.is_e)
      (y ∙ ap (λ (a : ℕ). a * B.speed) k.is_t)
      ∙ sym (imbalance_some job B (λ q. h (k.is_t ∙ q)))
