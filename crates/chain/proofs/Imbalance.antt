-- The imbalance is the least number of thousandths by which the ideal has to grow to be no less than the bottleneck, so it is 0 exactly where
-- the bottleneck meets the ideal.
-- Assumes nothing.
use Prim.Native.Nat.{ℕ, ◌+◌, ◌≤◌, ◌<◌}
use mathlib.Core.Path.{◌≡◌, ap}
use mathlib.Core.Bool.{Bool, cond}
use mathlib.Core.List.{List}
use mathlib.Core.Logic.{◌↔◌}
use native.Mathlib.Omega.{arith}
use native.Mathlib.Nat.{one-le-mul}
use borrow.Author.Tests.{eq-eqb, ne_eqb}
use Rattle.bound.specs.declared.Bound.{Bound}
use Rattle.bound.specs.Order.{times, rounded_up, ◌≼◌, ◌≈◌, Finite}
use Rattle.bound.proofs.Order.{open_le, make_le}
use Rattle.bound.proofs.Algebra.{times_cancel, times_mono, rounded_least}
use Rattle.chain.specs.Job.{Job, processors, total_weight, Partition, bound_at, bottleneck, ideal}
use Rattle.chain.specs.Plan.{thousandths, imbalance}
use Rattle.chain.proofs.Parts.{Proper}
use Rattle.chain.proofs.Bottleneck.{bottleneck_finite}
use Rattle.chain.proofs.Ideal.{ideal_least, even_exactly}

module _ (job : Job) (B : Bound) where
  -- Scope 6.4: "it is 0 where Wtot is 0"
  pub imbalance_none : total_weight job ≡ 0 → imbalance job B ≡ 0
  unfolding imbalance
  imbalance_none e = ap (λ (t : Bool). cond t 0 (rounded_up (thousandths job B))) (eq-eqb (total_weight job) 0 e)

  pub imbalance_some : (total_weight job ≡ 0 → ⊥) → imbalance job B ≡ rounded_up (thousandths job B)
  unfolding imbalance
  imbalance_some h = ap (λ (t : Bool). cond t 0 (rounded_up (thousandths job B))) (ne_eqb (total_weight job) 0 h)

module _ (job : Job) {B : Bound} (w : 0 < total_weight job) (f : Finite B) where
  thousandths_finite : Finite (thousandths job B)
  thousandths_finite = record { speed_positive = one-le-mul w f.speed_positive }

  -- It is at most n exactly where the bottleneck is at most the ideal and n thousandths of it.
  pub imbalance_least : (n : ℕ) → (imbalance job B ≤ n) ↔ (times 1000 B ≼ times (1000 + n) (ideal job))
  unfolding ideal
  imbalance_least n =
      let r = rounded_least thousandths_finite n in
      let e : imbalance job B ≡ rounded_up (thousandths job B) = imbalance_some job B (λ z. omega (arith, w)) in (
        λ h. make_le (omega (arith, open_le (r.0 (omega (arith, e))))),
        λ h. let l : rounded_up (thousandths job B) ≤ n = r.1 (make_le (omega (arith, open_le h))) in omega (arith, e),
      )

  -- Scope 6.5: "With Wtot above 0 it is 0 exactly for a plan that meets the ideal: its bottleneck equals the ideal as a bound."
  pub nought_exactly : ideal job ≼ B → (imbalance job B ≡ 0) ↔ (B ≈ ideal job)
  nought_exactly above =
      let r = imbalance_least 0 in (
        λ e. record { to = times_cancel 1000 (omega arith) (r.0 (omega (arith, e))); from = above },
        λ h. let l : imbalance job B ≤ 0 = r.1 (times_mono 1000 h.to) in omega arith,
      )

-- So of every division.
module _ {job : Job} (ok : Proper job) (w : 0 < total_weight job) {s : List ℕ} (part : Partition job s) where
  pub division_least : (n : ℕ) → (imbalance job (bottleneck job s) ≤ n) ↔ (times 1000 (bottleneck job s) ≼ times (1000 + n) (ideal job))
  division_least = imbalance_least job w (bottleneck_finite ok s)

  pub division_nought : (imbalance job (bottleneck job s) ≡ 0) ↔ (bottleneck job s ≈ ideal job)
  division_nought = nought_exactly job w (bottleneck_finite ok s) (ideal_least ok s part)

  -- It is 0 exactly for an even row: every processor's part has the bound of the ideal.
  pub division_even : (imbalance job (bottleneck job s) ≡ 0) ↔ ((p : ℕ) → p < processors job → bound_at job s p ≈ ideal job)
  division_even =
      let e = even_exactly ok s part in (
        λ z. e.0 (division_nought.0 z),
        λ h. division_nought.1 (e.1 h),
      )
