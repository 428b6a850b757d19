-- What the first processors can take within a bound: with fewer tasks too, and within a greater bound.
-- Assumes nothing.
use Prim.Native.Nat.{ℕ, zero, suc, ◌≤◌}
use native.Mathlib.Omega.{arith}
use native.Mathlib.Decide.{dec_le}
use Rattle.bound.specs.declared.Bound.{Bound}
use Rattle.bound.specs.Order.{◌≼◌, Real}
use Rattle.chain.specs.Job.{Job}
use Rattle.chain.proofs.Within.{within_empty, within_shrink, within_raise}
use Rattle.chain.proofs.Cover.{Cover}

module _ (job : Job) where
  -- What can take i tasks can take the first k of them.
  pub cover_down : (B : Bound) (p i k : ℕ) → Cover job B p i → k ≤ i → Cover job B p k
  cover_down B zero i k c h = omega arith
  cover_down B (suc p) i k (j, l, c, t) h =
      elim (dec_le j k) [
        | yes m ↦ (j, m, c, within_shrink job p j j k i B (omega arith) m h t)
        | no m ↦ (k, omega arith, cover_down B p j k c (omega arith), within_empty job p k B)
      ]

  -- A greater bound covers what a lesser one does.
  pub cover_raise : {B C : Bound} → Real B → B ≼ C → (p i : ℕ) → Cover job B p i → Cover job C p i
  cover_raise r h zero i e = e
  cover_raise r h (suc p) i (j, l, c, t) = (j, l, cover_raise r h p j c, within_raise job p j i r h t)
