-- The parts of a partition, as a plan file has them: their fields fit.
-- Assumes nothing.
use Prim.Native.Nat.{ℕ, suc, ◌<◌, ◌^◌}
use mathlib.Core.List.{List}
use native.Mathlib.Omega.{arith}
use native.Mathlib.Nat.{lt_of_le_of_lt}
use Rattle.chain.specs.Job.{Job, Valid, processors, speed_of, part_load, at, Partition}
use Rattle.chain.proofs.Parts.{separator_below}
use Rattle.chain.proofs.Ranges.{index_fits, loads_fit, speeds_fit, load_limit}

-- The four fields of processor p's record fit 32 bits.
pub record FieldsFit (job : Job) (s : List ℕ) (p : ℕ) : Type 0 where
  pub from : at s p < 2 ^ 32
  pub to : at s (suc p) < 2 ^ 32
  pub load : part_load job (at s p) (at s (suc p)) < 2 ^ 32
  pub speed : speed_of job p < 2 ^ 32

module _ {job : Job} {s : List ℕ} (w : Partition job s) where
  -- Every field of the plan file of a valid job fits.
  pub fields_fit : Valid job → (p : ℕ) → p < processors job → FieldsFit job s p
  fields_fit v p h =
      record {
        from = index_fits v (separator_below w p (omega arith));
        to = index_fits v (separator_below w (suc p) h);
        load = lt_of_le_of_lt (load_limit v (at s p) (at s (suc p))) loads_fit;
        speed = lt_of_le_of_lt (v.speeds_limit p) speeds_fit;
      }
