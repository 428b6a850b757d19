-- A plan file read back, field by field.
-- Assumes nothing.
use Prim.Native.Nat.{ℕ, zero, suc, ◌+◌, ◌-◌, ◌*◌, ◌<◌}
use mathlib.Core.Path.{◌≡◌, sym, ap, ◌∙◌}
use mathlib.Core.List.{List, [], ◌++◌, append_assoc, append-nil}
use native.Mathlib.Omega.{arith}
use Rattle.chain.specs.Job.{Job, Valid, processors, speed_of, part_load, at, Partition}
use Rattle.fields.specs.Field.{field_bytes, field_at}
use Rattle.fields.proofs.Laws.{field-front, field_after}
use Rattle.planfile.specs.PlanFile.{plan_record, plan_bytes_to, plan_bytes}
use Rattle.planfile.proofs.Records.{length_plan_to}
use Rattle.planfile.proofs.Parts.{FieldsFit, fields_fit}

-- The record of processor p stands after those of the processors before it.
plan_split : (job : Job) (s : List ℕ) (p d : ℕ)
    → (rest : List ℕ) × (plan_bytes_to job s (suc p + d) ≡ plan_bytes_to job s p ++ (plan_record job s p ++ rest))
unfolding plan_bytes_to
plan_split job s p zero = ([], ap (plan_bytes_to job s) (let e : suc p + 0 ≡ suc p = omega arith in e) ∙ ap (λ (l : List ℕ). plan_bytes_to job s p ++ l) (sym (append-nil (plan_record job s p))))
plan_split job s p (suc d) =
    let r = plan_split job s p d in (
      r.0 ++ plan_record job s (suc p + d),
      ap (plan_bytes_to job s) (let e : suc p + suc d ≡ suc (suc p + d) = omega arith in e)
          ∙ ap (λ (l : List ℕ). l ++ plan_record job s (suc p + d)) r.1 ∙ (simp append_assoc),
    )

-- What is read at the places of processor p's record.
pub record PlanReads (job : Job) (s bytes : List ℕ) (p : ℕ) : Type 0 where
  pub from : field_at bytes (16 * p) ≡ at s p
  pub to : field_at bytes (16 * p + 4) ≡ at s (suc p)
  pub load : field_at bytes (16 * p + 8) ≡ part_load job (at s p) (at s (suc p))
  pub speed : field_at bytes (16 * p + 12) ≡ speed_of job p

pub plan_reads : {job : Job} {s : List ℕ} → Valid job → Partition job s → (p : ℕ) → p < processors job → PlanReads job s (plan_bytes job s) p
unfolding plan_bytes plan_record field_bytes field_at
plan_reads {job} {s} v w p h =
    record {
      from = ap (field_at (plan_bytes job s)) (let e : 16 * p ≡ 16 * p + 0 = omega arith in e) ∙ place 0 ∙ field-front (at s p) (b ++ c ++ d ++ rest) fit.from;
      to = place 4 ∙ field-front (at s (suc p)) (c ++ d ++ rest) fit.to;
      load = place 8 ∙ field-front (part_load job (at s p) (at s (suc p))) (d ++ rest) fit.load;
      speed = place 12 ∙ field-front (speed_of job p) rest fit.speed;
    }
  where
    fit : FieldsFit job s p
    fit = fields_fit w v p h

    rest : List ℕ
    rest = (plan_split job s p (processors job - suc p)).0

    b : List ℕ
    b = field_bytes (at s (suc p))

    c : List ℕ
    c = field_bytes (part_load job (at s p) (at s (suc p)))

    d : List ℕ
    d = field_bytes (speed_of job p)

    place : (k : ℕ) → field_at (plan_bytes job s) (16 * p + k) ≡ field_at (plan_record job s p ++ rest) k
    place k =
        ap (λ (l : List ℕ). field_at l (16 * p + k))
        (ap (plan_bytes_to job s) (let e : processors job ≡ suc p + (processors job - suc p) = omega arith in e) ∙ (plan_split job s p (processors job - suc p)).1)
        ∙ field_after (plan_bytes_to job s p) (plan_record job s p ++ rest) (16 * p) k (length_plan_to job s p)
