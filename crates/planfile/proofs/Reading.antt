-- A plan file read back: the file of a division has its separators, and passes the tests; a file that passes them is the file of the
-- division that is read from it.
-- Assumes nothing.
use Prim.Native.Nat.{ℕ, zero, suc, ◌+◌, ◌*◌, ◌≤◌, ◌<◌}
use mathlib.Core.Path.{◌≡◌, refl, sym, ap, ap₂, subst, ◌∙◌}
use mathlib.Core.List.{List, ◌++◌}
use mathlib.Core.Logic.{◌↔◌}
use native.Mathlib.Omega.{arith}
use lib.ListN.{length, take, drop}
use lib.Seq.{take_all, take-add, drop-drop, ext_get_or}
use Rattle.chain.specs.Job.{Job, Valid, processors, part_load, at, Partition}
use Rattle.chain.specs.Refusal.{PlanRecords, separators_of, first_refusal, plan_tests}
use Rattle.chain.proofs.Indices.{length-tabulate, at_table}
use Rattle.chain.proofs.Refusals.{Told, plan_accepted}
use Rattle.fields.specs.Field.{Bytes, field_bytes, field_at}
use Rattle.fields.proofs.Laws.{field_taken}
use Rattle.planfile.specs.PlanFile.{plan_record, plan_bytes_to, plan_bytes, TruePlan, plan_read}
use Rattle.planfile.proofs.Records.{length_plan}
use Rattle.planfile.proofs.Fields.{plan_reads}

-- The separators that are read, one by one.
module _ (job : Job) (plan : PlanRecords) where
  pub read_length : length (separators_of job plan) ≡ suc (processors job)
  unfolding separators_of
  read_length = ap suc (length-tabulate plan.to (processors job))

  pub read_first : at (separators_of job plan) 0 ≡ plan.from 0
  unfolding separators_of
  read_first = refl

  pub read_next : (p : ℕ) → p < processors job → at (separators_of job plan) (suc p) ≡ plan.to p
  unfolding separators_of
  read_next p h = at_table plan.to (processors job) p h

module _ {job : Job} {s : List ℕ} (v : Valid job) (w : Partition job s) where
  abbrev file : PlanRecords
  file = plan_read job (plan_bytes job s)

  -- What is read of the file of a division are its separators.
  pub read_back : separators_of job file ≡ s
  read_back = ext_get_or 0 (separators_of job file) s (read_length job file ∙ sym w.count) each
    where
      each : (i : ℕ) → i < length (separators_of job file) → at (separators_of job file) i ≡ at s i
      each zero h = read_first job file ∙ (plan_reads v w 0 v.some_processor).from
      each (suc p) h =
          let l : p < processors job = omega (arith, read_length job file) in
          read_next job file p l ∙ (plan_reads v w p l).to

  pub file_told : Told job file
  file_told =
      record {
        long = length_plan job s;
        division = subst (Partition job) (sym read_back) w;
        begins = λ p h. (plan_reads v w p h).from ∙ ap (λ (l : List ℕ). at l p) (sym read_back);
        loads = λ p h.
            let r = plan_reads v w p h in
            r.load ∙ sym (ap₂ (part_load job) r.from r.to);
        speeds = λ p h. (plan_reads v w p h).speed;
      }

-- Four fields that stand one after the other.
four_taken : (bytes : List ℕ) (n : ℕ) → Bytes bytes → n + 16 ≤ length bytes
    → take 16 (drop n bytes)
    ≡ field_bytes (field_at bytes n) ++ field_bytes (field_at bytes (n + 4)) ++ field_bytes (field_at bytes (n + 8)) ++ field_bytes (field_at bytes (n + 12))
four_taken bytes n b h =
    take-add 12 4 (drop n bytes)
    ∙ ap₂ (λ (x y : List ℕ). x ++ y)
    (take-add 8 4 (drop n bytes)
    ∙ ap₂ (λ (x y : List ℕ). x ++ y)
    (take-add 4 4 (drop n bytes) ∙ ap₂ (λ (x y : List ℕ). x ++ y) (field_taken bytes n b (omega arith)) (at_place 4 (omega arith)))
    (at_place 8 (omega arith))) (at_place 12 (omega arith))
  where
    at_place : (k : ℕ) → n + k + 4 ≤ length bytes → take 4 (drop k (drop n bytes)) ≡ field_bytes (field_at bytes (n + k))
    at_place k l = ap (take 4) (drop-drop k n bytes) ∙ field_taken bytes (n + k) b l

module _ (job : Job) (plan : List ℕ) (b : Bytes plan) (t : Told job (plan_read job plan)) where
  abbrev read : List ℕ
  read = separators_of job (plan_read job plan)

  record_told : (p : ℕ) → p < processors job → take 16 (drop (16 * p) plan) ≡ plan_record job read p
  unfolding plan_record
  record_told p h =
      four_taken plan (16 * p) b (omega (arith, t.long))
      ∙ ap (λ (x : ℕ). field_bytes x ++ field_bytes (field_at plan (16 * p + 4)) ++ field_bytes (field_at plan (16 * p + 8)) ++ field_bytes (field_at plan (16 * p + 12))) (t.begins p h)
      ∙ ap (λ (x : ℕ). field_bytes (at read p) ++ field_bytes x ++ field_bytes (field_at plan (16 * p + 8)) ++ field_bytes (field_at plan (16 * p + 12))) (sym (read_next job (plan_read job plan) p h))
      ∙ ap (λ (x : ℕ). field_bytes (at read p) ++ field_bytes (at read (suc p)) ++ field_bytes x ++ field_bytes (field_at plan (16 * p + 12))) (t.loads p h ∙ ap₂ (part_load job) (t.begins p h) (sym (read_next job (plan_read job plan) p h)))
      ∙ ap (λ (x : ℕ). field_bytes (at read p) ++ field_bytes (at read (suc p)) ++ field_bytes (part_load job (at read p) (at read (suc p))) ++ field_bytes x) (t.speeds p h)

  records_told : (n : ℕ) → n ≤ processors job → take (16 * n) plan ≡ plan_bytes_to job read n
  unfolding plan_bytes_to
  records_told zero h = refl
  records_told (suc p) h =
      ap (λ (k : ℕ). take k plan) (let e : 16 * suc p ≡ 16 * p + 16 = omega arith in e) ∙ take-add (16 * p) 16 plan
      ∙ ap₂ (λ (x y : List ℕ). x ++ y) (records_told p (omega arith)) (record_told p h)

  -- A file that passes the tests is that of the division which is read from it.
  pub told_bytes : plan ≡ plan_bytes job read
  unfolding plan_bytes
  told_bytes =
      sym (take_all (16 * processors job) plan (omega (arith, t.long))) ∙ records_told (processors job) (omega arith)

-- The tests of a plan file pass exactly where it is true.
pub true_exactly : {job : Job} {plan : List ℕ} → Valid job → Bytes plan → (first_refusal (plan_tests job (plan_read job plan)) ≡ 0) ↔ TruePlan job plan
true_exactly {job} {plan} v b = (
  λ e.
      let t : Told job (plan_read job plan) = (plan_accepted job (plan_read job plan)).0 e in
      record { separators = separators_of job (plan_read job plan); division = t.division; bytes = told_bytes job plan b t },
  λ w.
      (plan_accepted job (plan_read job plan)).1
      (subst (λ (l : List ℕ). Told job (plan_read job l)) (sym w.bytes) (file_told v w.division)),
)
