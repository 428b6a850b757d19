-- Records of a plan file, in the order in which they are written.
-- Assumes nothing.
use Prim.Native.Nat.{ℕ, zero, suc, ◌+◌, ◌*◌, ◌≤◌, ◌<◌}
use mathlib.Core.Path.{◌≡◌, refl, sym, ap, ap₂, ◌∙◌}
use mathlib.Core.List.{List, [], ◌∷◌, ◌++◌, append_assoc, append-nil}
use native.Mathlib.Omega.{arith}
use native.Mathlib.Numerals.{add-one}
use lib.ListN.{length, get_or, take, drop, length-append, length-drop, take-append-drop}
use lib.Seq.{length-take-le, get_or-take, take-suc, take-length}
use Rattle.chain.specs.Job.{Job, processors, speed_of, part_load, at}
use Rattle.fields.specs.Field.{field_bytes}
use Rattle.fields.proofs.Laws.{length-field}
use Rattle.fields.proofs.Stores.{put_next}
use Rattle.planfile.specs.PlanFile.{plan_record, plan_bytes_to, plan_bytes}

-- The bytes of fields, one after the other.
unfoldable pub fields_bytes : List ℕ → List ℕ
fields_bytes [] = []
fields_bytes (v ∷ vs) = field_bytes v ++ fields_bytes vs

length_fields : (vs : List ℕ) → length (fields_bytes vs) ≡ 4 * length vs
unfolding fields_bytes
length_fields [] = refl
length_fields (v ∷ vs) = length-append (field_bytes v) (fields_bytes vs) ∙ omega (arith, length-field v, length_fields vs)

fields_snoc : (vs : List ℕ) (v : ℕ) → fields_bytes (vs ++ v ∷ []) ≡ fields_bytes vs ++ field_bytes v
unfolding fields_bytes
fields_snoc [] v = append-nil (field_bytes v)
fields_snoc (w ∷ vs) v =
    ap (λ (l : List ℕ). field_bytes w ++ l) (fields_snoc vs v) ∙ sym (append_assoc (field_bytes w) (fields_bytes vs) (field_bytes v))

-- The loop that puts them from place n on: i are put.
pub record PuttingFields (vs : List ℕ) (n : ℕ) (before now : List ℕ) (i : ℕ) : Type 0 where
  pub done : i ≤ length vs
  pub room : length now ≡ length before
  pub held : now ≡ take n before ++ fields_bytes (take i vs) ++ drop (n + 4 * i) before

module _ (vs : List ℕ) (n : ℕ) (before : List ℕ) (fits : n + 4 * length vs ≤ length before) where
  pub fields_none : PuttingFields vs n before before 0
  unfolding fields_bytes
  fields_none =
      record {
        done = omega arith;
        room = refl;
        held =
            sym (ap (λ (l : List ℕ). l ++ drop (n + 4 * 0) before) (append-nil (take n before))
            ∙ ap (λ (k : ℕ). take n before ++ drop k before) (let e : n + 4 * 0 ≡ n = omega arith in e) ∙ take-append-drop n before);
      }

  pub fields_next : {now next : List ℕ} {i : ℕ} → PuttingFields vs n before now i → i < length vs
      → next ≡ take (n + 4 * i) now ++ field_bytes (get_or vs i 0) ++ drop (n + 4 * i + 4) now → PuttingFields vs n before next (i + 1)
  fields_next {now} {next} {i} p h e =
      record { done = omega arith; room = ap length held ∙ long; held = held }
    where
      front : List ℕ
      front = take n before ++ fields_bytes (take i vs)

      front_long : length front ≡ n + 4 * i
      front_long =
          length-append (take n before) (fields_bytes (take i vs))
          ∙ omega (arith, length-take-le n before (omega arith), length_fields (take i vs), length-take-le i vs (omega arith))

      more : front ++ field_bytes (get_or vs i 0) ≡ take n before ++ fields_bytes (take (i + 1) vs)
      more =
          append_assoc (take n before) (fields_bytes (take i vs)) (field_bytes (get_or vs i 0))
          ∙ ap (λ (l : List ℕ). take n before ++ l)
          (sym (ap (λ (k : ℕ). fields_bytes (take k vs)) (add-one i) ∙ ap fields_bytes (take-suc vs i 0 h) ∙ fields_snoc (take i vs) (get_or vs i 0)))

      held : next ≡ take n before ++ fields_bytes (take (i + 1) vs) ++ drop (n + 4 * (i + 1)) before
      held =
          e ∙ ap (λ (l : List ℕ). take (n + 4 * i) l ++ field_bytes (get_or vs i 0) ++ drop (n + 4 * i + 4) l) p.held
          ∙ put_next before front (field_bytes (get_or vs i 0)) (n + 4 * i) 4 front_long
          ∙ ap (λ (l : List ℕ). l ++ drop (n + 4 * i + 4) before) more
          ∙ ap (λ (k : ℕ). take n before ++ fields_bytes (take (i + 1) vs) ++ drop k before) (let x : n + 4 * i + 4 ≡ n + 4 * (i + 1) = omega arith in x)

      long : length (take n before ++ fields_bytes (take (i + 1) vs) ++ drop (n + 4 * (i + 1)) before) ≡ length before
      long =
          length-append (take n before ++ fields_bytes (take (i + 1) vs)) (drop (n + 4 * (i + 1)) before)
          ∙ omega (arith, length-append (take n before) (fields_bytes (take (i + 1) vs)), length-take-le n before (omega arith), length_fields (take (i + 1) vs), length-take-le (i + 1) vs (omega arith), length-drop (n + 4 * (i + 1)) before)

  pub fields_all : {now : List ℕ} {i : ℕ} → PuttingFields vs n before now i → length vs ≤ i
      → now ≡ take n before ++ fields_bytes vs ++ drop (n + 4 * length vs) before
  fields_all {now} {i} p h =
      p.held
      ∙ ap (λ (k : ℕ). take n before ++ fields_bytes (take k vs) ++ drop (n + 4 * k) before) (let e : i ≡ length vs = omega (arith, p.done) in e)
      ∙ ap (λ (l : List ℕ). take n before ++ fields_bytes l ++ drop (n + 4 * length vs) before) (take-length vs)

module _ (job : Job) (s : List ℕ) where
  pub length_record : (p : ℕ) → length (plan_record job s p) ≡ 16
  unfolding plan_record field_bytes
  length_record p = refl

  pub length_plan_to : (n : ℕ) → length (plan_bytes_to job s n) ≡ 16 * n
  unfolding plan_bytes_to
  length_plan_to zero = refl
  length_plan_to (suc p) =
      length-append (plan_bytes_to job s p) (plan_record job s p) ∙ omega (arith, length_plan_to p, length_record p)

  -- A plan file has 16 bytes a processor.
  pub length_plan : length (plan_bytes job s) ≡ 16 * processors job
  unfolding plan_bytes
  length_plan = length_plan_to (processors job)

-- Only the first P + 1 separators are read.
record_take : (job : Job) (s : List ℕ) (m p : ℕ) → suc p < m → plan_record job (take m s) p ≡ plan_record job s p
unfolding plan_record
record_take job s m p h = rw (get_or-take m s p 0 (let k : p < m = omega arith in k), get_or-take m s (suc p) 0 h)

plan_to_take : (job : Job) (s : List ℕ) (m n : ℕ) → n < m → plan_bytes_to job (take m s) n ≡ plan_bytes_to job s n
unfolding plan_bytes_to
plan_to_take job s m zero h = refl
plan_to_take job s m (suc p) h = ap₂ (λ (x y : List ℕ). x ++ y) (plan_to_take job s m p (omega arith)) (record_take job s m p h)

pub plan_take : (job : Job) (s : List ℕ) → plan_bytes job (take (suc (processors job)) s) ≡ plan_bytes job s
unfolding plan_bytes
plan_take job s = plan_to_take job s (suc (processors job)) (processors job) (omega arith)

-- The loop that puts the records: those of the first p processors are put.
pub record PuttingPlan (job : Job) (s before now : List ℕ) (p : ℕ) : Type 0 where
  pub done : p ≤ processors job
  pub room : length now ≡ length before
  pub held : now ≡ plan_bytes_to job s p ++ drop (16 * p) before

pub plan_none : (job : Job) (s plan : List ℕ) → PuttingPlan job s plan plan 0
unfolding plan_bytes_to
plan_none job s plan = record { done = omega arith; room = refl; held = refl }

pub plan_next : {job : Job} {s before now next : List ℕ} {p : ℕ} → 16 * processors job ≤ length before → PuttingPlan job s before now p
    → p < processors job → next ≡ take (16 * p) now ++ plan_record job s p ++ drop (16 * p + 16) now → PuttingPlan job s before next (p + 1)
unfolding plan_bytes_to
plan_next {job} {s} {before} {now} {next} {p} f w h e =
    record {
      done = omega arith;
      room =
          ap length held ∙ length-append (plan_bytes_to job s (p + 1)) (drop (16 * (p + 1)) before)
          ∙ omega (arith, length_plan_to job s (p + 1), length-drop (16 * (p + 1)) before);
      held = held;
    }
  where
    R : List ℕ
    R = plan_record job s p

    held : next ≡ plan_bytes_to job s (p + 1) ++ drop (16 * (p + 1)) before
    held =
        e ∙ ap (λ (l : List ℕ). take (16 * p) l ++ R ++ drop (16 * p + 16) l) w.held
        ∙ put_next before (plan_bytes_to job s p) R (16 * p) 16 (length_plan_to job s p)
        ∙ ap (λ (n : ℕ). plan_bytes_to job s p ++ R ++ drop n before) (let k : 16 * p + 16 ≡ 16 * suc p = omega arith in k)
        ∙ ap (λ (n : ℕ). plan_bytes_to job s n ++ drop (16 * n) before) (sym (add-one p))

pub plan_all : {job : Job} {s before now : List ℕ} {p : ℕ} → PuttingPlan job s before now p → processors job ≤ p
    → now ≡ plan_bytes job s ++ drop (16 * processors job) before
unfolding plan_bytes
plan_all {job} {s} {before} {now} {p} w h =
    w.held ∙ ap (λ (n : ℕ). plan_bytes_to job s n ++ drop (16 * n) before) (let e : p ≡ processors job = omega (arith, w.done) in e)

-- Its four fields make the record of processor p.
pub record_fields : (job : Job) (s : List ℕ) (p : ℕ) {load speed : ℕ} → load ≡ part_load job (at s p) (at s (p + 1)) → speed ≡ speed_of job p
    → fields_bytes (at s p ∷ at s (p + 1) ∷ load ∷ speed ∷ []) ≡ plan_record job s p
unfolding plan_record fields_bytes
record_fields job s p {load} {speed} e f =
    ap₂ (λ (x y : ℕ). fields_bytes (at s p ∷ at s (p + 1) ∷ x ∷ y ∷ [])) e f
    ∙ ap (λ (q : ℕ). fields_bytes (at s p ∷ at s q ∷ part_load job (at s p) (at s q) ∷ speed_of job p ∷ [])) (add-one p)
    ∙ (simp (append_assoc, append-nil))
