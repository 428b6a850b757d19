-- Taking the separators from a plan file, comparing its records, and the grade of a partition.
-- Assumes nothing.
use Prim.Native.Nat.{ℕ, zero, suc, ◌+◌, ◌*◌, ◌≤◌, ◌<◌, ◌^◌}
use mathlib.Core.Path.{◌≡◌, refl, sym, ap, ap₂, subst, ◌∙◌}
use mathlib.Core.Bool.{Bool, true, false, ◌&&◌, cond}
use mathlib.Core.List.{List, [], ◌∷◌, ◌++◌, map}
use native.Mathlib.Omega.{arith}
use native.Mathlib.Numerals.{add-one}
use lib.Dec.{eqb}
use lib.ListN.{length, get_or, drop, set, length-set}
use lib.Seq.{get_or-set_same}
use borrow.Author.Tests.{ne_eqb, eq-eqb}
use Rattle.std.specs.List.{list_all, range_with_len}
use Rattle.std.proofs.Common.{zero-add}
use Rattle.std.proofs.lemmas.List.Folds.{list_all-append, list_all-map}
use Rattle.std.proofs.lemmas.List.FromFn.{map-range_with_len_more}
use Rattle.bound.specs.declared.Bound.{Bound}
use Rattle.bound.specs.Order.{le}
use Rattle.chain.specs.declared.Method.TheVariants.{Bisection}
use Rattle.chain.specs.Lists.{all}
use Rattle.chain.specs.Ranges.{Lendable}
use Rattle.chain.specs.Job.{Job, Valid, processors, speed_of, part_load, at, Partition, bottleneck}
use Rattle.chain.specs.Plan.{BisectionEnds, takes}
use Rattle.chain.specs.Grade.{unbeaten}
use Rattle.chain.specs.Refusal.{PlanRecords, separators_of, joined}
use Rattle.chain.proofs.Indices.{table_of}
use Rattle.chain.proofs.Parts.{valid_proper, valid_plannable}
use Rattle.chain.proofs.Ranges.{probe_products, bottleneck_small}
use Rattle.chain.proofs.Demand.{method_least}
use Rattle.chain.proofs.Enough.{partition_enough}
use Rattle.chain.proofs.Grade.{unbeaten-at}
use Rattle.fields.specs.Field.{field_at}
use Rattle.parts.proofs.Front.{Front, front_next, front_end}
use Rattle.planfile.specs.PlanFile.{plan_read}
use Rattle.planfile.proofs.Reading.{read_length, read_first, read_next}
use Rattle.grading.specs.declared.grades.Grade.{Grade}
use Rattle.grading.specs.declared.PlanRecord.{PlanRecord}
use Rattle.grading.specs.Inner.{record_at, tells_at}
use Rattle.grading.specs.Answers.{grade_of}

-- The loop that takes the separators: the first p + 1 are taken, and b says whether the first p records begin at theirs.
module _ (job : Job) (plan : List ℕ) where
  abbrev file : PlanRecords
  file = plan_read job plan

  abbrev pub begun : ℕ → Bool
  begun q = eqb (file.from q) (at (separators_of job file) q)

  pub record Taking (before now : List ℕ) (b : Bool) (p : ℕ) : Type 0 where
    pub done : p ≤ processors job
    pub room : processors job < length before
    pub front : Front (at (separators_of job file)) (suc p) before now
    pub begins : b ≡ all begun p

  pub taking_none : (l : List ℕ) {v : ℕ} → processors job < length l → v ≡ field_at plan 0 → Taking (set l 0 v) (set l 0 v) true 0
  unfolding all
  taking_none l {v} h e =
      record {
        done = omega arith;
        room = omega (arith, length-set l 0 v);
        front = record { same = refl; done = first; rest = λ k m. refl };
        begins = refl;
      }
    where
      first : (k : ℕ) → k < 1 → get_or (set l 0 v) k 0 ≡ at (separators_of job file) k
      first zero m = get_or-set_same l 0 v 0 (omega arith) ∙ e ∙ sym (read_first job file)
      first (suc k) m = absurd (let z : ⊥ = omega arith in z)

  module _ {before now : List ℕ} {b : Bool} {p : ℕ} (t : Taking before now b p) where
    pub taking_next : p < processors job → {r : PlanRecord} → r ≡ record_at plan p
        → Taking before (set now (p + 1) r.to) (b && eqb r.from (get_or now p 0)) (p + 1)
    unfolding all
    taking_next h {r} e =
        record {
          done = omega arith;
          room = t.room;
          front =
              subst (λ (k : ℕ). Front (at (separators_of job file)) (suc k) before (set now k r.to)) (sym (add-one p))
              (subst (λ (k : ℕ). Front (at (separators_of job file)) k before (set now (suc p) r.to)) (add-one (suc p))
              (front_next r.to t.front (omega (arith, t.room)) (ap (λ (q : PlanRecord). q.to) e ∙ sym (read_next job file p h))));
          begins =
              ap₂ (λ (c : Bool) (q : PlanRecord). c && eqb q.from (get_or now p 0)) t.begins e
              ∙ ap (λ (z : ℕ). all begun p && eqb (file.from p) z) (t.front.done p (omega arith))
              ∙ ap (all begun) (sym (add-one p));
        }

    pub taking_all : processors job ≤ p → b ≡ joined job file
    unfolding joined
    taking_all h = t.begins ∙ ap (all begun) (let e : p ≡ processors job = omega (arith, t.done) in e)

    pub taken_front : processors job ≤ p → now ≡ separators_of job file ++ drop (suc (processors job)) before
    taken_front h =
        front_end
        (subst (λ (k : ℕ). Front (at (separators_of job file)) (suc k) before now) (let e : p ≡ processors job = omega (arith, t.done) in e) t.front)
        t.room
        ∙ ap (λ (xs : List ℕ). xs ++ drop (suc (processors job)) before) (table_of (separators_of job file) (read_length job file))

pub taking_length : (job : Job) (plan l : List ℕ) (v : ℕ) {p : ℕ} {now : List ℕ} {b : Bool} → Taking job plan (set l 0 v) now b p
    → length now ≡ length l
taking_length job plan l v t = t.front.same ∙ length-set l 0 v

-- What stands behind the first entry is left by a store there.
drop_first : (n : ℕ) (l : List ℕ) (v : ℕ) → drop (suc n) (set l 0 v) ≡ drop (suc n) l
drop_first n [] v = refl
drop_first n (x ∷ xs) v = refl

pub taken_all : (job : Job) (plan l : List ℕ) (v : ℕ) {p : ℕ} {now : List ℕ} {b : Bool} → Taking job plan (set l 0 v) now b p → processors job ≤ p
    → (b ≡ joined job (plan_read job plan)) × (now ≡ separators_of job (plan_read job plan) ++ drop (suc (processors job)) l)
taken_all job plan l v t h = (
  taking_all job plan t h,
  taken_front job plan t h ∙ ap (λ (xs : List ℕ). separators_of job (plan_read job plan) ++ xs) (drop_first (processors job) l v),
)

-- The load of processor p's part, by its two separators.
pub load_read : (job : Job) (s : List ℕ) (p : ℕ) {v : ℕ} → v ≡ part_load job (at s p) (at s (p + 1)) → v ≡ part_load job (at s p) (at s (suc p))
load_read job s p e = e ∙ ap (λ (q : ℕ). part_load job (at s p) (at s q)) (add-one p)

-- What is told at processor p: r is its record, and v is the load of its part.
module _ (job : Job) (s plan : List ℕ) (p : ℕ) {r : PlanRecord} {v : ℕ} (e : r ≡ record_at plan p) (f : v ≡ part_load job (at s p) (at s (suc p))) where
  told_is : (eqb r.load v && eqb r.speed (speed_of job p)) ≡ tells_at job s plan p
  unfolding tells_at
  told_is = ap₂ (λ (q : PlanRecord) (w : ℕ). eqb q.load w && eqb q.speed (speed_of job p)) e f

  pub load_told : {w : ℕ} → w ≡ speed_of job p → r.load ≡ v → eqb r.speed w ≡ tells_at job s plan p
  load_told g h = ap₂ (λ (b : Bool) (w : ℕ). b && eqb r.speed w) (sym (eq-eqb r.load v h)) g ∙ told_is

  pub load_untold : (r.load ≡ v → ⊥) → eqb r.load v ≡ tells_at job s plan p
  load_untold h = let n = ne_eqb r.load v h in n ∙ ap (λ (b : Bool). b && eqb r.speed (speed_of job p)) (sym n) ∙ told_is

-- The numbers of a range, tested one by one.
pub range_all : (f : ℕ → Bool) (n : ℕ) → list_all f (range_with_len 0 n) ≡ all f n
unfolding all
range_all f zero = refl
range_all f (suc n) =
    sym (list_all-map (λ (b : Bool). b) f (range_with_len 0 (suc n)))
    ∙ ap (list_all (λ (b : Bool). b)) (ap (λ (m : ℕ). map f (range_with_len 0 m)) (sym (add-one n)) ∙ map-range_with_len_more f 0 n n (zero-add n))
    ∙ list_all-append (λ (b : Bool). b) (map f (range_with_len 0 n)) (f n ∷ [])
    ∙ ap (λ (b : Bool). b && (f n && true)) (list_all-map (λ (b : Bool). b) f (range_with_len 0 n) ∙ range_all f n)
    ∙ ap (λ (b : Bool). all f n && b) (last (f n))
  where
    last : (b : Bool) → (b && true) ≡ b
    last true = refl
    last false = refl

-- The grade of a partition: C is its bottleneck, B what bisection found.
module _ {job : Job} (v : Valid job) {s : List ℕ} (part : Partition job s) {n : ℕ} {B C : Bound} (is : C ≡ bottleneck job s) (ended : BisectionEnds job n B) where
  pub measured_products : Lendable B → (C.load * B.speed < 2 ^ 64) × (B.load * C.speed < 2 ^ 64)
  measured_products l = subst (λ (D : Bound). (D.load * B.speed < 2 ^ 64) × (B.load * D.speed < 2 ^ 64)) (sym is) (probe_products (bottleneck_small v s) l)

  graded : le C B ≡ unbeaten job s
  unfolding takes
  graded =
      ap (λ (D : Bound). le D B) is ∙ unbeaten-at (valid_proper v) s (method_least (valid_plannable v (partition_enough job part)) Bisection tt n B ended)

  pub graded_by : (b : Bool) → b ≡ le C B → cond b Grade.Best Grade.Valid ≡ grade_of job s
  unfolding grade_of
  graded_by b e = ap (λ (c : Bool). cond c Grade.Best Grade.Valid) (e ∙ graded)

  pub graded_best : {b : Bool} → b ≡ le C B → b ≡ true → Grade.Best ≡ grade_of job s
  graded_best {b} e t = ap (λ (c : Bool). cond c Grade.Best Grade.Valid) (sym t) ∙ graded_by b e

  pub graded_valid : {b : Bool} → b ≡ le C B → b ≡ false → Grade.Valid ≡ grade_of job s
  graded_valid {b} e t = ap (λ (c : Bool). cond c Grade.Best Grade.Valid) (sym t) ∙ graded_by b e
