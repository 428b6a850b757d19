-- Tasks' records tested all at once, and the loop over the records where they all pass.
-- Assumes nothing.
use Prim.Native.Nat.{ℕ, zero, suc, ◌+◌, ◌*◌, ◌≤◌}
use mathlib.Core.Path.{◌≡◌, refl, sym, ap, subst, ◌∙◌}
use mathlib.Core.Bool.{Bool, true, ◌&&◌}
use mathlib.Core.List.{List}
use native.Mathlib.Omega.{arith}
use native.Mathlib.Numerals.{add-one, unary_clauses}
use lib.Dec.{T, leb, leb→le}
use lib.ListN.{get_or}
use Rattle.std.specs.Prelude.{Ok}
use Rattle.chain.specs.Limits.{max_weight}
use Rattle.chain.specs.Refusal.{between, first_refusal}
use Rattle.chain.proofs.Tests.{T_of, and_left, and_right}
use Rattle.fields.specs.Field.{field_at}
use Rattle.jobs.specs.JobFile.{task_kind}
use Rattle.jobs.specs.Parse.{record_count, byte_at, kind_at, value_at, record_tests}
use Rattle.jobs.specs.Inner.{front_at, plain_tasks}
use Rattle.jobs.specs.declared.JobRead.{JobRead}
use Rattle.jobs.proofs.OneRecord.{not_processor, third_decides, task_passes}
use Rattle.jobs.proofs.AllRecords.{Tested, tested_task, Told, read_with, all_told}

-- The test of one record more, as the code takes it: x is its front, v its value, m the limit.
pub plain_next : (file : List ℕ) (i n : ℕ) {a b c : Bool} {x v m : ℕ} → a ≡ plain_tasks file i n → x ≡ front_at file (i + n) → b ≡ (a && between task_kind task_kind x)
    → v ≡ value_at file (i + n) → max_weight ≡ m → c ≡ (b && between 0 m v) → c ≡ plain_tasks file i (n + 1)
unfolding plain_tasks
plain_next file i n e f g h l k = rw add-one (cc)

between_is : (lo hi x : ℕ) → T (between lo hi x) → (lo ≤ x) × (x ≤ hi)
between_is lo hi x t = (leb→le lo x (and_left (leb lo x) (leb x hi) t), leb→le x hi (and_right (leb lo x) (leb x hi) t))

-- A record with this front is a task's, and passes with a weight within the limit.
module _ (file : List ℕ) (i : ℕ) (e : front_at file i ≡ task_kind) where
  bytes_are : (kind_at file i ≡ 2) × (byte_at file i 1 ≡ 0) × (byte_at file i 2 ≡ 0) × (byte_at file i 3 ≡ 0)
  unfolding front_at field_at kind_at byte_at
  bytes_are =
      let k = ap (λ (n : ℕ). get_or file n 0) (let x : 8 * i + 0 ≡ 8 * i = omega arith in x) in (omega arith, omega arith, omega arith, omega arith)

  plain_passes : value_at file i ≤ max_weight → 0 ≡ first_refusal (record_tests file i)
  plain_passes h =
      let b = bytes_are in
      task_passes file i (sym b.0) refl (third_decides file i (not_processor file i (omega (arith, b.0))) (sym b.1) refl refl (sym b.2) refl (sym b.3)) refl refl refl h

-- The first i records pass, and so do n tasks' behind them.
tested_tasks : {file : List ℕ} {processors tasks i : ℕ} → Tested file processors tasks i → (n : ℕ) → i + n ≤ record_count file → T (plain_tasks file i n)
    → Tested file processors (tasks + n) (i + n)
unfolding plain_tasks
tested_tasks t zero h p = simp unary_clauses t
tested_tasks {file} {processors} {tasks} {i} t (suc n) h p =
    let at : ℕ = i + n in
    let front : Bool = between task_kind task_kind (front_at file at) in
    let fronts = and_left (plain_tasks file i n && front) (between 0 max_weight (value_at file at)) p in
    let two = between_is task_kind task_kind (front_at file at) (and_right (plain_tasks file i n) front fronts) in
    let small = between_is 0 max_weight (value_at file at) (and_right (plain_tasks file i n && front) (between 0 max_weight (value_at file at)) p) in
    let is : front_at file at ≡ task_kind = omega arith in
    let before = tested_tasks t n (omega arith) (and_left (plain_tasks file i n) front fronts) in
    let here = tested_task before (omega arith) (sym (plain_passes file at is small.1)) (bytes_are file at is).0 refl (let x : tasks + suc n ≡ tasks + n + 1 = omega arith in x) in
    subst (λ (k : ℕ). Tested file processors (tasks + suc n) k) (let x : at + 1 ≡ i + suc n = omega arith in x) here

-- Where they are all the rest, and no task is before them, the file is accepted, and they are its tasks.
pub tasks_told : (file : List ℕ) {processors tasks i n : ℕ} {b : Bool} {r : JobRead} → Tested file processors tasks i → tasks ≡ 0 → i + n ≡ record_count file
    → b ≡ plain_tasks file i n → b ≡ true → r ≡ read_with file processors n → Told file (Ok r)
tasks_told file {processors} {tasks} {n = n} t z h e f g =
    all_told file (tested_tasks t n (omega arith) (T_of (sym e ∙ f))) (omega arith)
    (g ∙ ap (read_with file processors) (let x : n ≡ tasks + n = omega arith in x))
