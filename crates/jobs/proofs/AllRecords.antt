-- The tests of a file's records from the front, and what the records hold as long as they pass.
-- Assumes nothing.
use Prim.Native.Nat.{ℕ, zero, suc, ◌+◌, ◌*◌, ◌%◌, ◌≤◌, ◌<◌}
use mathlib.Core.Path.{◌≡◌, refl, sym, ap, ap₂, ◌∙◌}
use mathlib.Core.Bool.{Bool, true, false, cond}
use mathlib.Core.List.{List, [], ◌∷◌, ◌++◌, append-nil}
use mathlib.Core.Logic.{◌≢◌, ◌⊎◌, inl, inr}
use native.Mathlib.Omega.{arith}
use native.Mathlib.Decide.{dec_le, ℕ_discrete}
use native.Mathlib.Numerals.{add-one}
use lib.Dec.{eqb}
use lib.ListN.{length, get_or, length-append}
use borrow.Author.Tests.{eq-eqb, ne_eqb, eqb-true}
use Rattle.std.specs.Prelude.{Result, Ok, Err}
use Rattle.chain.specs.declared.Refusal.{Refusal}
use Rattle.chain.specs.declared.Refusal.TheVariants.{PartialRecord}
use Rattle.chain.specs.Job.{startup_of, edition_of}
use Rattle.chain.specs.Numbers.{code_of, refused, answered}
use Rattle.chain.specs.Refusal.{first_refusal}
use Rattle.chain.proofs.Numbers.{err_nonzero, answered_ok, answered_err}
use Rattle.chain.proofs.Refusals.{Numbered, numbered_nil, numbered_cons, numbered_append, first_refusal-append, first_refusal_before}
use Rattle.refusals.proofs.Steps.{fails, passes}
use Rattle.jobs.specs.declared.JobRead.{JobRead}
use Rattle.jobs.specs.declared.Kind.{Kind}
use Rattle.jobs.specs.JobFile.{processor_kind, task_kind, startup_kind}
use Rattle.jobs.specs.Parse.{record_count, byte_at, kind_at, value_at, is_kind, multiple_test, form_test, order_test, place_test, speed_test, weight_test, work_test, record_tests, records_tests, standing, values_of, second_in, startup_in, speeds_of, weights_of}
use Rattle.jobs.specs.Answers.{read_in}
use Rattle.jobs.specs.Inner.{records_refusal}
use Rattle.jobs.proofs.OneRecord.{other_kind}

module _ (file : List ℕ) where
  -- Numbers above 0.
  pub record_numbered : (i : ℕ) → Numbered (record_tests file i)
  unfolding record_tests form_test order_test place_test speed_test weight_test work_test
  record_numbered i =
      numbered_cons (omega arith)
      (numbered_cons (omega arith)
      (numbered_cons (omega arith) (numbered_cons (omega arith) (numbered_cons (omega arith) (numbered_cons (omega arith) numbered_nil)))))

  pub records_numbered : (n : ℕ) → Numbered (records_tests file n)
  unfolding records_tests
  records_numbered zero = numbered_nil
  records_numbered (suc n) = numbered_append (records_numbered n) (record_numbered n)

  -- Where the first n records pass, record n decides.
  pub records_next : (n : ℕ) → first_refusal (records_tests file n) ≡ 0 → first_refusal (records_tests file (suc n)) ≡ first_refusal (record_tests file n)
  unfolding records_tests
  records_next n e = first_refusal-append (records_tests file n) (record_tests file n) (records_numbered n) e

  -- Where one of the first i is refused, it decides.
  pub records_stop : (n i : ℕ) → i ≤ n → first_refusal (records_tests file i) ≢ 0 → first_refusal (records_tests file n) ≡ first_refusal (records_tests file i)
  unfolding records_tests
  records_stop zero i h r = ap (λ (k : ℕ). first_refusal (records_tests file k)) (let e : 0 ≡ i = omega arith in e)
  records_stop (suc n) i h r =
      elim (dec_le i n) [
        | yes m ↦ let same : first_refusal (records_tests file n) ≡ first_refusal (records_tests file i) = records_stop n i m r in first_refusal_before (records_tests file n) (record_tests file n) (λ z. r (sym same ∙ z)) ∙ same
        | no m ↦ ap (λ (k : ℕ). first_refusal (records_tests file k)) (let e : suc n ≡ i = omega arith in e)
      ]

  -- Where the first n pass, so do fewer.
  pub records_fewer : (n i : ℕ) → i ≤ n → first_refusal (records_tests file n) ≡ 0 → first_refusal (records_tests file i) ≡ 0
  records_fewer n i h e =
      elim (ℕ_discrete (first_refusal (records_tests file i)) 0) [ yes z ↦ z | no z ↦ sym (records_stop n i h z) ∙ e ]

  -- Record n gives one entry more to its own kind, and none to another.
  pub standing_more : (f : ℕ → ℕ) (kind n : ℕ) → kind_at file n ≡ kind → standing f kind file (suc n) ≡ standing f kind file n ++ f n ∷ []
  unfolding standing is_kind
  standing_more f kind n e = ap (λ (b : Bool). standing f kind file n ++ cond b (f n ∷ []) []) (eq-eqb (kind_at file n) kind e)

  pub standing_same : (f : ℕ → ℕ) (kind n : ℕ) → kind_at file n ≢ kind → standing f kind file (suc n) ≡ standing f kind file n
  unfolding standing is_kind
  standing_same f kind n h =
      ap (λ (b : Bool). standing f kind file n ++ cond b (f n ∷ []) []) (ne_eqb (kind_at file n) kind h) ∙ append-nil (standing f kind file n)

  pub values_more : (kind n : ℕ) → kind_at file n ≡ kind → values_of kind file (suc n) ≡ values_of kind file n ++ value_at file n ∷ []
  values_more kind n e = standing_more (value_at file) kind n e

  pub values_same : (kind n : ℕ) → kind_at file n ≢ kind → values_of kind file (suc n) ≡ values_of kind file n
  values_same kind n h = standing_same (value_at file) kind n h

  -- There are as many entries of a kind, whatever is taken of each record.
  pub standing-length : (f g : ℕ → ℕ) (kind n : ℕ) → length (standing f kind file n) ≡ length (standing g kind file n)
  unfolding standing
  standing-length f g kind zero = refl
  standing-length f g kind (suc n) =
      elim (ℕ_discrete (kind_at file n) kind) [
        | yes e ↦ omega (arith, ap length (standing_more f kind n e), ap length (standing_more g kind n e), length-append (standing f kind file n) (f n ∷ []), length-append (standing g kind file n) (g n ∷ []), standing-length f g kind n)
        | no h ↦ ap length (standing_same f kind n h) ∙ standing-length f g kind n ∙ sym (ap length (standing_same g kind n h))
      ]

  -- There are no more of them than records.
  pub standing-few : (f : ℕ → ℕ) (kind n : ℕ) → length (standing f kind file n) ≤ n
  unfolding standing
  standing-few f kind zero = omega arith
  standing-few f kind (suc n) =
      elim (ℕ_discrete (kind_at file n) kind) [
        | yes e ↦ omega (arith, ap length (standing_more f kind n e), length-append (standing f kind file n) (f n ∷ []), standing-few f kind n)
        | no h ↦ omega (arith, ap length (standing_same f kind n h), standing-few f kind n)
      ]

  -- A record that passes is of one of the three kinds.
  pub kind_cases : (n : ℕ) → first_refusal (record_tests file n) ≡ 0
      → (kind_at file n ≡ processor_kind) ⊎ ((kind_at file n ≡ task_kind) ⊎ (kind_at file n ≡ startup_kind))
  kind_cases n e =
      elim (ℕ_discrete (kind_at file n) processor_kind) [
        | yes p ↦ inl p
        | no p ↦ elim (ℕ_discrete (kind_at file n) task_kind) [
          | yes q ↦ inr (inl q)
          | no q ↦ elim (ℕ_discrete (kind_at file n) startup_kind) [ yes r ↦ inr (inr r) | no r ↦ absurd (let z : ⊥ = omega (arith, other_kind file n refl p q r, e) in z) ]
        ]
      ]

-- The loop over the records: the first i pass, and are counted.
pub record Tested (file : List ℕ) (processors tasks i : ℕ) : Type 0 where
  pub multiple : length file % 8 ≡ 0
  pub below : i ≤ record_count file
  pub counted : processors + tasks ≤ i
  pub processors_are : processors ≡ length (values_of processor_kind file i)
  pub tasks_are : tasks ≡ length (values_of task_kind file i)
  pub passed : first_refusal (records_tests file i) ≡ 0

module _ {file : List ℕ} where
  pub tested_none : length file % 8 ≡ 0 → Tested file 0 0 0
  unfolding standing records_tests first_refusal
  tested_none e =
      record { multiple = e; below = omega arith; counted = omega arith; processors_are = refl; tasks_are = refl; passed = refl }

  module _ {processors tasks i : ℕ} (t : Tested file processors tasks i) (h : i < record_count file) (z : first_refusal (record_tests file i) ≡ 0) where
    next_passed : first_refusal (records_tests file (i + 1)) ≡ 0
    next_passed = ap (λ (n : ℕ). first_refusal (records_tests file n)) (add-one i) ∙ records_next file i t.passed ∙ z

    grows : (kind : ℕ) → kind_at file i ≡ kind → length (values_of kind file (i + 1)) ≡ length (values_of kind file i) + 1
    grows kind e =
        ap (λ (n : ℕ). length (values_of kind file n)) (add-one i) ∙ ap length (values_more file kind i e)
        ∙ length-append (values_of kind file i) (value_at file i ∷ [])

    stays : (kind : ℕ) → kind_at file i ≢ kind → length (values_of kind file (i + 1)) ≡ length (values_of kind file i)
    stays kind e = ap (λ (n : ℕ). length (values_of kind file n)) (add-one i) ∙ ap length (values_same file kind i e)

    pub tested_processor : kind_at file i ≡ processor_kind → {p n : ℕ} → p ≡ processors + 1 → n ≡ tasks → Tested file p n (i + 1)
    tested_processor kind c d =
        record {
          multiple = t.multiple;
          below = omega arith;
          counted = omega (arith, t.counted);
          processors_are = omega (arith, t.processors_are, grows 1 kind);
          tasks_are = omega (arith, t.tasks_are, stays 2 (omega arith));
          passed = next_passed;
        }

    pub tested_task : kind_at file i ≡ task_kind → {p n : ℕ} → p ≡ processors → n ≡ tasks + 1 → Tested file p n (i + 1)
    tested_task kind c d =
        record {
          multiple = t.multiple;
          below = omega arith;
          counted = omega (arith, t.counted);
          processors_are = omega (arith, t.processors_are, stays 1 (omega arith));
          tasks_are = omega (arith, t.tasks_are, grows 2 kind);
          passed = next_passed;
        }

    pub tested_startup : kind_at file i ≡ startup_kind → {p n : ℕ} → p ≡ processors → n ≡ tasks → Tested file p n (i + 1)
    tested_startup kind c d =
        record {
          multiple = t.multiple;
          below = omega arith;
          counted = omega (arith, t.counted);
          processors_are = omega (arith, t.processors_are, stays 1 (omega arith));
          tasks_are = omega (arith, t.tasks_are, stays 2 (omega arith));
          passed = next_passed;
        }

-- What testing the records answers.
module _ (file : List ℕ) where
  pub multiple_fails : length file % 8 ≢ 0 → records_refusal file ≡ 2
  unfolding records_refusal multiple_test
  multiple_fails h = fails 2 (records_tests file (record_count file)) (ne_eqb (length file % 8) 0 h)

  pub multiple_passes : length file % 8 ≡ 0 → records_refusal file ≡ first_refusal (records_tests file (record_count file))
  unfolding records_refusal multiple_test
  multiple_passes e = passes 2 (records_tests file (record_count file)) (eq-eqb (length file % 8) 0 e)

  -- What is read, or the refusal by the length and the records.
  abbrev pub Told : Result JobRead Refusal → Type 0
  Told r = r ≡ answered (records_refusal file) (read_in file)

  pub partial_told : length file % 8 ≢ 0 → Told (Err PartialRecord)
  unfolding refused code_of
  partial_told h =
      let r : Result JobRead Refusal = Err PartialRecord in answered_err {r = r} (read_in file) refl (sym (multiple_fails h))

  pub record_told : {processors tasks i : ℕ} → Tested file processors tasks i → i < record_count file → {r : Result Kind Refusal} {q : Result JobRead Refusal} {e : Refusal}
      → refused r ≡ first_refusal (record_tests file i) → r ≡ Err e → q ≡ Err e → Told q
  record_told {i = i} t h f g k = k ∙ answered_err (read_in file) g (f ∙ sym stop)
    where
      here : first_refusal (records_tests file (suc i)) ≡ first_refusal (record_tests file i)
      here = records_next file i t.passed

      stop : records_refusal file ≡ first_refusal (record_tests file i)
      stop =
          multiple_passes t.multiple ∙ records_stop file (record_count file) (suc i) h (λ z. err_nonzero g f (sym here ∙ z)) ∙ here

  -- What is read with these counts.
  abbrev pub read_with : ℕ → ℕ → JobRead
  read_with processors tasks = record { second = second_in file; startup = startup_in file; processors = processors; tasks = tasks }

  pub all_told : {processors tasks i : ℕ} → Tested file processors tasks i → record_count file ≤ i → {r : JobRead} → r ≡ read_with processors tasks → Told (Ok r)
  unfolding speeds_of weights_of
  all_told {processors} {tasks} {i} t h e =
      ap Ok (e ∙ ap₂ read_with
      (t.processors_are ∙ ap (λ (n : ℕ). length (values_of processor_kind file n)) (sym end))
      (t.tasks_are ∙ ap (λ (n : ℕ). length (values_of task_kind file n)) (sym end)))
      ∙ answered_ok (read_in file) (multiple_passes t.multiple ∙ ap (λ (n : ℕ). first_refusal (records_tests file n)) end ∙ t.passed)
    where
      end : record_count file ≡ i
      end = omega (arith, t.below)

-- Whether a file is of the second edition: no byte, a first record of another kind, one of kind 3.
module _ (file : List ℕ) where
  pub second_none : length file ≤ 0 → false ≡ second_in file
  unfolding second_in is_kind kind_at byte_at
  second_none h = go file h
    where
      go : (l : List ℕ) → length l ≤ 0 → false ≡ eqb (get_or l (8 * 0 + 0) 0) 3
      go [] h = refl
      go (x ∷ l) h = absurd (let z : ⊥ = omega arith in z)

  pub second_by : {k m : ℕ} → k ≡ byte_at file 0 0 → m ≡ startup_kind → eqb k m ≡ second_in file
  unfolding second_in is_kind kind_at
  second_by e f = ap₂ eqb e f

  -- It is, and the first record holds the start-up work.
  pub second_kind : {b : Bool} → b ≡ second_in file → b ≡ true → kind_at file 0 ≡ startup_kind
  unfolding second_in is_kind
  second_kind e f = eqb-true (kind_at file 0) startup_kind (sym e ∙ f)

  pub startup_read : {b : Bool} {v : ℕ} → b ≡ second_in file → b ≡ true → v ≡ value_at file 0 → v ≡ startup_in file
  unfolding edition_of startup_of
  startup_read e f g = g ∙ sym (ap (λ (b : Bool). startup_of (edition_of b (value_at file 0))) (sym e ∙ f))

  pub startup_none : {b : Bool} → b ≡ second_in file → b ≡ false → 0 ≡ startup_in file
  unfolding edition_of startup_of
  startup_none e f = sym (ap (λ (b : Bool). startup_of (edition_of b (value_at file 0))) (sym e ∙ f))
