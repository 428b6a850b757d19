-- What it means that a record passes, and where the values of an accepted file stand.
-- Assumes nothing.
use Prim.Native.Nat.{ℕ, zero, suc, ◌+◌, ◌≤◌, ◌<◌}
use mathlib.Core.Path.{◌≡◌, refl, sym, ap, ap₂, subst, ◌∙◌}
use mathlib.Core.Bool.{Bool, true, false}
use mathlib.Core.List.{List, [], ◌∷◌, ◌++◌}
use mathlib.Core.Logic.{◌≢◌, ◌⊎◌, inl, inr}
use native.Mathlib.Omega.{arith}
use native.Mathlib.Decide.{dec_le, ℕ_discrete}
use lib.Dec.{eqb}
use lib.ListN.{length, length-append}
use borrow.Author.Tests.{eq-eqb, eqb-true}
use Rattle.chain.specs.Limits.{max_weight, max_startup, max_speed}
use Rattle.chain.specs.Lists.{tabulate}
use Rattle.chain.specs.Job.{First, Second, edition_of}
use Rattle.chain.specs.Refusal.{first_refusal}
use Rattle.refusals.specs.Inputs.{head_records}
use Rattle.jobs.specs.JobFile.{processor_kind, task_kind, startup_kind}
use Rattle.jobs.specs.Parse.{byte_at, kind_at, value_at, hold_at, is_kind, blank, record_tests, records_tests, standing, values_of, holds_among, second_in, edition_in}
use Rattle.jobs.proofs.OneRecord.{not-blank, processor_late, processor_low, processor_high, task_high, startup_late, startup_high}
use Rattle.jobs.proofs.AllRecords.{records_next, records_fewer, standing_more, standing_same, standing-length, values_more, values_same, kind_cases}
use Rattle.jobs.proofs.Bytes.{blank_hold}
use Rattle.jobs.proofs.Filling.{tabulate_snoc}

-- A processor's record, with no task before it; a task's; the one with the start-up work, which is the first.
pub record OfProcessor (file : List ℕ) (i : ℕ) : Type 0 where
  pub kind : kind_at file i ≡ processor_kind
  pub first : length (values_of task_kind file i) ≡ 0
  pub positive : 1 ≤ value_at file i
  pub limit : value_at file i ≤ max_speed

pub record OfTask (file : List ℕ) (i : ℕ) : Type 0 where
  pub kind : kind_at file i ≡ task_kind
  pub no_hold_lem : hold_at file i ≡ 0
  pub limit : value_at file i ≤ max_weight

pub record OfStartup (file : List ℕ) (i : ℕ) : Type 0 where
  pub kind : kind_at file i ≡ startup_kind
  pub first : i ≡ 0
  pub no_hold_lem : hold_at file i ≡ 0
  pub limit : value_at file i ≤ max_startup

module _ (file : List ℕ) (i : ℕ) (e : first_refusal (record_tests file i) ≡ 0) where
  pub passed-blank : blank file i ≡ true
  passed-blank = go (blank file i) refl
    where
      go : (b : Bool) → b ≡ blank file i → blank file i ≡ true
      go true f = sym f
      go false f = absurd (let z : ⊥ = omega (arith, not-blank file i f refl, e) in z)

  pub passed_record : OfProcessor file i ⊎ (OfTask file i ⊎ OfStartup file i)
  passed_record =
      elim (kind_cases file i e) [ inl k ↦ inl (processor k) | inr k ↦ inr (elim k [ inl t ↦ inl (task t) | inr s ↦ inr (startup s) ]) ]
    where
      processor : kind_at file i ≡ processor_kind → OfProcessor file i
      processor k =
          let none : length (values_of task_kind file i) ≡ 0 = elim (dec_le 1 (length (values_of task_kind file i))) [ yes h ↦ absurd (let z : ⊥ = omega (arith, processor_late file i refl refl refl refl passed-blank k h, e) in z) | no h ↦ omega arith ] in
          record {
            kind = k;
            first = none;
            positive = elim (ℕ_discrete (value_at file i) 0) [ yes h ↦ absurd (let z : ⊥ = omega (arith, processor_low file i refl refl refl refl passed-blank k (omega arith) h, e) in z) | no h ↦ omega arith ];
            limit = elim (dec_le (value_at file i) max_speed) [ yes h ↦ h | no h ↦ absurd (let z : ⊥ = omega (arith, processor_high file i refl refl refl refl passed-blank k (omega arith) refl (let l : max_speed < value_at file i = omega arith in l), e) in z) ];
          }

      task : kind_at file i ≡ task_kind → OfTask file i
      task k =
          record {
            kind = k;
            no_hold_lem = blank_hold file i passed-blank (omega (arith, k));
            limit = elim (dec_le (value_at file i) max_weight) [ yes h ↦ h | no h ↦ absurd (let z : ⊥ = omega (arith, task_high file i refl refl refl passed-blank k refl (let l : max_weight < value_at file i = omega arith in l), e) in z) ];
          }

      startup : kind_at file i ≡ startup_kind → OfStartup file i
      startup k =
          let none : i ≡ 0 = elim (dec_le 1 i) [ yes h ↦ absurd (let z : ⊥ = omega (arith, startup_late file i refl refl refl passed-blank k h, e) in z) | no h ↦ omega arith ] in
          record {
            kind = k;
            first = none;
            no_hold_lem = blank_hold file i passed-blank (omega (arith, k));
            limit = elim (dec_le (value_at file i) max_startup) [ yes h ↦ h | no h ↦ absurd (let z : ⊥ = omega (arith, startup_high file i refl refl refl passed-blank k (omega arith) refl (let l : max_startup < value_at file i = omega arith in l), e) in z) ];
          }

-- The record in front: one in the second edition, whose first record is of its kind, and none in the first edition.
pub record Front (file : List ℕ) : Type 0 where
  pub head : head_records (edition_in file) ≡ 1
  pub kind : kind_at file 0 ≡ startup_kind
  pub edition : edition_in file ≡ Second (value_at file 0)

pub record NoFront (file : List ℕ) : Type 0 where
  pub head : head_records (edition_in file) ≡ 0
  pub kind : kind_at file 0 ≢ startup_kind
  pub edition : edition_in file ≡ First

pub front : (file : List ℕ) → NoFront file ⊎ Front file
unfolding edition_of head_records second_in is_kind
front file = go (eqb (kind_at file 0) startup_kind) refl
  where
    go : (b : Bool) → eqb (kind_at file 0) startup_kind ≡ b → NoFront file ⊎ Front file
    go true e =
        inr (record {
          head = ap (λ (b : Bool). head_records (edition_of b (value_at file 0))) e;
          kind = eqb-true (kind_at file 0) startup_kind e;
          edition = ap (λ (b : Bool). edition_of b (value_at file 0)) e;
        })
    go false e =
        inl (record {
          head = ap (λ (b : Bool). head_records (edition_of b (value_at file 0))) e;
          kind = λ z. let w : ◌≡◌ {A = ℕ} 0 1 = cc (sym (eq-eqb (kind_at file 0) startup_kind z) ∙ e) in omega arith;
          edition = ap (λ (b : Bool). edition_of b (value_at file 0)) e;
        })

pub kind_some : (file : List ℕ) → kind_at file 0 ≡ startup_kind → 1 ≤ length file
unfolding kind_at byte_at
kind_some [] e = absurd (let z : ⊥ = omega arith in z)
kind_some (x ∷ file) e = omega arith

-- The records behind it are of processors and tasks.
module _ (file : List ℕ) where
  pub passed-at : (n : ℕ) → first_refusal (records_tests file (suc n)) ≡ 0 → first_refusal (record_tests file n) ≡ 0
  passed-at n e = sym (records_next file n (records_fewer file (suc n) n (omega arith) e)) ∙ e

  pub passed_behind : (n : ℕ) → head_records (edition_in file) ≤ n → first_refusal (record_tests file n) ≡ 0 → OfProcessor file n ⊎ OfTask file n
  passed_behind n h e =
      elim (passed_record file n e) [ inl p ↦ inl p | inr q ↦ elim q [ inl t ↦ inr t | inr s ↦ absurd (never s (front file)) ] ]
    where
      never : OfStartup file n → NoFront file ⊎ Front file → ⊥
      never s (inl f) = f.kind (ap (kind_at file) (sym s.first) ∙ s.kind)
      never s (inr f) = omega (arith, s.first, f.head)

  -- What holds behind the record in front, and one record further, holds of all that pass.
  pub record_by_record : (C : ℕ → Type 0) → C (head_records (edition_in file))
      → ((n : ℕ) → head_records (edition_in file) ≤ n → first_refusal (record_tests file n) ≡ 0 → OfProcessor file n → C n → C (suc n))
      → ((n : ℕ) → head_records (edition_in file) ≤ n → first_refusal (record_tests file n) ≡ 0 → OfTask file n → C n → C (suc n))
      → (n : ℕ) → head_records (edition_in file) ≤ n → first_refusal (records_tests file n) ≡ 0 → C n
  record_by_record C base p t zero h e = subst C (let z : head_records (edition_in file) ≡ 0 = omega arith in z) base
  record_by_record C base p t (suc n) h e =
      elim (dec_le (head_records (edition_in file)) n) [
        | yes l ↦ let r : first_refusal (record_tests file n) ≡ 0 = passed-at n e in
            let before : C n = record_by_record C base p t n l (records_fewer file (suc n) n (omega arith) e) in
            elim (passed_behind n l r) [ inl o ↦ p n l r o before | inr o ↦ t n l r o before ]
        | no l ↦ subst C (let z : head_records (edition_in file) ≡ suc n = omega arith in z) base
      ]

  -- The record in front gives nothing.
  pub front-standing : (f : ℕ → ℕ) (kind : ℕ) → kind ≢ startup_kind → standing f kind file (head_records (edition_in file)) ≡ []
  unfolding standing
  front-standing f kind h = go (front file)
    where
      go : NoFront file ⊎ Front file → standing f kind file (head_records (edition_in file)) ≡ []
      go (inl x) = ap (standing f kind file) x.head
      go (inr x) = ap (standing f kind file) x.head ∙ standing_same file f kind 0 (λ z. h (sym z ∙ x.kind))

  pub front-values : (kind : ℕ) → kind ≢ startup_kind → values_of kind file (head_records (edition_in file)) ≡ []
  front-values kind h = front-standing (value_at file) kind h

-- The values of the first n records stand where they do: the speeds and the holds behind the record in front, the weights behind them.
pub record Placed (file : List ℕ) (n : ℕ) : Type 0 where
  pub together : head_records (edition_in file) + (length (values_of processor_kind file n) + length (values_of task_kind file n)) ≡ n
  pub speeds : tabulate (λ j. value_at file (head_records (edition_in file) + j)) (length (values_of processor_kind file n)) ≡ values_of processor_kind file n
  pub holds : tabulate (λ j. hold_at file (head_records (edition_in file) + j)) (length (holds_among file n)) ≡ holds_among file n
  pub weights : tabulate (λ j. value_at file (head_records (edition_in file) + length (values_of processor_kind file n) + j)) (length (values_of task_kind file n))
      ≡ values_of task_kind file n

-- One value more.
filled : (f : ℕ → ℕ) (xs ys : List ℕ) (v : ℕ) → ys ≡ xs ++ v ∷ [] → tabulate f (length xs) ≡ xs → f (length xs) ≡ v → tabulate f (length ys) ≡ ys
filled f xs ys v e h g =
    ap (tabulate f) (let l : length ys ≡ suc (length xs) = omega (arith, ap length e, length-append xs (v ∷ [])) in l)
    ∙ tabulate_snoc f (length xs) ∙ ap₂ (λ (l : List ℕ) (w : ℕ). l ++ w ∷ []) h g ∙ sym e

empty : (f : ℕ → ℕ) (xs : List ℕ) → length xs ≡ 0 → tabulate f (length xs) ≡ xs
unfolding tabulate
empty f [] e = refl
empty f (x ∷ xs) e = absurd (let z : ⊥ = omega arith in z)

module _ (file : List ℕ) where
  abbrev head : ℕ
  head = head_records (edition_in file)

  placed_front : Placed file head
  placed_front =
      let es : values_of processor_kind file head ≡ [] = front-values file processor_kind (λ z. omega arith) in
      let hs : holds_among file head ≡ [] = front-standing file (hold_at file) processor_kind (λ z. omega arith) in
      let ws : values_of task_kind file head ≡ [] = front-values file task_kind (λ z. omega arith) in
      record {
        together = omega (arith, ap length es, ap length ws);
        speeds = empty (λ j. value_at file (head + j)) (values_of processor_kind file head) (ap length es);
        holds = empty (λ j. hold_at file (head + j)) (holds_among file head) (ap length hs);
        weights = empty (λ j. value_at file (head + length (values_of processor_kind file head) + j)) (values_of task_kind file head) (ap length ws);
      }

  placed_processor : (n : ℕ) → OfProcessor file n → Placed file n → Placed file (suc n)
  placed_processor n p q =
      let more = values_more file processor_kind n p.kind in
      let same = values_same file task_kind n (omega (arith, p.kind)) in
      record {
        together = omega (arith, ap length more, ap length same, length-append (values_of processor_kind file n) (value_at file n ∷ []), q.together);
        speeds = filled (λ j. value_at file (head + j)) (values_of processor_kind file n) (values_of processor_kind file (suc n)) (value_at file n) more q.speeds (ap (value_at file) (omega (arith, q.together, p.first)));
        holds = filled (λ j. hold_at file (head + j)) (holds_among file n) (holds_among file (suc n)) (hold_at file n) (standing_more file (hold_at file) processor_kind n p.kind) q.holds (ap (hold_at file) (omega (arith, q.together, p.first, standing-length file (hold_at file) (value_at file) processor_kind n)));
        weights = empty (λ j. value_at file (head + length (values_of processor_kind file (suc n)) + j)) (values_of task_kind file (suc n)) (ap length same ∙ p.first);
      }

  placed_task : (n : ℕ) → OfTask file n → Placed file n → Placed file (suc n)
  placed_task n t q =
      let more = values_more file task_kind n t.kind in
      let same = values_same file processor_kind n (omega (arith, t.kind)) in
      record {
        together = omega (arith, ap length more, ap length same, length-append (values_of task_kind file n) (value_at file n ∷ []), q.together);
        speeds = ap (λ (l : List ℕ). tabulate (λ j. value_at file (head + j)) (length l)) same ∙ q.speeds ∙ sym same;
        holds = let s = standing_same file (hold_at file) processor_kind n (omega (arith, t.kind)) in ap (λ (l : List ℕ). tabulate (λ j. hold_at file (head + j)) (length l)) s ∙ q.holds ∙ sym s;
        weights = ap (λ (l : List ℕ). tabulate (λ j. value_at file (head + length l + j)) (length (values_of task_kind file (suc n)))) same ∙ filled (λ j. value_at file (head + length (values_of processor_kind file n) + j)) (values_of task_kind file n) (values_of task_kind file (suc n)) (value_at file n) more q.weights (ap (value_at file) (omega (arith, q.together)));
      }

  pub placed : (n : ℕ) → head_records (edition_in file) ≤ n → first_refusal (records_tests file n) ≡ 0 → Placed file n
  placed n h e =
      record_by_record file (Placed file) placed_front (λ n h r p q. placed_processor n p q) (λ n h r t q. placed_task n t q) n h e
