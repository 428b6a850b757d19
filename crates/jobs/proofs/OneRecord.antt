-- The tests of one record, as the code takes them: k is its kind, v its value, b says that the bytes that have to be zero are, t counts
-- the tasks before it, m is the limit.
-- Assumes nothing.
use Prim.Native.Nat.{ℕ, zero, suc, ◌≤◌, ◌<◌}
use mathlib.Core.Path.{◌≡◌, refl, sym, ap, ap₂, ◌∙◌}
use mathlib.Core.Bool.{Bool, true, false, not, cond, ◌&&◌, ◌||◌}
use mathlib.Core.List.{List, [], ◌∷◌, ◌++◌, append-nil}
use mathlib.Core.Logic.{◌≢◌}
use native.Mathlib.Omega.{arith}
use lib.Dec.{eqb, ltb}
use lib.ListN.{length, length-append}
use borrow.Author.Tests.{eq-eqb, ne_eqb, lt-ltb, le-ltb}
use denote.Enum.Bare.{sameb}
use Rattle.std.specs.Prelude.{Result, Err}
use Rattle.chain.specs.Limits.{max_weight, max_startup, max_speed}
use Rattle.chain.specs.declared.Refusal.{Refusal}
use Rattle.chain.specs.Numbers.{code_of, refused}
use Rattle.chain.specs.Refusal.{Test, between, first_refusal}
use Rattle.jobs.specs.contracts.Kind.{the_type}
use Rattle.jobs.specs.declared.Kind.{Kind}
use Rattle.jobs.specs.declared.Kind.TheVariants.{Processor, Task, Startup}
use Rattle.jobs.specs.Kinds.{kind_number, kind_of}
use Rattle.jobs.specs.JobFile.{processor_kind, task_kind, startup_kind}
use Rattle.jobs.specs.Parse.{byte_at, kind_at, value_at, is_kind, task_before, blank, form_test, order_test, place_test, speed_test, weight_test, work_test, record_tests, standing, values_of}
use Rattle.jobs.proofs.KindNumbers.{kind_refused}
use Rattle.refusals.proofs.Each.{between_low, between_high, between_in}
use Rattle.refusals.proofs.Steps.{fails, passes, passed-all}

-- Byte 1, and bytes 2 and 3 where the record is not a processor's.
module _ (file : List ℕ) (i : ℕ) where
  rest : Bool
  rest = eqb (byte_at file i 2) 0 && eqb (byte_at file i 3) 0

  blank_by : {a b c : Bool} → eqb (byte_at file i 1) 0 ≡ a → is_kind processor_kind file i ≡ b → rest ≡ c → blank file i ≡ (a && (b || c))
  unfolding blank rest
  blank_by e f g = cc

  pub is_processor : kind_at file i ≡ processor_kind → true ≡ is_kind processor_kind file i
  unfolding is_kind
  is_processor e = sym (eq-eqb (kind_at file i) processor_kind e)

  pub not_processor : kind_at file i ≢ processor_kind → false ≡ is_kind processor_kind file i
  unfolding is_kind
  not_processor h = sym (ne_eqb (kind_at file i) processor_kind h)

  pub first_decides : {x : ℕ} → x ≡ byte_at file i 1 → x ≢ 0 → eqb x 0 ≡ blank file i
  first_decides {x} e h = ne_eqb x 0 h ∙ sym (blank_by (ne_eqb (byte_at file i 1) 0 (λ z. h (e ∙ z))) refl refl)

  module _ {b : Bool} {x : ℕ} (kind : b ≡ is_kind processor_kind file i) (first : x ≡ byte_at file i 1) (zero : x ≡ 0) where
    by_kind : {a c : Bool} → b ≡ a → rest ≡ c → blank file i ≡ (a || c)
    by_kind e g = blank_by (eq-eqb (byte_at file i 1) 0 (sym first ∙ zero)) (sym kind ∙ e) g

    pub processor_blank : b ≡ true → b ≡ blank file i
    processor_blank e = e ∙ sym (by_kind e refl)

    pub second_decides : b ≡ false → {y : ℕ} → y ≡ byte_at file i 2 → y ≢ 0 → eqb y 0 ≡ blank file i
    unfolding rest
    second_decides n {y} e h =
        ne_eqb y 0 h
        ∙ sym (by_kind n (ap (λ (c : Bool). c && eqb (byte_at file i 3) 0) (ne_eqb (byte_at file i 2) 0 (λ z. h (e ∙ z)))))

    pub third_decides : b ≡ false → {y z : ℕ} → y ≡ byte_at file i 2 → y ≡ 0 → z ≡ byte_at file i 3 → eqb z 0 ≡ blank file i
    unfolding rest
    third_decides n e h f =
        ap (λ (n : ℕ). eqb n 0) f
        ∙ sym (by_kind n (ap (λ (c : Bool). c && eqb (byte_at file i 3) 0) (eq-eqb (byte_at file i 2) 0 (sym e ∙ h))))

-- A task stands before record i exactly when some value of the first i is one's.
pub before_counted : (file : List ℕ) (i : ℕ) → task_before file i ≡ ltb 0 (length (values_of task_kind file i))
unfolding task_before standing
before_counted file zero = refl
before_counted file (suc i) = go (is_kind task_kind file i) (before_counted file i)
  where
    xs : List ℕ
    xs = values_of task_kind file i

    or_true : (a : Bool) → (a || true) ≡ true
    or_true true = refl
    or_true false = refl

    or_false : (a : Bool) → (a || false) ≡ a
    or_false true = refl
    or_false false = refl

    go : (c : Bool) → task_before file i ≡ ltb 0 (length xs) → (task_before file i || c) ≡ ltb 0 (length (xs ++ cond c (value_at file i ∷ []) []))
    go true e =
        or_true (task_before file i) ∙ sym (lt-ltb 0 (length (xs ++ value_at file i ∷ [])) (omega (arith, length-append xs (value_at file i ∷ []))))
    go false e = or_false (task_before file i) ∙ e ∙ ap (λ (l : List ℕ). ltb 0 (length l)) (sym (append-nil xs))

-- The tests of a record from each of them on.
module _ (file : List ℕ) (i : ℕ) where
  abbrev from_work : List Test
  from_work = work_test file i ∷ []

  abbrev from_weight : List Test
  from_weight = weight_test file i ∷ from_work

  abbrev from_speed : List Test
  from_speed = speed_test file i ∷ from_weight

  abbrev from_place : List Test
  from_place = place_test file i ∷ from_speed

  abbrev from_order : List Test
  from_order = order_test file i ∷ from_place

-- The kind is the one that is asked for, or it is not; a test of another kind passes.
module _ (file : List ℕ) (i : ℕ) {k : ℕ} (kind : k ≡ kind_at file i) where
  is : (n : ℕ) → k ≡ n → is_kind n file i ≡ true
  unfolding is_kind
  is n e = eq-eqb (kind_at file i) n (sym kind ∙ e)

  is_not : (n : ℕ) → k ≢ n → is_kind n file i ≡ false
  unfolding is_kind
  is_not n h = ne_eqb (kind_at file i) n (λ z. h (kind ∙ z))

  past_order : k ≢ 1 → first_refusal (from_order file i) ≡ first_refusal (from_place file i)
  unfolding order_test
  past_order h = passes 4 (from_place file i) (ap (λ (a : Bool). not (a && task_before file i)) (is_not 1 h))

  past_place : k ≢ 3 → first_refusal (from_place file i) ≡ first_refusal (from_speed file i)
  unfolding place_test
  past_place h = passes 15 (from_speed file i) (ap (λ (a : Bool). not a || eqb i 0) (is_not 3 h))

  past_speed : k ≢ 1 → first_refusal (from_speed file i) ≡ first_refusal (from_weight file i)
  unfolding speed_test
  past_speed h = passes 5 (from_weight file i) (ap (λ (a : Bool). not a || between 1 max_speed (value_at file i)) (is_not 1 h))

  past_weight : k ≢ 2 → first_refusal (from_weight file i) ≡ first_refusal (from_work file i)
  unfolding weight_test
  past_weight h = passes 6 (from_work file i) (ap (λ (a : Bool). not a || between 0 max_weight (value_at file i)) (is_not 2 h))

  past_work : k ≢ 3 → first_refusal (from_work file i) ≡ 0
  unfolding work_test
  past_work h = passes 16 [] (ap (λ (a : Bool). not a || between 0 max_startup (value_at file i)) (is_not 3 h)) ∙ passed-all

  pub other_kind : k ≢ processor_kind → k ≢ task_kind → k ≢ startup_kind → 3 ≡ first_refusal (record_tests file i)
  unfolding record_tests form_test
  other_kind f g h =
      sym (fails 3 (from_order file i)
      (ap₂ (λ (a b : Bool). (a || b || is_kind startup_kind file i) && blank file i) (is_not processor_kind f) (is_not task_kind g)
      ∙ ap (λ (c : Bool). c && blank file i) (is_not startup_kind h)))

module _ (file : List ℕ) (i : ℕ) {b : Bool} (zeros : b ≡ blank file i) where
  pub not-blank : b ≡ false → 3 ≡ first_refusal (record_tests file i)
  unfolding record_tests form_test
  not-blank h =
      sym (fails 3 (from_order file i) (ap (λ (c : Bool). kinds && c) (sym zeros ∙ h) ∙ and_false kinds))
    where
      kinds : Bool
      kinds = is_kind processor_kind file i || is_kind task_kind file i || is_kind startup_kind file i

      and_false : (a : Bool) → (a && false) ≡ false
      and_false true = refl
      and_false false = refl

  -- Where they are zero, a record of one of the kinds passes the first test.
  formed : b ≡ true → {x y z : Bool} → is_kind processor_kind file i ≡ x → is_kind task_kind file i ≡ y → is_kind startup_kind file i ≡ z → (x || y || z) ≡ true
      → first_refusal (record_tests file i) ≡ first_refusal (from_order file i)
  unfolding record_tests form_test
  formed h {x} {y} {z} p q r one =
      passes 3 (from_order file i)
      (ap₂ (λ (a c : Bool). (a || c || is_kind startup_kind file i) && blank file i) p q
      ∙ ap₂ (λ (a c : Bool). (x || y || a) && c) r (sym zeros ∙ h) ∙ ap (λ (a : Bool). a && true) one)

-- A processor's record.
module _ (file : List ℕ) (i : ℕ) {k v t : ℕ} {b : Bool} (kind : k ≡ kind_at file i) (value : v ≡ value_at file i) (zeros : b ≡ blank file i)
    (count : t ≡ length (values_of task_kind file i)) (zero : b ≡ true) (one : k ≡ 1) where
  to_order : first_refusal (record_tests file i) ≡ first_refusal (from_order file i)
  to_order =
      formed file i zeros zero (is file i kind 1 one) (is_not file i kind 2 (omega arith)) (is_not file i kind 3 (omega arith)) refl

  pub processor_late : 0 < t → 4 ≡ first_refusal (record_tests file i)
  unfolding order_test
  processor_late h =
      sym (to_order
      ∙ fails 4 (from_place file i)
      (ap₂ (λ (a c : Bool). not (a && c)) (is file i kind 1 one) (before_counted file i ∙ lt-ltb 0 (length (values_of task_kind file i)) (omega arith))))

  in_order : t ≤ 0 → first_refusal (record_tests file i) ≡ first_refusal (from_speed file i)
  unfolding order_test
  in_order h =
      to_order
      ∙ passes 4 (from_place file i)
      (ap₂ (λ (a c : Bool). not (a && c)) (is file i kind 1 one) (before_counted file i ∙ le-ltb 0 (length (values_of task_kind file i)) (omega arith)))
      ∙ past_place file i kind (omega arith)

  speed_fails : t ≤ 0 → between 1 max_speed (value_at file i) ≡ false → 5 ≡ first_refusal (record_tests file i)
  unfolding speed_test
  speed_fails h e =
      sym (in_order h ∙ fails 5 (from_weight file i) (ap₂ (λ (a c : Bool). not a || c) (is file i kind 1 one) e))

  pub processor_low : t ≤ 0 → v ≡ 0 → 5 ≡ first_refusal (record_tests file i)
  processor_low h l = speed_fails h (between_low 1 max_speed (value_at file i) (omega arith))

  pub processor_high : t ≤ 0 → {m : ℕ} → max_speed ≡ m → m < v → 5 ≡ first_refusal (record_tests file i)
  processor_high h e l = speed_fails h (between_high 1 max_speed (value_at file i) (omega arith))

  pub processor_passes : t ≤ 0 → {m : ℕ} → max_speed ≡ m → v ≢ 0 → v ≤ m → 0 ≡ first_refusal (record_tests file i)
  unfolding speed_test
  processor_passes h e l r =
      sym (in_order h
      ∙ passes 5 (from_weight file i)
      (ap₂ (λ (a c : Bool). not a || c) (is file i kind 1 one) (between_in 1 max_speed (value_at file i) (omega arith) (omega arith)))
      ∙ past_weight file i kind (omega arith) ∙ past_work file i kind (omega arith))

-- A task's record.
module _ (file : List ℕ) (i : ℕ) {k v : ℕ} {b : Bool} (kind : k ≡ kind_at file i) (value : v ≡ value_at file i) (zeros : b ≡ blank file i)
    (zero : b ≡ true) (two : k ≡ 2) where
  to_weight : first_refusal (record_tests file i) ≡ first_refusal (from_weight file i)
  to_weight =
      formed file i zeros zero (is_not file i kind 1 (omega arith)) (is file i kind 2 two) (is_not file i kind 3 (omega arith)) refl
      ∙ past_order file i kind (omega arith) ∙ past_place file i kind (omega arith) ∙ past_speed file i kind (omega arith)

  pub task_high : {m : ℕ} → max_weight ≡ m → m < v → 6 ≡ first_refusal (record_tests file i)
  unfolding weight_test
  task_high e h =
      sym (to_weight
      ∙ fails 6 (from_work file i)
      (ap₂ (λ (a c : Bool). not a || c) (is file i kind 2 two) (between_high 0 max_weight (value_at file i) (omega arith))))

  pub task_passes : {m : ℕ} → max_weight ≡ m → v ≤ m → 0 ≡ first_refusal (record_tests file i)
  unfolding weight_test
  task_passes e h =
      sym (to_weight
      ∙ passes 6 (from_work file i)
      (ap₂ (λ (a c : Bool). not a || c) (is file i kind 2 two) (between_in 0 max_weight (value_at file i) (omega arith) (omega arith)))
      ∙ past_work file i kind (omega arith))

-- A record with the start-up work.
module _ (file : List ℕ) (i : ℕ) {k v : ℕ} {b : Bool} (kind : k ≡ kind_at file i) (value : v ≡ value_at file i) (zeros : b ≡ blank file i)
    (zero : b ≡ true) (three : k ≡ 3) where
  to_place : first_refusal (record_tests file i) ≡ first_refusal (from_place file i)
  to_place =
      formed file i zeros zero (is_not file i kind 1 (omega arith)) (is_not file i kind 2 (omega arith)) (is file i kind 3 three) refl
      ∙ past_order file i kind (omega arith)

  pub startup_late : 0 < i → 15 ≡ first_refusal (record_tests file i)
  unfolding place_test
  startup_late h =
      sym (to_place ∙ fails 15 (from_speed file i) (ap₂ (λ (a c : Bool). not a || c) (is file i kind 3 three) (ne_eqb i 0 (omega arith))))

  to_work : i ≤ 0 → first_refusal (record_tests file i) ≡ first_refusal (from_work file i)
  unfolding place_test
  to_work h =
      to_place ∙ passes 15 (from_speed file i) (ap₂ (λ (a c : Bool). not a || c) (is file i kind 3 three) (eq-eqb i 0 (omega arith)))
      ∙ past_speed file i kind (omega arith) ∙ past_weight file i kind (omega arith)

  pub startup_high : i ≤ 0 → {m : ℕ} → max_startup ≡ m → m < v → 16 ≡ first_refusal (record_tests file i)
  unfolding work_test
  startup_high z e h =
      sym (to_work z
      ∙ fails 16 [] (ap₂ (λ (a c : Bool). not a || c) (is file i kind 3 three) (between_high 0 max_startup (value_at file i) (omega arith))))

  pub startup_passes : i ≤ 0 → {m : ℕ} → max_startup ≡ m → v ≤ m → 0 ≡ first_refusal (record_tests file i)
  unfolding work_test
  startup_passes z e h =
      sym (to_work z
      ∙ passes 16 [] (ap₂ (λ (a c : Bool). not a || c) (is file i kind 3 three) (between_in 0 max_startup (value_at file i) (omega arith) (omega arith)))
      ∙ passed-all)

-- The kind is a processor's exactly where the record's is.
pub processor_same : (kind : Kind) (file : List ℕ) (i : ℕ) → kind_number kind ≡ kind_at file i → sameb the_type kind Processor ≡ is_kind processor_kind file i
unfolding is_kind kind_number
processor_same kind file i e = same kind ∙ ap (λ (n : ℕ). eqb n 1) e
  where
    same : (kind : Kind) → sameb the_type kind Processor ≡ eqb (kind_number kind) 1
    same Processor = refl
    same Task = refl
    same Startup = refl

-- A record of no kind.
pub kind_fails : (file : List ℕ) (i : ℕ) {n : ℕ} {r q : Result Kind Refusal} {e : Refusal} → n ≡ byte_at file i 0 → r ≡ kind_of n → r ≡ Err e → q ≡ Err e
    → refused q ≡ first_refusal (record_tests file i)
unfolding kind_at refused code_of
kind_fails file i {n} f g h k =
    let t = kind_refused g h in
    ap refused k ∙ ap code_of (sym t.0) ∙ other_kind file i f t.1 t.2 t.3
