-- The kinds of records by their numbers.
-- Assumes nothing.
use Prim.Native.Nat.{ℕ}
use mathlib.Core.Path.{◌≡◌, sym, ap, ◌∙◌}
use mathlib.Core.Bool.{Bool, cond}
use mathlib.Core.Logic.{◌≢◌}
use native.Mathlib.Omega.{arith}
use native.Mathlib.Decide.{ℕ_discrete}
use lib.Dec.{eqb}
use borrow.Author.Tests.{eq-eqb, ne_eqb}
use Rattle.std.specs.Prelude.{Result, Ok, Err}
use Rattle.chain.specs.declared.Refusal.{Refusal}
use Rattle.chain.specs.declared.Refusal.TheVariants.{UnknownRecord}
use Rattle.jobs.specs.declared.Kind.{Kind}
use Rattle.jobs.specs.declared.Kind.TheVariants.{Processor, Task, Startup}
use Rattle.jobs.specs.Kinds.{kind_number, kind_of}

module _ (n : ℕ) where
  by_tests : (x y z : Bool) → Result Kind Refusal
  by_tests x y z = cond x (Ok Processor) (cond y (Ok Task) (cond z (Ok Startup) (Err UnknownRecord)))

  by : {x y z : Bool} → eqb n 1 ≡ x → eqb n 2 ≡ y → eqb n 3 ≡ z → kind_of n ≡ by_tests x y z
  unfolding kind_of by_tests
  by e f g = cc

  -- The four cases.
  pub kind_processor : n ≡ 1 → Ok Processor ≡ kind_of n
  unfolding by_tests
  kind_processor e = sym (by (eq-eqb n 1 e) (ne_eqb n 2 (λ z. omega arith)) (ne_eqb n 3 (λ z. omega arith)))

  pub kind_task : n ≡ 2 → Ok Task ≡ kind_of n
  unfolding by_tests
  kind_task e = sym (by (ne_eqb n 1 (λ z. omega arith)) (eq-eqb n 2 e) (ne_eqb n 3 (λ z. omega arith)))

  pub kind_startup : n ≡ 3 → Ok Startup ≡ kind_of n
  unfolding by_tests
  kind_startup e = sym (by (ne_eqb n 1 (λ z. omega arith)) (ne_eqb n 2 (λ z. omega arith)) (eq-eqb n 3 e))

  pub kind_none : n ≢ 1 → n ≢ 2 → n ≢ 3 → Err UnknownRecord ≡ kind_of n
  unfolding by_tests
  kind_none a b c = sym (by (ne_eqb n 1 a) (ne_eqb n 2 b) (ne_eqb n 3 c))

-- What the answer says of the number.
pub kind_told : {n : ℕ} {r : Result Kind Refusal} {k : Kind} → r ≡ kind_of n → r ≡ Ok k → kind_number k ≡ n
unfolding kind_number
kind_told {n} {r} {k} e f =
    elim (ℕ_discrete n 1) [
      | yes a ↦ let x : Processor ≡ k = cc (kind_processor n a) in ap kind_number (sym x) ∙ sym a
      | no a ↦ elim (ℕ_discrete n 2) [
        | yes b ↦ let x : Task ≡ k = cc (kind_task n b) in ap kind_number (sym x) ∙ sym b
        | no b ↦ elim (ℕ_discrete n 3) [
          | yes d ↦ let x : Startup ≡ k = cc (kind_startup n d) in ap kind_number (sym x) ∙ sym d
          | no d ↦ let x : ◌≡◌ {A = ℕ} 0 1 = cc (kind_none n a b d) in absurd (let z : ⊥ = omega arith in z)
        ]
      ]
    ]

-- No number of a kind is refused, and the others are with 3.
pub kind_refused : {n : ℕ} {r : Result Kind Refusal} {e : Refusal} → r ≡ kind_of n → r ≡ Err e
    → (UnknownRecord ≡ e) × (n ≢ 1) × (n ≢ 2) × (n ≢ 3)
kind_refused {n} {r} {e} f g =
    (let x : UnknownRecord ≡ e = cc (kind_none n one two three) in x, one, two, three)
  where
    one : n ≢ 1
    one z = let x : ◌≡◌ {A = ℕ} 0 1 = cc (kind_processor n z) in omega arith

    two : n ≢ 2
    two z = let x : ◌≡◌ {A = ℕ} 0 1 = cc (kind_task n z) in omega arith

    three : n ≢ 3
    three z = let x : ◌≡◌ {A = ℕ} 0 1 = cc (kind_startup n z) in omega arith

pub ruleset kind_laws = (kind_processor, kind_task, kind_startup, kind_none)
