-- The methods and the refusals by their numbers, and answers by the number of a refusal.
-- Assumes nothing.
use Prim.Native.Nat.{ℕ}
use mathlib.Core.Path.{◌≡◌, refl, sym, ap, ◌∙◌}
use mathlib.Core.Bool.{Bool, true, false, cond}
use mathlib.Core.Logic.{◌≢◌}
use native.Mathlib.Omega.{arith}
use lib.Dec.{eqb}
use borrow.Author.Tests.{eq-eqb, ne_eqb, eqb-true}
use Rattle.std.specs.Prelude.{Result, Ok, Err}
use Rattle.chain.specs.declared.Method.{Method}
use Rattle.chain.specs.declared.Method.TheVariants.{Table, Bidding, Bisection, Nicol}
use Rattle.chain.specs.declared.Refusal.{Refusal}
use Rattle.chain.specs.declared.Refusal.TheVariants.{UnknownMethod, PartialRecord, UnknownRecord, ProcessorAfterTask, SpeedRange, WeightRange, ProcessorCount, TaskCount, ShortList}
use Rattle.chain.specs.declared.Refusal.TheVariants.{BoundRange, NoPartition, PlanLength, UntruePlan, UnequalRow, LateStartup, StartupRange, FewHolds, HoldsSet}
use Rattle.chain.specs.Numbers.{number_of, chosen_of, code_of, refusal_of, refused, answered}

module _ (n : ℕ) where
  by_tests : (x y z w : Bool) → Result Method Refusal
  by_tests x y z w = cond x (Ok Table) (cond y (Ok Bidding) (cond z (Ok Bisection) (cond w (Ok Nicol) (Err UnknownMethod))))

  by : {x y z w : Bool} → eqb n 1 ≡ x → eqb n 2 ≡ y → eqb n 3 ≡ z → eqb n 4 ≡ w → chosen_of n ≡ by_tests x y z w
  unfolding chosen_of by_tests
  by e f g h = cc

  -- The five cases.
  pub chosen_table : n ≡ 1 → Ok Table ≡ chosen_of n
  unfolding by_tests
  chosen_table e = sym (by (eq-eqb n 1 e) (ne_eqb n 2 (λ z. omega arith)) (ne_eqb n 3 (λ z. omega arith)) (ne_eqb n 4 (λ z. omega arith)))

  pub chosen_bidding : n ≡ 2 → Ok Bidding ≡ chosen_of n
  unfolding by_tests
  chosen_bidding e = sym (by (ne_eqb n 1 (λ z. omega arith)) (eq-eqb n 2 e) (ne_eqb n 3 (λ z. omega arith)) (ne_eqb n 4 (λ z. omega arith)))

  pub chosen_bisection : n ≡ 3 → Ok Bisection ≡ chosen_of n
  unfolding by_tests
  chosen_bisection e = sym (by (ne_eqb n 1 (λ z. omega arith)) (ne_eqb n 2 (λ z. omega arith)) (eq-eqb n 3 e) (ne_eqb n 4 (λ z. omega arith)))

  pub chosen_nicol : n ≡ 4 → Ok Nicol ≡ chosen_of n
  unfolding by_tests
  chosen_nicol e = sym (by (ne_eqb n 1 (λ z. omega arith)) (ne_eqb n 2 (λ z. omega arith)) (ne_eqb n 3 (λ z. omega arith)) (eq-eqb n 4 e))

  pub chosen_none : n ≢ 1 → n ≢ 2 → n ≢ 3 → n ≢ 4 → Err UnknownMethod ≡ chosen_of n
  unfolding by_tests
  chosen_none a b c d = sym (by (ne_eqb n 1 a) (ne_eqb n 2 b) (ne_eqb n 3 c) (ne_eqb n 4 d))

-- A method is the one that its number stands for.
pub number_chosen : (k : Method) → chosen_of (number_of k) ≡ Ok k
unfolding chosen_of number_of
number_chosen Table = refl
number_chosen Bidding = refl
number_chosen Bisection = refl
number_chosen Nicol = refl

pub ruleset choice_laws = (chosen_table, chosen_bidding, chosen_bisection, chosen_nicol, chosen_none)

-- A refusal is the one that its number stands for, and its number is not 0.
pub code_refusal : (r : Refusal) → refusal_of (code_of r) ≡ r
unfolding refusal_of code_of
code_refusal UnknownMethod = refl
code_refusal PartialRecord = refl
code_refusal UnknownRecord = refl
code_refusal ProcessorAfterTask = refl
code_refusal SpeedRange = refl
code_refusal WeightRange = refl
code_refusal ProcessorCount = refl
code_refusal TaskCount = refl
code_refusal ShortList = refl
code_refusal BoundRange = refl
code_refusal NoPartition = refl
code_refusal PlanLength = refl
code_refusal UntruePlan = refl
code_refusal UnequalRow = refl
code_refusal LateStartup = refl
code_refusal StartupRange = refl
code_refusal FewHolds = refl
code_refusal HoldsSet = refl

pub code_nonzero : (r : Refusal) → code_of r ≢ 0
unfolding code_of
code_nonzero UnknownMethod e = omega arith
code_nonzero PartialRecord e = omega arith
code_nonzero UnknownRecord e = omega arith
code_nonzero ProcessorAfterTask e = omega arith
code_nonzero SpeedRange e = omega arith
code_nonzero WeightRange e = omega arith
code_nonzero ProcessorCount e = omega arith
code_nonzero TaskCount e = omega arith
code_nonzero ShortList e = omega arith
code_nonzero BoundRange e = omega arith
code_nonzero NoPartition e = omega arith
code_nonzero PlanLength e = omega arith
code_nonzero UntruePlan e = omega arith
code_nonzero UnequalRow e = omega arith
code_nonzero LateStartup e = omega arith
code_nonzero StartupRange e = omega arith
code_nonzero FewHolds e = omega arith
code_nonzero HoldsSet e = omega arith

-- What an accepted answer and a refused one say of the number.
pub refused_ok : {A : Type 0} {n : ℕ} {r : Result A Refusal} {x : A} → r ≡ Ok x → refused r ≡ n → n ≡ 0
unfolding refused
refused_ok e f = sym f ∙ ap refused e

pub refused_err : {A B : Type 0} {n : ℕ} {r : Result A Refusal} {q : Result B Refusal} {e : Refusal} → r ≡ Err e → q ≡ Err e → refused r ≡ n → refused q ≡ n
unfolding refused
refused_err f g h = ap refused g ∙ sym (ap refused f) ∙ h

pub err_nonzero : {A : Type 0} {n : ℕ} {r : Result A Refusal} {e : Refusal} → r ≡ Err e → refused r ≡ n → n ≢ 0
unfolding refused
err_nonzero {e = e} f h z = code_nonzero e (sym (ap refused f) ∙ h ∙ z)

-- An answer by the number of the refusal.
pub answered_ok : {A : Type 0} {n : ℕ} (x : A) → n ≡ 0 → Ok x ≡ answered n x
unfolding answered
answered_ok x e = sym (ap (λ (k : ℕ). answered k x) e)

pub answered_err : {A B : Type 0} {n : ℕ} {r : Result B Refusal} {e : Refusal} (x : A) → r ≡ Err e → refused r ≡ n → Err e ≡ answered n x
unfolding answered refused
answered_err {n = n} {e = e} x f h =
    let p : code_of e ≡ n = sym (ap refused f) ∙ h in
    ap Err (sym (code_refusal e) ∙ ap refusal_of p) ∙ sym (ap (λ (b : Bool). cond b (Ok x) (Err (refusal_of n))) (ne_eqb n 0 (err_nonzero f h)))
