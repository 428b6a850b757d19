-- The methods by their numbers: what the choice says of the test of the number.
-- Assumes nothing.
use Prim.Native.Nat.{ℕ, ◌≤◌}
use mathlib.Core.Path.{◌≡◌, refl, sym, ap, ◌∙◌}
use mathlib.Core.Bool.{true, false}
use mathlib.Core.Logic.{◌≢◌}
use denote.Enum.Bare.{sameb}
use mathlib.Core.List.{[], ◌∷◌}
use native.Mathlib.Omega.{arith}
use native.Mathlib.Decide.{ℕ_discrete, dec_le}
use Rattle.std.specs.Prelude.{Ok, Err}
use Rattle.chain.specs.declared.Method.{Method}
use Rattle.chain.specs.contracts.Method.{the_type}
use Rattle.chain.specs.declared.Method.TheVariants.{Table, Bidding, Bisection, Nicol}
use Rattle.chain.specs.declared.Refusal.TheVariants.{UnknownMethod}
use Rattle.chain.specs.Refusal.{method_test, first_refusal}
use Rattle.chain.specs.Numbers.{number_of, chosen_of, code_of, refused}
use Rattle.chain.proofs.Numbers.{chosen_table, chosen_bidding, chosen_bisection, chosen_nicol, chosen_none}
use Rattle.refusals.proofs.Tests.{method_low, method_high, method_in}

module _ (n : ℕ) where
  -- The test of a number says whether it is a method's.
  pub method_refused : refused (chosen_of n) ≡ first_refusal (method_test n ∷ [])
  unfolding refused code_of
  method_refused =
      elim (dec_le 1 n) [
        | no a ↦ ap refused (sym (chosen_none n (λ z. omega arith) (λ z. omega arith) (λ z. omega arith) (λ z. omega arith))) ∙ method_low n (omega arith)
        | yes a ↦ elim (dec_le n 4) [
          | no b ↦ ap refused (sym (chosen_none n (λ z. omega arith) (λ z. omega arith) (λ z. omega arith) (λ z. omega arith))) ∙ method_high n (omega arith)
          | yes b ↦ known a b ∙ method_in n a b
        ]
      ]
    where
      known : 1 ≤ n → n ≤ 4 → refused (chosen_of n) ≡ 0
      known a b =
          elim (ℕ_discrete n 1) [
            | yes x ↦ ap refused (sym (chosen_table n x))
            | no x ↦ elim (ℕ_discrete n 2) [
              | yes y ↦ ap refused (sym (chosen_bidding n y))
              | no y ↦ elim (ℕ_discrete n 3) [ yes w ↦ ap refused (sym (chosen_bisection n w)) | no w ↦ ap refused (sym (chosen_nicol n (omega arith))) ]
            ]
          ]

  -- A number whose method is known passes the test of number 1,
  pub known_passes : {k : Method} → chosen_of n ≡ Ok k → 0 ≡ first_refusal (method_test n ∷ [])
  unfolding refused
  known_passes e = sym (ap refused e) ∙ method_refused

  -- and one that is no method's fails it.
  pub unknown_fails : chosen_of n ≡ Err UnknownMethod → 1 ≡ first_refusal (method_test n ∷ [])
  unfolding refused code_of
  unknown_fails e = sym (ap refused e) ∙ method_refused

-- The test of whether a method is Nicol's search is that of its number.
pub nicol_true : (k : Method) → sameb the_type k Nicol ≡ true → number_of k ≡ 4
unfolding number_of
nicol_true Table e = cc
nicol_true Bidding e = cc
nicol_true Bisection e = cc
nicol_true Nicol e = refl

pub nicol_false : (k : Method) → sameb the_type k Nicol ≡ false → number_of k ≢ 4
unfolding number_of
nicol_false Table e n = omega arith
nicol_false Bidding e n = omega arith
nicol_false Bisection e n = omega arith
nicol_false Nicol e n = cc
