-- A number above 0 is a power of two exactly where one of its binary digits is set.
-- Assumes nothing.
use Prim.Native.Nat.{ℕ, zero, suc, ◌+◌, ◌*◌, ◌/◌, ◌%◌, ◌^◌, ◌≤◌}
use mathlib.Core.Path.{◌≡◌, sym, ap, ◌∙◌}
use native.Mathlib.Omega.{arith}
use native.Mathlib.Decide.{ℕ_discrete}
use borrow.Author.Tests.{ne_eqb}
use lib.Dec.{eqb}
use Rattle.std.specs.Int.Count.{ones}
use Rattle.std.proofs.lemmas.Nat.{ones_cat, zero_from_ones}
use Rattle.chain.specs.Lists.{power_of_two}
use Rattle.chain.proofs.Halving.{power_even, power_odd, power_one}

half : (n : ℕ) → ones n ≡ ones (n / 2) + ones (n % 2)
half n = ap ones (let e : n ≡ n / 2 * 2 ^ 1 + n % 2 = omega arith in e) ∙ ones_cat 1 (n / 2) (n % 2) (omega arith)

one_digit : (fuel n : ℕ) → n ≤ fuel → 1 ≤ n → eqb (ones n) 1 ≡ power_of_two n
unfolding ones
one_digit zero n h k = absurd (let z : ⊥ = omega arith in z)
one_digit (suc fuel) n h k =
    elim (ℕ_discrete n 1) [
      | yes e ↦ ap (λ (m : ℕ). eqb (ones m) 1) e ∙ power_one n e
      | no e ↦ elim (ℕ_discrete (n % 2) 0) [
        | yes f ↦
            ap (λ (m : ℕ). eqb m 1) (half n ∙ ap (λ (r : ℕ). ones (n / 2) + ones r) f)
            ∙ ap (λ (m : ℕ). eqb m 1) (let z : ones (n / 2) + 0 ≡ ones (n / 2) = omega arith in z)
            ∙ one_digit fuel (n / 2) (omega arith) (omega arith) ∙ sym (power_even n k f)
        | no f ↦
            ne_eqb (ones n) 1
            (λ z. let r : n % 2 ≡ 1 = omega arith in
            let o : ones (n / 2) ≡ 0 = omega (arith, half n, ap ones r) in
            let q : n / 2 ≡ 0 = zero_from_ones (n / 2) o in omega arith)
            ∙ power_odd n (omega arith) f
      ]
    ]

pub power_is : (n : ℕ) → 1 ≤ n → eqb (ones n) 1 ≡ power_of_two n
power_is n h = one_digit n n (omega arith) h
