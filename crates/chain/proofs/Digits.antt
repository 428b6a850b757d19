-- The number of binary digits: n is below 2 to the digits of n, no smaller power will do, and code may count leading zeros.
-- Assumes nothing.
use Prim.Native.Nat.{ℕ, zero, suc, ◌+◌, ◌-◌, ◌/◌, ◌^◌, ◌≤◌, ◌<◌}
use mathlib.Core.Path.{◌≡◌, refl, sym, ap, subst}
use mathlib.Core.Bool.{Bool, true, false}
use native.Mathlib.Omega.{arith}
use lib.Dec.{eqb-suc-zero}
use lib.Pow.{pow_pos}
use lib.Count.{count_leading_zeros, leading_of_zero}
use Rattle.chain.specs.Lists.{digits_within, digits}

-- One halving.
within-zero : (f : ℕ) → digits_within f 0 ≡ 0
unfolding digits_within
within-zero zero = refl
within-zero (suc f) = refl

within-suc : (f n : ℕ) → digits_within (suc f) (suc n) ≡ suc (digits_within f (suc n / 2))
unfolding digits_within
within-suc f n = ap (λ (b : Bool). elim b [ true ↦ 0 | false ↦ suc (digits_within f (suc n / 2)) ]) (eqb-suc-zero n)

within_above : (f n : ℕ) → n ≤ f → n < 2 ^ digits_within f n
within_above zero n h = omega (arith, pow_pos (digits_within 0 n))
within_above (suc f) zero h = pow_pos (digits_within (suc f) 0)
within_above (suc f) (suc n) h =
    let k : suc n / 2 < 2 ^ digits_within f (suc n / 2) = within_above f (suc n / 2) (omega arith) in
    subst (λ (d : ℕ). suc n < 2 ^ d) (sym (within-suc f n)) (omega arith)

within_least : (f n k : ℕ) → n ≤ f → 2 ^ k ≤ n → k < digits_within f n
within_least zero n k h p = absurd (let z : ⊥ = omega (arith, pow_pos k) in z)
within_least (suc f) zero k h p = absurd (let z : ⊥ = omega (arith, pow_pos k) in z)
within_least (suc f) (suc n) zero h p = omega (arith, within-suc f n)
within_least (suc f) (suc n) (suc k) h p = omega (arith, within-suc f n, within_least f (suc n / 2) k (omega arith) (omega arith))

within_leading : (f k n : ℕ) → n ≤ f → n < 2 ^ k → digits_within f n + count_leading_zeros k n ≡ k
unfolding count_leading_zeros
within_leading zero k zero h p = omega (arith, within-zero 0, leading_of_zero k)
within_leading zero k (suc n) h p = absurd (let z : ⊥ = omega arith in z)
within_leading (suc f) k zero h p = omega (arith, within-zero (suc f), leading_of_zero k)
within_leading (suc f) zero (suc n) h p = absurd (let z : ⊥ = omega arith in z)
within_leading (suc f) (suc k) (suc n) h p = omega (arith, within-suc f n, within_leading f k (suc n / 2) (omega arith) (omega arith))

within_mono : (f g m n : ℕ) → m ≤ f → n ≤ g → m ≤ n → digits_within f m ≤ digits_within g n
unfolding digits_within
within_mono zero g m n h k l = omega arith
within_mono (suc f) g zero n h k l = omega arith
within_mono (suc f) g (suc m) zero h k l = absurd (let z : ⊥ = omega arith in z)
within_mono (suc f) zero (suc m) (suc n) h k l = absurd (let z : ⊥ = omega arith in z)
within_mono (suc f) (suc g) (suc m) (suc n) h k l =
    omega (arith, within-suc f m, within-suc g n, within_mono f g (suc m / 2) (suc n / 2) (omega arith) (omega arith) (omega arith))

-- A number is below the power of two that has as many digits as it.
pub digits_above : (n : ℕ) → n < 2 ^ digits n
unfolding digits
digits_above n = within_above n n (omega arith)

-- A power of two that is within n has fewer doublings than n has digits.
pub digits_least : (n k : ℕ) → 2 ^ k ≤ n → k < digits n
unfolding digits
digits_least n k h = within_least n n k (omega arith) h

-- Of the k places of a word, those that are not leading zeros.
pub digits_leading : (k n : ℕ) → n < 2 ^ k → digits n ≡ k - count_leading_zeros k n
unfolding digits
digits_leading k n h = omega (arith, within_leading n k n (omega arith) h)

-- A number below a power of two has no more digits than its doublings.
pub digits_below : (n k : ℕ) → n < 2 ^ k → digits n ≤ k
digits_below n k h = omega (arith, digits_leading k n h)

-- A greater number has no fewer digits.
pub digits_mono : (m n : ℕ) → m ≤ n → digits m ≤ digits n
unfolding digits
digits_mono m n h = within_mono m n m n (omega arith) (omega arith) h
