-- The small algebra of fractions: sum, half, multiple, midpoint, rounding up.
-- Assumes nothing.
use Prim.Native.Nat.{ℕ, suc, ◌+◌, ◌-◌, ◌*◌, ◌≤◌, ◌<◌, ◌/◌}
use mathlib.Core.Path.{◌≡◌, sym, subst}
use mathlib.Core.Logic.{◌↔◌}
use native.Mathlib.Omega.{arith}
use native.Mathlib.Nat.{mul-le-mul_right, le_of_mul-le-mul_right, one-le-mul, div-lt_iff_lt-mul}
use Rattle.std.specs.Int.{div_ceil}
use Rattle.std.proofs.lemmas.Grind.{div_ceil_times}
use Rattle.bound.specs.declared.Bound.{Bound}
use Rattle.bound.specs.Order.{over, ◌≼◌, plus, half, times, middle, rounded_up, Finite}
use Rattle.bound.proofs.Order.{open_le, make_le}

pub plus_comm : (B C : Bound) → plus B C ≼ plus C B
plus_comm B C = make_le (omega arith)

pub plus_mono : {B C D E : Bound} → B ≼ D → C ≼ E → plus B C ≼ plus D E
plus_mono {B} {C} {D} {E} h k =
    make_le (omega (arith, mul-le-mul_right (C.speed * E.speed) (open_le h), mul-le-mul_right (B.speed * D.speed) (open_le k)))

-- A common summand cancels.
pub plus_cancel : {B C : Bound} (D : Bound) → 0 < D.speed → plus B D ≼ plus C D → B ≼ C
plus_cancel {B} {C} D p h =
    make_le (le_of_mul-le-mul_right {k = D.speed * D.speed} (omega (arith, open_le h)) (one-le-mul p p))

-- A summand more is no less.
pub plus_left : (B C : Bound) → B ≼ plus B C
plus_left B C = make_le (omega arith)

pub plus_right : (B C : Bound) → C ≼ plus B C
plus_right B C = make_le (omega arith)

-- The midpoint of two bounds lies between them.
pub middle_above : {B C : Bound} → B ≼ C → B ≼ middle B C
middle_above {B} {C} h = make_le (omega (arith, mul-le-mul_right B.speed (open_le h)))

pub middle_below : {B C : Bound} → B ≼ C → middle B C ≼ C
middle_below {B} {C} h = make_le (omega (arith, mul-le-mul_right C.speed (open_le h)))

-- Two halves are the whole.
pub half_twice : (B : Bound) → plus (half B) (half B) ≼ B
half_twice B = make_le (omega arith)

pub twice_half : (B : Bound) → B ≼ plus (half B) (half B)
twice_half B = make_le (omega arith)

pub times_mono : (n : ℕ) {B C : Bound} → B ≼ C → times n B ≼ times n C
times_mono n h = make_le (omega (arith, mul-le-mul_right n (open_le h)))

pub times_cancel : (n : ℕ) {B C : Bound} → 0 < n → times n B ≼ times n C → B ≼ C
times_cancel n {B} {C} p h = make_le (le_of_mul-le-mul_right {k = n} (omega (arith, open_le h)) p)

-- A quotient is at most n exactly where the dividend is below n + 1 divisors.
quotient_below : {k x n : ℕ} → 0 < k → x / k ≤ n → x < suc n * k
quotient_below {k} {x} {n} p h = (div-lt_iff_lt-mul {k = k} {x = x} {y = suc n} p).0 (omega arith)

below_quotient : {k x n : ℕ} → 0 < k → x < suc n * k → x / k ≤ n
below_quotient {k} {x} {n} p h = let l : x / k < suc n = (div-lt_iff_lt-mul {k = k} {x = x} {y = suc n} p).1 h in omega arith

-- Rounded up, a bound is the least whole number that is not below it.
pub rounded_least : {B : Bound} → Finite B → (n : ℕ) → (rounded_up B ≤ n) ↔ (B ≼ over n 1)
unfolding rounded_up
rounded_least {B} f n = (
  λ h. make_le (omega (arith, quotient_below f.speed_positive h)),
  λ h. below_quotient f.speed_positive (omega (arith, open_le h)),
)

-- As std rounds a quotient up.
pub rounded_is : (B : Bound) {n : ℕ} → 0 < B.speed → n ≡ div_ceil B.load B.speed → n ≡ rounded_up B
unfolding rounded_up
rounded_is B {n} p e = omega (arith, least, below)
  where
    times : (B.load ≤ n * B.speed) × (n * B.speed < B.load + B.speed)
    times = subst (λ (m : ℕ). (B.load ≤ m * B.speed) × (m * B.speed < B.load + B.speed)) (sym e) (div_ceil_times B.load B.speed p)

    least : (B.load + (B.speed - 1)) / B.speed ≤ n
    least = below_quotient p (omega (arith, times.0))

    below : (B.load + (B.speed - 1)) / B.speed < n → ⊥
    below h = let l : B.load + (B.speed - 1) < n * B.speed = (div-lt_iff_lt-mul {k = B.speed} {y = n} p).0 h in omega (arith, times.1)
