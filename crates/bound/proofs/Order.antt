-- The laws of the order of bounds. Every later inequality rests on these and on Algebra.
-- Assumes nothing.
use Prim.Native.Nat.{ℕ, zero, suc, ◌+◌, ◌*◌, ◌≤◌, ◌<◌}
use mathlib.Core.Path.{◌≡◌, refl, sym, ap, ap₂, subst}
use mathlib.Core.Bool.{Bool, true, false, not}
use mathlib.Core.Logic.{◌⊎◌, inl, inr}
use native.Mathlib.Omega.{arith}
use native.Mathlib.Decide.{dec_le}
use native.Mathlib.Nat.{mul-le-mul_right, le_of_mul-le-mul_right, one-le-mul}
use lib.Dec.{T, leb→le, le→leb, nleb→lt, T_not, not_T}
use borrow.Author.Tests.{leb-true, leb-false}
use Rattle.bound.specs.declared.Bound.{Bound}
use Rattle.bound.specs.Order.{nought, infinite, le, ◌≼◌, ◌≺◌, ◌≈◌, pick, greater, lesser, least_to, least_below, Real, Finite}

-- What the order says of the products, and back.
pub open_le : {B C : Bound} → B ≼ C → B.load * C.speed ≤ C.load * B.speed
unfolding le
open_le {B} {C} h = leb→le (B.load * C.speed) (C.load * B.speed) h.holds

pub make_le : {B C : Bound} → B.load * C.speed ≤ C.load * B.speed → B ≼ C
unfolding le
make_le {B} {C} h = record { holds = le→leb (B.load * C.speed) (C.load * B.speed) h }

pub open_lt : {B C : Bound} → B ≺ C → B.load * C.speed < C.load * B.speed
unfolding le
open_lt {B} {C} h = nleb→lt (C.load * B.speed) (B.load * C.speed) h.fails

-- Less than is the opposite of at most.
pub not_both : {B C : Bound} → B ≺ C → C ≼ B → ⊥
not_both {B} {C} l h = T_not (le C B) l.fails h.holds

pub make_lt : {B C : Bound} → B.load * C.speed < C.load * B.speed → B ≺ C
make_lt {B} {C} h = record { fails = not_T (le C B) (λ t. not-lt (open_le {B = C} {C = B} (record { holds = t }))) }
  where
    not-lt : C.load * B.speed ≤ B.load * C.speed → ⊥
    not-lt k = omega arith

pub le_or_lt : (B C : Bound) → (B ≼ C) ⊎ (C ≺ B)
le_or_lt B C = go (le B C) refl
  where
    go : (t : Bool) → le B C ≡ t → (B ≼ C) ⊎ (C ≺ B)
    go true e = inl (record { holds = subst T (sym e) tt })
    go false e = inr (record { fails = subst (λ (b : Bool). T (not b)) (sym e) tt })

pub lt-le : {B C : Bound} → B ≺ C → B ≼ C
lt-le {B} {C} h = let k : B.load * C.speed < C.load * B.speed = open_lt h in make_le (omega arith)

pub le_total : (B C : Bound) → (B ≼ C) ⊎ (C ≼ B)
le_total B C = elim (le_or_lt B C) [ inl h ↦ inl h | inr h ↦ inr (lt-le h) ]

pub le_refl : (B : Bound) → B ≼ B
le_refl B = make_le (omega arith)

-- Transitive over a middle that is not 0/0.
pub le_trans : {B C D : Bound} → Real C → B ≼ C → C ≼ D → B ≼ D
le_trans {B} {C} {D} r h k = make_le (cross B.load B.speed C.load C.speed D.load D.speed r.positive (open_le h) (open_le k))
  where
    cross : (a b c d e f : ℕ) → 0 < c + d → a * d ≤ c * b → c * f ≤ e * d → a * f ≤ e * b
    cross a b c zero e f p x y = zero-middle (le_of_mul-le-mul_right {m = f} {n = 0} {k = c} (omega arith) (omega arith))
      where
        zero-middle : f ≤ 0 → a * f ≤ e * b
        zero-middle z = let q : a * f ≤ a * 0 = native.Mathlib.Nat.mul-le-mul_left a z in omega arith
    cross a b c (suc d) e f p x y =
        le_of_mul-le-mul_right {k = suc d} (omega (arith, mul-le-mul_right f x, mul-le-mul_right b y)) (omega arith)

pub lt-le_trans : {B C D : Bound} → Real D → B ≺ C → C ≼ D → B ≺ D
lt-le_trans {B} {C} {D} r h k = elim (le_or_lt D B) [ inl x ↦ absurd (not_both h (le_trans r k x)) | inr x ↦ x ]

pub le_lt_trans : {B C D : Bound} → Real B → B ≼ C → C ≺ D → B ≺ D
le_lt_trans {B} {C} {D} r h k = elim (le_or_lt D B) [ inl x ↦ absurd (not_both k (le_trans r x h)) | inr x ↦ x ]

-- The test and the order say the same.
pub le_true : {B C : Bound} → B ≼ C → le B C ≡ true
le_true {B} {C} h = go (le B C) h.holds
  where
    go : (t : Bool) → T t → t ≡ true
    go true x = refl
    go false x = absurd x

pub le_false : {B C : Bound} → C ≺ B → le B C ≡ false
le_false {B} {C} h = go (le B C) h.fails
  where
    go : (t : Bool) → T (not t) → t ≡ false
    go true x = absurd x
    go false x = refl

pub true_le : {B C : Bound} → le B C ≡ true → B ≼ C
true_le e = record { holds = subst T (sym e) tt }

pub false_lt : {B C : Bound} → le B C ≡ false → C ≺ B
false_lt e = record { fails = subst (λ (b : Bool). T (not b)) (sym e) tt }

-- Nought is at most every bound.
pub nought-le : (B : Bound) → nought ≼ B
nought-le B = make_le (omega arith)

-- A bound is nought exactly where its load is 0.
pub nought_load : (B : Bound) → le B nought ≡ true → B.load ≡ 0
unfolding le
nought_load B e = omega (arith, leb-true (B.load * 1) (0 * B.speed) e)

pub not-nought : (B : Bound) → le B nought ≡ false → B.load ≡ 0 → ⊥
unfolding le
not-nought B e z = omega (arith, leb-false (B.load * 1) (0 * B.speed) e)

-- A bound of load 0 is at most every bound.
pub zero_load_le : {B : Bound} (C : Bound) → B.load ≡ 0 → B ≼ C
zero_load_le {B} C e = make_le (subst (λ (n : ℕ). n * C.speed ≤ C.load * B.speed) (sym e) (omega arith))

pub speed_real : {B : Bound} → 0 < B.speed → Real B
speed_real h = record { positive = omega arith }

-- A bound either has a speed or is at least every bound.
pub finite_real : {B : Bound} → Finite B → Real B
finite_real h = speed_real h.speed_positive

pub finite_or_not : (B : Bound) → (Finite B) ⊎ (B.speed ≡ 0)
finite_or_not B = elim (dec_le 1 B.speed) [ yes h ↦ inl (record { speed_positive = h }) | no h ↦ inr (omega arith) ]

pub le_speedless : (B : Bound) {C : Bound} → C.speed ≡ 0 → B ≼ C
le_speedless B {C} e = make_le (subst (λ (n : ℕ). B.load * n ≤ C.load * B.speed) (sym e) (omega arith))

-- What is at most a number is a number.
pub finite_below : {B C : Bound} → Real B → B ≼ C → Finite C → Finite B
finite_below {B} {C} r h f = elim (finite_or_not B) [ inl x ↦ x | inr e ↦ absurd (impossible e (open_le h)) ]
  where
    impossible : B.speed ≡ 0 → B.load * C.speed ≤ C.load * B.speed → ⊥
    impossible e k =
        let z : C.load * B.speed ≡ C.load * 0 = ap (λ (n : ℕ). C.load * n) e in
        omega (arith, one-le-mul {a = B.load} {b = C.speed} (omega (arith, r.positive)) f.speed_positive)

-- Equal as bounds.
pub eq_refl : (B : Bound) → B ≈ B
eq_refl B = record { to = le_refl B; from = le_refl B }

pub eq_sym : {B C : Bound} → B ≈ C → C ≈ B
eq_sym h = record { to = h.from; from = h.to }

pub eq_trans : {B C D : Bound} → Real C → B ≈ C → C ≈ D → B ≈ D
eq_trans r h k = record { to = le_trans r h.to k.to; from = le_trans r k.from h.from }

-- The greater of two is one of them, and at least each; below a bound exactly when both are.
pub greater_cases : (P : Bound → Type 0) (B C : Bound) → P B → P C → P (greater B C)
unfolding greater
greater_cases P B C x y = go (le C B)
  where
    go : (t : Bool) → P (pick t B C)
    go true = x
    go false = y

pub greater_left : (B C : Bound) → B ≼ greater B C
unfolding greater
greater_left B C = go (le C B) refl
  where
    go : (t : Bool) → le C B ≡ t → B ≼ pick t B C
    go true e = le_refl B
    go false e = lt-le (false_lt e)

pub greater_right : (B C : Bound) → C ≼ greater B C
unfolding greater
greater_right B C = go (le C B) refl
  where
    go : (t : Bool) → le C B ≡ t → C ≼ pick t B C
    go true e = true_le e
    go false e = le_refl C

pub greater-le : {B C D : Bound} → B ≼ D → C ≼ D → greater B C ≼ D
greater-le {B} {C} {D} x y = greater_cases (λ E. E ≼ D) B C x y

pub le-greater_left : (B C : Bound) {D : Bound} → Real (greater B C) → greater B C ≼ D → B ≼ D
le-greater_left B C r h = le_trans r (greater_left B C) h

pub le-greater_right : (B C : Bound) {D : Bound} → Real (greater B C) → greater B C ≼ D → C ≼ D
le-greater_right B C r h = le_trans r (greater_right B C) h

-- The lesser of two is one of them, and at most each.
pub lesser_cases : (P : Bound → Type 0) (B C : Bound) → P B → P C → P (lesser B C)
unfolding lesser
lesser_cases P B C x y = go (le B C)
  where
    go : (t : Bool) → P (pick t B C)
    go true = x
    go false = y

pub lesser_left : (B C : Bound) → lesser B C ≼ B
unfolding lesser
lesser_left B C = go (le B C) refl
  where
    go : (t : Bool) → le B C ≡ t → pick t B C ≼ B
    go true e = le_refl B
    go false e = lt-le (false_lt e)

pub lesser_right : (B C : Bound) → lesser B C ≼ C
unfolding lesser
lesser_right B C = go (le B C) refl
  where
    go : (t : Bool) → le B C ≡ t → pick t B C ≼ C
    go true e = true_le e
    go false e = le_refl C

-- Which one is the greater, and which the lesser, by the test.
pub greater_first : (B C : Bound) → le C B ≡ true → B ≡ greater B C
unfolding greater
greater_first B C e = ap (λ (t : Bool). pick t B C) (sym e)

pub greater_second : (B C : Bound) → le C B ≡ false → C ≡ greater B C
unfolding greater
greater_second B C e = ap (λ (t : Bool). pick t B C) (sym e)

pub lesser_first : (B C : Bound) → le B C ≡ true → B ≡ lesser B C
unfolding lesser
lesser_first B C e = ap (λ (t : Bool). pick t B C) (sym e)

pub lesser_second : (B C : Bound) → le B C ≡ false → C ≡ lesser B C
unfolding lesser
lesser_second B C e = ap (λ (t : Bool). pick t B C) (sym e)

-- The infinite bound is above every bound with a speed, so the lesser of it and such a bound, or itself, is that bound.
pub infinite_real : Real infinite
infinite_real = record { positive = omega arith }

pub below_infinite : {B : Bound} → 1 ≤ B.speed → B ≺ infinite
below_infinite h = make_lt (omega arith)

pub lesser-infinite : (B : Bound) → (1 ≤ B.speed) ⊎ (B ≡ infinite) → lesser infinite B ≡ B
lesser-infinite B (inl h) = sym (lesser_second infinite B (le_false {B = infinite} {C = B} (below_infinite h)))
lesser-infinite B (inr e) = lesser_cases (λ C. C ≡ B) infinite B (sym e) refl

-- The least of several: a property of each is the least's,
pub least_cases : (Q : Bound → Type 0) (f : ℕ → Bound) (n : ℕ) → ((p : ℕ) → p ≤ n → Q (f p)) → Q (least_to f n)
unfolding least_to
least_cases Q f zero h = h 0 (omega arith)
least_cases Q f (suc n) h = lesser_cases Q (least_to f n) (f (suc n)) (least_cases Q f n (λ p l. h p (omega arith))) (h (suc n) (omega arith))

-- it is at most each,
pub least_le : (f : ℕ → Bound) → ((p : ℕ) → Real (f p)) → (n p : ℕ) → p ≤ n → least_to f n ≼ f p
unfolding least_to
least_le f r zero p h = subst (λ (i : ℕ). f 0 ≼ f i) (let e : 0 ≡ p = omega arith in e) (le_refl (f 0))
least_le f r (suc n) p h =
    elim (dec_le p n) [
      | yes l ↦ le_trans (least_cases Real f n (λ i k. r i)) (lesser_left (least_to f n) (f (suc n))) (least_le f r n p l)
      | no l ↦
          subst (λ (i : ℕ). lesser (least_to f n) (f (suc n)) ≼ f i) (let e : suc n ≡ p = omega arith in e)
          (lesser_right (least_to f n) (f (suc n)))
    ]

-- that of equal ones is the same,
pub least_same : {f g : ℕ → Bound} (n : ℕ) → ((p : ℕ) → p ≤ n → f p ≡ g p) → least_to f n ≡ least_to g n
unfolding least_to
least_same zero h = h 0 (omega arith)
least_same (suc n) h = ap₂ lesser (least_same n (λ p l. h p (omega arith))) (h (suc n) (omega arith))

-- and one with a speed, or the infinite one, is counted in by `lesser`, the first of them too.
pub least_next : (f : ℕ → Bound) (n : ℕ) → (1 ≤ (f n).speed) ⊎ (f n ≡ infinite) → lesser (least_below f n) (f n) ≡ least_to f n
unfolding least_to least_below
least_next f zero h = lesser-infinite (f 0) h
least_next f (suc n) h = refl
