-- Bounds and their order, and the algebra of fractions over unbounded numbers.
use Rattle.std.specs.Prelude.{ℕ, zero, suc, ◌+◌, ◌-◌, ◌*◌, ◌/◌, ◌<◌, Bool, true, false, not, T, leb}
use Rattle.bound.specs.declared.Bound.{Bound}

-- Scope 2.1: "A bound is a pair: a load over a speed". The pair a/b.
abbrev pub over : ℕ → ℕ → Bound
over a b = record { load = a; speed = b }

-- Scope 2.2: "Nought is the bound 0/1"
abbrev pub nought : Bound
nought = over 0 1

-- 1/0, above every bound with a speed.
abbrev pub infinite : Bound
infinite = over 1 0

-- Scope 2.3: "a/b is at most c/d where a × d is at most c × b"
unfoldable pub le : Bound → Bound → Bool
le B C = leb (B.load * C.speed) (C.load * B.speed)

-- B is at most C.
infix 40 ◌≼◌
pub record ◌≼◌ (B C : Bound) : Type 0 where
  pub holds : T (le B C)

-- B is less than C: C is not at most B.
infix 40 ◌≺◌
pub record ◌≺◌ (B C : Bound) : Type 0 where
  pub fails : T (not (le C B))

-- B and C are equal as bounds.
infix 40 ◌≈◌
pub record ◌≈◌ (B C : Bound) : Type 0 where
  pub to : B ≼ C
  pub from : C ≼ B

-- The first of two where the test passes, the second where it fails.
abbrev pub pick : Bool → Bound → Bound → Bound
pick true B C = B
pick false B C = C

-- The greater of two bounds, the first among equals.
unfoldable pub greater : Bound → Bound → Bound
greater B C = pick (le C B) B C

-- The lesser of two bounds, the first among equals.
unfoldable pub lesser : Bound → Bound → Bound
lesser B C = pick (le B C) B C

-- The least of f 0 to f n, the first among equals.
unfoldable pub least_to : (ℕ → Bound) → ℕ → Bound
least_to f zero = f 0
least_to f (suc n) = lesser (least_to f n) (f (suc n))

-- The least of those below n, infinite of none.
unfoldable pub least_below : (ℕ → Bound) → ℕ → Bound
least_below f zero = infinite
least_below f (suc n) = least_to f n

-- The sum of two bounds: a/b + c/d = (a × d + c × b) / (b × d).
abbrev pub plus : Bound → Bound → Bound
plus B C = over (B.load * C.speed + C.load * B.speed) (B.speed * C.speed)

-- Half a bound.
abbrev pub half : Bound → Bound
half B = over B.load (2 * B.speed)

-- A multiple of a bound.
abbrev pub times : ℕ → Bound → Bound
times n B = over (n * B.load) B.speed

-- The midpoint: half the sum.
abbrev pub middle : Bound → Bound → Bound
middle B C = half (plus B C)

-- A bound rounded up to a whole number.
unfoldable pub rounded_up : Bound → ℕ
rounded_up B = (B.load + (B.speed - 1)) / B.speed

-- A bound that is a number or above all numbers: any but 0/0.
pub record Real (B : Bound) : Type 0 where
  pub positive : 0 < B.load + B.speed

-- A bound that is a number: it has a speed.
pub record Finite (B : Bound) : Type 0 where
  pub speed_positive : 0 < B.speed
