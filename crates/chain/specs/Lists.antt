-- Sums, extremes and searches: the plain words that the other pages use.
use Rattle.std.specs.Prelude.{ℕ, zero, suc, ◌+◌, ◌-◌, ◌/◌, ◌^◌, Bool, true, false, not, cond, ◌&&◌, List, [], ◌∷◌, leb, eqb}

-- The sum of a list.
unfoldable pub sum : List ℕ → ℕ
sum [] = 0
sum (x ∷ xs) = x + sum xs

-- The greatest of a list, 0 of none.
unfoldable pub greatest_of : List ℕ → ℕ
greatest_of [] = 0
greatest_of (x ∷ xs) = let rest = greatest_of xs in cond (leb rest x) x rest

-- The least of x and a list.
unfoldable pub least_of : ℕ → List ℕ → ℕ
least_of x [] = x
least_of x (y ∷ ys) = let rest = least_of y ys in cond (leb x rest) x rest

-- f 0, f 1, .. f (n - 1).
unfoldable pub tabulate : (ℕ → ℕ) → ℕ → List ℕ
tabulate f zero = []
tabulate f (suc n) = f 0 ∷ tabulate (λ i. f (suc i)) n

-- f 0 + f 1 + .. + f (n - 1).
unfoldable pub sum_to : (ℕ → ℕ) → ℕ → ℕ
sum_to f zero = 0
sum_to f (suc n) = sum_to f n + f n

-- f holds at every index below n.
unfoldable pub all : (ℕ → Bool) → ℕ → Bool
all f zero = true
all f (suc n) = all f n && f n

-- f holds of every number of the list.
unfoldable pub each_of : (ℕ → Bool) → List ℕ → Bool
each_of f [] = true
each_of f (x ∷ xs) = f x && each_of f xs

-- k is the first index at which f holds.
unfoldable pub is_first : (ℕ → Bool) → ℕ → Bool
is_first f k = f k && all (λ j. not (f j)) k

-- The greatest index from a to a + d at which f holds, a if there is none.
unfoldable pub greatest_from : (ℕ → Bool) → ℕ → ℕ → ℕ
greatest_from f a zero = a
greatest_from f a (suc d) = elim (f (a + suc d)) [ true ↦ a + suc d | false ↦ greatest_from f a d ]

-- The smallest index from a to a + d at which f holds, a + d if there is none.
unfoldable pub smallest_from : (ℕ → Bool) → ℕ → ℕ → ℕ
smallest_from f a zero = a
smallest_from f a (suc d) = elim (f a) [ true ↦ a | false ↦ smallest_from f (suc a) d ]

-- The smallest index from 0 to n at which f is least.
unfoldable pub smallest_least : (ℕ → ℕ) → ℕ → ℕ
smallest_least f zero = 0
smallest_least f (suc n) = let m = smallest_least f n in cond (leb (f m) (f (suc n))) m (suc n)

-- How far two numbers are apart.
abbrev pub distance : ℕ → ℕ → ℕ
distance a b = (a - b) + (b - a)

-- The number of binary digits of n, 0 having none: n is halved until nothing is left, at most as often as the fuel says.
unfoldable pub digits_within : ℕ → ℕ → ℕ
digits_within zero n = 0
digits_within (suc fuel) n = elim (eqb n 0) [ true ↦ 0 | false ↦ suc (digits_within fuel (n / 2)) ]

unfoldable pub digits : ℕ → ℕ
digits n = digits_within n n

-- How often n is halved, rounding down, until 1 is left.
unfoldable pub levels : ℕ → ℕ
levels n = digits (n / 2)

-- Scope 16.1: "a power of two: 1, 2, 4 and so on"
unfoldable pub power_of_two : ℕ → Bool
power_of_two n = eqb (2 ^ levels n) n
