-- Sums of lists and of numbered terms.
-- Assumes nothing.
use Prim.Native.Nat.{ℕ, zero, suc, ◌+◌, ◌*◌, ◌≤◌, ◌<◌}
use mathlib.Core.Path.{◌≡◌, refl, sym, ap, ◌∙◌}
use mathlib.Core.List.{List, [], ◌∷◌, ◌++◌}
use native.Mathlib.Omega.{arith}
use native.Mathlib.Decide.{dec_le}
use lib.ListN.{length, get_or, take, drop, take-append-drop}
use Rattle.chain.specs.Lists.{sum, sum_to}

-- The sum of a list, cut in two; no part of it is more.
pub sum-append : (xs ys : List ℕ) → sum (xs ++ ys) ≡ sum xs + sum ys
unfolding sum
sum-append [] ys = omega arith
sum-append (x ∷ xs) ys = omega (arith, sum-append xs ys)

pub sum-take : (n : ℕ) (xs : List ℕ) → sum (take n xs) ≤ sum xs
sum-take n xs = omega (arith, sum-append (take n xs) (drop n xs), ap sum (take-append-drop n xs))

pub sum_drop : (n : ℕ) (xs : List ℕ) → sum (drop n xs) ≤ sum xs
sum_drop n xs = omega (arith, sum-append (take n xs) (drop n xs), ap sum (take-append-drop n xs))

-- A sum of numbered terms, its first term apart.
sum_first : (f : ℕ → ℕ) (n : ℕ) → sum_to f (suc n) ≡ f 0 + sum_to (λ i. f (suc i)) n
unfolding sum_to
sum_first f zero = omega arith
sum_first f (suc n) = omega (arith, sum_first f n)

-- The sum of a list is the sum of what stands in it, index by index.
pub sum_is_sum_to : (xs : List ℕ) (d : ℕ) → sum xs ≡ sum_to (λ i. get_or xs i d) (length xs)
unfolding sum sum_to
sum_is_sum_to [] d = refl
sum_is_sum_to (x ∷ xs) d = ap (λ (n : ℕ). x + n) (sum_is_sum_to xs d) ∙ sym (sum_first (λ i. get_or (x ∷ xs) i d) (length xs))

-- A sum of numbered terms grows with its number of terms.
pub sum_grows : (f : ℕ → ℕ) (p q : ℕ) → p ≤ q → sum_to f p ≤ sum_to f q
unfolding sum_to
sum_grows f p zero h = rw (let e : p ≡ 0 = omega arith in e) (omega arith)
sum_grows f p (suc q) h =
    elim (dec_le p q) [ yes l ↦ omega (arith, sum_grows f p q l) | no l ↦ rw (let e : p ≡ suc q = omega arith in e) (omega arith) ]

-- Equal terms have equal sums.
pub sum_same_below : {f g : ℕ → ℕ} (n : ℕ) → ((p : ℕ) → p < n → f p ≡ g p) → sum_to f n ≡ sum_to g n
unfolding sum_to
sum_same_below zero h = refl
sum_same_below (suc n) h = omega (arith, sum_same_below n (λ p k. h p (omega arith)), h n (omega arith))

pub sum_same : {f g : ℕ → ℕ} → ((p : ℕ) → f p ≡ g p) → (n : ℕ) → sum_to f n ≡ sum_to g n
sum_same h n = sum_same_below n (λ p k. h p)

-- A sum of greater or equal terms, one of them greater, is greater.
pub sum_mono : (f g : ℕ → ℕ) → ((p : ℕ) → f p ≤ g p) → (n : ℕ) → sum_to f n ≤ sum_to g n
unfolding sum_to
sum_mono f g h zero = omega arith
sum_mono f g h (suc n) = omega (arith, sum_mono f g h n, h n)

pub sum_mono_at : (f g : ℕ → ℕ) → ((p : ℕ) → f p ≤ g p) → (n i : ℕ) → i < n → f i < g i → sum_to f n < sum_to g n
unfolding sum_to
sum_mono_at f g h zero i l m = absurd (let z : ⊥ = omega arith in z)
sum_mono_at f g h (suc n) i l m =
    elim (dec_le (suc i) n) [
      | yes x ↦ omega (arith, sum_mono_at f g h n i x m, h n)
      | no x ↦ omega (arith, sum_mono f g h n, ap f (let e : n ≡ i = omega arith in e), ap g (let e : n ≡ i = omega arith in e))
    ]

-- Terms of at most m have a sum of at most their number times m; terms below m leave room for their number.
pub sum-le : {f : ℕ → ℕ} (m : ℕ) → ((p : ℕ) → f p ≤ m) → (n : ℕ) → sum_to f n ≤ n * m
unfolding sum_to
sum-le m h zero = omega arith
sum-le m h (suc n) = omega (arith, sum-le m h n, h n)

pub sum_limit : (xs : List ℕ) (d m : ℕ) → ((i : ℕ) → get_or xs i d ≤ m) → sum xs ≤ length xs * m
sum_limit xs d m h = omega (arith, sum_is_sum_to xs d, sum-le {f = λ i. get_or xs i d} m h (length xs))

pub sum_below : (f : ℕ → ℕ) (m n : ℕ) → ((p : ℕ) → p < n → f p < m) → sum_to f n + n ≤ n * m
unfolding sum_to
sum_below f m zero h = omega arith
sum_below f m (suc n) h = omega (arith, sum_below f m n (λ p l. h p (omega arith)), h n (omega arith))
