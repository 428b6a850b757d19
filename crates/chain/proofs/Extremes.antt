-- The greatest of a list is at least each of its numbers and one of them, the slowest speed at most each and one of them; the
-- weights and speeds of a job lie between its extremes.
-- Assumes nothing.
use Prim.Native.Nat.{ℕ, zero, suc, ◌+◌, ◌-◌, ◌≤◌, ◌<◌}
use mathlib.Core.Path.{◌≡◌, refl, ap, ◌∙◌}
use mathlib.Core.Bool.{Bool, true, false, cond}
use mathlib.Core.List.{List, [], ◌∷◌}
use native.Mathlib.Omega.{arith}
use lib.Dec.{leb}
use lib.ListN.{length, get_or, take, drop}
use borrow.Author.Tests.{leb-true, leb-false}
use Rattle.chain.specs.Lists.{sum, greatest_of, least_of}
use Rattle.chain.specs.Job.{Job, processors, speed_of, part_of, part_weight, heaviest, fastest, slowest_of, slowest}
use Rattle.chain.proofs.Parts.{Proper, weight_split}

-- What holds of both numbers holds of the picked one; picked by their order it is at least, or at most, each.
pick_cases : (Q : ℕ → Type 0) (t : Bool) (x y : ℕ) → Q x → Q y → Q (cond t x y)
pick_cases Q true x y a b = a
pick_cases Q false x y a b = b

pick-greater : (x y : ℕ) → (x ≤ cond (leb y x) x y) × (y ≤ cond (leb y x) x y)
pick-greater x y = go (leb y x) refl
  where
    go : (t : Bool) → leb y x ≡ t → (x ≤ cond t x y) × (y ≤ cond t x y)
    go true e = (omega arith, leb-true y x e)
    go false e = (omega (arith, leb-false y x e), omega arith)

pick-lesser : (x y : ℕ) → (cond (leb x y) x y ≤ x) × (cond (leb x y) x y ≤ y)
pick-lesser x y = go (leb x y) refl
  where
    go : (t : Bool) → leb x y ≡ t → (cond t x y ≤ x) × (cond t x y ≤ y)
    go true e = (omega arith, leb-true x y e)
    go false e = (omega (arith, leb-false x y e), omega arith)

-- Within a list it does not matter what reads past its end.
pub same_default : (xs : List ℕ) (i a b : ℕ) → i < length xs → get_or xs i a ≡ get_or xs i b
same_default [] i a b h = absurd (let z : ⊥ = omega arith in z)
same_default (x ∷ xs) zero a b h = refl
same_default (x ∷ xs) (suc i) a b h = same_default xs i a b (omega arith)

-- 0 past the end is the least that can be read.
pub default_le : (xs : List ℕ) (i d : ℕ) → get_or xs i 0 ≤ get_or xs i d
default_le [] i d = omega arith
default_le (x ∷ xs) zero d = omega arith
default_le (x ∷ xs) (suc i) d = default_le xs i d

-- Every number of a list is at most the greatest.
pub greatest_of_le : (xs : List ℕ) (i : ℕ) → get_or xs i 0 ≤ greatest_of xs
unfolding greatest_of
greatest_of_le [] i = omega arith
greatest_of_le (x ∷ xs) zero = (pick-greater x (greatest_of xs)).0
greatest_of_le (x ∷ xs) (suc i) = omega (arith, greatest_of_le xs i, (pick-greater x (greatest_of xs)).1)

-- What holds of every number of a list, and of 0 past its end, holds of the greatest.
pub greatest_cases : (Q : ℕ → Type 0) (xs : List ℕ) → ((i : ℕ) → Q (get_or xs i 0)) → Q (greatest_of xs)
unfolding greatest_of
greatest_cases Q [] h = h 0
greatest_cases Q (x ∷ xs) h =
    pick_cases Q (leb (greatest_of xs) x) x (greatest_of xs) (h 0) (greatest_cases Q xs (λ i. h (suc i)))

-- The slowest is at most every speed of the list.
pub slowest-le : (es : List ℕ) (p : ℕ) → p < length es → slowest_of es ≤ get_or es p 1
unfolding slowest_of least_of
slowest-le [] p h = absurd (let z : ⊥ = omega arith in z)
slowest-le (e ∷ []) zero h = omega arith
slowest-le (e ∷ []) (suc p) h = absurd (let z : ⊥ = omega arith in z)
slowest-le (e ∷ f ∷ es) zero h = (pick-lesser e (least_of f es)).0
slowest-le (e ∷ f ∷ es) (suc p) h =
    omega (arith, slowest-le (f ∷ es) p (omega arith), (pick-lesser e (least_of f es)).1)

-- What holds of every speed of a list, and of 1 past its end, holds of the slowest.
pub slowest_cases : (Q : ℕ → Type 0) (es : List ℕ) → ((p : ℕ) → Q (get_or es p 1)) → Q (slowest_of es)
unfolding slowest_of least_of
slowest_cases Q [] h = h 0
slowest_cases Q (e ∷ []) h = h 0
slowest_cases Q (e ∷ f ∷ es) h =
    pick_cases Q (leb e (least_of f es)) e (least_of f es) (h 0) (slowest_cases Q (f ∷ es) (λ p. h (suc p)))

-- What stands at an index, as a sum of one.
sum_one : (xs : List ℕ) (i : ℕ) → sum (take 1 (drop i xs)) ≡ get_or xs i 0
unfolding sum
sum_one [] zero = refl
sum_one [] (suc i) = refl
sum_one (x ∷ xs) zero = omega arith
sum_one (x ∷ xs) (suc i) = sum_one xs i

module _ (job : Job) where
  -- The part of one task weighs what the task weighs.
  pub weight_one : (i : ℕ) → part_weight job i (suc i) ≡ get_or job.weights i 0
  unfolding part_weight part_of
  weight_one i =
      ap (λ (n : ℕ). sum (take n (drop i job.weights))) (let e : suc i - i ≡ 1 = omega arith in e) ∙ sum_one job.weights i

  -- One more task adds at most the heaviest.
  pub weight_step : (a i : ℕ) → a ≤ i → part_weight job a (suc i) ≤ part_weight job a i + heaviest job
  weight_step a i h =
      omega (arith, weight_split job a i (suc i) h (omega arith), weight_one i, greatest_of_le job.weights i)

  -- The slowest speed is above 0.
  pub slowest_positive : Proper job → 0 < slowest job
  unfolding speed_of
  slowest_positive ok = slowest_cases (λ e. 1 ≤ e) job.speeds ok.positive

  -- The speed of every processor is at least the slowest.
  pub speed_slowest : (p : ℕ) → p < processors job → slowest job ≤ speed_of job p
  unfolding speed_of
  speed_slowest p h = slowest-le job.speeds p h

  -- The speed of every processor is at most the fastest.
  pub speed_fastest : (p : ℕ) → p < processors job → speed_of job p ≤ fastest job
  unfolding speed_of
  speed_fastest p h = rw (same_default job.speeds p 1 0 h) (greatest_of_le job.speeds p)
