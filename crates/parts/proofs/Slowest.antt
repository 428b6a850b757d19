-- The least of a list, as the loop over it comes to know it.
-- Assumes nothing.
use Prim.Native.Nat.{ℕ, suc, ◌+◌, ◌-◌, ◌≤◌, ◌<◌, min}
use mathlib.Core.Path.{◌≡◌, ap, subst, ◌∙◌}
use mathlib.Core.Bool.{Bool, true, false, cond}
use mathlib.Core.List.{List, [], ◌∷◌}
use native.Mathlib.Omega.{arith}
use lib.Dec.{leb}
use lib.ListN.{length, get_or, take, drop, length-drop}
use lib.Seq.{length-take-le, get_or-take, get_or-drop}
use Rattle.chain.specs.Lists.{least_of}
use Rattle.chain.specs.Job.{slowest_of}
use Rattle.chain.proofs.Indices.{below_next}
use Rattle.chain.proofs.Extremes.{same_default, slowest-le}

more : {Q : ℕ → Type 0} {i : ℕ} → ((k : ℕ) → k < i → Q k) → Q i → (k : ℕ) → k < i + 1 → Q k
more {Q} h x k l = below_next {Q = Q} h x k (omega arith)

-- A property of every entry is the least's.
least_cases : (Q : ℕ → Type 0) (x : ℕ) (ys : List ℕ) → Q x → ((k : ℕ) → k < length ys → Q (get_or ys k 0)) → Q (least_of x ys)
unfolding least_of
least_cases Q x [] q h = q
least_cases Q x (y ∷ ys) q h = go (leb x (least_of y ys)) (least_cases Q y ys (h 0 (omega arith)) (λ k l. h (suc k) (omega arith)))
  where
    go : (t : Bool) → Q (least_of y ys) → Q (cond t x (least_of y ys))
    go true r = q
    go false r = r

-- The entries after the first, as the loop goes over them.
pub rest_length : (xs : List ℕ) → length (take (length xs - 1) (drop 1 xs)) ≡ length xs - 1
rest_length xs = omega (arith, length-take-le (length xs - 1) (drop 1 xs) (omega (arith, length-drop 1 xs)))

pub rest_at : (xs : List ℕ) (i : ℕ) → i < length xs - 1 → get_or (take (length xs - 1) (drop 1 xs)) i 0 ≡ get_or xs (i + 1) 0
rest_at xs i h =
    get_or-take (length xs - 1) (drop 1 xs) i 0 h ∙ get_or-drop 1 xs i 0
    ∙ ap (λ (k : ℕ). get_or xs k 0) (let e : 1 + i ≡ i + 1 = omega arith in e)

-- The least so far: at most each entry passed, at least the least of all.
pub record Fewest (xs : List ℕ) (i m : ℕ) : Type 0 where
  pub from : 1 ≤ i
  pub to : i ≤ length xs
  pub above : slowest_of xs ≤ m
  pub below : (k : ℕ) → k < i → m ≤ get_or xs k 0

slowest-at : (xs : List ℕ) (i : ℕ) → i < length xs → slowest_of xs ≤ get_or xs i 0
slowest-at xs i h = subst (λ (n : ℕ). slowest_of xs ≤ n) (same_default xs i 1 0 h) (slowest-le xs i h)

pub fewest_start : (xs : List ℕ) → 0 < length xs → Fewest xs 1 (get_or xs 0 0)
fewest_start xs h =
    record {
      from = omega arith;
      to = h;
      above = slowest-at xs 0 h;
      below = λ k l. subst (λ (i : ℕ). get_or xs 0 0 ≤ get_or xs i 0) (let e : 0 ≡ k = omega arith in e) (omega arith);
    }

pub fewest_next : {xs : List ℕ} {i m n : ℕ} → Fewest xs i m → i < length xs → n ≡ min m (get_or xs i 0) → Fewest xs (i + 1) n
fewest_next {xs} {i} {m} {n} w h e =
    record {
      from = omega (arith, w.from);
      to = omega arith;
      above = omega (arith, w.above, slowest-at xs i h);
      below = more {Q = λ k. n ≤ get_or xs k 0} (λ k x. omega (arith, w.below k x)) (omega arith);
    }

pub fewest_end : (xs : List ℕ) {i m : ℕ} → Fewest xs i m → length xs ≤ i → m ≡ slowest_of xs
unfolding slowest_of
fewest_end [] {i} {m} w h = absurd (let z : ⊥ = omega (arith, w.from, w.to) in z)
fewest_end (x ∷ xs) {i} {m} w h =
    omega (
      arith,
      w.above,
      least_cases (λ n. m ≤ n) x xs (w.below 0 (omega (arith, w.from))) (λ k l. w.below (suc k) (omega (arith, w.to))),
    )
