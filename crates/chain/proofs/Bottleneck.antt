-- The bottleneck is within a bound exactly when every part is, and it is one of the parts' bounds.
-- Assumes nothing.
use Prim.Native.Nat.{ℕ, zero, suc, ◌≤◌, ◌<◌}
use mathlib.Core.Path.{◌≡◌, subst}
use mathlib.Core.List.{List}
use native.Mathlib.Omega.{arith}
use native.Mathlib.Decide.{dec_le}
use Rattle.bound.specs.declared.Bound.{Bound}
use Rattle.bound.specs.Order.{◌≼◌, greater, Real, Finite}
use Rattle.bound.proofs.Order.{finite_real, le_refl, le_trans, greater_cases, greater_left, greater_right, greater-le}
use Rattle.chain.specs.Job.{Job, processors, last, Partition, bound_at, bottleneck_to, bottleneck, Within}
use Rattle.chain.proofs.Parts.{Proper, part_finite}
use Rattle.chain.proofs.Within.{parts_within, bounds_within}

module _ {job : Job} (ok : Proper job) where
  -- The processors are 0 to the last.
  pub processors-last : processors job ≡ suc (last job)
  processors-last = omega (arith, ok.some)

  bound_finite : (s : List ℕ) (p : ℕ) → Finite (bound_at job s p)
  unfolding bound_at
  bound_finite s p = part_finite job ok p _ _

  bottleneck_to_finite : (s : List ℕ) (p : ℕ) → Finite (bottleneck_to job s p)
  unfolding bottleneck_to
  bottleneck_to_finite s zero = bound_finite s 0
  bottleneck_to_finite s (suc p) =
      greater_cases Finite (bottleneck_to job s p) (bound_at job s (suc p)) (bottleneck_to_finite s p) (bound_finite s (suc p))

  -- A bottleneck is a number.
  pub bottleneck_finite : (s : List ℕ) → Finite (bottleneck job s)
  unfolding bottleneck
  bottleneck_finite s = bottleneck_to_finite s (last job)

  pub bottleneck_real : (s : List ℕ) → Real (bottleneck job s)
  bottleneck_real s = finite_real (bottleneck_finite s)

  bound_le_to : (s : List ℕ) (q p : ℕ) → p ≤ q → bound_at job s p ≼ bottleneck_to job s q
  unfolding bottleneck_to
  bound_le_to s zero p h = subst (λ (i : ℕ). bound_at job s i ≼ bound_at job s 0) (let e : 0 ≡ p = omega arith in e) (le_refl (bound_at job s 0))
  bound_le_to s (suc q) p h =
      elim (dec_le p q) [
        | yes m ↦
            le_trans (finite_real (bottleneck_to_finite s q)) (bound_le_to s q p m) (greater_left (bottleneck_to job s q) (bound_at job s (suc q)))
        | no m ↦
            subst (λ (i : ℕ). bound_at job s i ≼ greater (bottleneck_to job s q) (bound_at job s (suc q)))
            (let e : suc q ≡ p = omega arith in e) (greater_right (bottleneck_to job s q) (bound_at job s (suc q)))
      ]

  -- Every part is at most the bottleneck.
  pub part_le-bottleneck : (s : List ℕ) (p : ℕ) → p < processors job → bound_at job s p ≼ bottleneck job s
  unfolding bottleneck
  part_le-bottleneck s p h = bound_le_to s (last job) p (omega arith)

  to_le : (s : List ℕ) (B : Bound) (q : ℕ) → ((p : ℕ) → p ≤ q → bound_at job s p ≼ B) → bottleneck_to job s q ≼ B
  unfolding bottleneck_to
  to_le s B zero h = h 0 (omega arith)
  to_le s B (suc q) h = greater-le (to_le s B q (λ p l. h p (omega arith))) (h (suc q) (omega arith))

  pub within-bottleneck : {s : List ℕ} → Partition job s → Within job s (bottleneck job s)
  within-bottleneck {s} pa = parts_within job pa (part_le-bottleneck s)

  pub bottleneck-le : {s : List ℕ} {B : Bound} → Within job s B → bottleneck job s ≼ B
  unfolding bottleneck
  bottleneck-le {s} {B} w = to_le s B (last job) (λ p h. bounds_within job w p (omega (arith, ok.some)))

  pub le-bottleneck : {s : List ℕ} {B : Bound} → Partition job s → bottleneck job s ≼ B → Within job s B
  le-bottleneck {s} pa h = parts_within job pa (λ p l. le_trans (bottleneck_real s) (part_le-bottleneck s p l) h)

  cases_to : (Q : Bound → Type 0) (s : List ℕ) (q : ℕ) → ((p : ℕ) → p ≤ q → Q (bound_at job s p)) → Q (bottleneck_to job s q)
  unfolding bottleneck_to
  cases_to Q s zero k = k 0 (omega arith)
  cases_to Q s (suc q) k =
      greater_cases Q (bottleneck_to job s q) (bound_at job s (suc q)) (cases_to Q s q (λ p l. k p (omega arith))) (k (suc q) (omega arith))

  -- A property of every part's bound is the bottleneck's.
  pub bottleneck_cases : (Q : Bound → Type 0) (s : List ℕ) → ((p : ℕ) → p < processors job → Q (bound_at job s p)) → Q (bottleneck job s)
  unfolding bottleneck
  bottleneck_cases Q s h = cases_to Q s (last job) (λ p l. h p (omega (arith, ok.some)))
