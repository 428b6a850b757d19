-- Bidding ends at the least bound that fits, after at most (P − 1) · N failures.
-- Assumes nothing.
use Prim.Native.Nat.{ℕ, zero, suc, ◌+◌, ◌*◌, ◌≤◌, ◌<◌}
use mathlib.Core.Path.{◌≡◌, refl, sym, ap, subst, ◌∙◌}
use mathlib.Core.Bool.{Bool, true, false, not, cond}
use native.Mathlib.Omega.{arith}
use native.Mathlib.Decide.{dec_le}
use lib.Dec.{T, T_not, eqb}
use borrow.Author.Tests.{eq-eqb, ne_eqb}
use Rattle.bound.specs.declared.Bound.{Bound}
use Rattle.bound.specs.Order.{◌≼◌, ◌≺◌, Finite}
use Rattle.bound.proofs.Order.{finite_real, le_refl, lt-le}
use Rattle.chain.specs.Lists.{sum_to, is_first}
use Rattle.chain.specs.Job.{Edition, First, Second, startup_of, OfEdition, Job, tasks, last, within, offer, ideal}
use Rattle.chain.specs.Probe.{separator, fits, bid, next_bid}
use Rattle.chain.specs.Bidding.{bidding}
use Rattle.chain.specs.Plan.{bidding_allowance, allowance}
use Rattle.chain.specs.declared.Method.TheVariants.{Bidding}
use Rattle.chain.proofs.Sums.{sum_mono_at, sum_below}
use Rattle.chain.proofs.Parts.{Proper, Plannable}
use Rattle.chain.proofs.Within.{within_of, within_shrink, offer-within}
use Rattle.chain.proofs.Indices.{first_holds, first_fails, first_exists}
use Rattle.chain.proofs.Walk.{separator_to, separator_grows, separator_past, growing, walk_partition, walk-within, last_fits}
use Rattle.chain.proofs.Enough.{fails_finite, single-keeps}
use Rattle.chain.proofs.NextBid.{bid_before, bid-last, next_cases, fails_before_end, next_above, next_finite, next_least}
use Rattle.chain.proofs.Best.{Least}
use Rattle.chain.proofs.Ideal.{ideal_finite, ideal-single, ideal-within}

-- The ideal is at most every bound that fits.
pub ideal_below : {job : Job} → Proper job → (C : Bound) → T (fits job C) → ideal job ≼ C
ideal_below {job} ok C t = ideal-within ok (walk_partition ok C t) (walk-within job C t)

-- A first trial is within the allowance.
first_allowed : (edition : Edition) (job : Job) → 1 ≤ allowance edition Bidding job
unfolding allowance bidding_allowance
first_allowed First job = omega arith
first_allowed (Second c) job = go (eqb (last job) 0)
  where
    go : (t : Bool) → 1 ≤ cond t 2 (last job * tasks job + 1)
    go true = omega arith
    go false = omega arith

-- The sum of the separators of the walk, s1 to s(P − 1).
unfoldable pub advance : Job → Bound → ℕ
advance job B = sum_to (λ p. separator job B (suc p)) (last job)

module _ {job : Job} (can : Plannable job) where
  abbrev Failing : ℕ → Type 0
  Failing k = (j : ℕ) → j < k → T (not (fits job (bidding job j)))

  -- As long as every trial before fails, the bound tried is a number, and at most every bound that fits.
  pub bidding_finite : (k : ℕ) → Failing k → Finite (bidding job k)
  unfolding bidding
  bidding_finite zero h = ideal_finite can.proper
  bidding_finite (suc k) h = next_finite can (bidding job k) (h k (omega arith))

  pub bidding_below : (k : ℕ) → Failing k → (C : Bound) → T (fits job C) → bidding job k ≼ C
  unfolding bidding
  bidding_below zero h C t = ideal_below can.proper C t
  bidding_below (suc k) h C t = next_least can.proper (bidding job k) C (h k (omega arith)) t

  -- Bidding ends at the least bound that fits.
  pub bidding_least : (k : ℕ) → T (is_first (λ j. fits job (bidding job j)) k) → Least job (bidding job k)
  bidding_least k t =
      record {
        finite = bidding_finite k (first_fails (λ j. fits job (bidding job j)) k t);
        fitting = first_holds (λ j. fits job (bidding job j)) k t;
        least = bidding_below k (first_fails (λ j. fits job (bidding job j)) k t);
      }

  -- Where a bid and the trial at it both fail, the walk is further on.
  pub next_advances : (B : Bound) → T (not (fits job B)) → T (not (fits job (next_bid job B))) → advance job B < advance job (next_bid job B)
  unfolding advance
  next_advances B t u = go (next_bid job B) (next_finite can B t) (next_above can B t) u taken
    where
      taken : (p : ℕ) × (p ≤ last job) × (next_bid job B ≡ bid job B p)
      taken = next_cases job B (λ C. (p : ℕ) × (p ≤ last job) × (C ≡ bid job B p)) (λ p h. (p, h, refl))

      go : (C : Bound) → Finite C → B ≺ C → T (not (fits job C)) → (p : ℕ) × (p ≤ last job) × (C ≡ bid job B p)
          → sum_to (λ p. separator job B (suc p)) (last job) < sum_to (λ p. separator job C (suc p)) (last job)
      go C f up uc (p, h, e) = elim (dec_le (suc p) (last job)) [ yes l ↦ before l | no l ↦ absurd (T_not (fits job C) uc (last_fits job C (at_last l))) ]
        where
          ahead : (i : ℕ) → separator job B i ≤ separator job C i
          ahead i = growing job (finite_real (fails_finite can B t)) (lt-le up) i

          -- The part that was bid for is within the bid, and so is what is left of it.
          taken_within : (q a b : ℕ) → C ≡ offer job q a b → T (within job q a b C)
          taken_within q a b e = offer-within job q a b f (subst (λ (D : Bound). D ≼ C) e (le_refl C))

          at_last : (suc p ≤ last job → ⊥) → T (within job (last job) (separator job C (last job)) (tasks job) C)
          at_last l =
              within_shrink job (last job) (separator job B (last job)) (separator job C (last job)) (tasks job) (tasks job) C
              (ahead (last job)) (separator_to job C (last job)) (omega arith)
              (taken_within (last job) (separator job B (last job)) (tasks job)
              (e ∙ ap (bid job B) (let f : p ≡ last job = omega arith in f) ∙ bid-last job B))

          before : p < last job → sum_to (λ p. separator job B (suc p)) (last job) < sum_to (λ p. separator job C (suc p)) (last job)
          before l =
              sum_mono_at (λ p. separator job B (suc p)) (λ p. separator job C (suc p)) (λ i. ahead (suc i)) (last job) p l moved
            where
              moved : separator job B (suc p) < separator job C (suc p)
              moved =
                  elim (dec_le (suc (separator job B (suc p))) (separator job C (suc p))) [
                    | yes x ↦ x
                    | no x ↦
                        absurd
                        (T_not (within job p (separator job C p) (suc (separator job B (suc p))) C)
                        (separator_past job C p (suc (separator job B (suc p))) (omega arith) (fails_before_end job B t (suc p) l))
                        (within_shrink job p (separator job B p) (separator job C p) (suc (separator job B (suc p))) (suc (separator job B (suc p))) C
                        (ahead p) (omega (arith, separator_grows job C p)) (omega arith)
                        (taken_within p (separator job B p) (suc (separator job B (suc p))) (e ∙ bid_before job B p l))))
                  ]

  -- On a single processor without start-up work the trial at the ideal fits.
  pub single-fits : job.startup ≡ 0 → last job ≡ 0 → T (fits job (ideal job))
  unfolding separator
  single-fits c e =
      last_fits job (ideal job)
      (subst (λ (q : ℕ). T (within job q (separator job (ideal job) q) (tasks job) (ideal job))) (sym e)
      (within_of job 0 0 (tasks job) (ideal-single can.proper c e) (single-keeps can e)))

  pub advance_counts : (k : ℕ) → Failing (suc k) → k ≤ advance job (bidding job k)
  unfolding bidding
  advance_counts zero h = omega arith
  advance_counts (suc k) h =
      omega (
        arith,
        advance_counts k (λ j l. h j (omega arith)),
        next_advances (bidding job k) (h k (omega arith)) (h (suc k) (omega arith)),
      )

  -- As long as all trials up to k failed, k is below (P − 1) · N on more than one processor;
  failures_below : (k : ℕ) → Failing (suc k) → 0 < last job → k < last job * tasks job
  unfolding advance
  failures_below k h l = omega (arith, advance_counts k h, room)
    where
      room : advance job (bidding job k) + last job ≤ last job * tasks job
      room =
          sum_below (λ p. separator job (bidding job k) (suc p)) (tasks job) (last job)
          (λ p l. fails_before_end job (bidding job k) (h k (omega arith)) (suc p) l)

  -- on a single one the second trial, at the bid of all tasks, fits: k is 0.
  failures_single : (k : ℕ) → Failing (suc k) → last job ≡ 0 → k ≡ 0
  unfolding advance sum_to
  failures_single k h e =
      let z : advance job (bidding job k) ≡ 0 = ap (sum_to (λ p. separator job (bidding job k) (suc p))) e in
      omega (arith, advance_counts k h)

  -- So the allowance has room for one trial more.
  pub failures_allowed : {edition : Edition} → OfEdition edition job → (k : ℕ) → Failing (suc k) → suc k < allowance edition Bidding job
  unfolding allowance bidding_allowance startup_of bidding
  failures_allowed {edition} of k h =
      elim (dec_le 1 (last job)) [ yes l ↦ some edition of l | no l ↦ single edition of (omega arith) ]
    where
      some : (edition : Edition) → OfEdition edition job → 0 < last job → suc k < bidding_allowance edition job
      some First of l = omega (arith, failures_below k h l)
      some (Second c) of l = rw (ne_eqb (last job) 0 (λ z. omega arith)) (omega (arith, failures_below k h l))

      single : (edition : Edition) → OfEdition edition job → last job ≡ 0 → suc k < bidding_allowance edition job
      single First of e = absurd (T_not (fits job (ideal job)) (h 0 (omega arith)) (single-fits of.counts e))
      single (Second c) of e = rw (eq-eqb (last job) 0 e) (omega (arith, failures_single k h e))

  -- The trials, the one that fits included, are within the allowance.
  pub bidding_allowed : {edition : Edition} → OfEdition edition job → (k : ℕ) → T (is_first (λ j. fits job (bidding job j)) k)
      → suc k ≤ allowance edition Bidding job
  bidding_allowed {edition} of zero t = first_allowed edition job
  bidding_allowed of (suc k) t = failures_allowed of k (first_fails (λ j. fits job (bidding job j)) (suc k) t)

  -- Bidding ends, within its allowance.
  pub bidding-ends : {edition : Edition} → OfEdition edition job
      → (k : ℕ) × (suc k ≤ allowance edition Bidding job) × T (is_first (λ j. fits job (bidding job j)) k)
  bidding-ends {edition} of =
      let most : ℕ = allowance edition Bidding job in
      let e =
      first_exists (λ j. fits job (bidding job j)) most
      (λ h. let x : suc most < most = failures_allowed of most (λ j l. h j (omega arith)) in omega arith) in
      (e.0, bidding_allowed of e.0 e.2, e.2)
