-- Laws for the allowance: the greatest and the least of a list, and the methods one by one.
-- Assumes nothing.
use Prim.Native.Nat.{ℕ, suc, max, ◌+◌, ◌*◌, ◌≤◌, ◌<◌, ◌^◌}
use mathlib.Core.Path.{◌≡◌, sym, ap, ◌∙◌}
use mathlib.Core.Bool.{Bool, true, false, cond, ◌&&◌}
use mathlib.Core.List.{List}
use native.Mathlib.Omega.{arith}
use native.Mathlib.Nat.{mul-le-mul, le_trans as ≤_trans}
use native.Mathlib.Decide.{dec_le}
use lib.Dec.{eqb, lit<}
use lib.ListN.{length, get_or}
use Rattle.chain.specs.declared.Method.{Method}
use Rattle.chain.specs.declared.Method.TheVariants.{Table, Bidding, Bisection, Nicol}
use Rattle.chain.specs.Lists.{greatest_of, digits}
use Rattle.chain.specs.Limits.{max_processors}
use Rattle.chain.specs.Job.{Edition, First, Second, edition_of, Job, Valid, tasks, processors, last}
use Rattle.chain.specs.Plan.{difference, bidding_allowance, allowance}
use Rattle.chain.proofs.Indices.{below_next}
use Rattle.chain.proofs.Extremes.{greatest_of_le, greatest_cases}

-- The same as code counts.
more : {Q : ℕ → Type 0} {i : ℕ} → ((k : ℕ) → k < i → Q k) → Q i → (k : ℕ) → k < i + 1 → Q k
more {Q} h x k l = below_next {Q = Q} h x k (omega arith)

-- The greatest so far: at least each entry passed, at most the greatest of all.
pub record Most (xs : List ℕ) (i m : ℕ) : Type 0 where
  pub to : i ≤ length xs
  pub below : m ≤ greatest_of xs
  pub above : (k : ℕ) → k < i → get_or xs k 0 ≤ m

pub most_start : (xs : List ℕ) → Most xs 0 0
most_start xs = record { to = omega arith; below = omega arith; above = λ k h. absurd (let z : ⊥ = omega arith in z) }

pub most_next : {xs : List ℕ} {i m n : ℕ} → Most xs i m → i < length xs → n ≡ max m (get_or xs i 0) → Most xs (i + 1) n
most_next {xs} {i} {m} {n} w h e =
    record {
      to = omega arith;
      below = omega (arith, e, w.below, greatest_of_le xs i);
      above = more {Q = λ k. get_or xs k 0 ≤ n} (λ k x. omega (arith, e, w.above k x)) (omega (arith, e));
    }

pub most_end : {xs : List ℕ} {i m : ℕ} → Most xs i m → length xs ≤ i → m ≡ greatest_of xs
most_end {xs} {i} {m} w h = omega (arith, w.below, greatest_cases (λ n. n ≤ m) xs each)
  where
    each : (k : ℕ) → get_or xs k 0 ≤ m
    each k = elim (dec_le (suc k) (length xs)) [ yes l ↦ w.above k (omega arith) | no l ↦ past l ]
      where
        past : (suc k ≤ length xs → ⊥) → get_or xs k 0 ≤ m
        past l = omega (arith, lib.ListN.get_or-eq_default xs 0 {n = k} (omega arith))

-- One processor fewer, times at most 64 digits, fits 32 bits.
trials_fit : max_processors * 64 < 2 ^ 32
unfolding max_processors
trials_fit = lit< tt

module _ {job : Job} (v : Valid job) where
  last_limit : last job ≤ max_processors
  last_limit = ≤_trans {n = last job} {m = processors job} (omega arith) v.processors_limit

  pub few-last : last job < 2 ^ 32
  few-last = omega (arith, last_limit, trials_fit)

  pub few_trials : {n : ℕ} → n ≤ 64 → last job * n < 2 ^ 32
  few_trials {n} h = let x : last job * n ≤ max_processors * 64 = mul-le-mul last_limit h in omega (arith, trials_fit)

-- The allowances, method by method, of a job of this edition.
module _ (edition : Edition) (job : Job) {m : Method} where
  pub allowance_table : m ≡ Table → last job * tasks job ≡ allowance edition m job
  unfolding allowance
  allowance_table e = sym (ap (λ (k : Method). allowance edition k job) e)

  -- By the digits of D, and of N, as the code counts them.
  pub allowance_bisection : {n d : ℕ} → m ≡ Bisection → d ≡ difference job → n ≡ digits d
      → 1 + n ≡ allowance edition m job
  unfolding allowance
  allowance_bisection a e h = ap (λ (n : ℕ). 1 + n) (h ∙ ap digits e)
      ∙ sym (ap (λ (k : Method). allowance edition k job) a)

  pub allowance_nicol : {n : ℕ} → m ≡ Nicol → n ≡ digits (tasks job) → last job * n ≡ allowance edition m job
  unfolding allowance
  allowance_nicol a h = ap (λ (n : ℕ). last job * n) h ∙ sym (ap (λ (k : Method). allowance edition k job) a)

-- That of bidding.
pub allowance-bidding : (second : Bool) (c : ℕ) (job : Job) {m : Method} {n : ℕ} → m ≡ Bidding
    → n ≡ cond (second && eqb (last job) 0) 2 (last job * tasks job + 1) → n ≡ allowance (edition_of second c) m job
unfolding allowance bidding_allowance edition_of
allowance-bidding true c job a e = e ∙ sym (ap (λ (k : Method). allowance (Second c) k job) a)
allowance-bidding false c job a e = e ∙ sym (ap (λ (k : Method). allowance First k job) a)
