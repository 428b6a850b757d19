-- The laws of parts. The one bridge from the weight of a part to its load is here: nothing else opens the load, but its limit in
-- Ranges.
-- Assumes nothing.
use Prim.Native.Nat.{ℕ, zero, suc, ◌+◌, ◌-◌, ◌*◌, ◌≤◌, ◌<◌}
use mathlib.Core.Path.{◌≡◌, refl, sym, ap, ◌∙◌}
use mathlib.Core.Bool.{Bool, true, false, cond}
use mathlib.Core.List.{List, [], ◌∷◌, ◌++◌}
use native.Mathlib.Omega.{arith}
use native.Mathlib.Nat.{mul-le-mul_right, le_trans}
use lib.Dec.{T, ltb}
use lib.ListN.{length, take, drop, length-take, length-drop}
use borrow.Author.Tests.{ltb-true, ltb-false}
use lib.Seq.{take-add, drop-drop, take-length}
use Rattle.bound.specs.declared.Bound.{Bound}
use Rattle.bound.specs.Order.{◌≼◌, Real, Finite}
use Rattle.bound.proofs.Order.{make_le, zero_load_le, finite_real}
use Rattle.chain.specs.Lists.{sum, sum_to}
use Rattle.chain.specs.Job.{Job, tasks, processors, speed_of, enough, part_of, part_weight, load_of, part_load, total_weight, part_bound, Valid, at, Partition, busy}
use Rattle.chain.proofs.Sums.{sum-append, sum-take, sum_drop}

-- What the theorems ask of a job: a processor, and speeds above 0.
pub record Proper (job : Job) : Type 0 where
  pub some : 1 ≤ processors job
  pub positive : (p : ℕ) → 1 ≤ speed_of job p

pub valid_proper : {job : Job} → Valid job → Proper job
valid_proper v = record { some = v.some_processor; positive = v.speeds_positive }

-- What those ask that need a partition to exist.
pub record Plannable (job : Job) : Type 0 where
  pub proper : Proper job
  pub enough-holds : T (enough job)

pub valid_plannable : {job : Job} → Valid job → T (enough job) → Plannable job
valid_plannable v e = record { proper = valid_proper v; enough-holds = e }

-- The load of a list of tasks: at most the start-up work and their weight, that much where there is a task, and at least their weight;
load_of_le : (c : ℕ) (xs : List ℕ) → load_of c xs ≤ c + sum xs
unfolding load_of sum
load_of_le c [] = omega arith
load_of_le c (x ∷ xs) = omega arith

load_of_some : (c : ℕ) (xs : List ℕ) → 0 < length xs → load_of c xs ≡ c + sum xs
unfolding load_of
load_of_some c [] h = absurd (let z : ⊥ = omega arith in z)
load_of_some c (x ∷ xs) h = refl

weight_le_load_of : (c : ℕ) (xs : List ℕ) → sum xs ≤ load_of c xs
unfolding load_of sum
weight_le_load_of c [] = omega arith
weight_le_load_of c (x ∷ xs) = omega arith

-- without start-up work their weight;
load_of_plain : (xs : List ℕ) → load_of 0 xs ≡ sum xs
unfolding load_of sum
load_of_plain [] = refl
load_of_plain (x ∷ xs) = omega arith

-- and no less with more tasks before or behind them.
load_of_before : (c : ℕ) (xs ys : List ℕ) → load_of c xs ≤ load_of c (xs ++ ys)
unfolding load_of sum
load_of_before c [] ys = omega arith
load_of_before c (x ∷ xs) ys = omega (arith, sum-append xs ys)

load_of_behind : (c : ℕ) (xs ys : List ℕ) → load_of c ys ≤ load_of c (xs ++ ys)
unfolding load_of sum
load_of_behind c [] ys = omega arith
load_of_behind c (x ∷ xs) ys = omega (arith, sum-append xs ys, load_of_le c ys)

module _ (job : Job) where
  -- The tasks of a part: of two parts side by side, of none, and past the last task.
  pub part_split : (a b c : ℕ) → a ≤ b → b ≤ c → part_of job a c ≡ part_of job a b ++ part_of job b c
  unfolding part_of
  part_split a b c h k =
      ap (λ (n : ℕ). take n (drop a ws)) (let e : c - a ≡ (b - a) + (c - b) = omega arith in e)
      ∙ take-add (b - a) (c - b) (drop a ws)
      ∙ ap (λ (l : List ℕ). take (b - a) (drop a ws) ++ take (c - b) l)
      (drop-drop (b - a) a ws ∙ ap (λ (n : ℕ). drop n ws) (let e : a + (b - a) ≡ b = omega arith in e))
    where
      ws : List ℕ
      ws = job.weights

  pub part_none : (a b : ℕ) → b ≤ a → part_of job a b ≡ []
  unfolding part_of
  part_none a b h = ap (λ (n : ℕ). take n (drop a job.weights)) (let e : b - a ≡ 0 = omega arith in e)

  -- Two parts side by side weigh what the part over both weighs.
  pub weight_split : (a b c : ℕ) → a ≤ b → b ≤ c → part_weight job a c ≡ part_weight job a b + part_weight job b c
  unfolding part_weight
  weight_split a b c h k = ap sum (part_split a b c h k) ∙ sum-append (part_of job a b) (part_of job b c)

  pub weight_empty : (a : ℕ) → part_weight job a a ≡ 0
  unfolding part_weight sum
  weight_empty a = ap sum (part_none a a (omega arith))

  pub weight_all : part_weight job 0 (tasks job) ≡ total_weight job
  unfolding part_weight part_of
  weight_all = ap (λ (n : ℕ). sum (take n job.weights)) (let e : tasks job - 0 ≡ tasks job = omega arith in e) ∙ ap sum (take-length job.weights)

  -- No part weighs more than all tasks.
  pub weight_le_total : (a b : ℕ) → part_weight job a b ≤ total_weight job
  unfolding part_weight part_of
  weight_le_total a b = le_trans (sum-take (b - a) (drop a job.weights)) (sum_drop a job.weights)

  -- The load of a part: 0 of one without tasks, the start-up work and the weight of one with tasks;
  pub load_none : (a b : ℕ) → part_of job a b ≡ [] → part_load job a b ≡ 0
  unfolding part_load load_of
  load_none a b e = ap (load_of job.startup) e

  pub load_some : (a b : ℕ) → a < b → a < tasks job → part_load job a b ≡ job.startup + part_weight job a b
  unfolding part_load part_weight part_of
  load_some a b h k =
      load_of_some job.startup (part_of job a b) (simp (length-take, length-drop) (omega arith))

  -- without start-up work the weight;
  pub load_plain : job.startup ≡ 0 → (a b : ℕ) → part_load job a b ≡ part_weight job a b
  unfolding part_load part_weight
  load_plain e a b = ap (λ (c : ℕ). load_of c (part_of job a b)) e ∙ load_of_plain (part_of job a b)

  -- in any case
  pub load_le : (a b : ℕ) → part_load job a b ≤ job.startup + part_weight job a b
  unfolding part_load part_weight
  load_le a b = load_of_le job.startup (part_of job a b)

  pub weight_le_load : (a b : ℕ) → part_weight job a b ≤ part_load job a b
  unfolding part_load part_weight
  weight_le_load a b = weight_le_load_of job.startup (part_of job a b)

  -- Nothing is lost where a part is extended.
  pub load_empty : (a : ℕ) → part_load job a a ≡ 0
  load_empty a = load_none a a (part_none a a (omega arith))

  pub load_right : (a b c : ℕ) → a ≤ b → b ≤ c → part_load job a b ≤ part_load job a c
  unfolding part_load
  load_right a b c h k = rw (part_split a b c h k) (load_of_before job.startup (part_of job a b) (part_of job b c))

  pub load_left : (a b c : ℕ) → a ≤ b → b ≤ c → part_load job b c ≤ part_load job a c
  unfolding part_load
  load_left a b c h k = rw (part_split a b c h k) (load_of_behind job.startup (part_of job a b) (part_of job b c))

  -- The bound of a part: at most everything when it is empty, no less when it is extended, and a number.
  pub part_empty : (p a : ℕ) (B : Bound) → part_bound job p a a ≼ B
  unfolding part_bound
  part_empty p a B = zero_load_le B (load_empty a)

  pub part_right : (p a b c : ℕ) → a ≤ b → b ≤ c → part_bound job p a b ≼ part_bound job p a c
  unfolding part_bound
  part_right p a b c h k = make_le (mul-le-mul_right (speed_of job p) (load_right a b c h k))

  pub part_left : (p a b c : ℕ) → a ≤ b → b ≤ c → part_bound job p b c ≼ part_bound job p a c
  unfolding part_bound
  part_left p a b c h k = make_le (mul-le-mul_right (speed_of job p) (load_left a b c h k))

  pub part_finite : Proper job → (p a b : ℕ) → Finite (part_bound job p a b)
  unfolding part_bound
  part_finite ok p a b = record { speed_positive = ok.positive p }

  pub part_real : Proper job → (p a b : ℕ) → Real (part_bound job p a b)
  part_real ok p a b = finite_real (part_finite ok p a b)

module _ {job : Job} {s : List ℕ} (w : Partition job s) where
  -- Every separator is at most N: by the distance d from the last.
  from_end : (d p : ℕ) → p + d ≡ processors job → at s p ≤ tasks job
  from_end zero p e = omega (arith, w.end, ap (at s) (let k : p ≡ processors job = omega arith in k))
  from_end (suc d) p e = le_trans (w.grows p (omega arith)) (from_end d (suc p) (omega arith))

  pub separator_below : (p : ℕ) → p ≤ processors job → at s p ≤ tasks job
  separator_below p h = from_end (processors job - p) p (omega arith)

  -- The parts of the first n processors weigh what the tasks up to separator n weigh.
  weights_to : (n : ℕ) → n ≤ processors job → sum_to (λ p. part_weight job (at s p) (at s (suc p))) n ≡ part_weight job 0 (at s n)
  unfolding sum_to
  weights_to zero h = sym (ap (part_weight job 0) w.first ∙ weight_empty job 0)
  weights_to (suc p) h =
      ap (λ (x : ℕ). x + part_weight job (at s p) (at s (suc p))) (weights_to p (omega arith))
      ∙ sym (weight_split job 0 (at s p) (at s (suc p)) (omega arith) (w.grows p h))

  pub weights_add_up : sum_to (λ p. part_weight job (at s p) (at s (suc p))) (processors job) ≡ total_weight job
  weights_add_up = weights_to (processors job) (omega arith) ∙ ap (part_weight job 0) w.end ∙ weight_all job

  -- So do their loads, with the start-up work of every processor that has tasks.
  loads_to : (n : ℕ) → n ≤ processors job
      → sum_to (λ p. part_load job (at s p) (at s (suc p))) n
      ≡ sum_to (λ p. part_weight job (at s p) (at s (suc p))) n + job.startup * sum_to (λ p. cond (ltb (at s p) (at s (suc p))) 1 0) n
  unfolding sum_to
  loads_to zero h = omega arith
  loads_to (suc p) h = go (ltb (at s p) (at s (suc p))) refl (loads_to p (omega arith))
    where
      a : ℕ
      a = at s p

      b : ℕ
      b = at s (suc p)

      go : (t : Bool) → ltb a b ≡ t
          → sum_to (λ p. part_load job (at s p) (at s (suc p))) p
          ≡ sum_to (λ p. part_weight job (at s p) (at s (suc p))) p + job.startup * sum_to (λ p. cond (ltb (at s p) (at s (suc p))) 1 0) p
          → sum_to (λ p. part_load job (at s p) (at s (suc p))) p + part_load job a b
          ≡ (sum_to (λ p. part_weight job (at s p) (at s (suc p))) p + part_weight job a b)
          + job.startup * (sum_to (λ p. cond (ltb (at s p) (at s (suc p))) 1 0) p + cond t 1 0)
      go true e below =
          let l : a < b = ltb-true a b e in
          omega (arith, below, load_some job a b l (omega (arith, separator_below (suc p) h)))
      go false e below =
          let l : b ≤ a = ltb-false a b e in
          let k : part_of job a b ≡ [] = part_none job a b l in
          omega (arith, below, load_none job a b k, weight_le_load job a b)

  -- Scope 17.7: "The loads of a plan file add up to Wtot and c for each machine that has tiles."
  pub loads_add_up : sum_to (λ p. part_load job (at s p) (at s (suc p))) (processors job) ≡ total_weight job + job.startup * busy job s
  unfolding busy
  loads_add_up = omega (arith, loads_to (processors job) (omega arith), weights_add_up)
