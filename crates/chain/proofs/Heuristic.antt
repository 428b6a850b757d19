-- The heuristic gives a partition, and its bottleneck is at most the ideal plus its margin, (heaviest + c)/slowest: the separators grow since the
-- targets do, and each lies within half the heaviest weight of its target.
-- Assumes nothing.
use Prim.Native.Nat.{ℕ, zero, suc, ◌+◌, ◌*◌, ◌≤◌, ◌<◌}
use mathlib.Core.Path.{◌≡◌, refl, sym, ap, ◌∙◌}
use mathlib.Core.List.{[], ◌∷◌}
use native.Mathlib.Omega.{arith}
use native.Mathlib.Decide.{dec_le}
use native.Mathlib.Nat.{mul-le-mul_right, mul-le-mul_left}
use lib.ListN.{length, length-append}
use Rattle.bound.specs.Order.{◌≼◌, plus}
use Rattle.bound.proofs.Order.{make_le}
use Rattle.chain.specs.Lists.{tabulate, sum_to, distance}
use Rattle.chain.specs.Job.{Job, tasks, processors, last, speed_of, part_weight, part_load, total_weight, total_speed, heaviest, slowest, part_bound, at, Partition, bound_at, bottleneck, ideal, Within}
use Rattle.chain.specs.Heuristic.{margin, miss, nearest, heuristic}
use Rattle.chain.proofs.Sums.{sum_grows}
use Rattle.chain.proofs.Parts.{Proper, weight_split, weight_empty, weight_all, load_le}
use Rattle.chain.proofs.Indices.{SmallestLeast, smallest_least_is, length-tabulate, at-tabulate, after_tabulate}
use Rattle.chain.proofs.Within.{Free, free_keeps, parts_within}
use Rattle.chain.proofs.Bottleneck.{processors-last, bottleneck-le}
use Rattle.chain.proofs.Extremes.{weight_step, speed_slowest}
use Rattle.chain.proofs.Ideal.{total_speed_is}

-- Of x ≤ y, y is nearer to t exactly when t lies past their middle.
past_middle : (x y t : ℕ) → x ≤ y → distance y t < distance x t → (x < y) × (x + y < 2 * t)
past_middle x y t h k = (omega arith, omega arith)

before_middle : (x y t : ℕ) → x < y → distance x t ≤ distance y t → 2 * t ≤ x + y
before_middle x y t h k = omega arith

-- Two numbers near their targets are hardly further apart than these.
apart : (x y t u g : ℕ) → 2 * distance x t ≤ g → 2 * distance y u ≤ g → y + t ≤ x + u + g
apart x y t u g h k = omega arith

-- Any function f of an index, and the smallest index from 0 to n whose f is nearest to a target.
module _ (f : ℕ → ℕ) where
  -- Where f grows, the smallest nearest index grows with the target.
  nearest_mono : ((i j : ℕ) → i ≤ j → f i ≤ f j) → {n t u r q : ℕ} → t ≤ u
      → SmallestLeast (λ i. distance (f i) t) n r → SmallestLeast (λ i. distance (f i) u) n q → r ≤ q
  nearest_mono up {n} {t} {u} {r} {q} h x y =
      elim (dec_le r q) [
        | yes l ↦ l
        | no l ↦ absurd (wrong (past_middle (f q) (f r) t (up q r (omega arith)) (x.before q (omega arith))))
      ]
    where
      wrong : (f q < f r) × (f q + f r < 2 * t) → ⊥
      wrong z = omega (arith, before_middle (f q) (f r) u z.0 (y.least r x.to), z.1)

  -- Where f goes up by steps of at most g from below the target to above it, what is at most every distance is at most half of g.
  pub half_step : (g t d : ℕ) → ((i : ℕ) → f (suc i) ≤ f i + g) → f 0 ≤ t → (m : ℕ) → t ≤ f m
      → ((k : ℕ) → k ≤ m → d ≤ distance (f k) t) → 2 * d ≤ g
  half_step g t d step h zero l x = omega (arith, x 0 (omega arith))
  half_step g t d step h (suc m) l x =
      elim (dec_le t (f m)) [
        | yes a ↦ half_step g t d step h m a (λ k b. x k (omega arith))
        | no a ↦ omega (arith, step m, x m (omega arith), x (suc m) (omega arith))
      ]

module _ (job : Job) where
  -- What the first tasks weigh, and where the first processors' parts should end, both times the total speed.
  abbrev scaled : ℕ → ℕ
  scaled i = part_weight job 0 i * total_speed job

  abbrev target : ℕ → ℕ
  target p = total_weight job * sum_to (speed_of job) p

  nearest_is : (p : ℕ) → SmallestLeast (λ i. distance (scaled i) (target p)) (tasks job) (nearest job p)
  unfolding nearest miss
  nearest_is p = smallest_least_is (λ i. distance (scaled i) (target p)) (tasks job)

  scaled_grows : (i j : ℕ) → i ≤ j → scaled i ≤ scaled j
  scaled_grows i j h =
      mul-le-mul_right (total_speed job) (omega (arith, weight_split job 0 i j (omega arith) h))

  scaled_first : scaled 0 ≡ 0
  scaled_first = rw (weight_empty job 0) (omega arith)

  scaled_all : scaled (tasks job) ≡ target (processors job)
  scaled_all = rw (weight_all job, total_speed_is job)

  -- The smallest nearest index is an index of the job.
  pub nearest-le : (p : ℕ) → nearest job p ≤ tasks job
  nearest-le p = (nearest_is p).to

  -- Of no processors it is 0.
  pub nearest_first : nearest job 0 ≡ 0
  unfolding sum_to
  nearest_first =
      elim (dec_le (nearest job 0) 0) [
        | yes l ↦ omega arith
        | no l ↦ absurd (omega (arith, (nearest_is 0).before 0 (omega arith), scaled_first))
      ]

  -- It grows with the processors.
  pub nearest_grows : (p q : ℕ) → p ≤ q → nearest job p ≤ nearest job q
  nearest_grows p q h =
      nearest_mono scaled scaled_grows (mul-le-mul_left (total_weight job) (sum_grows (speed_of job) p q h)) (nearest_is p)
      (nearest_is q)

  -- It misses its target by at most half the heaviest weight.
  pub nearest_close : (p : ℕ) → p ≤ processors job → 2 * miss job p (nearest job p) ≤ heaviest job * total_speed job
  unfolding miss
  nearest_close p h =
      half_step scaled (heaviest job * total_speed job) (target p) (distance (scaled (nearest job p)) (target p))
      (λ i. omega (arith, mul-le-mul_right (total_speed job) (weight_step job 0 i (omega arith)))) (omega (arith, scaled_first))
      (tasks job) (omega (arith, scaled_all, mul-le-mul_left (total_weight job) (sum_grows (speed_of job) p (processors job) h)))
      (nearest_is p).least

  -- The heuristic's separators are the nearest indices.
  pub heuristic-at : (p : ℕ) → p ≤ last job → at (heuristic job) p ≡ nearest job p
  unfolding heuristic
  heuristic-at zero h = sym nearest_first
  heuristic-at (suc p) h = at-tabulate (λ q. nearest job (suc q)) (last job) (tasks job ∷ []) p h

  heuristic-last : at (heuristic job) (suc (last job)) ≡ tasks job
  unfolding heuristic
  heuristic-last =
      ap (λ (p : ℕ). at (heuristic job) (suc p)) (let e : last job ≡ last job + 0 = omega arith in e)
      ∙ after_tabulate (λ q. nearest job (suc q)) (last job) (tasks job ∷ []) 0

  heuristic-length : length (heuristic job) ≡ suc (suc (last job))
  unfolding heuristic
  heuristic-length =
      omega (arith, length-append (tabulate (λ q. nearest job (suc q)) (last job)) (tasks job ∷ []), length-tabulate (λ q. nearest job (suc q)) (last job))

-- A part that weighs little more than its due is within the sum of the ideal and the margin.
cross : (w E W e H m : ℕ) → w * E ≤ W * e + H * E → m ≤ e → w * (E * m) ≤ (W * m + H * E) * e
cross w E W e H m h k = omega (arith, mul-le-mul_right m h, mul-le-mul_right (H * E) k)

module _ {job : Job} (ok : Proper job) where
  -- The heuristic's last separator is the end.
  pub heuristic_end : at (heuristic job) (processors job) ≡ tasks job
  heuristic_end = rw (processors-last ok) (heuristic-last job)

  grows : (p : ℕ) → p < processors job → at (heuristic job) p ≤ at (heuristic job) (suc p)
  grows p h =
      elim (dec_le (suc p) (last job)) [
        | yes l ↦ rw (heuristic-at job p (omega arith), heuristic-at job (suc p) l) (nearest_grows job p (suc p) (omega arith))
        | no l ↦
            rw (heuristic-at job p (omega arith), let e : suc p ≡ processors job = omega (arith, ok.some) in e, heuristic_end)
            (nearest-le job p)
      ]

  pub heuristic_count : length (heuristic job) ≡ suc (processors job)
  heuristic_count = heuristic-length job ∙ ap suc (sym (processors-last ok))

  -- Without holds the heuristic gives a partition.
  pub heuristic_partition : Free job → Partition job (heuristic job)
  unfolding heuristic
  heuristic_partition free =
      record {
        count = heuristic_count;
        first = refl;
        grows = grows;
        end = heuristic_end;
        kept = λ p h. free_keeps free p (at (heuristic job) p) (at (heuristic job) (suc p));
      }

  -- Every separator misses its target by at most half the heaviest weight.
  misses : (p : ℕ) → p ≤ processors job → 2 * distance (scaled job (at (heuristic job) p)) (target job p) ≤ heaviest job * total_speed job
  unfolding miss
  misses p h =
      elim (dec_le p (last job)) [
        | yes l ↦ rw (heuristic-at job p l) (nearest_close job p h)
        | no l ↦ rw (let e : p ≡ processors job = omega arith in e, heuristic_end, scaled_all job) (omega arith)
      ]

  -- Every part weighs at most its due of the weight and the heaviest.
  weight_close : (p : ℕ) → p < processors job
      → part_weight job (at (heuristic job) p) (at (heuristic job) (suc p)) * total_speed job
      ≤ total_weight job * speed_of job p + heaviest job * total_speed job
  unfolding sum_to
  weight_close p h =
      let a = at (heuristic job) p in
      let b = at (heuristic job) (suc p) in
      omega (
        arith,
        apart (scaled job a) (scaled job b) (target job p) (target job (suc p)) (heaviest job * total_speed job)
            (misses p (omega arith)) (misses (suc p) h),
        ap (λ (n : ℕ). n * total_speed job) (weight_split job 0 a b (omega arith) (grows p h)),
      )

  load_close : (p : ℕ) → p < processors job
      → part_load job (at (heuristic job) p) (at (heuristic job) (suc p)) * total_speed job
      ≤ total_weight job * speed_of job p + (heaviest job + job.startup) * total_speed job
  load_close p h =
      omega (arith, mul-le-mul_right (total_speed job) (load_le job (at (heuristic job) p) (at (heuristic job) (suc p))), weight_close p h)

  -- Every part of the heuristic is within the sum of the ideal and the margin.
  pub heuristic_close : Free job → Within job (heuristic job) (plus (ideal job) (margin job))
  unfolding bound_at part_bound ideal
  heuristic_close free =
      parts_within job (heuristic_partition free)
      (λ p h.
      make_le
      (cross (part_load job (at (heuristic job) p) (at (heuristic job) (suc p))) (total_speed job) (total_weight job)
      (speed_of job p) (heaviest job + job.startup) (slowest job) (load_close p h) (speed_slowest job p h)))

  -- So is its bottleneck.
  pub heuristic_bound : Free job → bottleneck job (heuristic job) ≼ plus (ideal job) (margin job)
  heuristic_bound free = bottleneck-le ok (heuristic_close free)
