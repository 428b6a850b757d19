-- Halving the row gives a partition whose loads are at most Wtot/P + heaviest × (P − 1)/P + c: each split leaves at most half of its part and half
-- the heaviest weight on either side.
-- Assumes nothing.
use Prim.Native.Nat.{ℕ, zero, suc, ◌+◌, ◌-◌, ◌*◌, ◌/◌, ◌%◌, ◌^◌, ◌≤◌, ◌<◌}
use mathlib.Core.Path.{◌≡◌, refl, sym, ap, subst, ◌∙◌}
use mathlib.Core.List.{List, [], ◌∷◌, ◌++◌, append_assoc}
use mathlib.Core.Bool.{true, false}
use mathlib.Core.Logic.{◌↔◌, ◌≢◌}
use native.Mathlib.Omega.{arith}
use native.Mathlib.Decide.{dec_le}
use native.Mathlib.Nat.{mul-le-mul_left, le_of_mul-le-mul_right}
use lib.Dec.{T, eqb, eqb→eq, eqb_refl}
use lib.Pow.{pow_pos}
use lib.ListN.{length, get_or, length-append, get_or-append, get_or-eq_default}
use lib.Seq.{get_or-append-add}
use Rattle.bound.proofs.Order.{open_le}
use Rattle.chain.specs.Lists.{smallest_least, distance, digits, digits_within, levels, power_of_two}
use Rattle.chain.specs.Job.{Job, tasks, processors, last, speed_of, part_weight, part_load, total_weight, heaviest, part_bound, at, Partition, bound_at, bottleneck}
use Rattle.chain.specs.Halving.{Halvable, uneven, split, splits_by, halving}
use Rattle.chain.specs.Refusal.{each_between, all_equal, row_test}
use Rattle.chain.proofs.Tests.{and_left, and_right, and_both, same_test}
use Rattle.chain.proofs.Refusals.{each_at, each_of_lem}
use Rattle.chain.proofs.Digits.{digits_least, digits_below}
use Rattle.chain.proofs.Parts.{Proper, weight_split, weight_empty, weight_all, load_le}
use Rattle.chain.proofs.Indices.{SmallestLeast, smallest_least_is}
use Rattle.chain.proofs.Extremes.{same_default, weight_step}
use Rattle.chain.proofs.Within.{Free, free_keeps}
use Rattle.chain.proofs.Bottleneck.{part_le-bottleneck, bottleneck_cases}
use Rattle.chain.proofs.Heuristic.{half_step}

-- A power of two is halved as often as it was doubled.
pub levels_power : (k : ℕ) → levels (2 ^ k) ≡ k
unfolding levels digits digits_within
levels_power zero = refl
levels_power (suc k) =
    let e : 2 ^ suc k / 2 ≡ 2 ^ k = omega arith in
    let below : 2 ^ k < 2 ^ suc k = omega (arith, pow_pos k) in
    ap digits e ∙ (let d : digits (2 ^ k) ≡ suc k = omega (arith, digits_least (2 ^ k) k (omega arith), digits_below (2 ^ k) (suc k) below) in d)

-- The test says what its name does.
pub power_of_two_lem : (n : ℕ) → T (power_of_two n) ↔ ((k : ℕ) × (n ≡ 2 ^ k))
unfolding power_of_two
power_of_two_lem n = (
  λ t. (levels n, sym (eqb→eq (2 ^ levels n) n t)),
  λ (k, e). subst (λ (m : ℕ). T (power_of_two m)) (sym e) (again k),
)
  where
    again : (k : ℕ) → T (eqb (2 ^ levels (2 ^ k)) (2 ^ k))
    again k = subst (λ (l : ℕ). T (eqb (2 ^ l) (2 ^ k))) (sym (levels_power k)) (eqb_refl (2 ^ k))

-- A power of two above 1, and its half.
pub record Halved (n : ℕ) : Type 0 where
  pub doublings : ℕ
  pub whole : levels n ≡ suc doublings
  pub half : levels (n / 2) ≡ doublings
  pub power : 2 ^ doublings ≡ n / 2
  pub twice : n ≡ n / 2 + n / 2

pub halved_power : (n : ℕ) → 2 ^ levels n ≡ n → 1 < n → Halved n
halved_power n e h = go (levels n) refl
  where
    go : (l : ℕ) → levels n ≡ l → Halved n
    go zero f = absurd (let x : 2 ^ 0 ≡ n = subst (λ (i : ℕ). 2 ^ i ≡ n) f e in let z : ⊥ = omega arith in z)
    go (suc k) f =
        let x : 2 ^ suc k ≡ n = subst (λ (i : ℕ). 2 ^ i ≡ n) f e in
        let y : 2 ^ k ≡ n / 2 = omega arith in
        record { doublings = k; whole = f; half = subst (λ (i : ℕ). levels i ≡ k) y (levels_power k); power = y; twice = omega arith }

-- By halving: an even number is a power of two exactly where its half is, an odd one above 1 is none, and 1 is one.
pub power_even : (n : ℕ) → 1 ≤ n → n % 2 ≡ 0 → power_of_two n ≡ power_of_two (n / 2)
power_even n h e =
    same_test (power_of_two n) (power_of_two (n / 2)) (λ t. (power_of_two_lem (n / 2)).1 (less ((power_of_two_lem n).0 t)))
    (λ t. (power_of_two_lem n).1 (more ((power_of_two_lem (n / 2)).0 t)))
  where
    less : ((k : ℕ) × (n ≡ 2 ^ k)) → (k : ℕ) × (n / 2 ≡ 2 ^ k)
    less (zero, f) = absurd (let z : ⊥ = omega arith in z)
    less (suc k, f) = (k, omega arith)

    more : ((k : ℕ) × (n / 2 ≡ 2 ^ k)) → (k : ℕ) × (n ≡ 2 ^ k)
    more (k, f) = (suc k, omega arith)

pub power_odd : (n : ℕ) → 1 < n → n % 2 ≢ 0 → false ≡ power_of_two n
power_odd n h e = same_test false (power_of_two n) (λ t. absurd t) (λ t. wrong ((power_of_two_lem n).0 t))
  where
    wrong : ((k : ℕ) × (n ≡ 2 ^ k)) → T false
    wrong (zero, f) = absurd (let z : ⊥ = omega arith in z)
    wrong (suc k, f) = absurd (e (omega arith))

pub power_one : (n : ℕ) → n ≡ 1 → true ≡ power_of_two n
power_one n e = same_test true (power_of_two n) (λ t. (power_of_two_lem n).1 (0, e)) (λ t. tt)

-- All speeds are equal exactly where the test says so.
equal_each : (x : ℕ) (xs : List ℕ) → T (each_between x x xs) → (p : ℕ) → p < length xs → get_or xs p 1 ≡ x
equal_each x xs t p h = omega (arith, same_default xs p 1 x h, each_at x x x xs (omega arith) (omega arith) t p)

each_equal : (x : ℕ) (xs : List ℕ) → ((p : ℕ) → p < length xs → get_or xs p 1 ≡ x) → T (each_between x x xs)
each_equal x xs h = each_of_lem x x x xs (λ i. omega (arith, is i)) (λ i. omega (arith, is i))
  where
    is : (i : ℕ) → get_or xs i x ≡ x
    is i =
        elim (dec_le (length xs) i) [
          | yes k ↦ get_or-eq_default xs x {n = i} k
          | no k ↦ same_default xs i x 1 (omega arith) ∙ h i (omega arith)
        ]

all_equal_lem : (es : List ℕ) → T (all_equal es) ↔ ((p : ℕ) → p < length es → get_or es p 1 ≡ get_or es 0 1)
unfolding all_equal
all_equal_lem [] = (λ t p h. absurd (let z : ⊥ = omega arith in z), λ h. tt)
all_equal_lem (x ∷ xs) = (λ t p h. go t p h, λ h. each_equal x xs (λ p l. h (suc p) (omega arith)))
  where
    go : T (each_between x x xs) → (p : ℕ) → p < suc (length xs) → get_or (x ∷ xs) p 1 ≡ x
    go t zero h = refl
    go t (suc p) h = equal_each x xs t p (omega arith)

-- Refusal 14 is given exactly for a row that cannot be halved.
pub row_test_lem : (es : List ℕ) → T (row_test es).passes ↔ Halvable es
unfolding row_test
row_test_lem es = (
  λ t.
      let k = (power_of_two_lem (length es)).0 (and_right (all_equal es) (power_of_two (length es)) t) in
      record { equal = (all_equal_lem es).0 (and_left (all_equal es) (power_of_two (length es)) t); doublings = k.0; power = k.1 },
  λ r. and_both (all_equal es) (power_of_two (length es)) ((all_equal_lem es).1 r.equal) ((power_of_two_lem (length es)).1 (r.doublings, r.power)),
)

doubled : (k : ℕ) → 2 ^ suc k ≡ 2 ^ k + 2 ^ k
doubled k = omega arith

-- How many splits there are.
pub length_splits : (cut : ℕ → ℕ → ℕ) (k a b : ℕ) → suc (length (splits_by cut k a b)) ≡ 2 ^ k
unfolding splits_by
length_splits cut zero a b = refl
length_splits cut (suc k) a b =
    let i = cut a b in
    omega (arith, length-append (splits_by cut k a i) (i ∷ splits_by cut k i b), length_splits cut k a i, length_splits cut k i b)

-- What is at most half of u and half of h, and of that again: with n processors, then with twice as many.
half_of : (n w v u h : ℕ) → n * w + h ≤ v + h * n → 2 * v ≤ u + h → (n + n) * w + h ≤ u + h * (n + n)
half_of n w v u h x y = omega arith

module _ (job : Job) where
  -- The split of a part: it lies in the part, and either side weighs at most half of the part and half the heaviest.
  split_is : (a b : ℕ) → SmallestLeast (λ d. uneven job a b (a + d)) (b - a) (smallest_least (λ d. uneven job a b (a + d)) (b - a))
  split_is a b = smallest_least_is (λ d. uneven job a b (a + d)) (b - a)

  pub split_from : (a b : ℕ) → a ≤ split job a b
  unfolding split
  split_from a b = omega arith

  pub split_to : (a b : ℕ) → a ≤ b → split job a b ≤ b
  unfolding split
  split_to a b h = omega (arith, (split_is a b).to)

  pub split_close : (a b : ℕ) → a ≤ b → uneven job a b (split job a b) ≤ heaviest job
  unfolding split uneven
  split_close a b h =
      let d = distance (2 * part_weight job a (split job a b)) (part_weight job a b) in
      let c : 2 * d ≤ 2 * heaviest job =
      half_step (λ i. 2 * part_weight job a (a + i)) (2 * heaviest job) (part_weight job a b) d
      (λ i.
      subst (λ (n : ℕ). 2 * part_weight job a n ≤ 2 * part_weight job a (a + i) + 2 * heaviest job) (let e : suc (a + i) ≡ a + suc i = omega arith in e)
      (omega (arith, weight_step job a (a + i) (omega arith))))
      (subst (λ (n : ℕ). 2 * part_weight job a n ≤ part_weight job a b) (let e : a ≡ a + 0 = omega arith in e) (omega (arith, weight_empty job a)))
      (b - a)
      (subst (λ (n : ℕ). part_weight job a b ≤ 2 * part_weight job a n) (let e : b ≡ a + (b - a) = omega arith in e) (omega arith))
      (split_is a b).least
      in
      omega arith

  pub left_light : (a b : ℕ) → a ≤ b → 2 * part_weight job a (split job a b) ≤ part_weight job a b + heaviest job
  unfolding uneven
  left_light a b h = omega (arith, split_close a b h)

  pub right_light : (a b : ℕ) → a ≤ b → 2 * part_weight job (split job a b) b ≤ part_weight job a b + heaviest job
  unfolding uneven
  right_light a b h = omega (arith, split_close a b h, weight_split job a (split job a b) b (split_from a b) (split_to a b h))

  -- The separators of n processors from a to b, and the weights of their parts.
  pub record Halves (n a b : ℕ) (s : List ℕ) : Type 0 where
    pub count : length s ≡ suc n
    pub first : at s 0 ≡ a
    pub end : at s n ≡ b
    pub grows : (p : ℕ) → p < n → at s p ≤ at s (suc p)
    pub light : (p : ℕ) → p < n → n * part_weight job (at s p) (at s (suc p)) + heaviest job ≤ part_weight job a b + heaviest job * n

  one_half : (a b : ℕ) → a ≤ b → Halves 1 a b (a ∷ b ∷ [])
  one_half a b h =
      record {
        count = refl;
        first = refl;
        end = refl;
        grows = λ p l. rw (let e : p ≡ 0 = omega arith in e) h;
        light = λ p l. rw (let e : p ≡ 0 = omega arith in e) (omega arith);
      }

  -- Two halves side by side, with the separator i between them.
  module _ (n i : ℕ) (xs ys : List ℕ) (e : length xs ≡ n) where
    at_right : (q : ℕ) → at (xs ++ i ∷ ys) (n + q) ≡ at (i ∷ ys) q
    at_right q = ap (λ (m : ℕ). at (xs ++ i ∷ ys) (m + q)) (sym e) ∙ get_or-append-add xs (i ∷ ys) q 0

    at_left : (p : ℕ) → p ≤ n → at (xs ++ i ∷ ys) p ≡ at (xs ++ i ∷ []) p
    at_left p l =
        elim (dec_le (suc p) n) [
          | yes m ↦ get_or-append xs (i ∷ ys) 0 p (omega arith) ∙ sym (get_or-append xs (i ∷ []) 0 p (omega arith))
          | no m ↦
              let z : p ≡ length xs + 0 = omega arith in
              ap (at (xs ++ i ∷ ys)) z ∙ get_or-append-add xs (i ∷ ys) 0 0 ∙ sym (ap (at (xs ++ i ∷ [])) z ∙ get_or-append-add xs (i ∷ []) 0 0)
        ]

    -- What holds of every part on the left and on the right holds of every part.
    each : (Q : ℕ → ℕ → Type 0) → ((p : ℕ) → p < n → Q (at (xs ++ i ∷ []) p) (at (xs ++ i ∷ []) (suc p)))
        → ((q : ℕ) → q < n → Q (at (i ∷ ys) q) (at (i ∷ ys) (suc q))) → (p : ℕ) → p < n + n → Q (at (xs ++ i ∷ ys) p) (at (xs ++ i ∷ ys) (suc p))
    each Q f g p m =
        elim (dec_le (suc p) n) [
          | yes k ↦ rw (at_left p (omega arith), at_left (suc p) k) (f p k)
          | no k ↦
              let q = p - n in
              let y : p ≡ n + q = omega arith in
              let z : suc p ≡ n + suc q = omega arith in
              rw (ap (at (xs ++ i ∷ ys)) y ∙ at_right q, ap (at (xs ++ i ∷ ys)) z ∙ at_right (suc q)) (g q (omega arith))
        ]

    two_halves : {a b : ℕ} → 2 * part_weight job a i ≤ part_weight job a b + heaviest job → 2 * part_weight job i b ≤ part_weight job a b + heaviest job
        → Halves n a i (xs ++ i ∷ []) → Halves n i b (i ∷ ys) → Halves (n + n) a b (xs ++ i ∷ ys)
    two_halves {a} {b} x y l r =
        record {
          count = omega (arith, length-append xs (i ∷ ys), r.count);
          first = at_left 0 (omega arith) ∙ l.first;
          end = at_right n ∙ r.end;
          grows = each (λ c d. c ≤ d) l.grows r.grows;
          light =
              each (λ c d. (n + n) * part_weight job c d + heaviest job ≤ part_weight job a b + heaviest job * (n + n))
              (λ p m. half_of n (part_weight job (at (xs ++ i ∷ []) p) (at (xs ++ i ∷ []) (suc p))) (part_weight job a i) (part_weight job a b) (heaviest job) (l.light p m) x)
              (λ q m. half_of n (part_weight job (at (i ∷ ys) q) (at (i ∷ ys) (suc q))) (part_weight job i b) (part_weight job a b) (heaviest job) (r.light q m) y);
        }

  -- A row of 2 ^ k processors.
  pub halves : (k a b : ℕ) → a ≤ b → Halves (2 ^ k) a b (a ∷ (splits_by (split job) k a b ++ (b ∷ [])))
  unfolding splits_by
  halves zero a b h = one_half a b h
  halves (suc k) a b h =
      let i = split job a b in
      let xs = a ∷ splits_by (split job) k a i in
      let ys = splits_by (split job) k i b ++ (b ∷ []) in
      subst (λ (n : ℕ). Halves n a b (a ∷ (splits_by (split job) k a i ++ i ∷ splits_by (split job) k i b ++ (b ∷ [])))) (sym (doubled k))
      (subst (λ (s : List ℕ). Halves (2 ^ k + 2 ^ k) a b (a ∷ s)) (sym (append_assoc (splits_by (split job) k a i) (i ∷ splits_by (split job) k i b) (b ∷ [])))
      (two_halves (2 ^ k) i xs ys (length_splits (split job) k a i) (left_light a b h) (right_light a b h) (halves k a i (split_from a b)) (halves k i b (split_to a b h))))

module _ (job : Job) (row : Halvable job.speeds) where
  -- It is halved as often as its number of processors was doubled.
  pub processors_power : 2 ^ levels (processors job) ≡ processors job
  processors_power = ap (λ (n : ℕ). 2 ^ levels n) row.power ∙ ap (λ (n : ℕ). 2 ^ n) (levels_power row.doublings) ∙ sym row.power

  halved : Halves job (processors job) 0 (tasks job) (halving job)
  unfolding halving
  halved = subst (λ (n : ℕ). Halves job n 0 (tasks job) (halving job)) processors_power (halves job (levels (processors job)) 0 (tasks job) (omega arith))

  -- Without holds halving the row gives a partition.
  pub halving_partition : Free job → Partition job (halving job)
  halving_partition free =
      record {
        count = halved.count;
        first = halved.first;
        grows = halved.grows;
        end = halved.end;
        kept = λ p h. free_keeps free p (at (halving job) p) (at (halving job) (suc p));
      }

  same_speed : (p : ℕ) → p < processors job → speed_of job p ≡ speed_of job 0
  unfolding speed_of
  same_speed p h = row.equal p h

  -- P times every load is at most Wtot + heaviest × (P − 1) + c × P.
  halving_light : (p : ℕ) → p < processors job
      → processors job * part_load job (at (halving job) p) (at (halving job) (suc p)) ≤ total_weight job + heaviest job * last job + job.startup * processors job
  halving_light p h =
      let a = at (halving job) p in
      let b = at (halving job) (suc p) in
      let n = processors job in
      omega (arith, mul-le-mul_left n (load_le job a b), halved.light p h, weight_all job, less (heaviest job) n (omega arith))
    where
      less : (x n : ℕ) → 1 ≤ n → x * n ≡ x * (n - 1) + x
      less x n k = let e : n ≡ (n - 1) + 1 = omega arith in ap (λ (m : ℕ). x * m) e ∙ (let f : x * ((n - 1) + 1) ≡ x * (n - 1) + x = omega arith in f)

  module _ (ok : Proper job) where
    bottleneck_speed : (bottleneck job (halving job)).speed ≡ speed_of job 0
    unfolding bound_at part_bound
    bottleneck_speed = bottleneck_cases ok (λ B. B.speed ≡ speed_of job 0) (halving job) (λ p h. same_speed p h)

    -- So is P times the bottleneck's load, which is the greatest of all.
    pub halving_bound : processors job * (bottleneck job (halving job)).load ≤ total_weight job + heaviest job * last job + job.startup * processors job
    unfolding bound_at part_bound
    halving_bound =
        bottleneck_cases ok (λ B. processors job * B.load ≤ total_weight job + heaviest job * last job + job.startup * processors job) (halving job) halving_light

    pub halving_greatest : (p : ℕ) → p < processors job
        → part_load job (at (halving job) p) (at (halving job) (suc p)) ≤ (bottleneck job (halving job)).load
    unfolding bound_at part_bound
    halving_greatest p h =
        let c = open_le (part_le-bottleneck ok (halving job) p h) in
        le_of_mul-le-mul_right {k = speed_of job 0}
        (subst (λ (e : ℕ). part_load job (at (halving job) p) (at (halving job) (suc p)) * speed_of job 0 ≤ (bottleneck job (halving job)).load * e) (same_speed p h)
        (subst (λ (e : ℕ). part_load job (at (halving job) p) (at (halving job) (suc p)) * e ≤ (bottleneck job (halving job)).load * speed_of job p) bottleneck_speed c))
        (ok.positive 0)

  -- One processor takes all tasks.
  pub halving_one : processors job ≡ 1 → halving job ≡ 0 ∷ tasks job ∷ []
  unfolding halving levels digits digits_within splits_by
  halving_one e = ap (λ (n : ℕ). 0 ∷ (splits_by (split job) (levels n) 0 (tasks job) ++ (tasks job ∷ []))) e
