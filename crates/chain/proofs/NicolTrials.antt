-- The halving of Nicol's search: it finds the smallest index that fits, within digits(N) trials a processor; so the search ends within its
-- allowance.
-- Assumes nothing.
use Prim.Native.Nat.{ℕ, zero, suc, ◌+◌, ◌-◌, ◌*◌, ◌/◌, ◌^◌, ◌≤◌, ◌<◌}
use mathlib.Core.Path.{◌≡◌, refl, sym, subst, ◌∙◌}
use mathlib.Core.Bool.{Bool, true, false, not, cond}
use mathlib.Core.Logic.{inl, inr}
use native.Mathlib.Omega.{arith}
use native.Mathlib.Decide.{dec_le}
use native.Mathlib.Nat.{mul-le-mul_left, mul-le-mul_right}
use lib.Dec.{T, eqb, ltb, T_not, eqb→eq}
use borrow.Author.Tests.{eq-eqb, lt-ltb, le-ltb}
use Rattle.bound.specs.declared.Bound.{Bound}
use Rattle.bound.specs.Order.{nought, pick}
use Rattle.chain.specs.Lists.{sum_to, all, is_first, digits}
use Rattle.chain.specs.Job.{Edition, Job, tasks, last}
use Rattle.chain.specs.Nicol.{Range, fits_at, first_fit, start_on, least_candidate, empty_fits, Comes, next_range, range_after, single, settled}
use Rattle.chain.specs.Plan.{TrialsTo, NicolEnds, early, whole, allowance, nicol_trials, nicol_stop}
use Rattle.chain.specs.declared.Method.TheVariants.{Nicol}
use Rattle.chain.proofs.Tests.{T_of, T-not-of}
use Rattle.chain.proofs.Parts.{Proper}
use Rattle.chain.proofs.Within.{Free}
use Rattle.chain.proofs.Sums.{sum_same_below, sum_below}
use Rattle.chain.proofs.Digits.{digits_least}
use Rattle.chain.proofs.Indices.{Smallest, smallest_is, all-at, all_of, first_holds, first_fails, first_of, first_unique, first_exists, smallest_first}
use Rattle.chain.proofs.Best.{Least}
use Rattle.chain.proofs.Nicol.{comes_sooner, first_fit_is, start_to, fits-at_raise, fails_at_lower, empty_least, rest_fits, candidates_least}

-- What holds of a range: it lies between a and N, every index before it fails, its high end fits, and n times its width is at most N.
pub record Ranged (job : Job) (p a n : ℕ) (R : Range) : Type 0 where
  pub from : a ≤ R.low
  pub ordered : R.low ≤ R.high
  pub to : R.high ≤ tasks job
  pub before : (i : ℕ) → a ≤ i → i < R.low → T (not (fits_at job p a i))
  pub fitting : T (fits_at job p a R.high)
  pub narrow : n * R.high ≤ n * R.low + tasks job

module _ {job : Job} (ok : Proper job) (p a : ℕ) where
  pub ranged_start : a ≤ tasks job → T (fits_at job p a (tasks job)) → Ranged job p a 1 (range_after job p a 0)
  unfolding range_after
  ranged_start h t =
      record {
        from = omega arith;
        ordered = h;
        to = omega arith;
        before = λ i k l. absurd (let z : ⊥ = omega arith in z);
        fitting = t;
        narrow = omega arith;
      }

  -- A trial at the middle keeps all that, and halves the width.
  pub ranged_turn : {n : ℕ} {R : Range} → Ranged job p a n R → Ranged job p a (2 * n) (next_range job p a R)
  unfolding next_range
  ranged_turn {n} {R} w = go (fits_at job p a m) refl
    where
      m : ℕ
      m = (R.low + R.high) / 2

      half : n * (2 * m) ≤ n * (R.low + R.high)
      half = mul-le-mul_left n (omega arith)

      more : n * (R.low + R.high) ≤ n * (2 * suc m)
      more = mul-le-mul_left n (omega arith)

      go : (t : Bool) → fits_at job p a m ≡ t
          → Ranged job p a (2 * n) (elim t [ true ↦ record { low = R.low; high = m } | false ↦ record { low = suc m; high = R.high } ])
      go true e =
          record {
            from = w.from;
            ordered = omega (arith, w.ordered);
            to = omega (arith, w.ordered, w.to);
            before = w.before;
            fitting = T_of e;
            narrow = omega (arith, half, w.narrow);
          }
      go false e =
          record {
            from = omega (arith, w.from, w.ordered);
            ordered =
                elim (dec_le (suc m) R.high) [
                  | yes x ↦ x
                  | no x ↦
                      absurd
                      (T_not (fits_at job p a m) (T-not-of e)
                      (fits-at_raise ok p a {i = R.high} {j = m} (omega (arith, w.from, w.ordered)) (omega arith) w.fitting))
                ];
            to = w.to;
            before = λ i h l. fails_at_lower ok p a h (omega arith) (T-not-of e);
            fitting = w.fitting;
            narrow = omega (arith, more, w.narrow);
          }

  pub ranged_after : a ≤ tasks job → T (fits_at job p a (tasks job)) → (k : ℕ) → Ranged job p a (2 ^ k) (range_after job p a k)
  unfolding range_after
  ranged_after h t zero = ranged_start h t
  ranged_after h t (suc k) =
      subst (λ (n : ℕ). Ranged job p a n (next_range job p a (range_after job p a k))) (let e : 2 * 2 ^ k ≡ 2 ^ suc k = omega arith in e)
      (ranged_turn (ranged_after h t k))

  -- A range of more than one index is no narrower than n allows.
  pub ranged_apart : {n : ℕ} {R : Range} → Ranged job p a n R → T (not (single R)) → (R.low < R.high) × (n ≤ tasks job)
  unfolding single
  ranged_apart {n} {R} w t = (apart, omega (arith, mul-le-mul_left n apart, w.narrow))
    where
      apart : R.low < R.high
      apart =
          elim (dec_le (suc R.low) R.high) [
            | yes x ↦ x
            | no x ↦
                absurd
                (T_not (eqb R.low R.high) t
                (T_of (eq-eqb R.low R.high (let e : R.low ≡ R.high = omega (arith, w.ordered) in e))))
          ]

  -- A range of one index has the smallest that fits.
  pub ranged_found : {n : ℕ} {R : Range} → Ranged job p a n R → R.low ≡ R.high → R.low ≡ first_fit job p a
  ranged_found {n} {R} w e = go (first_fit job p a) (first_fit_is job p a)
    where
      here : T (fits_at job p a R.low)
      here = subst (λ (i : ℕ). T (fits_at job p a i)) (sym e) w.fitting

      go : (j : ℕ) → Smallest (fits_at job p a) a (tasks job - a) j → R.low ≡ j
      go j s =
          elim (dec_le (suc R.low) j) [
            | yes x ↦ absurd (T_not (fits_at job p a R.low) (T-not-of (s.before R.low w.from x)) here)
            | no x ↦ elim (dec_le (suc j) R.low) [ yes y ↦ absurd (sooner y) | no y ↦ omega arith ]
          ]
        where
          sooner : suc j ≤ R.low → ⊥
          sooner y =
              elim s.found [
                | inl z ↦ omega (arith, w.from, w.ordered, w.to)
                | inr z ↦ T_not (fits_at job p a j) (w.before j s.from y) (T_of z)
              ]

module _ {job : Job} (ok : Proper job) (free : Free job) (p : ℕ) (l : p ≤ last job) (c : Comes job p) where
  pub ranged_at : (k : ℕ) → Ranged job p (start_on job p) (2 ^ k) (range_after job p (start_on job p) k)
  ranged_at k = ranged_after ok p (start_on job p) (start_to job p) (rest_fits ok free p l c) k

  -- Trial k + 1 is made only where 2ᵏ is at most N, so k is below digits(N).
  pub unsettled_below : (k : ℕ) → T (not (settled job p k)) → k < digits (tasks job)
  unfolding settled
  unsettled_below k t =
      digits_least (tasks job) k (ranged_apart ok p (start_on job p) (ranged_at k) t).1

  -- The trials of a processor end, within digits(N),
  pub trials_end : (k : ℕ) × (k ≤ digits (tasks job)) × T (is_first (settled job p) k)
  trials_end =
      first_exists (settled job p) (digits (tasks job))
      (λ h.
      let x : digits (tasks job) < digits (tasks job) = unsettled_below (digits (tasks job)) (h (digits (tasks job)) (omega arith)) in
      omega arith)

  pub trials_within : (k : ℕ) → T (is_first (settled job p) k) → k ≤ digits (tasks job)
  trials_within zero t = omega arith
  trials_within (suc k) t = unsettled_below k (first_fails (settled job p) (suc k) t k (omega arith))

  pub trials_first : T (is_first (settled job p) (nicol_trials job p))
  unfolding nicol_trials
  trials_first =
      subst (λ (k : ℕ). T (is_first (settled job p) k)) (sym (smallest_first (settled job p) (digits (tasks job)) trials_end.0 trials_end.1 trials_end.2))
      trials_end.2

  -- with the smallest index that fits.
  pub settled_found : (k : ℕ) → T (settled job p k) → (range_after job p (start_on job p) k).low ≡ first_fit job p (start_on job p)
  unfolding settled single
  settled_found k t =
      let R : Range = range_after job p (start_on job p) k in
      ranged_found ok p (start_on job p) (ranged_at k) (eqb→eq R.low R.high t)

-- The trials of several processors together are one number,
pub trials_unique : {job : Job} {n c d : ℕ} → TrialsTo job n c → TrialsTo job n d → c ≡ d
trials_unique {job} {n} x y =
    x.counted
    ∙ sum_same_below n (λ p h. first_unique (settled job p) (x.trials p) (y.trials p) (x.each p h) (y.each p h))
    ∙ sym y.counted

module _ {job : Job} (ok : Proper job) (free : Free job) where
  -- within the allowance,
  pub trials_allowed : (edition : Edition) (n c : ℕ) → n ≤ last job → ((p : ℕ) → p < n → Comes job p) → TrialsTo job n c → c ≤ allowance edition Nicol job
  unfolding allowance
  trials_allowed edition n c h comes t =
      omega (
        arith,
        t.counted,
        sum_below t.trials (suc (digits (tasks job))) n
            (λ p l. let x = trials_within ok free p (omega arith) (comes p l) (t.trials p) (t.each p l) in omega (arith, x)),
        mul-le-mul_right (digits (tasks job)) h,
      )

  -- and that of the definition.
  pub trials_are : (n : ℕ) → n ≤ last job → ((p : ℕ) → p < n → Comes job p) → TrialsTo job n (sum_to (nicol_trials job) n)
  trials_are n h comes =
      record { trials = nicol_trials job; each = λ p l. trials_first ok free p (omega arith) (comes p l); counted = refl }

-- The search comes as far as the first empty part that fits, and to the last processor where there is none.
first_comes : {job : Job} {p : ℕ} → T (is_first (empty_fits job) p) → Comes job p
first_comes {job} {p} t = record { none = first_fails (empty_fits job) p t }

none_comes : {job : Job} {n : ℕ} → T (all (λ p. not (empty_fits job p)) n) → Comes job n
none_comes {job} {n} t = record { none = all-at (λ p. not (empty_fits job p)) n t }

-- The count of the search is one number.
pub nicol_counts : {job : Job} {n k : ℕ} {B C : Bound} → NicolEnds job n B → NicolEnds job k C → n ≡ k
nicol_counts {job} {n} {k} (early p l t c e) (early q m u d f) =
    trials_unique c (subst (λ (i : ℕ). TrialsTo job (suc i) k) (first_unique (empty_fits job) q p u t) d)
nicol_counts {job} (early p l t c e) (whole u d f) =
    absurd (T_not (empty_fits job p) ((none_comes u).none p l) (first_holds (empty_fits job) p t))
nicol_counts {job} (whole t c e) (early p l u d f) =
    absurd (T_not (empty_fits job p) ((none_comes t).none p l) (first_holds (empty_fits job) p u))
nicol_counts (whole t c e) (whole u d f) = trials_unique c d

module _ {job : Job} (ok : Proper job) (free : Free job) where
  -- It ends at the least bound that fits,
  pub nicol_least : {n : ℕ} {B : Bound} → NicolEnds job n B → Least job B
  nicol_least (early p l t c e) = subst (Least job) (sym e) (empty_least ok p (first_holds (empty_fits job) p t))
  nicol_least (whole t c e) = subst (Least job) (sym e) (candidates_least ok free (none_comes t))

  -- within its allowance,
  pub nicol_allowed : (edition : Edition) {n : ℕ} {B : Bound} → NicolEnds job n B → n ≤ allowance edition Nicol job
  nicol_allowed edition {n} (early p l t c e) = trials_allowed ok free edition (suc p) n l (λ q h. comes_sooner (omega arith) (first_comes t)) c
  nicol_allowed edition {n} (whole t c e) = trials_allowed ok free edition (last job) n (omega arith) (λ q h. comes_sooner (omega arith) (none_comes t)) c

  -- with the count and the bottleneck of the definitions.
  pub nicol_is : NicolEnds job (sum_to (nicol_trials job) (cond (ltb (nicol_stop job) (last job)) (suc (nicol_stop job)) (last job)))
      (pick (ltb (nicol_stop job) (last job)) nought (least_candidate job))
  unfolding nicol_stop
  nicol_is = go (nicol_stop job) (smallest_is (empty_fits job) 0 (last job))
    where
      go : (r : ℕ) → Smallest (empty_fits job) 0 (last job) r
          → NicolEnds job (sum_to (nicol_trials job) (cond (ltb r (last job)) (suc r) (last job))) (pick (ltb r (last job)) nought (least_candidate job))
      go r s = elim (dec_le (suc r) (last job)) [ yes h ↦ ends_early h | no h ↦ ends_whole h ]
        where
          comes : Comes job r
          comes = record { none = λ q l. T-not-of (s.before q (omega arith) l) }

          ends_early : r < last job
              → NicolEnds job (sum_to (nicol_trials job) (cond (ltb r (last job)) (suc r) (last job))) (pick (ltb r (last job)) nought (least_candidate job))
          ends_early h =
              subst
              (λ (t : Bool). NicolEnds job (sum_to (nicol_trials job) (cond t (suc r) (last job))) (pick t nought (least_candidate job)))
              (sym (lt-ltb r (last job) h))
              (early r h (first_of (empty_fits job) r here comes.none) (trials_are ok free (suc r) h (λ q l. comes_sooner (omega arith) comes)) refl)
            where
              here : T (empty_fits job r)
              here = elim s.found [ inl e ↦ absurd (let z : ⊥ = omega (arith, e, h) in z) | inr e ↦ T_of e ]

          ends_whole : (suc r ≤ last job → ⊥)
              → NicolEnds job (sum_to (nicol_trials job) (cond (ltb r (last job)) (suc r) (last job))) (pick (ltb r (last job)) nought (least_candidate job))
          ends_whole h =
              subst
              (λ (t : Bool). NicolEnds job (sum_to (nicol_trials job) (cond t (suc r) (last job))) (pick t nought (least_candidate job)))
              (sym (le-ltb r (last job) (omega arith)))
              (whole (all_of (λ p. not (empty_fits job p)) (last job) (λ p l. comes.none p (omega (arith, l, h))))
              (trials_are ok free (last job) (omega arith) (λ q l. comes_sooner (omega (arith, l, h)) comes)) refl)
