-- The holds are enough exactly where some partition keeps them: the walk without a bound is one. Where they are, a bound at which a probe
-- fails is a number, and there is a number that fits.
-- Assumes nothing.
use Prim.Native.Nat.{ℕ, zero, suc, ◌+◌, ◌≤◌, ◌<◌}
use mathlib.Core.Path.{◌≡◌, refl, sym, ap, subst, ◌∙◌}
use mathlib.Core.Bool.{Bool, not, ◌&&◌}
use mathlib.Core.List.{List}
use mathlib.Core.Logic.{◌⊎◌, inl, inr, ◌↔◌}
use native.Mathlib.Omega.{arith}
use native.Mathlib.Decide.{dec_le}
use lib.Dec.{T, ltb, T_not, not_T}
use borrow.Author.Tests.{lt-ltb, ltb-true}
use Rattle.bound.specs.declared.Bound.{Bound}
use Rattle.bound.specs.Order.{infinite, Finite}
use Rattle.bound.proofs.Order.{finite_or_not, le_speedless}
use Rattle.chain.specs.Lists.{sum_to, all}
use Rattle.chain.specs.Job.{Job, tasks, processors, last, hold_of, enough, part_bound, keeps, within, at, Partition, bottleneck}
use Rattle.chain.specs.Probe.{separator, walk, fits}
use Rattle.chain.proofs.Tests.{T_of, T_true, and_left, and_right, and_both}
use Rattle.chain.proofs.Parts.{Proper, Plannable}
use Rattle.chain.proofs.Within.{Free, keeps_cases, keeps_unlimited, keeps-limited, within_of}
use Rattle.chain.proofs.Indices.{all-at, all_of}
use Rattle.chain.proofs.Bottleneck.{processors-last, bottleneck_finite}
use Rattle.chain.proofs.Walk.{separator_to, separator_past, separator_full, reaches_fits, walk_partition, bottleneck-fits}

module _ (job : Job) where
  -- The two tests of holds that fall short.
  abbrev limited : ℕ → Bool
  limited p = ltb 0 (hold_of job p)

  abbrev every-limited : Bool
  every-limited = all limited (processors job)

  abbrev short : Bool
  short = ltb (sum_to (hold_of job) (processors job)) (tasks job)

  -- Where every processor has a limit, a partition has no more tasks up to a separator than the processors before it hold.
  partition_holds : {s : List ℕ} → Partition job s → T every-limited → (n : ℕ) → n ≤ processors job → at s n ≤ sum_to (hold_of job) n
  unfolding sum_to
  partition_holds w t zero h = omega (arith, w.first)
  partition_holds {s} w t (suc n) h =
      let l : 0 < hold_of job n = ltb-true 0 (hold_of job n) (T_true (limited n) (all-at limited (processors job) t n h)) in
      let r = partition_holds w t n (omega arith) in
      elim (keeps_cases job n (at s n) (at s (suc n)) (w.kept n h)) [
        | inl e ↦ absurd (let z : ⊥ = omega arith in z)
        | inr k ↦ omega arith
      ]

  -- So a partition says that the holds are enough.
  pub partition_enough : {s : List ℕ} → Partition job s → T (enough job)
  unfolding enough
  partition_enough w =
      not_T (every-limited && short)
      (λ t.
      let l : sum_to (hold_of job) (processors job) < tasks job = ltb-true _ _ (T_true short (and_right every-limited short t)) in
      omega (arith, w.end, partition_holds w (and_left every-limited short t) (processors job) (omega arith)))

  module _ (B : Bound) (none : B.speed ≡ 0) where
    -- Without a bound a walk goes on as far as the hold lets it,
    goes_on : (p k : ℕ) → k ≤ tasks job → T (keeps job p (separator job B p) k) → k ≤ separator job B (suc p)
    goes_on p k h t =
        elim (dec_le k (separator job B (suc p))) [
          | yes x ↦ x
          | no x ↦
              absurd
              (T_not (within job p (separator job B p) k B) (separator_past job B p k (omega arith) h)
              (within_of job p (separator job B p) k (le_speedless (part_bound job p (separator job B p) k) none) t))
        ]

    -- so it has placed every task, or every processor before has a limit and is at its hold.
    at-holds : (p : ℕ) → (separator job B p ≡ tasks job) ⊎ (((q : ℕ) → q < p → 0 < hold_of job q) × (sum_to (hold_of job) p ≤ separator job B p))
    unfolding sum_to
    at-holds zero = inr (λ q h. absurd (let z : ⊥ = omega arith in z), omega arith)
    at-holds (suc p) = elim (at-holds p) [ inl e ↦ inl (separator_full job B p (suc p) e (omega arith)) | inr h ↦ step h.0 h.1 ]
      where
        full : T (keeps job p (separator job B p) (tasks job)) → separator job B (suc p) ≡ tasks job
        full t = omega (arith, goes_on p (tasks job) (omega arith) t, separator_to job B (suc p))

        step : ((q : ℕ) → q < p → 0 < hold_of job q) → sum_to (hold_of job) p ≤ separator job B p
            → (separator job B (suc p) ≡ tasks job)
            ⊎ (((q : ℕ) → q < suc p → 0 < hold_of job q) × (sum_to (hold_of job) p + hold_of job p ≤ separator job B (suc p)))
        step before below =
            elim (dec_le 1 (hold_of job p)) [
              | no z ↦ inl (full (keeps_unlimited job p (separator job B p) (tasks job) (omega arith)))
              | yes l ↦
                  elim (dec_le (separator job B p + hold_of job p) (tasks job)) [
                    | no m ↦ inl (full (keeps-limited job p (separator job B p) (tasks job) (omega arith)))
                    | yes m ↦
                        inr (
                          λ q h. elim (dec_le (suc q) p) [
                            | yes k ↦ before q k
                            | no k ↦ subst (λ (i : ℕ). 0 < hold_of job i) (let e : p ≡ q = omega arith in e) l
                          ],
                          omega (
                            arith,
                            goes_on p (separator job B p + hold_of job p) m (keeps-limited job p (separator job B p) (separator job B p + hold_of job p) (omega arith)),
                          ),
                        )
                  ]
            ]

module _ {job : Job} (can : Plannable job) where
  -- Where the holds are enough, a probe at a bound without a speed, which is no bound, fits.
  pub speedless_fits : (B : Bound) → B.speed ≡ 0 → T (fits job B)
  unfolding enough
  speedless_fits B e = reaches_fits job B (elim (at-holds job B e (suc (last job))) [ inl x ↦ x | inr x ↦ all_held x.0 x.1 ])
    where
      P : processors job ≡ suc (last job)
      P = processors-last can.proper

      all_held : ((q : ℕ) → q < suc (last job) → 0 < hold_of job q) → sum_to (hold_of job) (suc (last job)) ≤ separator job B (suc (last job))
          → separator job B (suc (last job)) ≡ tasks job
      all_held h l =
          elim (dec_le (tasks job) (sum_to (hold_of job) (processors job))) [
            | yes x ↦ omega (arith, ap (sum_to (hold_of job)) P, separator_to job B (suc (last job)))
            | no x ↦
                absurd
                (T_not (every-limited job && short job) can.enough-holds
                (and_both (every-limited job) (short job)
                (all_of (limited job) (processors job) (λ q k. T_of (lt-ltb 0 (hold_of job q) (h q (omega (arith, P))))))
                (T_of (lt-ltb (sum_to (hold_of job) (processors job)) (tasks job) (omega arith)))))
          ]

  -- So a bound at which a probe fails is a number,
  pub fails_finite : (B : Bound) → T (not (fits job B)) → Finite B
  fails_finite B t = elim (finite_or_not B) [ inl f ↦ f | inr e ↦ absurd (T_not (fits job B) t (speedless_fits B e)) ]

  -- there is a partition, and a number that fits.
  pub some_partition : (s : List ℕ) × Partition job s
  some_partition = (walk job infinite, walk_partition can.proper infinite (speedless_fits infinite refl))

  pub some_fits : (B : Bound) × Finite B × T (fits job B)
  some_fits =
      let s = some_partition in
      (bottleneck job s.0, bottleneck_finite can.proper s.0, bottleneck-fits can.proper s.1)

  -- A single processor holds all tasks.
  pub single-keeps : last job ≡ 0 → T (keeps job 0 0 (tasks job))
  single-keeps e =
      let s = some_partition in
      let one : processors job ≡ 1 = processors-last can.proper ∙ ap suc e in
      subst (λ (a : ℕ). T (keeps job 0 a (tasks job))) s.1.first
      (subst (λ (b : ℕ). T (keeps job 0 (at s.0 0) b)) (sym (ap (at s.0) one) ∙ s.1.end) (s.1.kept 0 (omega arith)))

-- The holds are enough exactly where some partition keeps them.
pub enough_exactly : {job : Job} → Proper job → T (enough job) ↔ ((s : List ℕ) × Partition job s)
enough_exactly {job} ok = (λ e. some_partition (record { proper = ok; enough-holds = e }), λ x. partition_enough job x.1)

-- Without holds they are.
pub free_plannable : {job : Job} → Proper job → Free job → Plannable job
unfolding enough
free_plannable {job} ok f =
    record {
      proper = ok;
      enough-holds =
          not_T (every-limited job && short job)
          (λ t.
          let l : 0 < hold_of job 0 = ltb-true 0 (hold_of job 0) (T_true (limited job 0) (all-at (limited job) (processors job) (and_left (every-limited job) (short job) t) 0 ok.some)) in
          omega (arith, f.none 0));
    }
