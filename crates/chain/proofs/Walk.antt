-- The greedy walk: each part reaches as far as it can, so no partition within the bound is ahead of it anywhere; a probe fits
-- exactly when some partition is within the bound; a greater bound walks at least as far.
-- Assumes nothing.
use Prim.Native.Nat.{ℕ, zero, suc, ◌+◌, ◌-◌, ◌≤◌, ◌<◌}
use mathlib.Core.Path.{◌≡◌, refl, sym, ap, subst, ◌∙◌}
use mathlib.Core.Bool.{not}
use mathlib.Core.List.{List, [], ◌∷◌}
use mathlib.Core.Logic.{inl, inr, ◌↔◌}
use native.Mathlib.Omega.{arith}
use native.Mathlib.Decide.{dec_le}
use native.Mathlib.Numerals.{add-one}
use lib.Dec.{T, T_not}
use lib.ListN.{length, length-append}
use lib.Seq.{ext_get_or}
use Rattle.bound.specs.declared.Bound.{Bound}
use Rattle.bound.specs.Order.{◌≼◌, ◌≈◌, Real}
use Rattle.chain.specs.Lists.{tabulate}
use Rattle.chain.specs.Job.{Job, tasks, processors, last, within, at, Partition, bottleneck, Within}
use Rattle.chain.specs.Probe.{reach, separator, walk, walked, Begins, fits}
use Rattle.chain.proofs.Tests.{T_of, T-not-of}
use Rattle.chain.proofs.Parts.{Proper}
use Rattle.chain.proofs.Within.{within-keeps, within_empty, within_shrink}
use Rattle.chain.proofs.Indices.{Greatest, greatest_is, length-tabulate, at-tabulate, at_table, after_tabulate}
use Rattle.chain.proofs.Bottleneck.{processors-last, within-bottleneck}
use Rattle.chain.proofs.Cover.{Cover}
use Rattle.chain.proofs.CoverLaws.{cover_raise}

module _ (job : Job) where
  reach_is : (p a : ℕ) (B : Bound) → Greatest (λ b. within job p a b B) a (tasks job - a) (reach job p a B)
  unfolding reach
  reach_is p a B = greatest_is (λ b. within job p a b B) a (tasks job - a)

  pub reach_from : (p a : ℕ) (B : Bound) → a ≤ reach job p a B
  reach_from p a B = (reach_is p a B).from

  pub reach_to : (p a : ℕ) (B : Bound) → a ≤ tasks job → reach job p a B ≤ tasks job
  reach_to p a B h = omega (arith, (reach_is p a B).to)

  -- The part that is reached is within the bound.
  pub reach-within : (p a : ℕ) (B : Bound) → T (within job p a (reach job p a B) B)
  reach-within p a B =
      elim (reach_is p a B).found
      [ inl e ↦ subst (λ (b : ℕ). T (within job p a b B)) (sym e) (within_empty job p a B) | inr e ↦ T_of e ]

  -- No further part is.
  pub reach_past : (p a : ℕ) (B : Bound) → a ≤ tasks job → (k : ℕ) → reach job p a B < k → k ≤ tasks job → T (not (within job p a k B))
  reach_past p a B h k l m = T-not-of ((reach_is p a B).past k l (omega arith))

  -- A part that is within the bound, while the part with one more task is not, is the one that is reached.
  pub reach_unique : (p a r : ℕ) (B : Bound) → a ≤ r → r ≤ tasks job → T (within job p a r B)
      → (r < tasks job → T (not (within job p a (suc r) B))) → r ≡ reach job p a B
  reach_unique p a r B h k t u =
      elim (dec_le (suc (reach job p a B)) r) [
        | yes x ↦ absurd (T_not (within job p a r B) (reach_past p a B (omega arith) r x k) t)
        | no x ↦ elim (dec_le (suc r) (reach job p a B)) [ yes y ↦ absurd (further y) | no y ↦ omega arith ]
      ]
    where
      further : suc r ≤ reach job p a B → ⊥
      further y =
          T_not (within job p a (suc r) B) (u (omega (arith, reach_to p a B (omega arith))))
          (within_shrink job p a a (suc r) (reach job p a B) B (omega arith) (omega arith) y (reach-within p a B))

  module _ (B : Bound) where
    pub separator_to : (p : ℕ) → separator job B p ≤ tasks job
    unfolding separator
    separator_to zero = omega arith
    separator_to (suc p) = reach_to p (separator job B p) B (separator_to p)

    pub separator_grows : (p : ℕ) → separator job B p ≤ separator job B (suc p)
    unfolding separator
    separator_grows p = reach_from p (separator job B p) B

    pub separator_mono : (p k : ℕ) → separator job B p ≤ separator job B (p + k)
    separator_mono p zero = subst (λ (i : ℕ). separator job B p ≤ separator job B i) (let e : p ≡ p + 0 = omega arith in e) (omega arith)
    separator_mono p (suc k) =
        subst (λ (i : ℕ). separator job B p ≤ separator job B i) (let e : suc (p + k) ≡ p + suc k = omega arith in e)
        (omega (arith, separator_mono p k, separator_grows (p + k)))

    -- Once every task is placed, every further separator is N; while one is left, it was left before.
    pub separator_full : (p k : ℕ) → separator job B p ≡ tasks job → p ≤ k → separator job B k ≡ tasks job
    separator_full p k e h =
        omega (arith, separator_to k, separator_mono p (k - p), ap (separator job B) (let f : p + (k - p) ≡ k = omega arith in f))

    pub separator_left : (p k : ℕ) → separator job B p < tasks job → k ≤ p → separator job B k < tasks job
    separator_left p k h l =
        omega (arith, separator_mono k (p - k), ap (separator job B) (let f : k + (p - k) ≡ p = omega arith in f))

    pub separator-within : (p : ℕ) → T (within job p (separator job B p) (separator job B (suc p)) B)
    unfolding separator
    separator-within p = reach-within p (separator job B p) B

    pub separator_past : (p k : ℕ) → separator job B (suc p) < k → k ≤ tasks job → T (not (within job p (separator job B p) k B))
    unfolding separator
    separator_past p k h l = reach_past p (separator job B p) B (separator_to p) k h l

    -- The walk's separators as a list, and that it is a partition.
    pub walk_at : (p : ℕ) → p ≤ last job → at (walk job B) p ≡ separator job B p
    unfolding walk
    walk_at p h = at-tabulate (separator job B) (suc (last job)) (tasks job ∷ []) p (omega arith)

    pub walk_end : at (walk job B) (suc (last job)) ≡ tasks job
    unfolding walk
    walk_end =
        ap (at (walk job B)) (let e : suc (last job) ≡ suc (last job) + 0 = omega arith in e)
        ∙ after_tabulate (separator job B) (suc (last job)) (tasks job ∷ []) 0

    pub walk-length : length (walk job B) ≡ suc (suc (last job))
    unfolding walk
    walk-length =
        length-append (tabulate (separator job B) (suc (last job))) (tasks job ∷ [])
        ∙ ap (λ (n : ℕ). n + 1) (length-tabulate (separator job B) (suc (last job))) ∙ add-one (suc (last job))

    -- What a trial writes, entry by entry.
    pub walked_at : (p : ℕ) → p ≤ processors job → at (walked job B) p ≡ separator job B p
    unfolding walked
    walked_at p h = at_table (separator job B) (suc (processors job)) p (omega arith)

    pub walked-length : length (walked job B) ≡ suc (processors job)
    unfolding walked
    walked-length = length-tabulate (separator job B) (suc (processors job))

  -- Furthest: what the first processors can take within the bound is never ahead of the walk, and the walk takes it.
  pub walk_covers : (B : Bound) (p : ℕ) → Cover job B p (separator job B p)
  unfolding separator
  walk_covers B zero = refl
  walk_covers B (suc p) = (separator job B p, separator_grows B p, walk_covers B p, separator-within B p)

  pub furthest : (B : Bound) (p i : ℕ) → Cover job B p i → i ≤ tasks job → i ≤ separator job B p
  furthest B zero i e h = omega arith
  furthest B (suc p) i (j, l, c, t) h = step (furthest B p j c (omega arith))
    where
      step : j ≤ separator job B p → i ≤ separator job B (suc p)
      step m =
          elim (dec_le i (separator job B (suc p))) [
            | yes x ↦ x
            | no x ↦
                absurd
                (T_not (within job p (separator job B p) i B) (separator_past B p i (omega arith) h)
                (within_shrink job p j (separator job B p) i i B m (omega (arith, separator_grows B p)) (omega arith) t))
          ]

  -- So no way of giving tasks to the first processors is ahead of what a trial writes, which is one.
  begins_covers : {B : Bound} {p : ℕ} {t : List ℕ} → Begins job B p t → (k : ℕ) → k ≤ p → Cover job B k (at t k)
  begins_covers b zero h = b.first
  begins_covers {B} {p} {t} b (suc k) h = (at t k, b.grows k h, begins_covers b k (omega arith), b.each k h)

  pub walked_furthest : (B : Bound) (p : ℕ) (t : List ℕ) → p ≤ processors job → Begins job B p t → at t p ≤ at (walked job B) p
  walked_furthest B p t h b = omega (arith, furthest B p (at t p) (begins_covers b p (omega arith)) b.inside, walked_at B p h)

  pub walked_begins : (B : Bound) (p : ℕ) → p ≤ processors job → Begins job B p (walked job B)
  unfolding separator
  walked_begins B p h =
      record {
        first = walked_at B 0 (omega arith);
        grows = λ k l. omega (arith, walked_at B k (omega arith), walked_at B (suc k) (omega arith), separator_grows B k);
        inside = omega (arith, walked_at B p h, separator_to B p);
        each = λ k l.
            subst (λ (a : ℕ). T (within job k a (at (walked job B) (suc k)) B)) (sym (walked_at B k (omega arith)))
            (subst (λ (b : ℕ). T (within job k (separator job B k) b B)) (sym (walked_at B (suc k) (omega arith))) (separator-within B k));
      }

  -- Growing: a greater bound walks at least as far, so equal bounds walk alike.
  pub growing : {B C : Bound} → Real B → B ≼ C → (p : ℕ) → separator job B p ≤ separator job C p
  growing {B} {C} r h p = furthest C p (separator job B p) (cover_raise job r h p (separator job B p) (walk_covers B p)) (separator_to B p)

  pub walk_alike : {B C : Bound} → Real B → Real C → B ≈ C → walk job B ≡ walk job C
  walk_alike {B} {C} r t e = ext_get_or 0 (walk job B) (walk job C) (walk-length B ∙ sym (walk-length C)) each
    where
      each : (i : ℕ) → i < length (walk job B) → at (walk job B) i ≡ at (walk job C) i
      each i h =
          elim (dec_le i (last job)) [
            | yes l ↦ omega (arith, walk_at B i l, walk_at C i l, growing r e.to i, growing t e.from i)
            | no l ↦
                subst (λ (k : ℕ). at (walk job B) k ≡ at (walk job C) k)
                (let x : suc (last job) ≡ i = omega (arith, walk-length B) in x) (walk_end B ∙ sym (walk_end C))
          ]

  -- A partition within the bound is covered, part by part.
  pub partition_covers : {s : List ℕ} {B : Bound} → Partition job s → Within job s B → (p : ℕ) → p ≤ processors job → Cover job B p (at s p)
  partition_covers pa w zero h = pa.first
  partition_covers {s} pa w (suc p) h =
      (at s p, pa.grows p (omega arith), partition_covers pa w p (omega arith), w.each p (omega arith))

  -- A probe fits where the last processor's part, all the rest, is within the bound.
  pub fits_last : (B : Bound) → T (fits job B) → T (within job (last job) (separator job B (last job)) (tasks job) B)
  unfolding fits
  fits_last B t = t

  pub last_fits : (B : Bound) → T (within job (last job) (separator job B (last job)) (tasks job) B) → T (fits job B)
  unfolding fits
  last_fits B t = t

  pub fails_last : (B : Bound) → T (not (fits job B)) → T (not (within job (last job) (separator job B (last job)) (tasks job) B))
  unfolding fits
  fails_last B t = t

  -- It does where every task is placed before.
  pub full_fits : (B : Bound) (p : ℕ) → p ≤ last job → separator job B p ≡ tasks job → T (fits job B)
  full_fits B p h e =
      last_fits B
      (subst (λ (a : ℕ). T (within job (last job) a (tasks job) B)) (sym (separator_full B p (last job) e h))
      (within_empty job (last job) (tasks job) B))

  -- A probe fits exactly when all tasks can go to all processors within the bound.
  pub fits_cover : (B : Bound) → T (fits job B) → Cover job B (suc (last job)) (tasks job)
  fits_cover B t = (separator job B (last job), separator_to B (last job), walk_covers B (last job), fits_last B t)

  pub cover_fits : (B : Bound) → Cover job B (suc (last job)) (tasks job) → T (fits job B)
  cover_fits B (j, l, c, t) =
      last_fits B
      (within_shrink job (last job) j (separator job B (last job)) (tasks job) (tasks job) B (furthest B (last job) j c l)
      (separator_to B (last job)) (omega arith) t)

  -- That is exactly when the last processor reaches the last task.
  pub fits_reaches : (B : Bound) → T (fits job B) → separator job B (suc (last job)) ≡ tasks job
  fits_reaches B t =
      omega (arith, furthest B (suc (last job)) (tasks job) (fits_cover B t) (omega arith), separator_to B (suc (last job)))

  pub reaches_fits : (B : Bound) → separator job B (suc (last job)) ≡ tasks job → T (fits job B)
  reaches_fits B e = cover_fits B (subst (Cover job B (suc (last job))) e (walk_covers B (suc (last job))))

  -- What fits at a bound fits at every greater one.
  pub fits_raise : {B C : Bound} → Real B → B ≼ C → T (fits job B) → T (fits job C)
  fits_raise {B} {C} r h f = cover_fits C (cover_raise job r h (suc (last job)) (tasks job) (fits_cover B f))

  -- Where the probe fits, the walk is within the bound.
  pub walk-within : (B : Bound) → T (fits job B) → Within job (walk job B) B
  walk-within B t = record { each = each }
    where
      each : (p : ℕ) → p < processors job → T (within job p (at (walk job B) p) (at (walk job B) (suc p)) B)
      each p h =
          elim (dec_le (suc p) (last job)) [
            | yes l ↦
                subst (λ (a : ℕ). T (within job p a (at (walk job B) (suc p)) B)) (sym (walk_at B p (omega arith)))
                (subst (λ (b : ℕ). T (within job p (separator job B p) b B)) (sym (walk_at B (suc p) l)) (separator-within B p))
            | no l ↦
                subst (λ (i : ℕ). T (within job i (at (walk job B) i) (at (walk job B) (suc i)) B))
                (let e : last job ≡ p = omega arith in e)
                (subst (λ (a : ℕ). T (within job (last job) a (at (walk job B) (suc (last job))) B)) (sym (walk_at B (last job) (omega arith)))
                (subst (λ (b : ℕ). T (within job (last job) (separator job B (last job)) b B)) (sym (walk_end B)) (fits_last B t)))
          ]

module _ {job : Job} (ok : Proper job) where
  pub walk_partition : (B : Bound) → T (fits job B) → Partition job (walk job B)
  unfolding separator
  walk_partition B t =
      record {
        count = walk-length job B ∙ ap suc (sym (processors-last ok));
        first = walk_at job B 0 (omega arith);
        grows = grows;
        end = ap (at (walk job B)) (processors-last ok) ∙ walk_end job B;
        kept = λ p h. within-keeps job p (at (walk job B) p) (at (walk job B) (suc p)) B ((walk-within job B t).each p h);
      }
    where
      grows : (p : ℕ) → p < processors job → at (walk job B) p ≤ at (walk job B) (suc p)
      grows p h =
          elim (dec_le (suc p) (last job)) [
            | yes l ↦ omega (arith, walk_at job B p (omega arith), walk_at job B (suc p) l, separator_grows job B p)
            | no l ↦
                omega (
                  arith,
                  walk_at job B p (omega arith),
                  separator_to job B p,
                  walk_end job B,
                  ap (at (walk job B)) (let e : suc p ≡ suc (last job) = omega arith in e),
                )
          ]

  -- What a trial writes ends with the last task exactly where it fits, and is then the walk.
  pub walked-fits : (B : Bound) → T (fits job B) ↔ (at (walked job B) (processors job) ≡ tasks job)
  walked-fits B = (λ t. ends ∙ fits_reaches job B t, λ e. reaches_fits job B (sym ends ∙ e))
    where
      ends : at (walked job B) (processors job) ≡ separator job B (suc (last job))
      ends = walked_at job B (processors job) (omega arith) ∙ ap (separator job B) (processors-last ok)

  pub walked-walk : (B : Bound) → T (fits job B) → walked job B ≡ walk job B
  walked-walk B t =
      ext_get_or 0 (walked job B) (walk job B) (walked-length job B ∙ ap suc (processors-last ok) ∙ sym (walk-length job B)) each
    where
      each : (i : ℕ) → i < length (walked job B) → at (walked job B) i ≡ at (walk job B) i
      each i h =
          elim (dec_le i (last job)) [
            | yes l ↦ walked_at job B i (omega (arith, walked-length job B)) ∙ sym (walk_at job B i l)
            | no l ↦
                subst (λ (k : ℕ). at (walked job B) k ≡ at (walk job B) k)
                (let x : suc (last job) ≡ i = omega (arith, walked-length job B, processors-last ok) in x)
                (ap (at (walked job B)) (sym (processors-last ok)) ∙ (walked-fits B).0 t ∙ sym (walk_end job B))
          ]

  -- A partition within a bound makes the probe fit; its bottleneck is such a bound.
  pub partition_fits : {s : List ℕ} {B : Bound} → Partition job s → Within job s B → T (fits job B)
  partition_fits {s} {B} pa w =
      cover_fits job B
      (subst (λ (p : ℕ). Cover job B p (tasks job)) (processors-last ok)
      (subst (λ (i : ℕ). Cover job B (processors job) i) pa.end (partition_covers job pa w (processors job) (omega arith))))

  pub bottleneck-fits : {s : List ℕ} → Partition job s → T (fits job (bottleneck job s))
  bottleneck-fits pa = partition_fits pa (within-bottleneck ok pa)

  -- Demand 2: a trial at a bound fits exactly when some division stays within it.
  pub fits_exactly : (B : Bound) → T (fits job B) ↔ ((s : List ℕ) × Partition job s × Within job s B)
  fits_exactly B = (λ t. (walk job B, walk_partition B t, walk-within job B t), λ x. partition_fits x.1 x.2)
