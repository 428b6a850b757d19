-- The one thing that every method must reach: a bound that fits and is at most every bound that fits. The walk at any such
-- bound is the best partition, and there is only one best partition.
-- Assumes nothing.
use Prim.Native.Nat.{ℕ, suc, ◌≤◌}
use mathlib.Core.Path.{◌≡◌, sym, ap, subst, ◌∙◌}
use mathlib.Core.List.{List}
use native.Mathlib.Omega.{arith}
use native.Mathlib.Decide.{dec_le}
use lib.Dec.{T}
use lib.ListN.{get_or-eq_default}
use lib.Seq.{ext_get_or}
use Rattle.bound.specs.declared.Bound.{Bound}
use Rattle.bound.specs.Order.{◌≼◌, ◌≈◌, Finite}
use Rattle.bound.proofs.Order.{finite_real, le_trans, eq_sym}
use Rattle.chain.specs.Job.{Job, processors, last, at, Partition, bottleneck, Within}
use Rattle.chain.specs.Probe.{walk, fits}
use Rattle.chain.specs.Plan.{Best}
use Rattle.chain.proofs.Parts.{Proper, separator_below}
use Rattle.chain.proofs.Bottleneck.{processors-last, bottleneck_real, bottleneck-le, le-bottleneck}
use Rattle.chain.proofs.Walk.{walk_partition, walk-within, walk_at, walk_end, walk_alike, bottleneck-fits, partition_covers, furthest}

-- A number that fits, and is at most every bound that fits.
pub record Least (job : Job) (B : Bound) : Type 0 where
  pub finite : Finite B
  pub fitting : T (fits job B)
  pub least : (C : Bound) → T (fits job C) → B ≼ C

-- Two least bounds are equal as bounds, and walk alike.
pub least_equal : {job : Job} {B C : Bound} → Least job B → Least job C → B ≈ C
least_equal {job} {B} {C} b c = record { to = b.least C c.fitting; from = c.least B b.fitting }

pub least_alike : {job : Job} {B C : Bound} → Least job B → Least job C → walk job B ≡ walk job C
least_alike {job} b c = walk_alike job (finite_real b.finite) (finite_real c.finite) (least_equal b c)

module _ {job : Job} (ok : Proper job) where
  -- No partition has a smaller bottleneck, and the walk's is equal.
  pub least_below_lem : {B : Bound} → Least job B → (s : List ℕ) → Partition job s → B ≼ bottleneck job s
  least_below_lem b s pa = b.least (bottleneck job s) (bottleneck-fits ok pa)

  pub least_met : {B : Bound} → Least job B → bottleneck job (walk job B) ≈ B
  least_met {B} b =
      record {
        to = bottleneck-le ok (walk-within job B b.fitting);
        from = least_below_lem b (walk job B) (walk_partition ok B b.fitting);
      }

  -- A partition within the bound is nowhere ahead of the walk.
  pub nowhere_ahead : {B : Bound} {s : List ℕ} → Partition job s → Within job s B → (p : ℕ) → at s p ≤ at (walk job B) p
  nowhere_ahead {B} {s} pa w p =
      elim (dec_le p (last job)) [
        | yes l ↦
            omega (
              arith,
              walk_at job B p l,
              furthest job B p (at s p) (partition_covers job pa w p (omega (arith, ok.some))) (separator_below pa p (omega (arith, ok.some))),
            )
        | no l ↦ past l
      ]
    where
      past : (p ≤ last job → ⊥) → at s p ≤ at (walk job B) p
      past l =
          elim (dec_le p (processors job)) [
            | yes m ↦
                subst (λ (i : ℕ). at s i ≤ at (walk job B) i) (let e : suc (last job) ≡ p = omega (arith, ok.some) in e)
                (omega (arith, walk_end job B, pa.end, ap (at s) (processors-last ok)))
            | no m ↦ omega (arith, get_or-eq_default s 0 {n = p} (omega (arith, pa.count)))
          ]

  -- The walk of any trial that fits is the best partition where its bottleneck is the least bound: a partition with an equal one is within
  -- that trial's bound, too.
  pub fit_best : {B : Bound} (M : Bound) → Least job B → T (fits job M) → bottleneck job (walk job M) ≼ B → Best job (walk job M)
  fit_best {B} M b f h =
      record {
        partition = walk_partition ok M f;
        least = λ t pa. le_trans (finite_real b.finite) h (least_below_lem b t pa);
        furthest = λ t pa e. nowhere_ahead pa (le-bottleneck ok pa (le_trans (bottleneck_real ok (walk job M)) e.to (bottleneck-le ok (walk-within job M f))));
      }

  -- So is the walk at a least bound.
  pub least_best : {B : Bound} → Least job B → Best job (walk job B)
  least_best {B} b = fit_best B b b.fitting (least_met b).to

-- There is at most one best partition.
pub best_unique : {job : Job} {s t : List ℕ} → Best job s → Best job t → s ≡ t
best_unique {job} {s} {t} a b =
    ext_get_or 0 s t (a.partition.count ∙ sym b.partition.count)
    (λ p h. omega (arith, a.furthest t b.partition (eq_sym same) p, b.furthest s a.partition same p))
  where
    same : bottleneck job s ≈ bottleneck job t
    same = record { to = a.least t b.partition; from = b.least s a.partition }
