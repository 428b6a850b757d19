-- A division is unbeaten exactly where no other has a smaller bottleneck, and exactly where its bottleneck is at most the one that a
-- method finds.
-- Assumes nothing.
use Prim.Native.Nat.{ℕ}
use mathlib.Core.Path.{◌≡◌, refl, subst, sym}
use mathlib.Core.Bool.{Bool, true, false}
use mathlib.Core.List.Memᴰ
use mathlib.Core.List.{List, [], ◌∷◌, Memᴰ}
use mathlib.Core.Logic.{◌↔◌, inl, inr}
use lib.Dec.{T}
use Rattle.bound.specs.declared.Bound.{Bound}
use Rattle.bound.specs.Order.{le, ◌≼◌, ◌≺◌}
use Rattle.bound.proofs.Order.{le_true, true_le, le_trans, le_or_lt, not_both, finite_real}
use Rattle.chain.specs.Job.{Job, bottleneck, Partition}
use Rattle.chain.specs.Probe.{walk}
use Rattle.chain.specs.Plan.{partitions, plan_of}
use Rattle.chain.specs.Grade.{every, unbeaten}
use Rattle.chain.proofs.Tests.{T_of, T_true, and_left, and_right, and_both, same_test}
use Rattle.chain.proofs.Parts.{Proper, Plannable}
use Rattle.chain.proofs.Bottleneck.{bottleneck_real}
use Rattle.chain.proofs.Walk.{walk_partition}
use Rattle.chain.proofs.Best.{Least, least_below_lem, least_met}
use Rattle.chain.proofs.Demand.{plan_of_best}
use Rattle.chain.proofs.Enumeration.{partitions_sound, partitions_complete}

every-at : (f : List ℕ → Bool) (ss : List (List ℕ)) → T (every f ss) → (s : List ℕ) → Memᴰ s ss → T (f s)
unfolding every
every-at f [] t s m = absurd (Memᴰ.not-nil m)
every-at f (x ∷ xs) t s m =
    elim (Memᴰ.cases_cons m) [
      | inl e ↦ subst (λ (y : List ℕ). T (f y)) (sym e) (and_left (f x) (every f xs) t)
      | inr k ↦ every-at f xs (and_right (f x) (every f xs) t) s k
    ]

every_of : (f : List ℕ → Bool) (ss : List (List ℕ)) → ((s : List ℕ) → Memᴰ s ss → T (f s)) → T (every f ss)
unfolding every
every_of f [] h = tt
every_of f (x ∷ xs) h = and_both (f x) (every f xs) (h x (Memᴰ.head refl)) (every_of f xs (λ s m. h s (Memᴰ.tail m)))

module _ {job : Job} (ok : Proper job) (s : List ℕ) where
  -- Scope 14.4: "no division of the job has a smaller bottleneck"
  pub unbeaten_exactly : T (unbeaten job s) ↔ ((t : List ℕ) → Partition job t → bottleneck job s ≼ bottleneck job t)
  unfolding unbeaten
  unbeaten_exactly = (
    λ u t w.
        true_le (T_true _ (every-at (λ t. le (bottleneck job s) (bottleneck job t)) (partitions job) u t (partitions_complete ok t w))),
    λ h.
        every_of (λ t. le (bottleneck job s) (bottleneck job t)) (partitions job) (λ t m. T_of (le_true (h t (partitions_sound ok t m)))),
  )

  -- It is so exactly where its bottleneck is at most the least bound that fits, whichever way that was found.
  pub unbeaten-at : {B : Bound} → Least job B → le (bottleneck job s) B ≡ unbeaten job s
  unbeaten-at {B} b =
      same_test (le (bottleneck job s) B) (unbeaten job s)
      (λ t. unbeaten_exactly.1 (λ r w. le_trans (finite_real b.finite) (true_le (T_true _ t)) (least_below_lem ok b r w)))
      (λ t.
      T_of
      (le_true
      (le_trans (bottleneck_real ok (walk job B)) (unbeaten_exactly.0 t (walk job B) (walk_partition ok B b.fitting)) (least_met ok b).to)))

module _ {job : Job} (can : Plannable job) where
  -- Our own plan is unbeaten,
  pub plan_unbeaten : unbeaten job (plan_of job) ≡ true
  plan_unbeaten = T_true _ ((unbeaten_exactly can.proper (plan_of job)).1 (plan_of_best can).least)

  -- and a division that is beaten is beaten by it.
  pub beaten_by : (s : List ℕ) → unbeaten job s ≡ false → bottleneck job (plan_of job) ≺ bottleneck job s
  beaten_by s e =
      elim (le_or_lt (bottleneck job s) (bottleneck job (plan_of job))) [
        | inl l ↦
            absurd
            (subst T e
            ((unbeaten_exactly can.proper s).1
            (λ t w. le_trans (bottleneck_real can.proper (plan_of job)) l ((plan_of_best can).least t w))))
        | inr l ↦ l
      ]

  -- Beaten exactly where some division has a smaller bottleneck.
  pub beaten_exactly : (s : List ℕ) → (unbeaten job s ≡ false) ↔ ((t : List ℕ) × Partition job t × (bottleneck job t ≺ bottleneck job s))
  beaten_exactly s = (
    λ e. (plan_of job, (plan_of_best can).partition, beaten_by s e),
    λ (t, w, l). go (unbeaten job s) refl t w l,
  )
    where
      go : (b : Bool) → unbeaten job s ≡ b → (t : List ℕ) → Partition job t → bottleneck job t ≺ bottleneck job s → b ≡ false
      go true e t w l = absurd (not_both l ((unbeaten_exactly can.proper s).0 (T_of e) t w))
      go false e t w l = refl
