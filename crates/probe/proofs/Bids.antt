-- The bids: one task more, and the least bid so far.
-- Assumes nothing.
use Prim.Native.Nat.{ℕ, suc, ◌+◌, ◌≤◌, ◌<◌}
use mathlib.Core.Path.{◌≡◌, refl, sym, ap, subst, ◌∙◌}
use mathlib.Core.List.{List}
use mathlib.Core.Logic.{◌⊎◌, inl, inr}
use native.Mathlib.Omega.{arith}
use native.Mathlib.Numerals.{add-one}
use lib.ListN.{get_or}
use Rattle.bound.specs.declared.Bound.{Bound}
use Rattle.bound.specs.Order.{over, infinite, lesser, least_below}
use Rattle.bound.proofs.Order.{least_next}
use Rattle.chain.specs.Job.{Job, Valid, tasks, processors, last, part_bound, offer}
use Rattle.chain.specs.Probe.{separator, bid, next_bid}
use Rattle.chain.proofs.Within.{offer_cases}
use Rattle.chain.proofs.NextBid.{bid_before, bid-last}
use Rattle.chain.specs.Ranges.{Narrow}
use Rattle.chain.proofs.Ranges.{part_small, small_narrow}
use Rattle.parts.specs.Prefix.{weight_between, load_between, Ready}
use Rattle.parts.proofs.Laws.{prefix_bound, started_some}
use Rattle.probe.specs.Walk.{least_before}

-- A bid is for one task more.
pub one_more : (job : Job) (p a i : ℕ) {C : Bound} → C ≡ offer job p a (i + 1) → C ≡ offer job p a (suc i)
one_more job p a i e = e ∙ ap (offer job p a) (add-one i)

-- The bound of a part is narrow.
pub part_narrow : {job : Job} {C : Bound} (p a b : ℕ) → Valid job → C ≡ part_bound job p a b → Narrow C
part_narrow p a b v e = subst Narrow (sym e) (small_narrow (part_small v p a b))

-- Read off the prefix sums: the bound of a part with one more task, and of all that remains.
module _ {job : Job} {xs : List ℕ} (r : Ready job xs) (p a : ℕ) (h : p < processors job) {C : Bound} where
  pub more_bound : (i : ℕ) → a ≤ i → i < tasks job → C ≡ over (job.startup + weight_between xs a (i + 1)) (get_or job.speeds p 0) → C ≡ part_bound job p a (i + 1)
  more_bound i k l e =
      prefix_bound r.prefix p a (i + 1) h (omega arith) (omega arith) refl
      (started_some job.startup xs (get_or job.speeds p 0) a (i + 1) (omega arith) e)

  pub rest_bound : a ≤ tasks job → C ≡ over (load_between job.startup xs a (tasks job)) (get_or job.speeds p 0) → C ≡ part_bound job p a (tasks job)
  rest_bound k e = prefix_bound r.prefix p a (tasks job) h k (omega arith) refl e

-- A bid has a speed, or is none.
pub offer_either : {job : Job} → Valid job → (p a b : ℕ) {C : Bound} → C ≡ offer job p a b → (1 ≤ C.speed) ⊎ (C ≡ infinite)
unfolding part_bound
offer_either {job} v p a b e =
    subst (λ (D : Bound). (1 ≤ D.speed) ⊎ (D ≡ infinite)) (sym e)
    (offer_cases job (λ D. (1 ≤ D.speed) ⊎ (D ≡ infinite)) p a b (λ t. inl (v.speeds_positive p)) (λ t. inr refl))

module _ {job : Job} (v : Valid job) (B : Bound) where
  -- One processor more, before the last,
  pub least_turn : (p : ℕ) → p < last job
      → lesser (least_before job B p) (offer job p (separator job B p) (suc (separator job B (suc p)))) ≡ least_before job B (suc p)
  unfolding least_below
  least_turn p h =
      ap (lesser (least_before job B p)) (sym (bid_before job B p h))
      ∙ least_next (bid job B) p (offer_either v p (separator job B p) (suc (separator job B (suc p))) (bid_before job B p h))

  -- and the last.
  pub least_end : lesser (least_before job B (last job)) (offer job (last job) (separator job B (last job)) (tasks job)) ≡ next_bid job B
  unfolding next_bid
  least_end =
      ap (lesser (least_before job B (last job))) (sym (bid-last job B))
      ∙ least_next (bid job B) (last job) (offer_either v (last job) (separator job B (last job)) (tasks job) (bid-last job B))
