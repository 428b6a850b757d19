-- Measuring a partition: its entries are indices, the bottleneck reads no others, and the loop keeps the greatest bound so far.
-- Assumes nothing.
use Prim.Native.Nat.{ℕ, zero, suc, ◌+◌, ◌-◌, ◌*◌, ◌≤◌, ◌<◌, ◌^◌}
use mathlib.Core.Path.{◌≡◌, sym, ap, ap₂, subst, ◌∙◌}
use mathlib.Core.List.{List}
use native.Mathlib.Omega.{arith}
use native.Mathlib.Numerals.{add-one}
use lib.ListN.{length, take, length-take}
use lib.Seq.{get_or-take}
use Rattle.bound.specs.declared.Bound.{Bound}
use Rattle.bound.specs.Order.{greater}
use Rattle.chain.specs.Job.{Job, Valid, tasks, processors, last, part_bound, at, Partition, bound_at, bottleneck_to, bottleneck}
use Rattle.chain.proofs.Parts.{separator_below}
use Rattle.chain.specs.Ranges.{Small}
use Rattle.chain.proofs.Ranges.{bound_small, small_products}
use Rattle.bound.proofs.Order.{greater_cases}

-- A list that begins with a partition.
module _ {job : Job} (s : List ℕ) (part : Partition job (take (suc (processors job)) s)) where
  pub front_length : processors job < length s
  front_length = omega (arith, part.count, length-take (suc (processors job)) s)

  front_entry : (p : ℕ) → p ≤ processors job → at (take (suc (processors job)) s) p ≡ at s p
  front_entry p h = get_or-take (suc (processors job)) s p 0 (omega arith)

  -- Its entries, as they are read, are the ends of a part.
  pub front_part : {i j p : ℕ} → p < processors job → i ≡ at s p → j ≡ at s (p + 1) → (i ≤ j) × (j ≤ tasks job)
  front_part {i} {j} {p} h x y =
      let e : at s (p + 1) ≡ at s (suc p) = ap (at s) (add-one p) in
      let g : at s (suc p) ≤ tasks job = omega (arith, front_entry (suc p) h, separator_below part (suc p) h) in
      (omega (arith, front_entry p (omega arith), front_entry (suc p) h, part.grows p h), omega arith)

-- The bound of the part between two entries.
pub bound_read : (job : Job) (s : List ℕ) (p : ℕ) {i j : ℕ} {B : Bound} → i ≡ at s p → j ≡ at s (p + 1) → B ≡ part_bound job p i j → B ≡ bound_at job s p
unfolding bound_at
bound_read job s p x y e = e ∙ ap₂ (part_bound job p) x (y ∙ ap (at s) (add-one p))

-- Lists with the same entries up to the number of processors have the same bottleneck.
module _ (job : Job) (s t : List ℕ) where
  same_to : (p : ℕ) → ((k : ℕ) → k ≤ suc p → at s k ≡ at t k) → bottleneck_to job s p ≡ bottleneck_to job t p
  unfolding bottleneck_to bound_at
  same_to zero h = ap₂ (part_bound job 0) (h 0 (omega arith)) (h 1 (omega arith))
  same_to (suc p) h =
      ap₂ greater (same_to p (λ k l. h k (omega arith))) (ap₂ (part_bound job (suc p)) (h (suc p) (omega arith)) (h (suc (suc p)) (omega arith)))

  pub bottleneck_same : 1 ≤ processors job → ((k : ℕ) → k ≤ processors job → at s k ≡ at t k) → bottleneck job s ≡ bottleneck job t
  unfolding bottleneck
  bottleneck_same some h = same_to (last job) (λ k l. h k (omega arith))

-- It reads the first entries only.
pub bottleneck-take : (job : Job) (s : List ℕ) → 1 ≤ processors job → bottleneck job s ≡ bottleneck job (take (suc (processors job)) s)
bottleneck-take job s some =
    bottleneck_same job s (take (suc (processors job)) s) some (λ k h. sym (get_or-take (suc (processors job)) s k 0 (omega arith)))

-- The loop over the processors: the greatest bound of the first p.
pub record Measured (job : Job) (s : List ℕ) (p : ℕ) (B : Bound) : Type 0 where
  pub from : 1 ≤ p
  pub to : p ≤ processors job
  pub greatest : B ≡ bottleneck_to job s (p - 1)
  pub small : Small B

pub measured_start : {job : Job} → Valid job → (s : List ℕ) → {B : Bound} → B ≡ bound_at job s 0 → Measured job s 1 B
unfolding bottleneck_to
measured_start v s e =
    record { from = omega arith; to = v.some_processor; greatest = e; small = subst Small (sym e) (bound_small v s 0) }

-- The products of a turn's comparison.
pub measured_products : {job : Job} → Valid job → (s : List ℕ) → {p : ℕ} {B C : Bound} → Measured job s p B → C ≡ bound_at job s p
    → (C.load * B.speed < 2 ^ 64) × (B.load * C.speed < 2 ^ 64)
measured_products v s {p} w e = small_products (subst Small (sym e) (bound_small v s p)) w.small

pub measured_turn : {job : Job} → Valid job → (s : List ℕ) → {p : ℕ} {B C D : Bound} → Measured job s p B → p < processors job → C ≡ bound_at job s p
    → D ≡ greater B C → Measured job s (p + 1) D
unfolding bottleneck_to
measured_turn {job} v s {p} {B} {C} {D} w h e f =
    record {
      from = omega arith;
      to = omega arith;
      greatest =
          f ∙ ap₂ greater w.greatest (e ∙ ap (bound_at job s) (let x : p ≡ suc (p - 1) = omega (arith, w.from) in x))
          ∙ ap (bottleneck_to job s) (let x : suc (p - 1) ≡ p + 1 - 1 = omega (arith, w.from) in x);
      small = subst Small (sym f) (greater_cases Small B C w.small (subst Small (sym e) (bound_small v s p)));
    }

pub measured_end : {job : Job} {s : List ℕ} {p : ℕ} {B : Bound} → Measured job s p B → processors job ≤ p → B ≡ bottleneck job s
unfolding bottleneck
measured_end {job} {s} {p} w h = w.greatest ∙ ap (bottleneck_to job s) (let x : p - 1 ≡ last job = omega (arith, w.to) in x)
