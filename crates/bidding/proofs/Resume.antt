-- Where the walk at a failed trial's next bid parts from the failed walk: what the scan for it keeps, and what it comes to.
-- Assumes nothing.
use Prim.Native.Nat.{ℕ, zero, suc, ◌+◌, ◌*◌, ◌^◌, ◌≤◌, ◌<◌}
use mathlib.Core.Path.{◌≡◌, refl, sym, ap, ap₂, subst, ◌∙◌}
use mathlib.Core.Bool.{false, not}
use mathlib.Core.List.{List}
use native.Mathlib.Omega.{arith}
use native.Mathlib.Decide.{dec_le}
use native.Mathlib.Numerals.{add-one}
use lib.Dec.{T}
use lib.ListN.{length, get_or}
use Rattle.bound.specs.declared.Bound.{Bound}
use Rattle.bound.specs.Order.{infinite, ◌≼◌, ◌≺◌, le, lesser, least_below, Real}
use Rattle.bound.proofs.Order.{false_lt, lt-le, speed_real}
use Rattle.chain.specs.Job.{Job, Valid, tasks, processors, last, enough, offer}
use Rattle.chain.specs.Probe.{separator, fits, bid, next_bid}
use Rattle.chain.proofs.Parts.{valid_proper, valid_plannable}
use Rattle.chain.proofs.Bottleneck.{processors-last}
use Rattle.chain.proofs.Walk.{separator_grows}
use Rattle.chain.proofs.Visited.{visited_fails}
use Rattle.chain.proofs.NextBid.{bid_before, fails_before_end, next_above, next_finite, separator_stays, least_stays}
use Rattle.chain.specs.Ranges.{Lendable, Narrow}
use Rattle.chain.proofs.Ranges.{next_bid_small, narrow_products, small_narrow, lesser_narrow, infinite_narrow}
use Rattle.probe.specs.Walk.{least_before, begun, Reached}
use Rattle.probe.proofs.Walked.{begun-length, begun-at}
use Rattle.probe.proofs.Bids.{least_turn}
use Rattle.bidding.specs.Failed.{FailedWalk}

-- What the scan keeps: the bids of the processors before p are above the next bid C.
pub record Parted (job : Job) (B C : Bound) (p a : ℕ) (least : Bound) : Type 0 where
  pub to : p ≤ last job
  pub start_is : a ≡ separator job B p
  pub least_is : least ≡ least_before job B p
  pub small : Narrow least
  pub above : (q : ℕ) → q < p → C ≺ bid job B q

pub parted_start : (job : Job) (B C : Bound) → Parted job B C 0 0 infinite
unfolding separator least_below
parted_start job B C =
    record {
      to = omega arith;
      start_is = refl;
      least_is = refl;
      small = infinite_narrow;
      above = λ q h. absurd (let z : ⊥ = omega arith in z);
    }

-- The walk that a failed trial has written.
pub failed_written : {job : Job} {ys : List ℕ} (xs : List ℕ) {B C : Bound} → Valid job → Lendable B → T (not (fits job B)) → C ≡ next_bid job B → processors job < length xs
    → ys ≡ begun job B xs → FailedWalk job C ys
failed_written {job} {ys} xs {B} {C} v l t n h e =
    record {
      bound = B;
      lendable = l;
      rejected = record { failed = t; bids = n };
      room = omega (arith, ap length e, begun-length v B xs h);
      each = λ p m.
          ap (λ (l : List ℕ). get_or l p 0) e
          ∙ begun-at v B xs h p (omega (arith, processors-last (valid_proper v), visited_fails (valid_proper v) B t));
    }

-- What the scan keeps, whichever failed walk it is.
abbrev pub Scanned : Job → Bound → List ℕ → ℕ → ℕ → Bound → Type 0
Scanned job C xs p a least = (f : FailedWalk job C xs) → Parted job f.bound C p a least

module _ {job : Job} (v : Valid job) (h : T (enough job)) {C : Bound} {xs : List ℕ} (f : FailedWalk job C xs) where
  -- The products of the comparison with the next bid fit.
  pub parting_products : {D : Bound} → Narrow D → (D.load * C.speed < 2 ^ 64) × (C.load * D.speed < 2 ^ 64)
  parting_products n = narrow_products n (subst Narrow (sym f.rejected.bids) (small_narrow (next_bid_small v f.bound (next_finite (valid_plannable v h) f.bound f.rejected.failed))))

  module _ {p a : ℕ} {least : Bound} (w : Parted job f.bound C p a least) where
    -- The next separator,
    end_is : {b : ℕ} → p < last job → b ≡ get_or xs (p + 1) 0 → b ≡ separator job f.bound (suc p)
    end_is h e = e ∙ ap (λ (i : ℕ). get_or xs i 0) (add-one p) ∙ f.each (suc p) h

    pub end_after : {b : ℕ} → p < last job → b ≡ get_or xs (p + 1) 0 → a ≤ b
    end_after h e = omega (arith, w.start_is, end_is h e, separator_grows job f.bound p)

    -- before the last task, since the trial failed,
    pub end_before : {b : ℕ} → p < last job → b ≡ get_or xs (p + 1) 0 → b < tasks job
    end_before h e = omega (arith, end_is h e, fails_before_end job f.bound f.rejected.failed (suc p) h)

    -- and one processor more whose bid is above.
    pub parted_turn : {b : ℕ} {D E : Bound} → p < last job → b ≡ get_or xs (p + 1) 0 → D ≡ offer job p a (suc b) → Narrow D → le D C ≡ false → E ≡ lesser least D
        → Parted job f.bound C (p + 1) b E
    parted_turn {b} {D} {E} h e d n t g =
        subst (λ (i : ℕ). Parted job f.bound C i b E) (sym (add-one p))
        (record {
          to = h;
          start_is = end_is h e;
          least_is = g ∙ ap₂ lesser w.least_is is_part ∙ least_turn v f.bound p h;
          small = subst Narrow (sym g) (lesser_narrow w.small n);
          above = λ q l. elim (dec_le (suc q) p) [ yes m ↦ w.above q m | no m ↦ last_above q (omega arith) ];
        })
      where
        is_part : D ≡ offer job p (separator job f.bound p) (suc (separator job f.bound (suc p)))
        is_part = d ∙ ap₂ (λ (i j : ℕ). offer job p i (suc j)) w.start_is (end_is h e)

        last_above : (q : ℕ) → p ≡ q → C ≺ bid job f.bound q
        last_above q x =
            subst (λ (i : ℕ). C ≺ bid job f.bound i) x
            (subst (λ (F : Bound). C ≺ F) (is_part ∙ sym (bid_before job f.bound p h)) (false_lt t))

    -- The walk at the next bid comes as far.
    real : Real f.bound
    real = speed_real f.lendable.speed_positive

    less : f.bound ≼ C
    less = subst (λ (F : Bound). f.bound ≼ F) (sym f.rejected.bids) (lt-le (next_above (valid_plannable v h) f.bound f.rejected.failed))

    stays : (q : ℕ) → q ≤ p → separator job C q ≡ separator job f.bound q
    stays = separator_stays job real less p w.to w.above

    least_before_lem : (q : ℕ) → q ≤ p → least_before job C q ≡ least_before job f.bound q
    unfolding least_below
    least_before_lem zero h = refl
    least_before_lem (suc q) h = least_stays job real less p w.to w.above q h

    pub parted_reached : Reached job C xs (record { processor = p; start = a; least = least })
    parted_reached =
        record {
          to = w.to;
          start_is = w.start_is ∙ sym (stays p (omega arith));
          least_is = w.least_is ∙ sym (least_before_lem p (omega arith));
          small = w.small;
          left = λ k h. omega (arith, stays k (omega arith), fails_before_end job f.bound f.rejected.failed k (omega (arith, w.to)));
          before = λ k h. f.each k (omega (arith, w.to)) ∙ sym (stays k (omega arith));
        }

    -- The same where the scan has come to the last processor.
    pub parted_ended : last job ≤ p → Reached job C xs (record { processor = last job; start = a; least = least })
    parted_ended l =
        subst (λ (i : ℕ). Reached job C xs (record { processor = i; start = a; least = least })) (let e : p ≡ last job = omega (arith, w.to) in e) parted_reached
