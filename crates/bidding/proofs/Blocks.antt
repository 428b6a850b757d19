-- A walk through blocks of processors: where it meets the walk before, below that one's bids, the two go on together.
-- Assumes nothing.
use Prim.Native.Nat.{ℕ, zero, suc, ◌+◌, ◌-◌, ◌≤◌, ◌<◌}
use mathlib.Core.Path.{◌≡◌, refl, sym, ap, ap₂, subst, ◌∙◌}
use mathlib.Core.Bool.{true, false}
use mathlib.Core.List.{List}
use mathlib.Core.Logic.{◌⊎◌}
use native.Mathlib.Omega.{arith}
use native.Mathlib.Decide.{dec_le}
use native.Mathlib.Numerals.{add-one}
use lib.Dec.{T, not_T}
use lib.ListN.{length, get_or, set}
use Rattle.bound.specs.declared.Bound.{Bound}
use Rattle.bound.specs.Order.{infinite, le, ◌≼◌, ◌≺◌, lesser, least_below, Finite}
use Rattle.bound.proofs.Order.{true_le, false_lt, not_both, least_cases}
use Rattle.chain.specs.Job.{Job, Valid, tasks, processors, last, within, offer}
use Rattle.chain.specs.Probe.{reach, separator, bid}
use Rattle.chain.proofs.Within.{within-offer, offer-within}
use Rattle.chain.proofs.Parts.{valid_proper}
use Rattle.chain.proofs.Bottleneck.{processors-last}
use Rattle.chain.proofs.Walk.{reach_unique, separator_left}
use Rattle.chain.proofs.NextBid.{bid_before, bid_cases}
use Rattle.chain.specs.Ranges.{Narrow}
use Rattle.chain.proofs.Ranges.{offer_narrow, lesser_narrow, infinite_narrow}
use Rattle.parts.proofs.Front.{Front, front_next}
use Rattle.probe.specs.Walk.{least_before}
use Rattle.probe.proofs.Bids.{offer_either}
use Rattle.probe.proofs.Walked.{Walked, walked_turn}
use Rattle.bidding.specs.declared.Share.{Share}
use Rattle.bidding.specs.Blocks.{least_from, laid_bid, Come, Passes, Shared}
use Rattle.bidding.proofs.Least.{range_next, range_above, range_same}

-- A part that is within the bound, with a bid above it, is the one that is reached.
part_stays : (job : Job) (p a b : ℕ) {B : Bound} → a ≤ b → b < tasks job → T (within job p a b B) → B ≺ offer job p a (suc b) → b ≡ reach job p a B
part_stays job p a b {B} h k t x =
    reach_unique job p a b B h (omega arith) t
    (λ l. not_T (within job p a (suc b) B) (λ u. not_both x (within-offer job p a (suc b) u)))

pub share_ends : (job : Job) (p a b : ℕ) {B D : Bound} → a ≤ b → b < tasks job → T (within job p a b B) → le D B ≡ false → D ≡ offer job p a (suc b) → Narrow D
    → Shared job p a B (record { end = b; bid = D })
share_ends job p a b {B} {D} h k w t d n =
    record {
      end_is = part_stays job p a b h k w (subst (λ (E : Bound). B ≺ E) d (false_lt t));
      bid_is = λ l. d;
      small = n;
    }

-- A part whose bid for one more task is at most the bound can have that task.
pub one_more : (job : Job) (p a b : ℕ) {B D : Bound} → Finite B → D ≡ offer job p a (suc b) → le D B ≡ true → T (within job p a (b + 1) B)
one_more job p a b {B} f d t =
    subst (λ (i : ℕ). T (within job p a i B)) (sym (add-one b))
    (offer-within job p a (suc b) f (subst (λ (E : Bound). E ≼ B) d (true_le t)))

-- Bids have a speed or are none, and are narrow.
module _ {job : Job} (v : Valid job) (B : Bound) where
  pub bid_either : (p : ℕ) → (1 ≤ (bid job B p).speed) ⊎ (bid job B p ≡ infinite)
  bid_either p = bid_cases job B (λ C. (1 ≤ C.speed) ⊎ (C ≡ infinite)) p (λ a b. offer_either v p a b refl)

  pub least_narrow : (f : ℕ → Bound) → ((p : ℕ) → Narrow (f p)) → (n : ℕ) → Narrow (least_below f n)
  unfolding least_below
  least_narrow f h zero = infinite_narrow
  least_narrow f h (suc n) = least_cases Narrow f n (λ p l. h p)

  pub bid_narrow : (p : ℕ) → Narrow (bid job B p)
  bid_narrow p = bid_cases job B Narrow p (offer_narrow v p)

-- Where the walk meets the one before, and its bound is below that one's bids, nothing changes.
module _ {job : Job} (v : Valid job) {B : Bound} {xs : List ℕ} {p e a : ℕ} (w : Come job B xs p a) (h : p ≤ e) (k : e ≤ last job)
    (x : a ≡ get_or xs p 0) {L : Bound} (n : Narrow L) (u : B ≺ L) (l : L ≡ least_from (laid_bid job xs) p (e - p)) where
  meets : (d : ℕ) → p + d ≤ e → get_or xs (p + d) 0 ≡ separator job B (p + d)
  unfolding separator
  meets zero m = let y : p + 0 ≡ p = omega arith in ap (λ (i : ℕ). get_or xs i 0) y ∙ sym x ∙ w.start_is ∙ ap (separator job B) (sym y)
  meets (suc d) m =
      let y : p + suc d ≡ suc (p + d) = omega arith in
      ap (λ (i : ℕ). get_or xs i 0) y
      ∙ part_stays job (p + d) (get_or xs (p + d) 0) (get_or xs (suc (p + d)) 0) (w.laid.grows (p + d) (omega arith) (omega arith))
      (w.laid.inside (p + d) (omega arith) (omega arith)) (w.laid.each (p + d) (omega arith) (omega arith))
      (range_above (laid_bid job xs) (λ q. offer_either v q (get_or xs q 0) (suc (get_or xs (suc q) 0)) refl) p (omega arith) (omega arith)
      (subst (λ (D : Bound). B ≺ D) l u))
      ∙ ap (λ (i : ℕ). reach job (p + d) i B) (meets d (omega arith)) ∙ ap (separator job B) (sym y)

  meet : (q : ℕ) → p ≤ q → q ≤ e → get_or xs q 0 ≡ separator job B q
  meet q y z = subst (λ (i : ℕ). get_or xs i 0 ≡ separator job B i) (let f : p + (q - p) ≡ q = omega arith in f) (meets (q - p) (omega arith))

  left : separator job B e < tasks job
  left =
      elim (dec_le (suc p) e) [
        | yes y ↦
            let f : suc (e - 1) ≡ e = omega arith in
            omega (arith, meet e h (omega arith), w.laid.inside (e - 1) (omega arith) (omega arith), ap (λ (i : ℕ). get_or xs i 0) f)
        | no y ↦ omega (arith, w.start_is, w.left, ap (separator job B) (let f : p ≡ e = omega arith in f))
      ]

  pub passed_by : Passes job B xs xs p e (record { processor = e; start = get_or xs e 0; least = L })
  passed_by =
      record {
        from = h;
        to = omega arith;
        start_is = meet e h (omega arith);
        left = λ q z. separator_left job B e q left (omega arith);
        same = refl;
        done = λ q z. elim (dec_le (suc q) p) [ yes f ↦ w.before q f | no f ↦ meet q (omega arith) (omega arith) ];
        rest = λ q z. refl;
        small = n;
        all = λ z. (refl, l ∙ range_same (λ q f g. same q f g));
      }
    where
      same : (q : ℕ) → p ≤ q → q < e → laid_bid job xs q ≡ bid job B q
      same q f g =
          ap₂ (λ (i j : ℕ). offer job q i (suc j)) (meet q f (omega arith)) (meet (suc q) (omega arith) g)
          ∙ sym (bid_before job B q (omega arith))

-- What the walk of a block keeps: it stands before processor p, and has the least bid of those passed.
pub record Going (job : Job) (B : Bound) (xs ys : List ℕ) (first e p a was : ℕ) (least : Bound) : Type 0 where
  pub from : first ≤ p
  pub to : p ≤ e
  pub walked : Walked job B xs ys p a (least_before job B p)
  pub was_is : was ≡ get_or xs p 0
  pub least_is : least ≡ least_from (bid job B) first (p - first)
  pub small : Narrow least

module _ {job : Job} (v : Valid job) {B : Bound} {xs : List ℕ} {first e : ℕ} where
  pub going_start : {a was : ℕ} → Come job B xs first a → first ≤ e → was ≡ get_or xs first 0 → Going job B xs xs first e first a was infinite
  unfolding least_below
  going_start w h x =
      record {
        from = omega arith;
        to = h;
        walked =
            record {
              to = w.to;
              reached = w.start_is;
              left = w.left;
              least = refl;
              small = least_narrow v B (bid job B) (bid_narrow v B) first;
              front = record { same = refl; done = w.before; rest = λ k l. refl };
            };
        was_is = x;
        least_is = ap (least_from (bid job B) first) (let z : 0 ≡ first - first = omega arith in z);
        small = infinite_narrow;
      }

  -- The part that the list gives to the next processor.
  pub going_old : {ys : List ℕ} {p a was b c : ℕ} {least : Bound} → Come job B xs first c → Going job B xs ys first e p a was least → p < e → e ≤ last job
      → b ≡ get_or ys (p + 1) 0 → (was ≤ b) × (b < tasks job) × T (within job p was b B)
  going_old {ys} {p} {a} {was} {b} g w h t x = (
    omega (arith, w.was_is, is, g.laid.grows p w.from (omega arith)),
    omega (arith, is, g.laid.inside p w.from (omega arith)),
    subst (λ (i : ℕ). T (within job p i b B)) (sym w.was_is)
        (subst (λ (i : ℕ). T (within job p (get_or xs p 0) i B)) (sym is) (g.laid.each p w.from (omega arith))),
  )
    where
      is : b ≡ get_or xs (suc p) 0
      is = x ∙ w.walked.front.rest (p + 1) (omega arith) ∙ ap (λ (i : ℕ). get_or xs i 0) (add-one p)

  module _ (l : processors job < length xs) (t : e ≤ last job) {ys : List ℕ} {p a was : ℕ} {least : Bound} (w : Going job B xs ys first e p a was least)
      (h : p < e) {r : Share} (z : Shared job p a B r) where
    stored : Front (separator job B) (p + 1) xs (set ys p a)
    stored = front_next a w.walked.front (omega (arith, processors-last (valid_proper v))) w.walked.reached

    end_is : r.end ≡ separator job B (p + 1)
    unfolding separator
    end_is = z.end_is ∙ ap (λ (i : ℕ). reach job p i B) w.walked.reached ∙ ap (separator job B) (sym (add-one p))

    -- Where every task is placed it ends,
    pub going_placed : tasks job ≤ r.end → Passes job B xs (set ys p a) first e (record { processor = p + 1; start = r.end; least = least })
    going_placed y =
        record {
          from = omega (arith, w.from);
          to = omega arith;
          start_is = end_is;
          left = λ q f. separator_left job B p q (omega (arith, w.walked.reached, w.walked.left)) (omega arith);
          same = stored.same;
          done = stored.done;
          rest = stored.rest;
          small = w.small;
          all = λ f. absurd (let g : ⊥ = omega arith in g);
        }

    -- else it goes on.
    pub going_turn : {b : ℕ} {E : Bound} → r.end < tasks job → b ≡ get_or ys (p + 1) 0 → E ≡ lesser least r.bid
        → Going job B xs (set ys p a) first e (p + 1) r.end b E
    going_turn {b} {E} y f g =
        record {
          from = omega (arith, w.from);
          to = omega arith;
          walked = subst (λ (C : Bound). Walked job B xs (set ys p a) (p + 1) r.end C) turned.least turned;
          was_is = f ∙ w.walked.front.rest (p + 1) (omega arith);
          least_is =
              g ∙ ap₂ lesser w.least_is bid_is
              ∙ range_next (bid job B) (bid_either v B) first w.from (add-one p);
          small = subst Narrow (sym g) (lesser_narrow w.small z.small);
        }
      where
        turned : Walked job B xs (set ys p a) (p + 1) r.end (lesser (least_before job B p) r.bid)
        turned = walked_turn v l w.walked (omega arith) z.end_is y (z.bid_is y) refl

        bid_is : r.bid ≡ bid job B p
        bid_is =
            z.bid_is y
            ∙ ap₂ (λ (i j : ℕ). offer job p i (suc j)) w.walked.reached (end_is ∙ ap (separator job B) (add-one p))
            ∙ sym (bid_before job B p (omega arith))

  pub going_end : {ys : List ℕ} {p a was : ℕ} {least : Bound} → Going job B xs ys first e p a was least → e ≤ p
      → Passes job B xs ys first e (record { processor = e; start = a; least = least })
  going_end {ys} {p} {a} {was} {least} w h =
      let f : p ≡ e = omega (arith, w.to) in
      record {
        from = omega (arith, w.from);
        to = omega arith;
        start_is = w.walked.reached ∙ ap (separator job B) f;
        left = λ q l. separator_left job B p q (omega (arith, w.walked.reached, w.walked.left)) (omega arith);
        same = w.walked.front.same;
        done = λ q l. w.walked.front.done q (omega arith);
        rest = λ q l. w.walked.front.rest q (omega arith);
        small = w.small;
        all = λ y. (refl, w.least_is ∙ ap (λ (i : ℕ). least_from (bid job B) first (i - first)) f);
      }
