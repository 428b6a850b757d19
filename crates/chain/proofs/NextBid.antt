-- The next bid of a probe that fails is above its bound and at most every bound that fits; a walk at a greater bound agrees
-- with a failed walk up to the first processor whose bid is within that bound.
-- Assumes nothing.
use Prim.Native.Nat.{ℕ, zero, suc, ◌≤◌, ◌<◌}
use mathlib.Core.Path.{◌≡◌, sym, ap, ap₂, subst, ◌∙◌}
use mathlib.Core.Bool.{Bool, true, false, not}
use mathlib.Core.Logic.{inl, inr}
use native.Mathlib.Omega.{arith}
use native.Mathlib.Decide.{dec_le}
use lib.Dec.{T, ltb, T_not}
use borrow.Author.Tests.{lt-ltb, le-ltb}
use Rattle.bound.specs.declared.Bound.{Bound}
use Rattle.bound.specs.Order.{◌≼◌, ◌≺◌, pick, Real, Finite}
use Rattle.bound.proofs.Order.{finite_below, le_or_lt, lt-le_trans, not_both, least_cases, least_le, least_same}
use Rattle.chain.specs.Job.{Job, tasks, last, offer}
use Rattle.chain.specs.Probe.{separator, fits, bid, least_bid_to, next_bid}
use Rattle.chain.proofs.Parts.{Proper, Plannable}
use Rattle.chain.proofs.Within.{within_shrink, within-offer, past_offer, offer_real}
use Rattle.chain.proofs.Walk.{separator_to, separator_grows, separator-within, separator_past, growing, fits_last, fails_last, full_fits}
use Rattle.chain.proofs.Enough.{fails_finite, some_fits}

module _ (job : Job) (B : Bound) where
  -- The bids of the processors before the last, and of the last.
  pub bid_before : (p : ℕ) → p < last job → bid job B p ≡ offer job p (separator job B p) (suc (separator job B (suc p)))
  unfolding bid
  bid_before p h =
      ap
      (λ (t : Bool).
      pick t (offer job p (separator job B p) (suc (separator job B (suc p)))) (offer job p (separator job B p) (tasks job)))
      (lt-ltb p (last job) h)

  pub bid-last : bid job B (last job) ≡ offer job (last job) (separator job B (last job)) (tasks job)
  unfolding bid
  bid-last =
      ap
      (λ (t : Bool).
      pick t (offer job (last job) (separator job B (last job)) (suc (separator job B (suc (last job)))))
      (offer job (last job) (separator job B (last job)) (tasks job)))
      (le-ltb (last job) (last job) (omega arith))

  -- A property of every offer of a processor is its bid's, and a property of every bid the next bid's.
  pub bid_cases : (Q : Bound → Type 0) (p : ℕ) → ((a b : ℕ) → Q (offer job p a b)) → Q (bid job B p)
  unfolding bid
  bid_cases Q p h = go (ltb p (last job))
    where
      go : (t : Bool) → Q (pick t (offer job p (separator job B p) (suc (separator job B (suc p)))) (offer job p (separator job B p) (tasks job)))
      go true = h (separator job B p) (suc (separator job B (suc p)))
      go false = h (separator job B p) (tasks job)

  pub next_cases : (Q : Bound → Type 0) → ((p : ℕ) → p ≤ last job → Q (bid job B p)) → Q (next_bid job B)
  unfolding next_bid
  next_cases Q h = least_cases Q (bid job B) (last job) h

  -- In a probe that fails every separator before the end is before the last task.
  pub fails_before_end : T (not (fits job B)) → (p : ℕ) → p ≤ last job → separator job B p < tasks job
  fails_before_end t p h =
      elim (dec_le (suc (separator job B p)) (tasks job)) [
        | yes x ↦ x
        | no x ↦ absurd (T_not (fits job B) t (full_fits job B p h (omega (arith, separator_to job B p))))
      ]

module _ (job : Job) where
  -- A bound below the bids of the processors before p walks no further up to p.
  behind : (B C : Bound) (p : ℕ) → p ≤ last job → ((q : ℕ) → q < p → C ≺ bid job B q) → separator job C p ≤ separator job B p
  unfolding separator
  behind B C zero l h = omega arith
  behind B C (suc p) l h = step (behind B C p (omega arith) (λ q k. h q (omega arith)))
    where
      step : separator job C p ≤ separator job B p → separator job C (suc p) ≤ separator job B (suc p)
      step m =
          elim (dec_le (separator job C (suc p)) (separator job B (suc p))) [
            | yes x ↦ x
            | no x ↦
                absurd
                (not_both (h p (omega arith))
                (subst (λ (D : Bound). D ≼ C) (sym (bid_before job B p l))
                (within-offer job p (separator job B p) (suc (separator job B (suc p)))
                (within_shrink job p (separator job C p) (separator job B p) (suc (separator job B (suc p))) (separator job C (suc p)) C m
                (omega (arith, separator_grows job B p)) (omega arith) (separator-within job C p)))))
          ]

  -- So a greater bound that is below those bids walks just as far up to p: each separator stays,
  module _ {B C : Bound} (b : Real B) (m : B ≼ C) (p : ℕ) (l : p ≤ last job) (h : (q : ℕ) → q < p → C ≺ bid job B q) where
    pub separator_stays : (q : ℕ) → q ≤ p → separator job C q ≡ separator job B q
    separator_stays q k = omega (arith, behind B C q (omega arith) (λ i n. h i (omega arith)), growing job b m q)

    -- and so does each bid before p,
    bid_stays : (q : ℕ) → q < p → bid job C q ≡ bid job B q
    bid_stays q k =
        bid_before job C q (omega arith)
        ∙ ap₂ (λ (i j : ℕ). offer job q i (suc j)) (separator_stays q (omega arith)) (separator_stays (suc q) k)
        ∙ sym (bid_before job B q (omega arith))

    -- and the least of them.
    pub least_stays : (q : ℕ) → q < p → least_bid_to job C q ≡ least_bid_to job B q
    least_stays q k = least_same q (λ i l. bid_stays i (omega arith))

module _ {job : Job} (ok : Proper job) where
  pub bid_real : (B : Bound) (p : ℕ) → Real (bid job B p)
  bid_real B p = bid_cases job B Real p (offer_real job ok p)

  pub next_real : (B : Bound) → Real (next_bid job B)
  next_real B = next_cases job B Real (λ p h. bid_real B p)

  -- The next bid is at most every bid.
  pub next_le-bid : (B : Bound) (p : ℕ) → p ≤ last job → next_bid job B ≼ bid job B p
  unfolding next_bid
  next_le-bid B p h = least_le (bid job B) (bid_real B) (last job) p h

  -- The next bid is at most every bound that fits.
  pub next_least : (B C : Bound) → T (not (fits job B)) → T (fits job C) → next_bid job B ≼ C
  next_least B C t f = elim (le_or_lt (next_bid job B) C) [ inl x ↦ x | inr x ↦ absurd (below x) ]
    where
      below : C ≺ next_bid job B → ⊥
      below x =
          not_both (each (last job) (omega arith))
          (subst (λ (D : Bound). D ≼ C) (sym (bid-last job B))
          (within-offer job (last job) (separator job B (last job)) (tasks job)
          (within_shrink job (last job) (separator job C (last job)) (separator job B (last job)) (tasks job) (tasks job) C
          (behind job B C (last job) (omega arith) (λ q k. each q (omega arith))) (separator_to job B (last job)) (omega arith)
          (fits_last job C f))))
        where
          each : (p : ℕ) → p ≤ last job → C ≺ bid job B p
          each p h = lt-le_trans (bid_real B p) x (next_le-bid B p h)

module _ {job : Job} (can : Plannable job) where
  -- Every bid of a probe that fails is above its bound,
  pub bid_above : (B : Bound) → T (not (fits job B)) → (p : ℕ) → p ≤ last job → B ≺ bid job B p
  bid_above B t p h =
      elim (dec_le (suc p) (last job)) [
        | yes l ↦
            subst (λ (C : Bound). B ≺ C) (sym (bid_before job B p l))
            (past_offer job p (separator job B p) (suc (separator job B (suc p))) finite
            (separator_past job B p (suc (separator job B (suc p))) (omega arith) (fails_before_end job B t (suc p) l)))
        | no l ↦
            subst (λ (i : ℕ). B ≺ bid job B i) (let e : last job ≡ p = omega arith in e)
            (subst (λ (C : Bound). B ≺ C) (sym (bid-last job B))
            (past_offer job (last job) (separator job B (last job)) (tasks job) finite (fails_last job B t)))
      ]
    where
      finite : Finite B
      finite = fails_finite can B t

  -- so the next bid is greater than the bound;
  pub next_above : (B : Bound) → T (not (fits job B)) → B ≺ next_bid job B
  next_above B t = next_cases job B (λ C. B ≺ C) (bid_above B t)

  -- and it is a number.
  pub next_finite : (B : Bound) → T (not (fits job B)) → Finite (next_bid job B)
  next_finite B t =
      let c = some_fits can in
      finite_below (next_real can.proper B) (next_least can.proper B c.0 t c.2) c.1
