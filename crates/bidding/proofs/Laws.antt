-- What the loop of bidding keeps.
-- Assumes nothing.
use Prim.Native.Nat.{ℕ, zero, suc, ◌+◌, ◌<◌, ◌^◌}
use mathlib.Core.Path.{◌≡◌, sym, ap, subst, ◌∙◌}
use mathlib.Core.Bool.{not}
use native.Mathlib.Omega.{arith}
use native.Mathlib.Nat.{lt_of_le_of_lt}
use native.Mathlib.Numerals.{add-one}
use lib.Dec.{T, lit<}
use Rattle.bound.specs.declared.Bound.{Bound}
use Rattle.chain.specs.Ranges.{Small, Lendable, Narrow}
use Rattle.chain.specs.Job.{Second, Job, Valid, enough, ideal}
use Rattle.chain.specs.Probe.{fits, next_bid}
use Rattle.chain.specs.Bidding.{bidding}
use Rattle.chain.specs.declared.Method.TheVariants.{Bidding}
use Rattle.chain.specs.Plan.{BiddingEnds, allowance}
use Rattle.chain.proofs.Parts.{Plannable, valid_plannable}
use Rattle.chain.proofs.NextBid.{next_finite}
use Rattle.chain.proofs.Indices.{first_of, below_next}
use Rattle.chain.proofs.Bidding.{failures_allowed}
use Rattle.chain.proofs.Demand.{of_second}
use Rattle.chain.proofs.Ranges.{loads_fit, total_speed_fits, total_weight_limit, total_speed_limit, small_lendable, small_narrow, ideal_lendable, next_bid_small}
use Rattle.chain.proofs.Counts.{allowance-fits}

-- Bidding after k failures: the bound to try next, and the count of failures.
pub record Bidden (job : Job) (bound : Bound) (count : ℕ) : Type 0 where
  pub is : bound ≡ bidding job count
  pub failed : (j : ℕ) → j < count → T (not (fits job (bidding job j)))
  pub lendable : Lendable bound
  pub narrow : Narrow bound

ideal_narrow : {job : Job} → Valid job → Narrow (ideal job)
unfolding ideal
ideal_narrow v =
    record { load_fits = lt_of_le_of_lt (total_weight_limit v) loads_fit; speed_fits = lt_of_le_of_lt (total_speed_limit v) total_speed_fits }

pub bidden_start : {job : Job} {bound : Bound} → Valid job → bound ≡ ideal job → Bidden job bound 0
unfolding bidding
bidden_start {job} v e =
    record {
      is = e;
      failed = λ j h. absurd (let z : ⊥ = omega arith in z);
      lendable = subst Lendable (sym e) (ideal_lendable v);
      narrow = subst Narrow (sym e) (ideal_narrow v);
    }

-- After one more failure there is still room for a trial.
pub bidden_room : {job : Job} {bound : Bound} {count : ℕ} → Plannable job → Bidden job bound count → T (not (fits job bound)) → suc count < allowance (Second job.startup) Bidding job
bidden_room {job} {bound} {count} can b t =
    failures_allowed can (of_second job) count
    (below_next {Q = λ j. T (not (fits job (bidding job j)))} b.failed (subst (λ (B : Bound). T (not (fits job B))) b.is t))

-- So the count of trials fits 32 bits.
pub bidden_fits : {job : Job} {bound : Bound} (count : ℕ) → Valid job → T (enough job) → Bidden job bound count → count + 1 < 2 ^ 32
bidden_fits {job} zero v e b = lit< tt
bidden_fits {job} (suc k) v e b =
    omega (arith, failures_allowed (valid_plannable v e) (of_second job) k b.failed, (allowance-fits (Second job.startup) v).1)

pub bidden_next : {job : Job} {bound : Bound} {count : ℕ} (new : Bound) → Valid job → T (enough job) → Bidden job bound count → T (not (fits job bound)) → new ≡ next_bid job bound
    → Bidden job new (count + 1)
unfolding bidding
bidden_next {job} {bound} {count} new v h b t e =
    subst (Bidden job new) (sym (add-one count))
    (record {
      is = e ∙ ap (next_bid job) b.is;
      failed = below_next {Q = λ j. T (not (fits job (bidding job j)))} b.failed (subst (λ (B : Bound). T (not (fits job B))) b.is t);
      lendable = subst Lendable (sym e) (small_lendable small);
      narrow = subst Narrow (sym e) (small_narrow small);
    })
  where
    small : Small (next_bid job bound)
    small = next_bid_small v bound (next_finite (valid_plannable v h) bound t)

pub bidden_end : {job : Job} {bound : Bound} {count trials : ℕ} → Bidden job bound count → T (fits job bound) → trials ≡ suc count
    → BiddingEnds job trials bound
bidden_end {job} {bound} {count} b t e =
    record {
      failures = count;
      first_fit_lem = first_of (λ k. fits job (bidding job k)) count (subst (λ (B : Bound). T (fits job B)) b.is t) b.failed;
      counted = e;
      yields = b.is;
    }
