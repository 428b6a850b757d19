-- What the loop of bisection keeps.
-- Assumes nothing.
use Prim.Native.Nat.{ℕ, zero, suc, ◌+◌, ◌<◌, ◌^◌}
use mathlib.Core.Path.{◌≡◌, refl, sym, ap, ap₂, subst, ◌∙◌}
use mathlib.Core.Bool.{Bool, true, false, not, ◌&&◌}
use mathlib.Core.List.{List, ◌++◌}
use Rattle.std.specs.Prelude.{Option, Some, None}
use native.Mathlib.Omega.{arith}
use native.Mathlib.Numerals.{add-one}
use lib.Dec.{T, lit<}
use lib.ListN.{take, drop}
use Rattle.bound.specs.declared.Bound.{Bound}
use Rattle.bound.specs.Order.{middle, le, pick, ◌≼◌}
use Rattle.bound.proofs.Order.{le_true}
use Rattle.chain.specs.declared.Ends.{Ends}
use Rattle.chain.specs.Ranges.{Small}
use Rattle.chain.specs.Lists.{digits}
use Rattle.chain.specs.Job.{Job, Valid, processors, held, enough, ideal, widest, bottleneck}
use Rattle.chain.specs.Probe.{walk, fits, next_bid}
use Rattle.chain.specs.Heuristic.{heuristic}
use Rattle.chain.specs.Bisection.{first_ends, next_ends, ends, meet}
use Rattle.chain.specs.Plan.{BisectionEnds, at_once, after, difference, plan_of}
use Rattle.chain.proofs.Parts.{Plannable, valid_plannable}
use Rattle.chain.proofs.Indices.{first_of, below_next}
use Rattle.chain.proofs.Bisection.{bracket_after, low_high, rounds_below, bisection_least}
use Rattle.chain.proofs.Ranges.{bottleneck_small, widest_small, next_bid_small}
use Rattle.chain.proofs.NextBid.{next_finite}
use Rattle.chain.proofs.Tests.{T-not-of, T_true, T_false}
use Rattle.chain.proofs.Counts.{digits_fit}
use Rattle.chain.proofs.Best.{Least, least_met}
use Rattle.chain.proofs.Demand.{ideal_least_bound, fit_is_plan}
use Rattle.parts.proofs.Front.{taken}
use Rattle.probe.proofs.Answer.{walk_count}
use Rattle.bisection.specs.Closed.{FitStands, PlanStands, Fitted, Closed}

-- A round where the trial at the middle fits, and one where it fails.
pub ends-fits : (job : Job) (E : Ends) → T (fits job (middle E.low E.high))
    → next_ends job E ≡ record { low = E.low; high = bottleneck job (walk job (middle E.low E.high)) }
unfolding next_ends
ends-fits job E t = ap turn (T_true (fits job (middle E.low E.high)) t)
  where
    turn : Bool → Ends
    turn x =
        elim x [
          | true ↦ record { low = E.low; high = bottleneck job (walk job (middle E.low E.high)) }
          | false ↦ record { low = next_bid job (middle E.low E.high); high = E.high }
        ]

pub ends_fails : (job : Job) (E : Ends) → T (not (fits job (middle E.low E.high)))
    → next_ends job E ≡ record { low = next_bid job (middle E.low E.high); high = E.high }
unfolding next_ends
ends_fails job E t = ap turn (T_false (fits job (middle E.low E.high)) t)
  where
    turn : Bool → Ends
    turn x =
        elim x [
          | true ↦ record { low = E.low; high = bottleneck job (walk job (middle E.low E.high)) }
          | false ↦ record { low = next_bid job (middle E.low E.high); high = E.high }
        ]

-- A round keeps the ends small.
ends_small : (job : Job) → Valid job → T (enough job) → (E : Ends) → Small E.low → Small E.high
    → Small (next_ends job E).low × Small (next_ends job E).high
unfolding next_ends
ends_small job v e E l h = go (fits job (middle E.low E.high)) refl
  where
    turn : Bool → Ends
    turn x =
        elim x [
          | true ↦ record { low = E.low; high = bottleneck job (walk job (middle E.low E.high)) }
          | false ↦ record { low = next_bid job (middle E.low E.high); high = E.high }
        ]

    M : Bound
    M = middle E.low E.high

    go : (x : Bool) → fits job M ≡ x → Small (turn x).low × Small (turn x).high
    go true f = (l, bottleneck_small v (walk job M))
    go false f = (next_bid_small v M (next_finite (valid_plannable v e) M (T-not-of f)), h)

-- Bisection after k rounds: the two ends, and the count of trials, the first included.
pub record Halved (job : Job) (low high : Bound) (rounds : ℕ) : Type 0 where
  pub low_is : low ≡ (ends job rounds).low
  pub high_is : high ≡ (ends job rounds).high
  pub apart : (j : ℕ) → j < rounds → T (not (meet (ends job j)))
  pub failed : T (not (fits job (ideal job)))
  pub low_small : Small low
  pub high_small : Small high

-- The high end that bisection starts with, with holds and without.
pub high_held : (job : Job) → held job ≡ true → (first_ends job).high ≡ widest job
unfolding first_ends
high_held job e = ap (λ (t : Bool). pick t (widest job) (bottleneck job (heuristic job))) e

pub high_free : (job : Job) → held job ≡ false → (first_ends job).high ≡ bottleneck job (heuristic job)
unfolding first_ends
high_free job e = ap (λ (t : Bool). pick t (widest job) (bottleneck job (heuristic job))) e

-- It is small.
high_small : {job : Job} → Valid job → Small (first_ends job).high
unfolding first_ends
high_small {job} v = go (held job)
  where
    go : (x : Bool) → Small (pick x (widest job) (bottleneck job (heuristic job)))
    go true = widest_small v
    go false = bottleneck_small v (heuristic job)

pub halved_start : {job : Job} {low high : Bound} → Valid job → T (enough job) → T (not (fits job (ideal job))) → low ≡ next_bid job (ideal job)
    → high ≡ (first_ends job).high → Halved job low high 0
unfolding ends first_ends
halved_start {job} v e t l h =
    record {
      low_is = l;
      high_is = h;
      apart = λ j x. absurd (let z : ⊥ = omega arith in z);
      failed = t;
      low_small = subst Small (sym l) (next_bid_small v (ideal job) (next_finite (valid_plannable v e) (ideal job) t));
      high_small = subst Small (sym h) (high_small v);
    }

module _ {job : Job} (v : Valid job) (enough-holds : T (enough job)) {low high : Bound} {k : ℕ} (w : Halved job low high k) where
  -- The test of the code: high is at most low. That is whether the ends meet.
  pub meets : meet (ends job k) ≡ le high low
  unfolding meet
  meets =
      ap (λ (t : Bool). t && le (ends job k).high (ends job k).low)
      (le_true (low_high (bracket_after (valid_plannable v enough-holds) w.failed k)))
      ∙ ap₂ le (sym w.high_is) (sym w.low_is)

  not_met : le high low ≡ false → T (not (meet (ends job k)))
  not_met e = subst (λ (t : Bool). T (not t)) (sym (meets ∙ e)) tt

  -- One more round is below digits(D).
  pub halved_room : le high low ≡ false → k < digits (difference job)
  halved_room e = rounds_below (valid_plannable v enough-holds) w.failed k (not_met e)

  -- The ends after one more round.
  pub halved_next : (E : Ends) → le high low ≡ false → E ≡ next_ends job (record { low = low; high = high }) → Halved job E.low E.high (k + 1)
  unfolding ends
  halved_next E e n =
      subst (Halved job E.low E.high) (sym (add-one k))
      (record {
        low_is = ap (λ (F : Ends). F.low) step;
        high_is = ap (λ (F : Ends). F.high) step;
        apart = below_next {Q = λ j. T (not (meet (ends job j)))} w.apart (not_met e);
        failed = w.failed;
        low_small = subst (λ (F : Ends). Small F.low) (sym n) (ends_small job v enough-holds (record { low = low; high = high }) w.low_small w.high_small).0;
        high_small = subst (λ (F : Ends). Small F.high) (sym n) (ends_small job v enough-holds (record { low = low; high = high }) w.low_small w.high_small).1;
      })
    where
      step : E ≡ next_ends job (ends job k)
      step = n ∙ ap₂ (λ (a b : Bound). next_ends job (record { low = a; high = b })) w.low_is w.high_is

  -- Where the ends meet, bisection ends with the low one.
  pub halved_end : {trials : ℕ} → le high low ≡ true → trials ≡ suc k → BisectionEnds job trials low
  halved_end e t =
      after k w.failed (first_of (λ j. meet (ends job j)) k (subst T (sym (meets ∙ e)) tt) w.apart) t w.low_is

  -- There the low end is the least bound that fits.
  pub halved_least : le high low ≡ true → Least job low
  halved_least e = subst (Least job) (sym w.low_is) (bisection_least (valid_plannable v enough-holds) w.failed k (subst T (sym (meets ∙ e)) tt))

-- The count of rounds, and one more, fits 32 bits.
pub rounds_fit : {job : Job} {low high : Bound} (k : ℕ) → Valid job → T (enough job) → Halved job low high k → k + 1 < 2 ^ 32
rounds_fit zero v e w = lit< tt
rounds_fit (suc k) v e w =
    omega (arith, rounds_below (valid_plannable v e) w.failed k (w.apart k (omega arith)), digits_fit v)

-- The trial at the ideal fits: bisection ends at once.
pub ended_at_once : {job : Job} {bound : Bound} → bound ≡ ideal job → T (fits job bound) → BisectionEnds job 1 bound
ended_at_once {job} {bound} e t = at_once (subst (λ (B : Bound). T (fits job B)) e t) refl e

-- A round, by what the trial at the middle answers.
pub round_fits : (job : Job) (low high : Bound) {M least : Bound} → M ≡ middle low high → T (fits job M) → least ≡ bottleneck job (walk job M)
    → ◌≡◌ {A = Ends} (record { low = low; high = least }) (next_ends job (record { low = low; high = high }))
round_fits job low high {M} e t l =
    ap (λ (B : Bound). record { low = low; high = B }) (l ∙ ap (λ (B : Bound). bottleneck job (walk job B)) e)
    ∙ sym (ends-fits job (record { low = low; high = high }) (subst (λ (B : Bound). T (fits job B)) e t))

pub round_fails : (job : Job) (low high : Bound) {M next : Bound} → M ≡ middle low high → T (not (fits job M)) → next ≡ next_bid job M
    → ◌≡◌ {A = Ends} (record { low = next; high = high }) (next_ends job (record { low = low; high = high }))
round_fails job low high {M} e t l =
    ap (λ (B : Bound). record { low = B; high = high }) (l ∙ ap (next_bid job) e)
    ∙ sym (ends_fails job (record { low = low; high = high }) (subst (λ (B : Bound). T (not (fits job B))) e t))

-- A trial's walk is copied to the lent list: it stands in front there.
pub copied_walk : {job : Job} (v : Valid job) (M : Bound) (l xs : List ℕ) {trial ys : List ℕ} → trial ≡ walk job M ++ l
    → ys ≡ take (processors job + 1) trial ++ drop (processors job + 1) xs → ys ≡ walk job M ++ drop (suc (processors job)) xs
copied_walk {job} v M l xs {trial} {ys} e c =
    subst (λ (n : ℕ). ys ≡ take n trial ++ drop n xs) (add-one (processors job)) c
    ∙ ap (λ (t : List ℕ). t ++ drop (suc (processors job)) xs) (taken (walk job M) l (walk_count v M) e)

pub fit_stands : {job : Job} {B : Bound} (v : Valid job) (M : Bound) (l : List ℕ) {ys : List ℕ} → T (fits job M) → ys ≡ walk job M ++ l
    → B ≡ bottleneck job (walk job M) → FitStands job B ys
fit_stands {job} v M l f e b = record { bound = M; fitting = f; front = taken (walk job M) l (walk_count v M) e; measured = b }

-- Where the bottleneck of the walk that stands there is the least bound, that walk is the plan.
pub fit_plan : {job : Job} {B C : Bound} {xs : List ℕ} → Plannable job → Least job B → C ≼ B → FitStands job C xs → PlanStands job C xs
fit_plan {job} {B} can b h f =
    let e : walk job f.bound ≡ plan_of job = fit_is_plan can f.bound b f.fitting (subst (λ (D : Bound). D ≼ B) f.measured h) in
    record { front = f.front ∙ e; measured = f.measured ∙ ap (bottleneck job) e }

-- So it is where the trial at the ideal fits.
pub ideal_plan : {job : Job} {B C : Bound} {xs : List ℕ} (v : Valid job) (l : List ℕ) → T (enough job) → B ≡ ideal job → T (fits job B) → xs ≡ walk job B ++ l
    → C ≡ bottleneck job (walk job B) → PlanStands job C xs
ideal_plan {job} {B} v l t i f e c =
    let can = valid_plannable v t in
    let b : Least job B = subst (Least job) (sym i) (ideal_least_bound can (subst (λ (D : Bound). T (fits job D)) i f)) in
    fit_plan can b (subst (λ (D : Bound). D ≼ B) (sym c) (least_met can.proper b).to) (fit_stands v B l f e c)

-- Where the walk of a trial that fitted at the high end is the plan, the plan stands in the list,
pub closed_by : {job : Job} {high : Bound} {xs : List ℕ} (fitted : Option Bound) → Fitted job fitted high xs
    → (FitStands job high xs → PlanStands job high xs) → Closed job fitted xs
closed_by {job} {high} {xs} (Some B) (e, f) plan =
    subst (λ (C : Bound). PlanStands job C xs) (sym e) (plan (subst (λ (C : Bound). FitStands job C xs) e f))
closed_by None h plan = tt

-- with the bottleneck that is given.
pub plan_stands : {job : Job} {B : Bound} {xs : List ℕ} {measured : Option Bound} → measured ≡ Some B → Closed job measured xs → PlanStands job B xs
plan_stands {job} {B} {xs} e h = subst (λ (m : Option Bound). Closed job m xs) e h
