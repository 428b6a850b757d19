-- Demand 3 whole, at the level of definitions: every method ends, at the least bottleneck, within its allowance; every plan of
-- a job has the separators of the one best partition, whichever method made it.
-- Assumes nothing.
use Prim.Native.Nat.{ℕ, suc, ◌≤◌}
use mathlib.Core.Path.{◌≡◌, refl, sym, ap, subst, ◌∙◌}
use mathlib.Core.Bool.{Bool, true, false, not, cond}
use native.Mathlib.Omega.{arith}
use lib.Dec.{T, T_not}
use Rattle.bound.specs.declared.Bound.{Bound}
use Rattle.bound.specs.Order.{◌≼◌, ◌≈◌, Finite}
use Rattle.bound.proofs.Order.{finite_below, le_refl, le_trans}
use Rattle.chain.specs.Job.{Edition, Second, startup_of, OfEdition, Job, tasks, last, held, bottleneck, ideal}
use Rattle.chain.specs.Probe.{walk, fits}
use Rattle.chain.specs.Dynamic.{table_value}
use Rattle.chain.specs.Bidding.{bidding}
use Rattle.chain.specs.Bisection.{ends, meet}
use Rattle.chain.specs.Nicol.{candidate_on, Comes}
use Rattle.chain.specs.declared.Method.{Method}
use Rattle.chain.specs.declared.Method.TheVariants.{Table, Bidding, Bisection, Nicol}
use Rattle.chain.specs.Lists.{is_first}
use Rattle.chain.specs.Plan.{least_bottleneck, plan_of, Best, BisectionEnds, at_once, after, MethodEnds, takes, allowance, bidding_failures, bisection_rounds, count_by, found_by, imbalance, Plan, PlanBy}
use Rattle.chain.proofs.Tests.{T_of, T-not-of}
use Rattle.chain.proofs.Parts.{Proper, Plannable}
use Rattle.chain.proofs.Within.{free_of}
use Rattle.chain.proofs.Indices.{first_holds, first_unique, smallest_first}
use Rattle.chain.proofs.Bottleneck.{bottleneck_finite, bottleneck_real, bottleneck-le}
use Rattle.chain.proofs.Walk.{fits_cover, cover_fits, walk_partition, walk-within, bottleneck-fits}
use Rattle.chain.proofs.Enough.{some_fits}
use Rattle.chain.proofs.Best.{Least, least_equal, least_alike, fit_best, least_best, best_unique}
use Rattle.chain.proofs.Table.{table_real, table_cover, moves_allowed}
use Rattle.chain.proofs.Ideal.{ideal_finite}
use Rattle.chain.proofs.Bidding.{ideal_below, bidding_least, bidding_allowed, bidding-ends}
use Rattle.chain.proofs.Bisection.{first_allowed, bisection_least, bisection_allowed, bisection_ends}
use Rattle.chain.proofs.Nicol.{candidate_above, candidate_met}
use Rattle.chain.proofs.NicolTrials.{nicol_counts, nicol_least, nicol_allowed, nicol_is}
use Rattle.chain.proofs.Enumeration.{least_is_least, least_attained}

-- The count of a method is one number.
pub method_counts : (job : Job) (m : Method) (n k : ℕ) (B C : Bound) → MethodEnds m job n B → MethodEnds m job k C → n ≡ k
method_counts job Table n k B C x y = x.counted ∙ sym y.counted
method_counts job Bidding n k B C x y =
    x.counted ∙ ap suc (first_unique (λ j. fits job (bidding job j)) x.failures y.failures x.first_fit_lem y.first_fit_lem) ∙ sym y.counted
method_counts job Bisection n k B C x y = same x y
  where
    same : {n k : ℕ} {B C : Bound} → BisectionEnds job n B → BisectionEnds job k C → n ≡ k
    same (at_once t c e) (at_once u d f) = c ∙ sym d
    same (at_once t c e) (after k u g d f) = absurd (T_not (fits job (ideal job)) u t)
    same (after k t g c e) (at_once u d f) = absurd (T_not (fits job (ideal job)) t u)
    same (after k t g c e) (after l u h d f) = c ∙ ap suc (first_unique (λ j. meet (ends job j)) k l g h) ∙ sym d
method_counts job Nicol n k B C x y = nicol_counts x y

-- Every job can be taken for one of the second edition.
pub of_second : (job : Job) → OfEdition (Second job.startup) job
unfolding startup_of
of_second job = record { counts = refl }

module _ {job : Job} (can : Plannable job) where
  -- The least bottleneck of all partitions is the least bound that fits.
  pub least_bottleneck_lem : Least job (least_bottleneck job)
  least_bottleneck_lem =
      let a = least_attained can in
      record {
        finite = subst Finite (sym a.2) (bottleneck_finite can.proper a.0);
        fitting = subst (λ (B : Bound). T (fits job B)) (sym a.2) (bottleneck-fits can.proper a.1);
        least = least;
      }
    where
      least : (C : Bound) → T (fits job C) → least_bottleneck job ≼ C
      least C t =
          le_trans (bottleneck_real can.proper (walk job C)) (least_is_least can.proper (walk job C) (walk_partition can.proper C t))
          (bottleneck-le can.proper (walk-within job C t))

  -- The table ends at the least bound that fits: B(P,N) is the least bottleneck.
  pub table_least_bound : Least job (table_value job (last job) (tasks job))
  table_least_bound =
      record { finite = finite; fitting = cover_fits job value ((table_cover ok (last job) (tasks job) value).0 finite (le_refl value)); least = below }
    where
      ok : Proper job
      ok = can.proper

      value : Bound
      value = table_value job (last job) (tasks job)

      below : (C : Bound) → T (fits job C) → value ≼ C
      below C t = (table_cover ok (last job) (tasks job) C).1 (fits_cover job C t)

      finite : Finite value
      finite =
          let c = some_fits can in
          finite_below (table_real ok (last job) (tasks job)) (below c.0 c.2) c.1

  -- Where the trial at the ideal fits, the ideal is the least bound.
  pub ideal_least_bound : T (fits job (ideal job)) → Least job (ideal job)
  ideal_least_bound t = record { finite = ideal_finite can.proper; fitting = t; least = λ C u. ideal_below can.proper C u }

  -- The candidates of Nicol's search: each is no less than the least bottleneck, and one is equal to it.
  pub candidates_above : T (not (held job)) → (p : ℕ) → p ≤ last job → Comes job p → least_bottleneck job ≼ candidate_on job p
  candidates_above h p l c = candidate_above can.proper (free_of h) least_bottleneck_lem p l c

  pub candidates_meet : T (not (held job)) → Comes job (last job) → (p : ℕ) × (p ≤ last job) × (candidate_on job p ≈ least_bottleneck job)
  candidates_meet h c = candidate_met can.proper (free_of h) least_bottleneck_lem c

  -- Every method ends at the least bound that fits, of a job that it takes.
  pub method_least : (m : Method) → T (takes m job) → (n : ℕ) (B : Bound) → MethodEnds m job n B → Least job B
  unfolding takes
  method_least Table h n B x = subst (Least job) (sym x.yields) table_least_bound
  method_least Bidding h n B x = subst (Least job) (sym x.yields) (bidding_least can x.failures x.first_fit_lem)
  method_least Bisection h n B x = bisection_bound x
    where
      bisection_bound : {n : ℕ} {B : Bound} → BisectionEnds job n B → Least job B
      bisection_bound (at_once t c e) = subst (Least job) (sym e) (ideal_least_bound t)
      bisection_bound (after k t f c e) =
          subst (Least job) (sym e) (bisection_least can t k (first_holds (λ j. meet (ends job j)) k f))
  method_least Nicol h n B x = nicol_least can.proper (free_of h) x

  -- So the bottleneck found is the least bottleneck of all partitions.
  pub method_finds : (m : Method) → T (takes m job) → (n : ℕ) (B : Bound) → MethodEnds m job n B → B ≈ least_bottleneck job
  method_finds m h n B x =
      let b : Least job B = method_least m h n B x in
      let l : Least job (least_bottleneck job) = least_bottleneck_lem in
      least_equal b l

  -- Every method's count is within its allowance.
  pub method_allowed : {edition : Edition} → OfEdition edition job → (m : Method) → T (takes m job) → (n : ℕ) (B : Bound) → MethodEnds m job n B → n ≤ allowance edition m job
  unfolding takes
  method_allowed {edition} of Table h n B x = subst (λ (n : ℕ). n ≤ allowance edition Table job) (sym x.counted) (moves_allowed can.proper edition)
  method_allowed of Bidding h n B x = omega (arith, x.counted, bidding_allowed can of x.failures x.first_fit_lem)
  method_allowed {edition} of Bisection h n B x = bisection_count x
    where
      bisection_count : {n : ℕ} {B : Bound} → BisectionEnds job n B → n ≤ allowance edition Bisection job
      bisection_count (at_once t c e) = omega (arith, first_allowed edition job)
      bisection_count (after k t f c e) = omega (arith, bisection_allowed can edition t k f)
  method_allowed {edition} of Nicol h n B x = nicol_allowed can.proper (free_of h) edition x

  -- The first trial that fits and the first round after which the ends meet are found.
  pub failures_first : T (is_first (λ k. fits job (bidding job k)) (bidding_failures job))
  unfolding bidding_failures
  failures_first =
      let e = bidding-ends can (of_second job) in
      subst (λ (k : ℕ). T (is_first (λ j. fits job (bidding job j)) k))
      (sym (smallest_first (λ j. fits job (bidding job j)) (allowance (Second job.startup) Bidding job) e.0 (omega (arith, e.1)) e.2)) e.2

  pub rounds_first : T (not (fits job (ideal job))) → T (is_first (λ k. meet (ends job k)) (bisection_rounds job))
  unfolding bisection_rounds
  rounds_first t =
      let e = bisection_ends can t in
      subst (λ (k : ℕ). T (is_first (λ j. meet (ends job j)) k))
      (sym (smallest_first (λ j. meet (ends job j)) (allowance (Second job.startup) Bisection job) e.0 (omega (arith, bisection_allowed can (Second job.startup) t e.0 e.2)) e.2))
      e.2

  -- Every method ends, with the count and the bottleneck of the definitions.
  pub method_is : (m : Method) → T (takes m job) → MethodEnds m job (count_by m job) (found_by m job)
  unfolding takes count_by found_by
  method_is Table h = record { counted = refl; yields = refl }
  method_is Bidding h = record { failures = bidding_failures job; first_fit_lem = failures_first; counted = refl; yields = refl }
  method_is Bisection h = go (fits job (ideal job)) refl
    where
      go : (t : Bool) → fits job (ideal job) ≡ t
          → BisectionEnds job (cond t 1 (suc (bisection_rounds job))) (cond t (ideal job) (ends job (bisection_rounds job)).low)
      go true e = at_once (T_of e) refl refl
      go false e = let t : T (not (fits job (ideal job))) = T-not-of e in after (bisection_rounds job) t (rounds_first t) refl refl
  method_is Nicol h = nicol_is can.proper (free_of h)

  pub method_ends : (m : Method) → T (takes m job) → (n : ℕ) × (B : Bound) × MethodEnds m job n B
  method_ends m h = (count_by m job, found_by m job, method_is m h)

  -- Whatever count a method ends with is that number.
  pub method_unique : (m : Method) → T (takes m job) → (n : ℕ) (B : Bound) → MethodEnds m job n B → n ≡ count_by m job
  method_unique m h n B x = method_counts job m n (count_by m job) B (found_by m job) x (method_is m h)

  -- Every plan has the separators of the definition, which is the best partition.
  pub plan_separators : {edition : Edition} (m : Method) {plan : Plan} → PlanBy edition m job plan → plan.separators ≡ plan_of job
  unfolding plan_of
  plan_separators m {plan} x = x.walked ∙ least_alike (method_least m x.taken plan.count x.found x.ended) least_bottleneck_lem

  pub plan_of_best : Best job (plan_of job)
  unfolding plan_of
  plan_of_best = least_best can.proper least_bottleneck_lem

  -- The walk of a trial that fits is the plan where its bottleneck is the least bound.
  pub fit_is_plan : {B : Bound} (M : Bound) → Least job B → T (fits job M) → bottleneck job (walk job M) ≼ B → walk job M ≡ plan_of job
  fit_is_plan M b f h = best_unique (fit_best can.proper M b f h) plan_of_best

  -- No partition has a smaller bottleneck; of an equal one each separator is at or before the plan's.
  pub plan_best : {edition : Edition} (m : Method) {plan : Plan} → PlanBy edition m job plan → Best job plan.separators
  plan_best m x = subst (Best job) (sym (plan_separators m x)) plan_of_best

  -- Every plan, by whichever methods, has the same separators.
  pub plans_agree : {edition : Edition} (m k : Method) {plan other : Plan} → PlanBy edition m job plan → PlanBy edition k job other → plan.separators ≡ other.separators
  plans_agree m k x y = best_unique (plan_best m x) (plan_best k y)

  -- The count that a plan carries is within the allowance that it carries.
  pub plan_allowed : {edition : Edition} → OfEdition edition job → (m : Method) {plan : Plan} → PlanBy edition m job plan → plan.count ≤ plan.allowed
  plan_allowed of m {plan} x = subst (λ (n : ℕ). plan.count ≤ n) (sym x.allows) (method_allowed of m x.taken plan.count x.found x.ended)

  -- Every method has a plan of a job that it takes.
  pub plan_exists : (edition : Edition) (m : Method) → T (takes m job) → (plan : Plan) × PlanBy edition m job plan
  plan_exists edition m h = go (method_ends m h)
    where
      go : (n : ℕ) × (B : Bound) × MethodEnds m job n B → (plan : Plan) × PlanBy edition m job plan
      go (n, B, e) = (
        record {
          separators = walk job B;
          count = n;
          allowed = allowance edition m job;
          bound = bottleneck job (walk job B);
          excess = imbalance job (bottleneck job (walk job B));
        },
        record { taken = h; found = B; ended = e; walked = refl; allows = refl; measured = refl; exceeds = refl },
      )
