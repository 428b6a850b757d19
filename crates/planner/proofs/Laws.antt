-- Laws for planning: what each method ends with, the closing walk, and the answer.
-- Assumes nothing.
use Prim.Native.Nat.{ℕ, zero, suc, ◌+◌, ◌*◌, ◌≤◌, ◌<◌}
use mathlib.Core.Path.{◌≡◌, refl, sym, ap, ap₂, subst, ◌∙◌}
use mathlib.Core.Bool.{Bool, true, false, not, cond}
use mathlib.Core.List.{List, [], ◌∷◌, ◌++◌, map}
use mathlib.Core.Logic.{◌≢◌}
use native.Mathlib.Omega.{arith}
use native.Mathlib.Decide.{ℕ_discrete}
use lib.Dec.{T}
use lib.ListN.{length, take, drop, length-append, length-drop, take-append-drop}
use lib.Seq.{drop-append-add, drop-drop}
use Rattle.bound.specs.declared.Bound.{Bound}
use Rattle.bound.specs.Order.{◌≼◌}
use Rattle.std.specs.Prelude.{Result, Ok, Err}
use Rattle.chain.specs.declared.Refusal.{Refusal}
use Rattle.chain.specs.declared.Refusal.TheVariants.{UnknownMethod}
use Rattle.chain.specs.declared.Method.{Method}
use Rattle.chain.specs.declared.Method.TheVariants.{Table, Bidding, Bisection, Nicol}
use Rattle.chain.specs.Ranges.{Small, Lendable}
use Rattle.chain.specs.Lists.{sum}
use Rattle.chain.specs.Job.{Edition, Job, Valid, tasks, processors, held, enough, bottleneck, ideal, total_weight}
use Rattle.chain.specs.Probe.{walk, fits}
use Rattle.chain.specs.Bidding.{bidding}
use Rattle.chain.specs.Plan.{MethodEnds, BiddingEnds, BisectionEnds, NicolEnds, takes, least_bottleneck, plan_of}
use Rattle.chain.specs.Plan.{allowance, count_by, imbalance}
use Rattle.chain.specs.Numbers.{number_of, chosen_of, code_of, refused, answered}
use Rattle.chain.specs.Refusal.{method_test, enough_test, free_test, first_refusal, refusal}
use Rattle.chain.proofs.Numbers.{chosen_table, chosen_bidding, chosen_bisection, chosen_nicol, chosen_none, err_nonzero}
use Rattle.chain.proofs.Numbers.{answered_ok, answered_err}
use Rattle.chain.proofs.Indices.{first_fails, length-tabulate}
use Rattle.chain.proofs.Parts.{Plannable, valid_proper, valid_plannable, weight_all}
use Rattle.chain.proofs.Ideal.{ideal_least}
use Rattle.chain.proofs.NextBid.{next_finite}
use Rattle.chain.proofs.Refusals.{pass_head, pass_skip, Each, map_accepted}
use Rattle.chain.proofs.Best.{least_alike}
use Rattle.chain.proofs.Demand.{least_bottleneck_lem, method_least, plan_of_best}
use Rattle.chain.proofs.Ranges.{small_lendable, ideal_lendable, next_bid_small, bottleneck_small}
use Rattle.refusals.specs.Inputs.{scratch_needed, free_by, method_inputs, plan_inputs}
use Rattle.refusals.proofs.Answering.{list_refused}
use Rattle.refusals.proofs.Methods.{method_refused, known_passes}
use Rattle.refusals.proofs.Tests.{plan_known, plan_unknown}
use Rattle.refusals.proofs.Lent.{lent-front, lent_kept}
use Rattle.probe.proofs.Answer.{walk_count}
use Rattle.parts.specs.Prefix.{Prefix, prefixes}
use Rattle.parts.specs.Kept.{KeptFrom}
use Rattle.parts.proofs.Front.{kept_start}
use Rattle.dynamic.specs.Rows.{Tabled}
use Rattle.bisection.specs.Closed.{PlanStands}
use Rattle.planner.specs.declared.Figures.{Figures}
use Rattle.planner.specs.HostCall.{hold_tests}
use Rattle.planner.specs.Answers.{Tested, Room, plan_refusal, method_refusal, plan_figures, chosen_answer, plan_answer}
use Rattle.planner.specs.Answers.{plan_writes, ScratchAfter}

-- What the methods end with, where the method is this one.
module _ {job : Job} {m : Method} {B : Bound} {n : ℕ} where
  pub ends_bisection : m ≡ Bisection → BisectionEnds job n B → MethodEnds m job n B
  ends_bisection e t = subst (λ (k : Method). MethodEnds k job n B) (sym e) t

  pub ends_nicol : m ≡ Nicol → NicolEnds job n B → MethodEnds m job n B
  ends_nicol e t = subst (λ (k : Method). MethodEnds k job n B) (sym e) t

-- Bidding's bounds are within the limits of a lent bound.
bidding_lendable : {job : Job} → Valid job → T (enough job) → (k : ℕ)
    → ((j : ℕ) → j < k → T (not (fits job (bidding job j)))) → Lendable (bidding job k)
unfolding bidding
bidding_lendable v e zero h = ideal_lendable v
bidding_lendable {job} v e (suc k) h =
    small_lendable (next_bid_small v (bidding job k) (next_finite (valid_plannable v e) (bidding job k)
    (h k (omega arith))))

pub ended_lendable : {job : Job} {B : Bound} {n : ℕ} → Valid job → T (enough job) → BiddingEnds job n B → Lendable B
ended_lendable {job} v e b =
    subst Lendable (sym b.yields) (bidding_lendable v e b.failures
    (first_fails (λ k. fits job (bidding job k)) b.failures b.first_fit_lem))

-- A job that is tested can be planned.
pub tested_plannable : {m : Method} {job : Job} → Tested m job → Plannable job
tested_plannable t = valid_plannable t.valid t.enough-holds

-- The closing walk writes the plan's separators.
pub walk_is_plan : {job : Job} {m : Method} → Tested m job → (n : ℕ) (B : Bound) → MethodEnds m job n B
    → walk job B ≡ plan_of job
unfolding plan_of
walk_is_plan {job} {m} t n B e = let can = tested_plannable t in least_alike (method_least can m t.taken n B e)
    (least_bottleneck_lem can)

module _ {job : Job} (v : Valid job) (e : T (enough job)) {B : Bound} (is : B ≡ bottleneck job (plan_of job)) where
  pub plan_small : Small B
  plan_small = subst Small (sym is) (bottleneck_small v (plan_of job))

  pub plan_above : ideal job ≼ B
  plan_above =
      subst (λ (C : Bound). ideal job ≼ C) (sym is)
      (ideal_least (valid_proper v) (plan_of job) (plan_of_best (valid_plannable v e)).partition)

-- All weight is the last prefix sum.
pub last_sum : {job : Job} {xs : List ℕ} {t : ℕ} → Prefix job xs → t ≡ lib.ListN.get_or xs (tasks job) 0
    → t ≡ total_weight job
last_sum {job} p e = e ∙ p.sums (tasks job) (omega arith) ∙ weight_all job

-- The figures of the plan, one by one.
pub figures_are_lem : (edition : Edition) (job : Job) (m : Method) {n a i : ℕ} {B : Bound} → n ≡ count_by m job
    → a ≡ allowance edition m job → B ≡ bottleneck job (plan_of job) → i ≡ imbalance job B
    → ◌≡◌ {A = Figures} (record { count = n; allowance = a; bottleneck = B; imbalance = i })
    (plan_figures edition m job)
unfolding plan_figures
figures_are_lem edition job m e f g h = cc

-- Prefix sums put in front of the work numbers: what is behind all of them stays.
pub summed_kept : (job : Job) (xs : List ℕ) {ys : List ℕ} → ys ≡ prefixes job.weights ++ drop (suc (tasks job)) xs
    → tasks job < length xs
    → KeptFrom (scratch_needed job) xs ys
unfolding prefixes
summed_kept job xs {ys} e h =
    record {
      same = omega (arith, ap length e, length-append sums (drop n xs), count, length-drop n xs);
      rest =
          ap (drop (scratch_needed job)) e
          ∙ ap (λ (k : ℕ). drop k (sums ++ drop n xs)) (let x : scratch_needed job
          ≡ length sums + 4 * n = omega (arith, count) in x)
          ∙ drop-append-add sums (drop n xs) (4 * n) ∙ drop-drop (4 * n) n xs
          ∙ ap (λ (k : ℕ). drop k xs) (let x : n + 4 * n ≡ scratch_needed job = omega arith in x);
    }
  where
    n : ℕ
    n = suc (tasks job)

    sums : List ℕ
    sums = prefixes job.weights

    count : length sums ≡ suc (tasks job)
    count = length-tabulate (λ i. sum (take i job.weights)) (suc (tasks job))

-- The plan's separators are P + 1.
pub plan_length : {job : Job} → Valid job → length (plan_of job) ≡ suc (processors job)
unfolding plan_of
plan_length {job} v = walk_count v (least_bottleneck job)

scratch_stays : (number : ℕ) (job : Job) (t : List ℕ) → ScratchAfter number job t t
scratch_stays number job t = record { refused = λ h. refl; behind = kept_start (scratch_needed job) t }

-- A number whose method is known is that method's.
pub known_number : (n : ℕ) {k : Method} → chosen_of n ≡ Ok k → number_of k ≡ n
unfolding number_of
known_number n {k} e =
    elim (ℕ_discrete n 1) [
      | yes x ↦ is Table (chosen_table n x) ∙ sym x
      | no x ↦ elim (ℕ_discrete n 2) [
        | yes y ↦ is Bidding (chosen_bidding n y) ∙ sym y
        | no y ↦ elim (ℕ_discrete n 3) [
          | yes z ↦ is Bisection (chosen_bisection n z) ∙ sym z
          | no z ↦ elim (ℕ_discrete n 4) [
            | yes w ↦ is Nicol (chosen_nicol n w)
                ∙ sym w
            | no w ↦ absurd (none (chosen_none n x y z w))
          ]
        ]
      ]
    ]
  where
    is : (m : Method) → Ok m ≡ chosen_of n → number_of k ≡ number_of m
    is m f = let g : k ≡ m = cc in ap number_of g

    none : Err UnknownMethod ≡ chosen_of n → ⊥
    none f = cc

-- A number that is no method's is refused with 1.
pub method_first : (n : ℕ) → ◌≢◌ {A = ℕ} (first_refusal (method_test n ∷ [])) 0 → 1 ≡ first_refusal (method_test n ∷ [])
unfolding first_refusal method_test
method_first n h = go (method_test n).passes h
  where
    go : (b : Bool) → ◌≢◌ {A = ℕ} (cond b 0 1) 0 → ◌≡◌ {A = ℕ} 1 (cond b 0 1)
    go true k = absurd (k refl)
    go false k = refl

-- A method that makes no test 18, or whose job passes it, takes the job.
pub taken_by : (m : Method) (job : Job) → Each (λ j. T (not (held j))) (free_by (number_of m) job) → T (takes m job)
unfolding takes free_by number_of
taken_by Table job e = tt
taken_by Bidding job e = tt
taken_by Bisection job e = tt
taken_by Nicol job e = e.0

-- So where Nicol's search is the method, the job has no holds.
pub taken_free : {m : Method} {job : Job} → m ≡ Nicol → Tested m job → T (not (held job))
unfolding takes
taken_free {m} {job} e t = subst (λ (k : Method). T (takes k job)) e t.taken

-- What the tests of the holds say.
pub holds_tested : (job : Job) (n : ℕ) → first_refusal (hold_tests n job) ≡ 0
    → T (enough job) × Each (λ j. T (not (held j))) (free_by n job)
unfolding hold_tests enough_test free_test
holds_tested job n e =
    let t : T (enough job) = pass_head (enough_test job) (map free_test (free_by n job)) (omega arith) e in (
      t,
      map_accepted (λ j. T (not (held j))) free_test (λ j. omega arith) (λ j u. u) (free_by n job)
          (sym (pass_skip (enough_test job) (map free_test (free_by n job)) t) ∙ e),
    )

pub kept_tested : {job : Job} (m : Method) → Valid job → first_refusal (hold_tests (number_of m) job) ≡ 0 → Tested m job
kept_tested {job} m v e =
    let t = holds_tested job (number_of m) e in
    record { valid = v; enough-holds = t.0; taken = taken_by m job t.1 }

-- What planning by the method with the number m answers and leaves,
module _ (edition : Edition) (job : Job) (m : ℕ) (s t : List ℕ) where
  abbrev pub Planned : Result Figures Refusal → List ℕ → List ℕ → Type 0
  Planned r s' t' = (r ≡ plan_answer edition job m s t) ×
      ((s' ≡ plan_writes job m s t) × ScratchAfter (plan_refusal job m (length s) (length t)) job t t')

  -- A number that is no method's is refused.
  pub unknown_number : {e : Refusal} → chosen_of m ≡ Err e → code_of e ≡ plan_refusal job m (length s) (length t)
  unfolding plan_refusal refused
  unknown_number {e} is =
      let f : code_of e ≡ first_refusal (method_test m ∷ []) = sym (ap refused is) ∙ method_refused m in
      let one = method_first m (err_nonzero is (method_refused m)) in
      f ∙ sym one ∙ plan_unknown job m (length s) (length t) one

  -- where there is no such method,
  pub plans_unknown : {q : Result Figures Refusal} {e : Refusal} → chosen_of m ≡ Err e → q ≡ Err e → Planned q s t
  unfolding plan_answer plan_writes plan_refusal chosen_answer
  plans_unknown {e = e} is f =
      let n = refusal job (plan_inputs job m (length s) (length t)) in
      let r : 1 ≡ n = plan_unknown job m (length s) (length t) (method_first m (err_nonzero is (method_refused m))) in (
        f ∙ sym (ap (λ (c : Result Method Refusal). chosen_answer edition job c n) is),
        (lent_kept (plan_of job) s r (λ z. omega arith), scratch_stays n job t),
      )

  -- and where there is: refused by another test,
  module _ {k : Method} (known : chosen_of m ≡ Ok k) where
    by_method : {n : ℕ} → n ≡ method_refusal job k (length s) (length t) → n ≡ plan_refusal job m (length s) (length t)
    unfolding method_refusal plan_refusal
    by_method f =
        plan_known job m (length s) (length t) (known_passes m known)
        (f ∙ ap (λ (i : ℕ). refusal job (method_inputs job i (length s) (length t))) (known_number m known))

    chosen : answered (plan_refusal job m (length s) (length t)) (plan_figures edition k job)
        ≡ plan_answer edition job m s t
    unfolding plan_answer chosen_answer
    chosen = sym (ap (λ (c : Result Method Refusal). chosen_answer edition job c
        (plan_refusal job m (length s) (length t))) known)

    pub plans_refused : {A : Type 0} {r : Result A Refusal} {q : Result Figures Refusal} {e : Refusal} → r ≡ Err e
        → q ≡ Err e
        → refused r ≡ method_refusal job k (length s) (length t) → Planned q s t
    unfolding plan_writes
    plans_refused is f h = (
      f ∙ answered_err (plan_figures edition k job) is (by_method h) ∙ chosen,
      (list_refused (plan_of job) s is (by_method h), scratch_stays (plan_refusal job m (length s) (length t)) job t),
    )

    -- and accepted: d and g are the edition and the job that were tested.
    pub plans_accepted : method_refusal job k (length s) (length t) ≡ 0 → {d : Edition} {g : Job} → d ≡ edition
        → g ≡ job → Valid g
        → {f : Figures} {s' t' : List ℕ} → f ≡ plan_figures d k g → s' ≡ plan_of g ++ drop (suc (processors g)) s
        → KeptFrom (scratch_needed g) t t'
        → Planned (Ok f) s' t'
    unfolding plan_writes
    plans_accepted z {d} {g} x y v {f} {s'} {t'} a b c =
        let n : plan_refusal job m (length s) (length t) ≡ 0 = sym (by_method refl) ∙ z in (
          answered_ok f n ∙ ap (answered (plan_refusal job m (length s) (length t)))
              (a ∙ ap₂ (λ (e : Edition) (j : Job). plan_figures e k j) x y) ∙ chosen,
          (
            b ∙ ap (λ (j : Job). plan_of j ++ drop (suc (processors j)) s) y
                ∙ sym (lent-front (plan_of job) s n (plan_length (subst Valid y v))),
            record { refused = λ h. absurd (h n); behind = subst (λ (j : Job). KeptFrom (scratch_needed j) t t') y c },
          ),
        )
